use Rattle.std.proofs.Common.{◌≡◌, ◌++◌, ℕ, List}
use Rattle.std.specs.Io.KnownBytes.{Appends}
use Rattle.std.specs.Slice.Iter.{chunks_rest, chunks_size}
use Rattle.rds_charset.specs.Printed.{printed}
use Rattle.rds_charset.proofs.printing.write_text.Given as goal

abbrev pub invariant-loop-chunk : goal.invariant-loop-chunk
invariant-loop-chunk g l = record {
  size : chunks_size l.chunk-iterator ≡ 64;
  appended : (done : List ℕ) × (l.bytes ≡ done ++ chunks_rest l.chunk-iterator)
      × Appends (g.W.Write.contents l.initial.writer) (g.W.Write.contents l.writer) (printed done);
  unfailed : g.W.TellingWrite.failures l.writer ≡ g.W.TellingWrite.failures l.initial.writer;
}
