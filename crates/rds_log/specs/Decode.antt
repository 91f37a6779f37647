-- What `decode` wrote at each end. r is the traffic with the reader, w the traffic with the writer.
use Rattle.std.specs.Prelude.{ℕ, List, Ok, Err, Result}
use Rattle.std.specs.Io.KnownBytes.{Appends, Consumes, IsAtEnd}
use Rattle.rds_io.specs.Told.{IsCalm, Traffic}
use Rattle.rds_log.specs.LogWrites.{LinesWrite, LogWrites}
use Rattle.rds_lines.specs.Outputs.{StopsBy}
use Rattle.rds_log.specs.declared.decode_log.Decoding.{Decoding}
use Rattle.rds_io.specs.declared.fault.LogFault.{LogFault}

-- the reader was read to its end, and the output of its bytes was written
pub record DecodesAll (how : Decoding) (r w : Traffic) : Type 0 where
  pub text : List ℕ
  pub written : List ℕ
  pub read : Consumes r.before r.after text
  pub end : IsAtEnd r.after
  pub write : LogWrites how text written
  pub wrote : Appends w.before w.after written
  pub read_calm : IsCalm r
  pub write_calm : IsCalm w

-- the result of `decode` with at most this many reads
abbrev pub Decodes : Decoding → ℕ → Traffic → Traffic → Result (Unit {0}) LogFault → Type 0
Decodes how reads r w (Ok done) = DecodesAll how r w
Decodes how reads r w (Err fault) = StopsBy (LinesWrite how) (LinesWrite how) reads r w fault
