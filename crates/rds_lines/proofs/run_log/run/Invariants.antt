use Rattle.std.proofs.Common.{◌≡◌, ◌+◌, ◌^◌, ◌≤◌, [], List, None, length}
use Rattle.rds_io.specs.Told.{traffic}
use Rattle.rds_lines.specs.LogLines.{Line}
use Rattle.rds_lines.specs.Inside.Source.{SourceStandsAt, budget, state_of}
use Rattle.rds_lines.specs.Outputs.{HasTaken}
use Rattle.rds_lines.proofs.run_log.run.Given as goal

abbrev pub invariant-loop-taker : goal.invariant-loop-taker
invariant-loop-taker g l = record {
  room : length l.output + g.T.TakesLines.ROOM ≤ 8192;
  empty : l.source.line ≡ None → l.output ≡ [];
  few : g.T.TakesLines.counted l.taker + budget l.source ≤ 2 ^ 48 + 1;
  wants : g.T.TakesLines.done l.taker → ⊥;
  stands : (lines : List Line) × SourceStandsAt l.source l.fn.reads
      (state_of g.R.Read.remaining g.R.TellingRead.failures g.R.TellingRead.reads l.initial.reader)
      (state_of g.R.Read.remaining g.R.TellingRead.failures g.R.TellingRead.reads l.reader) lines
      × ((how : _) → g.T.TakesLines.took how l.initial.taker [] []
      → HasTaken (g.T.TakesLines.took how l.taker)
      (traffic g.W.Write.contents g.W.TellingWrite.failures l.initial.writer l.writer) l.output lines);
}

abbrev pub decreases-loop-taker : goal.decreases-loop-taker
decreases-loop-taker g l = budget l.source
