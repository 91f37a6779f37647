use Rattle.std.proofs.Common.{List, reverse}
use Rattle.rds_lines.specs.LogLines.{Line}
use Rattle.rds_lines.specs.LogSlots.{AreSlots}
use Rattle.rds_lines.specs.Inside.Source.{SourceStandsAt, budget, state_of}
use Rattle.rds_lines.proofs.gather_log.gather.Given as goal

abbrev pub invariant-loop-told : goal.invariant-loop-told
invariant-loop-told g l = record {
  stands : (lines : List Line) × SourceStandsAt l.source l.fn.reads
      (state_of g.R.Read.remaining g.R.TellingRead.failures g.R.TellingRead.reads l.initial.reader)
      (state_of g.R.Read.remaining g.R.TellingRead.failures g.R.TellingRead.reads l.reader) lines
      × AreSlots l.fn.rtplus lines (reverse l.slots.items);
}

abbrev pub decreases-loop-told : goal.decreases-loop-told
decreases-loop-told g l = budget l.source
