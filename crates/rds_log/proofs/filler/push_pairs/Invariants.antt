use Rattle.std.proofs.Common.{◌*◌, ◌++◌, ℕ, List}
use Rattle.rds_io.specs.Told.{traffic}
use Rattle.rds_io.specs.Waits.{Waits}
use Rattle.rds_log.specs.Fill.{lost_lines}
use Rattle.rds_log.specs.contracts.filler.push_pairs.{W-type}
use Rattle.rds_log.proofs.filler.push_pairs.Given as goal

abbrev pub invariant-loop-put : goal.invariant-loop-put
invariant-loop-put g l = record {
  pushed : (start : W-type g.row.W) (total : List ℕ)
      → Waits (traffic g.W.Write.contents g.W.TellingWrite.failures start l.initial.writer) l.initial.output total
      → Waits (traffic g.W.Write.contents g.W.TellingWrite.failures start l.writer) l.output
      (total ++ lost_lines (2 * l._put));
}
