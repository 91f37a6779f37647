use Rattle.std.proofs.Common.{length}
use Rattle.rds_script.proofs.Receptions.{ReadSoFar}
use Rattle.rds_script.proofs.row.read_receptions.Given as goal

abbrev pub invariant-loop-letter : goal.invariant-loop-letter
invariant-loop-letter l = ReadSoFar l.field l.receptions.items l.rest

abbrev pub decreases-loop-letter : goal.decreases-loop-letter
decreases-loop-letter l = length l.rest
