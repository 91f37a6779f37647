use Rattle.std.proofs.Common.{◌+◌, [], List, Option}
use Rattle.rds_block.specs.declared.group.Group.{Group}
use Rattle.rds_receiver.specs.Borrowed.{view_of}
use Rattle.rds_receiver.specs.Receipts.{Tuning}
use Rattle.rds_receiver.specs.Shown.{IsView}
use Rattle.rds_witness.specs.Firsts.{AreFirsts, AreFirstsSoFar}
use Rattle.rds_witness.specs.Lost.{got}
use Rattle.rds_witness.proofs.firsts.Firsts.note.Given as goal

abbrev pub invariant-loop-kind : goal.invariant-loop-kind
invariant-loop-kind l = (t : Tuning) (log : List (Option Group)) → IsView t (got [] log (l.slot + 1)) (view_of l.view)
    → AreFirsts t log l.slot l.fn.self → AreFirstsSoFar t log l.slot (view_of l.view) l.kind l.self
