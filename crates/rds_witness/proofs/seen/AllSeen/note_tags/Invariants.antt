use Rattle.std.proofs.Common.{[], ◌≡◌, ◌+◌, ◌<◌, All, List, Option, length}
use Rattle.rds_block.specs.declared.group.Group.{Group}
use Rattle.rds_receiver.specs.Receipts.{Tuning}
use Rattle.rds_receiver.specs.ReceiverAt.{ReceiverAt}
use Rattle.rds_witness.specs.Lost.{got}
use Rattle.rds_witness.specs.Search.{IsOfRun, IsSeen}
use Rattle.rds_witness.proofs.seen.AllSeen.note_tags.Given as goal

abbrev pub invariant-loop-place : goal.invariant-loop-place
invariant-loop-place l = record {
  pairs : l.self.pairs ≡ l.fn.self.pairs;
  seen : (t : Tuning) (log : List (Option Group)) → l.slot < length log
      → ReceiverAt t l.whole (got [] log (l.slot + 1))
      → All (IsSeen t log) l.fn.self.seen.items → All (IsOfRun t log (l.slot + 1)) l.fn.self.pairs.items
      → All (IsSeen t log) l.self.seen.items;
}
