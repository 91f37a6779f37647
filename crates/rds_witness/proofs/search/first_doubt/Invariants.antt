use Rattle.std.proofs.Common.{◌<◌, ℕ, All, List, Option, get_or}
use Rattle.rds_block.specs.declared.group.Group.{Group}
use Rattle.rds_receiver.specs.Receipts.{Tuning}
use Rattle.rds_witness.specs.Covered.{IsAt}
use Rattle.rds_witness.specs.Search.{AreSeen, IsChecked, ShowsOnlySeen}
use Rattle.rds_witness.specs.declared.covering.Lossy.{Lossy}
use Rattle.rds_witness.proofs.search.first_doubt.Given as goal

abbrev pub invariant-loop-place : goal.invariant-loop-place
invariant-loop-place l = (t : Tuning) (n : ℕ) (log : List (Option Group)) → All (IsAt t n) l.receivers
    → AreSeen t log l.all → All (IsChecked t log l.slots) l.receivers
    → (k : ℕ) (d : Lossy) → k < l.place
    → ShowsOnlySeen t log l.slots (get_or l.receivers k d).receiver
