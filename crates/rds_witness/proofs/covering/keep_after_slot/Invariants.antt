use Rattle.std.proofs.Common.{◌≡◌, ◌+◌, ◌<◌, ◌∷◌, ℕ, All, List, Option, get_or, length}
use Rattle.rds_block.specs.declared.group.Group.{Group}
use Rattle.rds_receiver.specs.Receipts.{tuned}
use Rattle.rds_witness.specs.Covered.{CoversInput, IsAt, IsCovered}
use Rattle.rds_witness.specs.Search.{IsChecked, ShowOnlySeen}
use Rattle.rds_witness.specs.declared.covering.Lossy.{Lossy}
use Rattle.rds_witness.proofs.covering.keep_after_slot.Given as goal

abbrev pub invariant-loop-place : goal.invariant-loop-place
invariant-loop-place l = record {
  covers : (pi m n : ℕ) → All (IsAt (tuned pi m) n) l.receivers
      → All (IsAt (tuned pi m) (n + 1)) (l.whole ∷ l.fn.kept.items) → record {
        at : All (IsAt (tuned pi m) (n + 1)) (l.whole ∷ l.kept.items);
        stays : (input : List (Option Group)) → IsCovered (tuned pi m) (l.whole ∷ l.fn.kept.items) input
            → IsCovered (tuned pi m) (l.whole ∷ l.kept.items) input;
        more : (place : ℕ) (d : Lossy) (input : List (Option Group)) → place < l.place → length input ≡ n
            → CoversInput (tuned pi m) input (get_or l.receivers place d)
            → IsCovered (tuned pi m) (l.whole ∷ l.kept.items) (l.group ∷ input);
      };
  checked : (pi m n k : ℕ) (log : List (Option Group)) → All (IsAt (tuned pi m) n) l.receivers
      → ShowOnlySeen (tuned pi m) log k l.receivers → All (IsChecked (tuned pi m) log k) l.fn.kept.items
      → All (IsChecked (tuned pi m) log k) l.kept.items;
}
