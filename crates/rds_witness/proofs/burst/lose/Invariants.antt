use Rattle.std.proofs.Common.{◌≡◌, ◌<◌, ◌≤◌, ◌⊎◌, ℕ, None, length, slice_index_or}
use Rattle.rds_witness.proofs.burst.lose.Given as goal

abbrev pub invariant-loop-slot : goal.invariant-loop-slot
invariant-loop-slot l = record {
  near : (l.slot ≤ l.fn.burst.first) ⊎ (l.slot ≤ l.end);
  lost : (n : ℕ) → l.fn.burst.first ≤ n → n < l.slot → n < length l.initial.log → slice_index_or l.log n None ≡ None;
  kept : (n : ℕ) → (n < l.fn.burst.first) ⊎ (l.slot ≤ n)
      → slice_index_or l.log n None ≡ slice_index_or l.initial.log n None;
}
