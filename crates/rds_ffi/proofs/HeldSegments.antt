-- Lemmas: the numbers of a receiver in memory say which segments it holds.
use Rattle.std.proofs.Common.{◌≡◌, ◌∙◌, ◌<◌, ◌≤◌, ℕ, List, sym, ap, subst, arith, bit_and, ◌==◌}
use Rattle.std.specs.FinMap.{contains_key}
use Rattle.std.specs.Int.{bit_at}
use Rattle.std.proofs.lemmas.Nat.Bits.{bit_at-lt, bit_at_and, bit_at_ones}
use Rattle.rds_assembly.specs.Cells.{Cells}
use Rattle.rds_assembly.proofs.HeldLemmas.{contains-held}
use Rattle.rds_receiver.specs.Receipts.{Segment}
use Rattle.rds_receiver.specs.Holds.{HasAge, HoldsRun}
use Rattle.rds_receiver.specs.Stored.{age_stored, segments_stored}
use Rattle.rds_receiver.specs.declared.display.StoredSegments.{StoredSegments}
use Rattle.rds_ffi.specs.Held.{AreHeldIn}
use Rattle.rds_ffi.specs.declared.held.RdsrtSegments.{RdsrtSegments}

-- the numbers of segments that hold a run
pub of_run : (count m t : ℕ) (the_run : List Segment) (d rest : ℕ) (s : StoredSegments) (r : RdsrtSegments) → count ≤ 16
    → ((a : ℕ) → a < count → bit_at r.held a ≡ bit_at s.mask a) → r.age ≡ age_stored d rest s
    → HoldsRun m t the_run (segments_stored d rest s) → AreHeldIn count m t the_run r
of_run count m t the_run d rest s r few same age holds = record {
  held = λ a h. ap (λ (cells : Cells). contains_key cells a) (sym holds.cells) ∙ contains-held s.mask s.bytes a
      (omega arith)
      ∙ ap (λ (bit : ℕ). bit == 1) (sym (same a h));
  age = subst (λ (x : ℕ). HasAge m t the_run x) (sym age) holds.age;
}

-- the bits of a name stay
pub of_name : (mask a : ℕ) → a < 2 → bit_at (bit_and mask 3) a ≡ bit_at mask a
of_name mask a h = omega (arith, bit_at_and mask 3 a, bit_at_ones 2 a h, bit_at-lt mask a)
