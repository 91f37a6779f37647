use Rattle.std.proofs.Common.{◌≡◌, ◌+◌, ◌-◌, ◌≤◌, ◌⊎◌, ℕ, drop, length}
use Rattle.rds_arrivals.specs.Stamps.{fraction, leading_digits}
use Rattle.rds_arrivals.proofs.Fractions.{weight}
use Rattle.rds_arrivals.proofs.stamp.fraction_at.Given as goal

-- digit i comes next
abbrev pub invariant-loop-digit : goal.invariant-loop-digit
invariant-loop-digit l = record {
  next : (i : ℕ) × (l.end ≡ l.fn.place + 1 + i) × (l.weight ≡ weight i);
  time : l.time ≡ fraction l.text (l.fn.place + 1) l.end;
  within : (l.end ≤ l.fn.place + 1) ⊎ (l.end ≤ length l.text);
  digits : l.end + leading_digits (drop l.end l.text) ≡ l.fn.place + 1 + leading_digits (drop (l.fn.place + 1) l.text);
}

abbrev pub decreases-loop-digit : goal.decreases-loop-digit
decreases-loop-digit l = length l.text - l.end
