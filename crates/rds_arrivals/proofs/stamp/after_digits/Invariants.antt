use Rattle.std.proofs.Common.{length, drop, ◌≡◌, ◌+◌, ◌-◌, ◌≤◌, ◌⊎◌}
use Rattle.rds_arrivals.specs.Stamps.{leading_digits}
use Rattle.rds_arrivals.proofs.stamp.after_digits.Given as goal

abbrev pub invariant-loop-end : goal.invariant-loop-end
invariant-loop-end l = record {
  start : l.fn.place ≤ l.end;
  end : (l.end ≤ l.fn.place) ⊎ (l.end ≤ length l.text);
  value : l.end + leading_digits (drop l.end l.text) ≡ l.fn.place + leading_digits (drop l.fn.place l.text);
}

abbrev pub decreases-loop-end : goal.decreases-loop-end
decreases-loop-end l = length l.text - l.end
