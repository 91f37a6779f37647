use Rattle.std.proofs.Common.{length, drop, ◌≡◌, ◌+◌, ◌-◌, ◌≤◌}
use Rattle.rds_arrivals.specs.Stamps.{leading_blanks}
use Rattle.rds_arrivals.proofs.stamp.leading_blanks.Given as goal

abbrev pub invariant-loop-count : goal.invariant-loop-count
invariant-loop-count l = record {
  within : l.count ≤ length l.text;
  value : l.count + leading_blanks (drop l.count l.text) ≡ leading_blanks l.text;
}

abbrev pub decreases-loop-count : goal.decreases-loop-count
decreases-loop-count l = length l.text - l.count
