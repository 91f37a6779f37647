use Rattle.std.proofs.Common.{◌≡◌, ◌≢◌, ◌*◌, ◌-◌, ◌<◌, ◌≤◌, ℕ, slice_index}
use Rattle.rds_lines.proofs.cutter.near_end.Given as goal

-- no line feed before this place
abbrev pub invariant-loop-from : goal.invariant-loop-from
invariant-loop-from l = record {
  lanes : (k : ℕ) × (l.from ≡ 16 * k);
  near : l.from ≤ 64;
  none : (i : ℕ) → i < l.from → slice_index l.bytes i ≢ 10;
}

abbrev pub decreases-loop-from : goal.decreases-loop-from
decreases-loop-from l = 64 - l.from
