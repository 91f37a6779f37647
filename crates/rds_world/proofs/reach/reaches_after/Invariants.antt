use Rattle.std.proofs.Common.{◌≡◌, ◌+◌, ◌<◌, ℕ, List, Some, length, slice_get, slice_index_or}
use Rattle.rds_world.specs.declared.event.Reception.TheVariants.{Lost}
use Rattle.rds_world.specs.Due.{IsDueTo, last_named, named, reach_of}
use Rattle.rds_world.specs.Event.{Event}
use Rattle.rds_world.specs.WorldAt.{HaveReaches}
use Rattle.rds_world.proofs.reach.reaches_after.Given as goal

abbrev pub invariant-loop-i : goal.invariant-loop-i
invariant-loop-i l = record {
  due : (before : List Event) → HaveReaches l.late before l.reaches → (k : ℕ) → k < l.i
      → IsDueTo l.late l.event before k;
  done : (before : List Event) → HaveReaches l.late before l.reaches → (k reach : ℕ) → k < l.i
      → slice_get l.next k ≡ Some reach
      → reach ≡ reach_of l.late (length before + 1) (named (slice_index_or l.event.receptions k Lost) (length before)
      (last_named k before));
}
