use Rattle.std.proofs.Common.{◌<◌, ℕ, List}
use Rattle.rds_world.specs.Event.{Event}
use Rattle.rds_world.specs.WorldAt.{HavePasts}
use Rattle.rds_world.specs.Wrong.{IsFitTo}
use Rattle.rds_world.proofs.past.check_wrong.Given as goal

abbrev pub invariant-loop-i : goal.invariant-loop-i
invariant-loop-i l = (before : List Event) → HavePasts l.fn.window before l.pasts → (k : ℕ) → k < l.i
    → IsFitTo l.fn.window l.event before k
