use Rattle.std.proofs.Common.{◌≡◌, ◌<◌, ℕ, List, Some}
use Rattle.std.specs.FinMap.{get}
use Rattle.rds_assembly.specs.Held.{held_cells}
use Rattle.rds_witness.proofs.covering.is_part.Given as goal

abbrev pub invariant-loop-address : goal.invariant-loop-address
invariant-loop-address l = (a : ℕ) (b : List ℕ) → a < l.address → get (held_cells l.one.mask l.one.bytes) a ≡ Some b
    → get (held_cells l.other.mask l.other.bytes) a ≡ Some b
