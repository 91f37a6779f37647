-- A failed read. A function that is generic in its reader can show this only by a read that failed.
use Rattle.std.specs.Prelude.{ℕ}
use Rattle.rds_io.specs.Told.{Failed}

-- some call of a reader failed, by the reader's own count of failures
abbrev pub SomeReadFailed : {R : Type 0} → (R → ℕ) → Type 0
SomeReadFailed {R} failures = ∥ ((before : R) × (after : R) × Failed (failures before) (failures after)) ∥₁
