-- Masks of 64 bits, one for each byte of sixteen segments (this project's own rule).
use Rattle.std.specs.Prelude.{◌≡◌, ℕ, ◌/◌, ◌==◌, List, slice_index}
use Rattle.std.specs.Int.{bit_at, from_bool}
use Rattle.rds_assembly.specs.Whole.{carriage_return}

-- bit i is 1 exactly if byte i is a carriage return
abbrev pub AreReturns : List ℕ → ℕ → Type 0
AreReturns bytes returns = (i : ℕ) → bit_at returns i ≡ from_bool (slice_index bytes i == carriage_return)

-- bit i is the bit of the segment that has byte i
abbrev pub IsSpread : ℕ → ℕ → Type 0
IsSpread mask wide = (i : ℕ) → bit_at wide i ≡ bit_at mask (i / 4)
