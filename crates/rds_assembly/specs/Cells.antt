-- The cells: the held segments, a finite map from an address to four bytes. Place i of a value is byte i % 4 of the
-- cell at address i / 4 (IEC 62106, RadioText).
use Rattle.std.specs.Prelude.{◌≡◌, ℕ, ◌<◌, ◌/◌, ◌%◌, List, Some, length, slice_index}
use Rattle.std.specs.Ordering.{nat_cmp}
use Rattle.std.specs.FinMap.{FinMap, get}

abbrev pub Cells : Type 0
Cells = FinMap nat_cmp (List ℕ)

-- a byte is held at place i, and it is b
pub record HasByte (cells : Cells) (i b : ℕ) : Type 0 where
  pub cell : List ℕ
  pub held : get cells (i / 4) ≡ Some cell
  pub byte : slice_index cell (i % 4) ≡ b

-- the bytes of x are held at the places from 0 on
pub record IsSpelled (cells : Cells) (x : List ℕ) : Type 0 where
  pub bytes : (i : ℕ) → i < length x → HasByte cells i (slice_index x i)
