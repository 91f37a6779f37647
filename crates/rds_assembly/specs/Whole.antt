-- When cells make a value whole. This is a relation between the cells and the value, without a search for a carriage
-- return.
use Rattle.std.specs.Prelude.{◌≡◌, ◌≢◌, ℕ, ◌<◌, ◌⊎◌, List, length, slice_index}
use Rattle.rds_assembly.specs.Cells.{Cells, HasByte, IsSpelled}

-- the byte that ends a text of fewer than 64 bytes
abbrev pub carriage_return : ℕ
carriage_return = 13

-- cells make a text whole: it has no carriage return, all its bytes are held, and it has 64 bytes or a held carriage
-- return follows (IEC 62106, RadioText)
pub record IsWholeText (cells : Cells) (x : List ℕ) : Type 0 where
  pub plain : (i : ℕ) → i < length x → slice_index x i ≢ carriage_return
  pub spelled : IsSpelled cells x
  pub ends : (length x ≡ 64) ⊎ ((length x < 64) × HasByte cells (length x) carriage_return)

-- cells make a name whole: it has eight bytes, all of them held; a carriage return is a byte like any other (IEC 62106,
-- programme type name)
pub record IsWholeName (cells : Cells) (x : List ℕ) : Type 0 where
  pub eight : length x ≡ 8
  pub spelled : IsSpelled cells x
