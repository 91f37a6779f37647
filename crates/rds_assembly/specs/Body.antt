-- The segments of a value: its body, four bytes at a time. Segment a has the bytes at the places 4 * a to 4 * a + 3 of
-- the body (IEC 62106, RadioText and programme type name; the spaces are this project's own rule).
use Rattle.std.specs.Prelude.{◌≡◌, ◌-◌, ◌*◌, ◌<◌, ◌/◌, ◌%◌, ◌==◌, ◌∷◌, ◌++◌}
use Rattle.std.specs.Prelude.{ℕ, List, Some, length, take, drop, replicate, if◌then◌else◌}
use Rattle.std.specs.FinMap.{get}
use Rattle.rds_assembly.specs.Cells.{Cells}
use Rattle.rds_assembly.specs.Whole.{carriage_return}

abbrev pub space : ℕ
space = 32

-- the body of a text: a text of 64 bytes is its own body; after a shorter one come a carriage return, and spaces up to
-- a multiple of four
abbrev pub text_body : List ℕ → List ℕ
text_body x = if length x == 64 then x else x ++ carriage_return ∷ replicate (3 - length x % 4) space

-- the body of a name: after the name come spaces up to eight bytes
abbrev pub name_body : List ℕ → List ℕ
name_body x = x ++ replicate (8 - length x) space

-- the number of segments of a body
abbrev pub segment_count : List ℕ → ℕ
segment_count body = length body / 4

-- the segment of a body at an address
abbrev pub segment_of : List ℕ → ℕ → List ℕ
segment_of body a = take 4 (drop (4 * a) body)

-- each cell that is held is the segment of the body at its address
pub record AreSegmentsOf (body : List ℕ) (cells : Cells) : Type 0 where
  pub taken : (a : ℕ) (cell : List ℕ) → get cells a ≡ Some cell → cell ≡ segment_of body a

-- each segment of the body is held at its address
pub record AreAllHeld (body : List ℕ) (cells : Cells) : Type 0 where
  pub held : (a : ℕ) → a < segment_count body → get cells a ≡ Some (segment_of body a)
