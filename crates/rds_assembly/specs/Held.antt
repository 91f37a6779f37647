-- The cells that sixteen segments side by side and a mask hold. Segment a has the places 4 * a to 4 * a + 3, and is
-- held if bit a of the mask is 1 (this project's own rule).
use Rattle.std.specs.Prelude.{ℕ, zero, suc, ◌==◌, List, if◌then◌else◌}
use Rattle.std.specs.Int.{bit_at}
use Rattle.std.specs.FinMap.{empty, insert}
use Rattle.rds_assembly.specs.Cells.{Cells}
use Rattle.rds_assembly.specs.Body.{segment_of}

-- the held cells with addresses below a number
abbrev pub cells_below : ℕ → ℕ → List ℕ → Cells
cells_below zero mask bytes = empty
cells_below (suc a) mask bytes =
    if bit_at mask a == 1 then insert (cells_below a mask bytes) a (segment_of bytes a) else cells_below a mask bytes

unfoldable pub held_cells : ℕ → List ℕ → Cells
held_cells mask bytes = cells_below 16 mask bytes
