-- The run: the longest last part of the segments up to a slot in which all have one flag, neighbours are less than the
-- dwell apart, and the last one came in that slot or less than the dwell before. (The flag is the A/B flag of IEC
-- 62106. The dwell of m slots is this project's own rule.) Lists have the newest first.
use Rattle.std.specs.Prelude.{◌+◌, ◌&&◌, [], ◌∷◌}
use Rattle.std.specs.Prelude.{ℕ, Bool, true, false, List, Option, Some, None, length, nat_lt, if◌then◌else◌}
use Rattle.std.specs.FinMap.{empty, insert}
use Rattle.rds_fields.specs.declared.message.Message.{Message}
use Rattle.rds_assembly.specs.Cells.{Cells}
use Rattle.rds_receiver.specs.Receipts.{Segment, segments}
use Rattle.rds_receiver.specs.declared.fragment.Fragment.{Fragment}

abbrev pub is_same : Bool → Bool → Bool
is_same true true = true
is_same false false = true
is_same true false = false
is_same false true = false

-- the part of a run before a segment with flag f that came in slot s
abbrev pub run_before : ℕ → Bool → ℕ → List Segment → List Segment
run_before m f s [] = []
run_before m f s (g ∷ older) =
    if is_same f g.fragment.flag && nat_lt s (g.slot + m) then g ∷ run_before m f g.slot older else []

-- the run in slot t
abbrev pub run : ℕ → ℕ → List Segment → List Segment
run m t [] = []
run m t (g ∷ older) = if nat_lt t (g.slot + m) then g ∷ run_before m g.fragment.flag g.slot older else []

-- the run in the newest slot of what was heard
abbrev pub run_at : (Message → Option Fragment) → ℕ → ℕ → List (Option Message) → List Segment
run_at pick m first [] = []
run_at pick m first (heard ∷ before) = run m (first + length before) (segments pick first (heard ∷ before))

-- the slot of the first segment of a run, if it has one
abbrev pub begins_in : List Segment → Option ℕ
begins_in [] = None
begins_in (g ∷ []) = Some g.slot
begins_in (g ∷ h ∷ older) = begins_in (h ∷ older)

-- the cells of a run: the latest segment at each address
abbrev pub cells_of : List Segment → Cells
cells_of [] = empty
cells_of (g ∷ older) = insert (cells_of older) g.fragment.address g.fragment.bytes
