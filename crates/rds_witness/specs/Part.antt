-- When a receiver holds a part of what another one holds (this project's own rule): the first one then shows no text,
-- name or tag that the second one does not show. Lists have the newest first.
use Rattle.std.specs.Prelude.{◌≡◌, ◌⊎◌, ◌≤◌, [], ◌∷◌, ℕ, List, None, Option, Some, true}
use Rattle.std.specs.FinMap.{get}
use Rattle.rds_assembly.specs.Cells.{Cells}
use Rattle.rds_fields.specs.Tag.{PairFields}
use Rattle.rds_fields.specs.declared.message.Message.{Message}
use Rattle.rds_receiver.specs.Receipts.{Segment}
use Rattle.rds_receiver.specs.Run.{cells_of}
use Rattle.rds_receiver.specs.Tags.{is_known, pair_held}

-- each cell of the first is a cell of the second
abbrev pub HasCells : Cells → Cells → Type 0
HasCells one other = (a : ℕ) (b : List ℕ) → get one a ≡ Some b → get other a ≡ Some b

-- the first run is empty; or both have one flag, the second's newest segment came at the same time or later, and the
-- second has the cells of the first
abbrev pub IsPart : List Segment → List Segment → Type 0
IsPart [] other = Unit {0}
IsPart (g ∷ older) [] = ⊥
IsPart (g ∷ older) (h ∷ rest) =
    (g.fragment.flag ≡ h.fragment.flag) × (g.slot ≤ h.slot) × HasCells (cells_of (g ∷ older)) (cells_of (h ∷ rest))

-- the first is no pair of tags, or the second
abbrev pub IsPairPart : Option PairFields → Option PairFields → Type 0
IsPairPart one other = (one ≡ None) ⊎ (one ≡ other)

-- the first receiver holds no pair of tags or the pair of the second one, and knows RadioText Plus only if the second
-- one does
abbrev pub IsTagPart : ℕ → ℕ → List (Option Message) → List (Option Message) → Type 0
IsTagPart m first one other =
    IsPairPart (pair_held m first one) (pair_held m first other) × (is_known one ≡ true → is_known other ≡ true)
