-- The slots of the lines of a log. Lists have the newest first.
use Rattle.std.specs.Prelude.{◌≡◌, ◌⊎◌, ℕ, List, [], ◌∷◌, Option}
use Rattle.rds_block.specs.declared.group.Group.{Group}
use Rattle.rds_fields.specs.TagGroup.{exchanged_in}
use Rattle.rds_lines.specs.LogLines.{AreLines, Line}
use Rattle.rds_lines.specs.LineSays.{LineSays}
use Rattle.rds_lines.specs.declared.log_line.LogLine.TheVariants.{Skip, Slot}

-- the lines are good, and these are their slots, if their tags come in groups nA: these and groups 11A are exchanged
abbrev pub AreSlots : ℕ → List Line → List (Option Group) → Type 0
AreSlots n [] slots = slots ≡ []
AreSlots n (line ∷ before) slots = (LineSays line Skip × AreSlots n before slots)
    ⊎ ((slot : Option Group) × (older : List (Option Group)) × LineSays line (Slot slot)
    × (slots ≡ exchanged_in n slot ∷ older) × AreSlots n before older)

-- all lines of the text are good, and these are its slots, if its tags come in groups nA
pub record IsLogOf (n : ℕ) (text : List ℕ) (slots : List (Option Group)) : Type 0 where
  pub lines : List Line
  pub are : AreLines text lines
  pub say : AreSlots n lines slots
