-- The lines that `witness --lose` writes: those of all mixes of a receiver that loses given slots.
use Rattle.std.specs.Prelude.{◌≡◌, ◌≢◌, ◌++◌, ◌∷◌, [], ℕ, Bool, true, false, List, Option, codes, length}
use Rattle.rds_block.specs.declared.group.Group.{Group}
use Rattle.rds_receiver.specs.Receipts.{Tuning}
use Rattle.rds_witness.specs.Lines.{AreMixLines}
use Rattle.rds_witness.specs.Mix.{IsMix, Thing}
use Rattle.rds_witness.specs.declared.burst.Burst.{Burst}

-- for each slot the lines of its mixes, which name no slots to lose; the newest slot is first in the list
abbrev pub AreLinesOfSlots : Tuning → ℕ → List (Option Group) → List Burst → List (List ℕ) → Type 0
AreLinesOfSlots t ahead log lost [] = Unit {0}
AreLinesOfSlots t ahead log lost (newest ∷ older) =
    AreMixLines t ahead log lost [] (length older) newest × AreLinesOfSlots t ahead log lost older

abbrev pub joined_parts : List (List ℕ) → List ℕ
joined_parts [] = []
joined_parts (newest ∷ older) = joined_parts older ++ newest

-- the lines of all mixes of the first n slots, in the order of the slots
pub record AreLossLines (t : Tuning) (ahead : ℕ) (log : List (Option Group)) (lost : List Burst) (n : ℕ)
    (lines : List ℕ) : Type 0 where
  pub slots : List (List ℕ)
  pub long : length slots ≡ n
  pub each : AreLinesOfSlots t ahead log lost slots
  pub are : lines ≡ joined_parts slots

abbrev pub no_mix : List ℕ
no_mix = codes "no mix with these slots lost\n"

-- the answer to a log: the lines of all its mixes with these slots lost, or that there is none
abbrev pub IsLossAnswer : Tuning → ℕ → List Burst → List (Option Group) → Bool → List ℕ → Type 0
IsLossAnswer t ahead lost log true written = AreLossLines t ahead log lost (length log) written × (written ≢ [])
IsLossAnswer t ahead lost log false written =
    (written ≡ no_mix) × ((slot : ℕ) (thing : Thing) → IsMix t ahead log lost slot thing → ⊥)
