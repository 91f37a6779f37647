-- What a display holds after what was heard. Lists have the newest first.
use Rattle.std.specs.Prelude.{◌≡◌, ◌⊎◌, ◌↔◌, ◌+◌, ◌<◌, ℕ, Bool, List, [], ◌∷◌, Option, None, Some, length}
use Rattle.rds_fields.specs.declared.message.Message.{Message}
use Rattle.rds_assembly.specs.Cells.{Cells}
use Rattle.rds_assembly.specs.Whole.{IsWholeName, IsWholeText}
use Rattle.rds_receiver.specs.Receipts.{Segment, name_fragment, segments, text_fragment}
use Rattle.rds_receiver.specs.Run.{begins_in, cells_of, run}
use Rattle.rds_receiver.specs.Shown.{IsShown}
use Rattle.rds_receiver.specs.State.{DisplayState, HeldSegments}
use Rattle.rds_receiver.specs.Tags.{is_known, pair_from}

-- the slot of the newest entry; `first` if there is none
abbrev pub newest_slot : ℕ → List (Option Message) → ℕ
newest_slot first [] = first
newest_slot first (heard ∷ before) = first + length before

-- the flag is that of the newest segment of the run; any flag if the run is empty
abbrev pub HasFlag : List Segment → Bool → Type 0
HasFlag [] flag = Unit {0}
HasFlag (g ∷ older) flag = flag ≡ g.fragment.flag

-- in slot t the age is the number of slots since the newest segment of the run came; it is the dwell m if the run is
-- empty
abbrev pub HasAge : ℕ → ℕ → List Segment → ℕ → Type 0
HasAge m t [] age = age ≡ m
HasAge m t (g ∷ older) age = t ≡ g.slot + age

-- the held segments are the cells, the flag and the age of this run in slot t
pub record HoldsRun (m t : ℕ) (the_run : List Segment) (held : HeldSegments) : Type 0 where
  pub cells : held.cells ≡ cells_of the_run
  pub flag : HasFlag the_run held.flag
  pub age : HasAge m t the_run held.age

-- this state follows, in slot t, from what was heard
pub record HoldsAt (m t first : ℕ) (r : DisplayState) (heard : List (Option Message)) : Type 0 where
  pub dwell : r.dwell ≡ m
  pub lasts : 0 < m
  pub text : HoldsRun m t (run m t (segments text_fragment first heard)) r.text
  pub name : HoldsRun m t (run m t (segments name_fragment first heard)) r.name
  pub pair : r.pair ≡ pair_from first (begins_in (run m t (segments text_fragment first heard))) heard
  pub known : r.is_known ≡ is_known heard

-- this holds of the dwell, the first slot and what was heard, for each list that the display may follow from
abbrev pub WhatItShows : DisplayState → (ℕ → ℕ → List (Option Message) → Type 0) → Type 0
WhatItShows r Holds =
    (m first : ℕ) (heard : List (Option Message)) → HoldsAt m (newest_slot first heard) first r heard
    → Holds m first heard

-- the receiver took a message in a slot: whatever was heard before, if the old state follows from it in this slot, the
-- new one follows from it and the message
abbrev pub HearsMore : DisplayState → DisplayState → Message → Type 0
HearsMore old new message =
    (m first : ℕ) (heard : List (Option Message)) → HoldsAt m (first + length heard) first old heard
    → HoldsAt m (first + length heard) first new (Some message ∷ heard)

-- both cells make the same value whole, or both make none whole
abbrev pub MakeAlike : (Cells → List ℕ → Type 0) → Cells → Cells → Type 0
MakeAlike IsWhole cells after = (shown : Option (List ℕ)) → IsShown IsWhole cells shown ↔ IsShown IsWhole after shown

-- both states show the same: their cells make the same text and the same name whole, with the same flags, and they hold
-- the same pair; or none is whole
pub record ShowsAlike (r after : DisplayState) : Type 0 where
  pub text : MakeAlike IsWholeText r.text.cells after.text.cells
  pub name : MakeAlike IsWholeName r.name.cells after.name.cells
  pub text_flag : (after.text.flag ≡ r.text.flag) ⊎ IsShown IsWholeText r.text.cells None
  pub name_flag : (after.name.flag ≡ r.name.flag) ⊎ IsShown IsWholeName r.name.cells None
  pub pair : (after.pair ≡ r.pair) ⊎ IsShown IsWholeText r.text.cells None
