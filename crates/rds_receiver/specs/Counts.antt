-- What a display counts that keeps texts and names, as plain numbers, and what a slot changes on it. Lists have the
-- newest first.
use Rattle.std.specs.Prelude.{◌≡◌, ◌+◌, ◌-◌, ◌==◌, ◌||◌, ℕ, Bool, true, false, List, ◌∷◌, Option, None, Some}
use Rattle.std.specs.Prelude.{if◌then◌else◌, map, nat_le, not}
use Rattle.rds_block.specs.declared.group.Group.{Group}
use Rattle.rds_fields.specs.declared.message.Message.{Message}
use Rattle.rds_receiver.specs.Kept.{AreShowings, GoesOn, IsShowing, Last, Showing, displayed, last, name_moment}
use Rattle.rds_receiver.specs.Kept.{newest_showing, text_moment}
use Rattle.rds_receiver.specs.Receipts.{Tuning, heard_of}
use Rattle.rds_receiver.specs.ReceiverAt.{WhatItHeard}
use Rattle.rds_receiver.specs.Shown.{ShownView}
use Rattle.rds_receiver.specs.declared.keeping.Keeping.{Keeping}
use Rattle.rds_receiver.specs.declared.keeping.Kept.{Kept}
use Rattle.rds_receiver.specs.declared.keeping.StoredKept.{StoredKept}
use Rattle.rds_receiver.specs.declared.receiver.Receiver.{Receiver}

abbrev pub flag_code : Bool → ℕ
flag_code false = 0
flag_code true = 1

-- the display shows no value
abbrev pub none_kept : StoredKept
none_kept = record { left = 0; flag = 2 }

-- the display shows no value, or the segments held end it: they have the other flag
abbrev pub ends : Option Bool → ℕ → Bool
ends None flag = flag == 2
ends (Some held) flag = not (flag == flag_code held)

-- for how many more slots a value is kept that was shown last so long ago, this slot included; none while it is shown
abbrev pub left_of : ℕ → ℕ → ℕ
left_of n age = if age == 0 then 0 else n + 1 - age

-- the numbers of a display that keeps for n slots
abbrev pub kept_stored : ℕ → Option Last → StoredKept
kept_stored n None = none_kept
kept_stored n (Some l) =
    if nat_le l.age n then record { left = left_of n l.age; flag = flag_code l.flag } else none_kept

-- the counts are those after these slots
pub record CountsOf (k : Keeping) (showings : List Showing) : Type 0 where
  pub text : k.text ≡ kept_stored k.keep (last (map text_moment showings))
  pub name : k.name ≡ kept_stored k.keep (last (map name_moment showings))

-- the view of a display that keeps these parts of what it showed before; the others are those of the receiver
abbrev pub keeping : Kept → ShownView → ShownView → ShownView
keeping kept before now = record {
  text = if kept.text then before.text else now.text;
  name = if kept.name then before.name else now.name;
  item = if kept.text then before.item else now.item;
  one = if kept.text then before.one else now.one;
  two = if kept.text then before.two else now.two;
}

-- the same, or what it showed before, if it does not change
abbrev pub after_slot : Option Kept → ShownView → ShownView → ShownView
after_slot None before now = before
after_slot (Some kept) before now = keeping kept before now

-- after one more slot the counts follow, and this says what the display shows
pub record CountsOn (old new : Keeping) (change : Option Kept) (now : Showing) (before : List Showing) : Type 0 where
  pub counts : CountsOf new (now ∷ before)
  pub shows : displayed old.keep (now ∷ before) ≡ after_slot change (displayed old.keep before) now.view

-- the counts follow after one more slot of the receiver, and this changes on the display. Without a change of what the
-- receiver shows, the end of the slot before goes on
abbrev pub CountsSlot : Receiver → Keeping → Keeping → Bool → Option Kept → Type 0
CountsSlot after old new is_changed change =
    WhatItHeard after (λ m first heard. (now : Showing) (before : List Showing) → IsShowing m first heard now
    → (is_changed ≡ false → GoesOn (newest_showing before) now) → CountsOf old before
    → CountsOn old new change now before)

-- a display that keeps for n slots counts so and shows this view, after what its receiver heard
pub record DisplayOf (n : ℕ) (t : Tuning) (k : Keeping) (view : ShownView) (heard : List (Option Message)) : Type 0 where
  pub showings : List Showing
  pub are : AreShowings t heard showings
  pub keep : k.keep ≡ n
  pub counts : CountsOf k showings
  pub shows : view ≡ displayed n showings

-- the same at the end of an input of its receiver
abbrev pub DisplayAt : ℕ → Tuning → Keeping → ShownView → List (Option Group) → Type 0
DisplayAt n t k view input = DisplayOf n t k view (heard_of t.programme input)

-- a value is still kept, or it has ended; neither if none was kept
abbrev pub is_still : Option Bool → Bool
is_still None = false
is_still (Some still) = still

abbrev pub is_ended : Option Bool → Bool
is_ended None = false
is_ended (Some still) = not still

-- what changes on the display if a text or a name has ended
abbrev pub ended_of : Option Bool → Option Bool → Option Kept
ended_of text name =
    if is_ended text || is_ended name then Some record { text = is_still text; name = is_still name } else None
