-- A station, whatever it sets in its slots (this project's own rule): what follows from the entries of its encoder. In
-- each slot it may restart and then set any number of texts, names and pairs of tags. The slots of a world, each with
-- at most one command, are a case of this. Lists have the newest first, and the station's spacing is d.
use Rattle.std.specs.Prelude.{◌≡◌, ◌<◌, ◌+◌, ◌-◌, ◌⊎◌, ℕ, true, List, [], ◌∷◌}
use Rattle.std.specs.List.{All, AllByRecursion}
use Rattle.rds_fields.specs.Tag.{PairFields}
use Rattle.rds_assembly.specs.Value.{IsName, IsText}
use Rattle.rds_encoder.specs.Entries.{Entry, Restart, SetText, SetName, SetTags, Tick, name_moves, slot_of, text_moves}
use Rattle.rds_encoder.specs.Plan.{plan_of}
use Rattle.rds_encoder.specs.Sent.{sent_log}
use Rattle.rds_encoder.specs.Spaced.{RestartsComeFirst}
use Rattle.rds_safety.specs.Lawful.{HasOne, HasTags}
use Rattle.rds_safety.specs.Marks.{IsMarkIn, Tagged, marks, text_mark}
use Rattle.rds_safety.specs.Plans.{AreLawful, Plans}
use Rattle.rds_safety.specs.Safe.{AreSafeViews, Listener, ListensTo}
use Rattle.rds_world.specs.Event.{Event}
use Rattle.rds_world.specs.Slots.{SetValues, entries, log, plans_of}

-- the number of slots that ended
abbrev pub slots_in : List Entry → ℕ
slots_in told = slot_of (text_moves told)

-- the plans of texts and of names; a broadcast that is still on air ends in the last slot that ended
abbrev pub station_plans : ℕ → List Entry → Plans
station_plans d told = record {
  text = plan_of d (slot_of (text_moves told) - 1) (text_moves told);
  name = plan_of d (slot_of (name_moves told) - 1) (name_moves told);
}

-- the slot was free
abbrev pub IsFreeIn : List Entry → ℕ → Type 0
IsFreeIn [] slot = ⊥
IsFreeIn (Restart ∷ before) slot = IsFreeIn before slot
IsFreeIn (SetText x ∷ before) slot = IsFreeIn before slot
IsFreeIn (SetName x ∷ before) slot = IsFreeIn before slot
IsFreeIn (SetTags pair ∷ before) slot = IsFreeIn before slot
IsFreeIn (Tick free ∷ before) slot = ((slot ≡ slots_in before) × (free ≡ true)) ⊎ IsFreeIn before slot

-- a text or name that the entry sets is valid
abbrev pub IsValid : Entry → Type 0
IsValid Restart = Unit {0}
IsValid (SetText x) = IsText x
IsValid (SetName x) = IsName x
IsValid (SetTags pair) = Unit {0}
IsValid (Tick free) = Unit {0}

-- the newest entry, if there is one, is the end of a slot
abbrev pub EndsASlot : List Entry → Type 0
EndsASlot [] = Unit {0}
EndsASlot (Restart ∷ before) = ⊥
EndsASlot (SetText x ∷ before) = ⊥
EndsASlot (SetName x ∷ before) = ⊥
EndsASlot (SetTags pair ∷ before) = ⊥
EndsASlot (Tick free ∷ before) = Unit {0}

-- the entries are slots that ended: each text and name is valid, and each restart comes before the sets of its slot
pub record AreEndedSlots (told : List Entry) : Type 0 where
  pub valid : AllByRecursion IsValid told
  pub ended : EndsASlot told
  pub texts : RestartsComeFirst (text_moves told)
  pub names : RestartsComeFirst (name_moves told)

-- the messages of an encoder with a spacing of d slots are lawful for its plans of texts and of names
abbrev pub TheEncoderIsLawful : Type 0
TheEncoderIsLawful =
    (d : ℕ) (told : List Entry) → 0 < d → AreEndedSlots told → AreLawful d (station_plans d told) (sent_log d told)

-- each pair of tags that the encoder sends is of a text of its plan: the text started at least d slots before, it has
-- not ended, and both tags end in it
abbrev pub EachPairHasItsBroadcast : Type 0
EachPairHasItsBroadcast =
    (d : ℕ) (told : List Entry) → 0 < d → AreEndedSlots told
    → (slot : ℕ) (pair : PairFields) → IsMarkIn (marks text_mark (sent_log d told)) slot (Tagged pair)
    → HasOne (station_plans d told).text (HasTags d slot pair)

-- the slots of a world are such slots, with the same log and the same plans
pub record AreSlotsToo (d : ℕ) (events : List Event) : Type 0 where
  pub slots : AreEndedSlots (entries events)
  pub log : sent_log d (entries events) ≡ log d events
  pub plans : station_plans d (entries events) ≡ plans_of d events

abbrev pub SlotsOfAWorldAreSlots : Type 0
SlotsOfAWorldAreSlots = (d : ℕ) (events : List Event) → SetValues events → AreSlotsToo d events

-- The headline for any station and any number of receivers: if each receiver of dwell m gets what was sent at most k
-- slots before, in the order of sending, or nothing, their views at the end of slot t are safe.
abbrev pub WhoHearsAStationIsSafe : Type 0
WhoHearsAStationIsSafe =
    (k m t : ℕ) (told : List Entry) (receivers : List Listener) → 0 < m → AreEndedSlots told
    → All (ListensTo k m t (sent_log (m + k) told)) receivers
    → AreSafeViews (m + k) m t (station_plans (m + k) told) (sent_log (m + k) told) receivers
