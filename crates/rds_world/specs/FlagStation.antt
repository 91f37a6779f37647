-- What a station promises to receivers with the flag bit alone (this project's own rule). Its flag turns with each text
-- or name that it accepts. After a restart the flag is 0 again. So the first text or name has to be one that a receiver
-- can join to what it holds: the empty text, or the newest one with flag 0 again. Lists have the newest first.
use Rattle.std.specs.Prelude.{◌≡◌, ◌+◌, ◌-◌, ◌*◌, ◌<◌, ◌≤◌, ◌⊎◌}
use Rattle.std.specs.Prelude.{ℕ, true, List, [], ◌∷◌, Option, Some, None, IfSome, is_ok, if◌then◌else◌}
use Rattle.rds_encoder.specs.Entries.{Entry, Move, Begin, Set, End, name_moves, slot_of, text_moves}
use Rattle.rds_encoder.specs.Plan.{Broadcast, HasNumber, on_air, plan_of}
use Rattle.rds_encoder.specs.Reply.{reply_to}
use Rattle.rds_encoder.specs.Sent.{sent_log}
use Rattle.rds_receiver.specs.Receipts.{name_fragment, text_fragment}
use Rattle.rds_safety.specs.FlagAlone.{EachLasts, HearsOneIn, IsFilled, IsNews, ListensByFlag}
use Rattle.rds_safety.specs.FlagAlone.{TurnsTheFlag, run_by_flag}
use Rattle.rds_safety.specs.FlagLaws.{HasNewSource, IsOfItsSource, ShowsEmptyText, ShowsTagsOfText}
use Rattle.rds_safety.specs.Marks.{marks, text_mark}
use Rattle.rds_safety.specs.OwnClock.{IsTrueClock}
use Rattle.rds_safety.specs.Safe.{Listener, ShowsNoTags}
use Rattle.rds_world.specs.Event.{Event}
use Rattle.rds_world.specs.Slots.{SetValues, log, plans_of}
use Rattle.rds_world.specs.Station.{AreEndedSlots, station_plans}

-- nothing was planned before, or x is empty
abbrev pub IsEmptyAfter : List Broadcast → List ℕ → Type 0
IsEmptyAfter [] x = Unit {0}
IsEmptyAfter (newest ∷ older) x = x ≡ []

-- the bytes of the newest broadcast with flag 0
abbrev pub newest_with_flag_0 : List Broadcast → Option (List ℕ)
newest_with_flag_0 [] = None
newest_with_flag_0 (newest ∷ older) = if newest.flag then newest_with_flag_0 older else Some newest.bytes

-- no broadcast before had flag 0, or the newest with flag 0 has the bytes x, or x is empty
abbrev pub IsAgainAfter : List Broadcast → List ℕ → Type 0
IsAgainAfter plan x = IfSome (newest_with_flag_0 plan) (λ bytes. (bytes ≡ x) ⊎ (x ≡ []))

-- the newest broadcast has flag 1 and lasted for at least n slots
abbrev pub EndsLongWithFlag1 : ℕ → List Broadcast → Type 0
EndsLongWithFlag1 n [] = ⊥
EndsLongWithFlag1 n (newest ∷ older) = (newest.flag ≡ true) × (newest.start + n ≤ newest.end + 1)

-- a receiver that hears a segment in each 2d slots in a row of a broadcast can join x to what it holds: it is the
-- newest one with flag 0 again, or empty, or the newest one has flag 1 and lasted for 2d slots
abbrev pub IsSafeAfter : ℕ → List Broadcast → List ℕ → Type 0
IsSafeAfter d plan x = IsAgainAfter plan x ⊎ EndsLongWithFlag1 (2 * d) plan

-- nothing was planned before, or the newest broadcast has flag 1 or the bytes x, or x is empty
abbrev pub IsHarmlessAfter : List Broadcast → List ℕ → Type 0
IsHarmlessAfter [] x = Unit {0}
IsHarmlessAfter (newest ∷ older) x = (newest.flag ≡ true) ⊎ (newest.bytes ≡ x) ⊎ (x ≡ [])

-- IsAfter holds of each text, or name, that was accepted while none was on air, that is first after a restart, and of
-- the plan before it
abbrev pub IsFirstAfterRestart : (List Broadcast → List ℕ → Type 0) → ℕ → List Move → Type 0
IsFirstAfterRestart IsAfter d [] = Unit {0}
IsFirstAfterRestart IsAfter d (Begin ∷ before) = IsFirstAfterRestart IsAfter d before
IsFirstAfterRestart IsAfter d (Set x ∷ before) =
    (is_ok (reply_to d before) ≡ true → on_air d before ≡ None → IsAfter (plan_of d (slot_of before - 1) before) x)
    × IsFirstAfterRestart IsAfter d before
IsFirstAfterRestart IsAfter d (End free ∷ before) = IsFirstAfterRestart IsAfter d before

-- there was no restart
abbrev pub HasNoRestart : List Move → Type 0
HasNoRestart [] = Unit {0}
HasNoRestart (Begin ∷ before) = ⊥
HasNoRestart (Set x ∷ before) = HasNoRestart before
HasNoRestart (End free ∷ before) = HasNoRestart before

-- a station that never restarts need not set the empty text first
abbrev pub InOneLifeNothingIsAsked : Type 0
InOneLifeNothingIsAsked = (d : ℕ) (moves : List Move) → HasNoRestart moves → IsFirstAfterRestart IsEmptyAfter d moves

-- if the empty text comes first, the first ones are safe
abbrev pub TheEmptyTextIsEnough : Type 0
TheEmptyTextIsEnough =
    (d : ℕ) (moves : List Move) → IsFirstAfterRestart IsEmptyAfter d moves → IsFirstAfterRestart (IsSafeAfter d) d moves

-- the flag turns with each broadcast, if the first one after each restart does no harm; a safe one does no harm
abbrev pub TheStationTurnsTheFlag : Type 0
TheStationTurnsTheFlag =
    (d end : ℕ) (moves : List Move)
    → (IsFirstAfterRestart IsHarmlessAfter d moves → TurnsTheFlag (plan_of d end moves))
    × (IsFirstAfterRestart (IsSafeAfter d) d moves → IsFirstAfterRestart IsHarmlessAfter d moves)

-- If the empty text comes first after each restart, each broadcast lasts for at least 2d slots before one that is
-- filled. If a safe one comes first, each lasts for at least 2d slots before news.
abbrev pub TheStationKeepsEach : Type 0
TheStationKeepsEach =
    (d end : ℕ) (moves : List Move)
    → (IsFirstAfterRestart IsEmptyAfter d moves → EachLasts IsFilled (2 * d) (plan_of d end moves))
    × (IsFirstAfterRestart (IsSafeAfter d) d moves → EachLasts IsNews (2 * d) (plan_of d end moves))

-- a receiver with the flag bit alone that hears a segment in each 2d slots in a row of a text shows the text of its
-- source, in which the last segment was sent
abbrev pub TextsOfAStationAreOfTheirSource : Type 0
TextsOfAStationAreOfTheirSource =
    (d now : ℕ) (told : List Entry) (r : Listener) → 0 < d → AreEndedSlots told
    → IsFirstAfterRestart (IsSafeAfter d) d (text_moves told) → ListensByFlag now (sent_log d told) r
    → HearsOneIn (2 * d) text_fragment (station_plans d told).text now r.input
    → IfSome r.view.text (IsOfItsSource (station_plans d told).text r.input (run_by_flag text_fragment r.input))

-- the same for names; no name is empty, so the newest one with flag 0 comes first, unless the newest one has flag 1 and
-- lasted for 2d slots
abbrev pub NamesOfAStationAreOfTheirSource : Type 0
NamesOfAStationAreOfTheirSource =
    (d now : ℕ) (told : List Entry) (r : Listener) → 0 < d → AreEndedSlots told
    → IsFirstAfterRestart (IsSafeAfter d) d (name_moves told) → ListensByFlag now (sent_log d told) r
    → HearsOneIn (2 * d) name_fragment (station_plans d told).name now r.input
    → IfSome r.view.name (IsOfItsSource (station_plans d told).name r.input (run_by_flag name_fragment r.input))

-- if it hears a segment in each d slots in a row of a text, the tags shown are those of the text shown
abbrev pub TagsOfAStationAreOfTheirText : Type 0
TagsOfAStationAreOfTheirText =
    (d now : ℕ) (told : List Entry) (r : Listener) → 0 < d → AreEndedSlots told
    → IsFirstAfterRestart (IsSafeAfter d) d (text_moves told) → ListensByFlag now (sent_log d told) r
    → HearsOneIn d text_fragment (station_plans d told).text now r.input
    → ShowsNoTags r.view ⊎ ShowsEmptyText r.view
    ⊎ ShowsTagsOfText d (station_plans d told).text (marks text_mark (sent_log d told)) r.view

-- If it hears a segment in each 2d slots in a row of a text, its source is new. If the empty text comes first after
-- each restart, each text that began by slot `now` is at most the next one after the source, or is empty. If a safe
-- one comes first, each news that began by slot `now` is at most the next one.
abbrev pub TextsOfAStationAreNew : Type 0
TextsOfAStationAreNew =
    (d now : ℕ) (told : List Entry) (r : Listener) → 0 < d → AreEndedSlots told → ListensByFlag now (sent_log d told) r
    → HearsOneIn (2 * d) text_fragment (station_plans d told).text now r.input
    → (IsFirstAfterRestart IsEmptyAfter d (text_moves told)
    → HasNewSource IsFilled (station_plans d told).text now r.input (run_by_flag text_fragment r.input))
    × (IsFirstAfterRestart (IsSafeAfter d) d (text_moves told)
    → HasNewSource IsNews (station_plans d told).text now r.input (run_by_flag text_fragment r.input))

-- the same for names
abbrev pub NamesOfAStationAreNew : Type 0
NamesOfAStationAreNew =
    (d now : ℕ) (told : List Entry) (r : Listener) → 0 < d → AreEndedSlots told → ListensByFlag now (sent_log d told) r
    → HearsOneIn (2 * d) name_fragment (station_plans d told).name now r.input
    → (IsFirstAfterRestart IsEmptyAfter d (name_moves told)
    → HasNewSource IsFilled (station_plans d told).name now r.input (run_by_flag name_fragment r.input))
    × (IsFirstAfterRestart (IsSafeAfter d) d (name_moves told)
    → HasNewSource IsNews (station_plans d told).name now r.input (run_by_flag name_fragment r.input))

-- there are slots of a station with a spacing of d, and a receiver with the flag bit alone that got each of them on
-- time and shows a text that nobody set
pub record MixesAStation (d : ℕ) : Type 0 where
  pub events : List Event
  pub values : SetValues events
  pub now : ℕ
  pub receiver : Listener
  pub listens : ListensByFlag now (log d events) receiver
  pub got : (receiver.input.first ≡ 0) × (receiver.input.heard ≡ log d events) × IsTrueClock receiver.input
  pub mix : List ℕ
  pub shown : receiver.view.text ≡ Some mix
  pub of_none : (k : ℕ) (b : Broadcast) → HasNumber (plans_of d events).text k b → b.bytes ≡ mix → ⊥

-- there is such a receiver for d = 1; so the premise on the first text after a restart is needed
abbrev pub ARestartMixes : Type 0
ARestartMixes = MixesAStation 1
