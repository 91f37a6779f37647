-- Delivery: what is on air reaches receivers (this project's own rule). A receiver that got on time each free one of
-- some slots of a broadcast, enough of them and at most M slots, shows that broadcast. The laws about a world are cases
-- of those about a station. Lists have the newest first.
use Rattle.std.specs.Prelude.{◌≡◌, ◌+◌, ◌-◌, ◌*◌, ◌<◌, ◌≤◌, [], ◌∷◌, ◌++◌, ℕ, Bool, true, false, List, Some, length}
use Rattle.std.specs.Prelude.{slice_get, slice_index_or}
use Rattle.std.specs.List.{AllByRecursion}
use Rattle.rds_assembly.specs.Body.{segment_count, text_body}
use Rattle.rds_encoder.specs.Delivery.{free_in}
use Rattle.rds_encoder.specs.Entries.{Entry}
use Rattle.rds_encoder.specs.Plan.{Broadcast, HasNumber}
use Rattle.rds_encoder.specs.Sent.{one_if, sent_log}
use Rattle.rds_receiver.specs.Shown.{ShownView}
use Rattle.rds_safety.specs.Late.{CameFrom}
use Rattle.rds_safety.specs.Safe.{Listener, ListensTo}
use Rattle.rds_receiver.specs.declared.receiver.Receiver.{Receiver}
use Rattle.rds_world.specs.ReceiverKind.{with_dwell}
use Rattle.rds_world.specs.declared.event.Reception.{Reception}
use Rattle.rds_world.specs.declared.event.Reception.TheVariants.{Got, Lost, Wrong, Restart}
use Rattle.rds_world.specs.Event.{Event}
use Rattle.rds_world.specs.Slots.{plans_of}
use Rattle.rds_world.specs.WorldAt.{ReceiverShows, WorldAt}
use Rattle.rds_world.specs.State.{WorldState, distance}
use Rattle.rds_world.specs.Station.{AreEndedSlots, IsFreeIn, slots_in, station_plans}
use Rattle.rds_world.specs.declared.world.Config.{Config}

-- the number of free slots among these
abbrev pub free_slots : List Event → ℕ
free_slots [] = 0
free_slots (e ∷ before) = one_if e.free + free_slots before

-- if the slot is free, the receiver got it, and in its own slot; the receiver got nothing wrong and did not restart in
-- it
abbrev pub GetsIfFree : Bool → Reception → Type 0
GetsIfFree true (Got back) = back ≡ 0
GetsIfFree true Lost = ⊥
GetsIfFree true (Wrong message) = ⊥
GetsIfFree true Restart = ⊥
GetsIfFree false (Got back) = Unit {0}
GetsIfFree false Lost = Unit {0}
GetsIfFree false (Wrong message) = ⊥
GetsIfFree false Restart = ⊥

-- receiver i got each free one of these slots on time, and restarted in none
abbrev pub GetsEachFree : ℕ → List Event → Type 0
GetsEachFree i slots = AllByRecursion (λ (e : Event). GetsIfFree e.free (slice_index_or e.receptions i Lost)) slots

-- the recent slots, which come after those before, lie in this broadcast of the plan
pub record LieIn (plan : List Broadcast) (recent before : List Event) (b : Broadcast) : Type 0 where
  pub number : ℕ
  pub planned : HasNumber plan number b
  pub from : b.start ≤ length before
  pub to : length (recent ++ before) ≤ b.end + 1

-- in a world of receivers with the dwell and without a window, which stands at the slots before and the recent ones, a
-- receiver got on time each free one of the recent slots, at most M, and shows this view
pub record GotRecently (config : Config) (recent before : List Event) (view : ShownView) : Type 0 where
  pub kind : config.kind ≡ with_dwell
  pub world : WorldState
  pub stands : WorldAt config world (recent ++ before)
  pub within : length recent ≤ config.dwell
  pub number : ℕ
  pub receiver : Receiver
  pub there : slice_get world.receivers number ≡ Some receiver
  pub got : GetsEachFree number recent
  pub shows : ReceiverShows receiver view

-- a text of n segments is shown after 2 n free slots of its broadcast
abbrev pub ATextIsDelivered : Type 0
ATextIsDelivered =
    (config : Config) (recent before : List Event) (view : ShownView) (b : Broadcast)
    → GotRecently config recent before view
    → LieIn (plans_of (distance config) (recent ++ before)).text recent before b
    → 2 * segment_count (text_body b.bytes) ≤ free_slots recent → view.text ≡ Some b.bytes

-- any text is shown after 32 free slots of its broadcast
abbrev pub AnyTextIsDelivered : Type 0
AnyTextIsDelivered =
    (config : Config) (recent before : List Event) (view : ShownView) (b : Broadcast)
    → GotRecently config recent before view
    → LieIn (plans_of (distance config) (recent ++ before)).text recent before b
    → 32 ≤ free_slots recent → view.text ≡ Some b.bytes

-- a name is shown after eight free slots of its broadcast
abbrev pub ANameIsDelivered : Type 0
ANameIsDelivered =
    (config : Config) (recent before : List Event) (view : ShownView) (b : Broadcast)
    → GotRecently config recent before view
    → LieIn (plans_of (distance config) (recent ++ before)).name recent before b
    → 8 ≤ free_slots recent → view.name ≡ Some b.bytes

-- a receiver of dwell m that listens to a station, at most k slots late: of the later entries, which have at most m
-- slots, it got each free slot on time
pub record GotOfStation (k m : ℕ) (later earlier : List Entry) (r : Listener) : Type 0 where
  pub slots : AreEndedSlots (later ++ earlier)
  pub listens : ListensTo k m (slots_in (later ++ earlier) - 1) (sent_log (m + k) (later ++ earlier)) r
  pub within : slots_in (later ++ earlier) ≤ slots_in earlier + m
  pub got : (s : ℕ) → slots_in earlier ≤ s → IsFreeIn (later ++ earlier) s → CameFrom r.input s s

-- the slots of the later entries lie in this broadcast of the plan
pub record LieInBroadcast (plan : List Broadcast) (later earlier : List Entry) (b : Broadcast) : Type 0 where
  pub number : ℕ
  pub planned : HasNumber plan number b
  pub from : b.start ≤ slots_in earlier
  pub to : slots_in (later ++ earlier) ≤ b.end + 1

-- a text of n segments is shown after 2 n free slots of its broadcast
abbrev pub AStationDeliversAText : Type 0
AStationDeliversAText =
    (k m : ℕ) (later earlier : List Entry) (r : Listener) (b : Broadcast) → 0 < m → GotOfStation k m later earlier r
    → LieInBroadcast (station_plans (m + k) (later ++ earlier)).text later earlier b
    → 2 * segment_count (text_body b.bytes) ≤ free_in later → r.view.text ≡ Some b.bytes

-- any text is shown after 32 free slots of its broadcast
abbrev pub AStationDeliversAnyText : Type 0
AStationDeliversAnyText =
    (k m : ℕ) (later earlier : List Entry) (r : Listener) (b : Broadcast) → 0 < m → GotOfStation k m later earlier r
    → LieInBroadcast (station_plans (m + k) (later ++ earlier)).text later earlier b
    → 32 ≤ free_in later → r.view.text ≡ Some b.bytes

-- a name is shown after eight free slots of its broadcast
abbrev pub AStationDeliversAName : Type 0
AStationDeliversAName =
    (k m : ℕ) (later earlier : List Entry) (r : Listener) (b : Broadcast) → 0 < m → GotOfStation k m later earlier r
    → LieInBroadcast (station_plans (m + k) (later ++ earlier)).name later earlier b
    → 8 ≤ free_in later → r.view.name ≡ Some b.bytes
