-- Lemmas: a receiver of a world that got on time each free one of enough slots of a broadcast shows it, as each
-- receiver of a station does.
use Rattle.std.proofs.Common.{◌≡◌, ◌+◌, ◌-◌, ◌*◌, ◌<◌, ◌≤◌, ℕ, List, [], ◌∷◌, ◌++◌, length-append, Option, Some, refl}
use Rattle.std.proofs.Common.{sym, subst, arith, length}
use Rattle.rds_assembly.specs.Body.{segment_count, text_body}
use Rattle.rds_fields.specs.declared.head.Head.{Head}
use Rattle.rds_encoder.specs.Delivery.{free_in}
use Rattle.rds_encoder.specs.Entries.{Entry, Tick, text_moves}
use Rattle.rds_encoder.specs.Plan.{Broadcast}
use Rattle.rds_encoder.specs.Sent.{sent_log}
use Rattle.rds_receiver.specs.Shown.{ShownView}
use Rattle.rds_safety.specs.Late.{CameFrom}
use Rattle.rds_safety.specs.Plans.{Plans}
use Rattle.rds_safety.specs.Safe.{Listener, ListensTo}
use Rattle.rds_safety.proofs.Safety.{one_segment}
use Rattle.rds_world.specs.ReceiverKind.{with_dwell}
use Rattle.rds_world.specs.Delivery.{ANameIsDelivered, AStationDeliversAName, AStationDeliversAText}
use Rattle.rds_world.specs.Delivery.{AStationDeliversAnyText, ATextIsDelivered, AnyTextIsDelivered, GetsEachFree}
use Rattle.rds_world.specs.Delivery.{GotOfStation, GotRecently, LieIn, LieInBroadcast, free_slots}
use Rattle.rds_world.specs.Event.{Event}
use Rattle.rds_world.specs.Slots.{commanded, entries, input_of, plans_of}
use Rattle.rds_world.specs.WorldAt.{WorldAt}
use Rattle.rds_world.specs.State.{distance}
use Rattle.rds_world.specs.Station.{IsFreeIn, slots_in, station_plans}
use Rattle.rds_world.specs.declared.world.Config.{Config}
use Rattle.rds_world.proofs.LawfulStation.{free_before}
use Rattle.rds_world.proofs.SafeWorld.{listens}
use Rattle.rds_world.proofs.WorldSlots.{reaches, slots_of_a_world, text_service}

-- ---- the entries of recent slots and of those before

-- the recent entries, which come after those of the slots before
record HasRecent (recent before : List Event) : Type 0 where
  later : List Entry
  is : entries (recent ++ before) ≡ later ++ entries before
  free : free_in later ≡ free_slots recent

has_recent : (recent before : List Event) → HasRecent recent before
has_recent [] before = record { later = []; is = refl; free = refl }
has_recent (e ∷ recent) before =
    let w = has_recent recent before in
    record {
      later = Tick e.free ∷ commanded e.command w.later;
      is = grind (arith, w.is);
      free = grind (arith, w.free);
    }

slots_are : (events : List Event) → slots_in (entries events) ≡ length events
slots_are events = reaches text_moves text_service events

-- ---- what a receiver got

-- the input of a receiver has an origin up to the last slot
origins : (d i : ℕ) (events : List Event) → (input_of d i events).first + length (input_of d i events).origins
    ≡ length events
origins d i [] = refl
origins d i (e ∷ before) = grind (arith, origins d i before)

-- each free one of the recent slots came in its own slot
came_in_own : (d i : ℕ) (recent before : List Event) → GetsEachFree i recent → (s : ℕ) → length before ≤ s
    → IsFreeIn (entries (recent ++ before)) s → CameFrom (input_of d i (recent ++ before)) s s
came_in_own d i [] before gets s since free = grind (arith, free_before, slots_are)
came_in_own d i (e ∷ recent) before gets s since earlier =
    let before_it = came_in_own d i recent before gets.1 s since in
    grind (arith, text_service, slots_are, origins)

-- ---- a receiver of a world

-- the configuration of a world without a window
abbrev plain : Head → ℕ → ℕ → Config
plain head m k = record { head = head; dwell = m; late = k; kind = with_dwell }

is_plain : (config : Config) → config.kind ≡ with_dwell → plain config.head config.dwell config.late ≡ config
is_plain config kind = sym (λ i. record { head = config.head; dwell = config.dwell; late = config.late; kind = kind i })

module _ (head : Head) (m k : ℕ) (e : Event) (recent before : List Event) (view : ShownView)
    (gets : GotRecently (plain head m k) (e ∷ recent) before view) where
  abbrev config : Config
  config = plain head m k

  abbrev events : List Event
  events = e ∷ recent ++ before

  abbrev d : ℕ
  d = m + k

  abbrev receiver : Listener
  receiver = record { input = input_of d gets.number events; view = view }

  told : HasRecent (e ∷ recent) before
  told = has_recent (e ∷ recent) before

  due : WorldAt config gets.world events
  due = gets.stands

  listening : ListensTo k m (slots_in (entries events) - 1) (sent_log d (entries events)) receiver
  listening =
      let last : length (recent ++ before) ≡ slots_in (entries events) - 1 = omega (arith, slots_are events) in
      let same = slots_of_a_world d events due.values in
      let it = listens config e (recent ++ before) gets.number gets.receiver view refl due.due due.fit
      (due.receivers.each gets.number gets.receiver gets.there) gets.shows in
      grind (arith, same.log)

  got_of_station : GotOfStation k m told.later (entries before) receiver
  got_of_station =
      let slots = (slots_of_a_world d events due.values).slots in
      let long = length-append (e ∷ recent) before in
      let got = came_in_own d gets.number (e ∷ recent) before gets.got in
      grind (arith, slots_are events, slots_are before, told.is, gets.within, listening)

  -- a broadcast of the plans of the world is one of the plans of its station
  lies_of : (plan : Plans → List Broadcast) (b : Broadcast) → LieIn (plan (plans_of d events)) (e ∷ recent) before b
      → LieInBroadcast (plan (station_plans d (told.later ++ entries before))) told.later (entries before) b
  lies_of plan b lies =
      let same = (slots_of_a_world d events due.values).plans in
      grind (arith, slots_are before, slots_are events, told.is)

-- a law of delivery about a station, and about a world: this part shows a broadcast of this plan after so many free
-- slots of it
abbrev AStationDelivers : (Plans → List Broadcast) → (ShownView → Option (List ℕ)) → (Broadcast → ℕ) → Type 0
AStationDelivers plan part enough =
    (k m : ℕ) (later earlier : List Entry) (r : Listener) (b : Broadcast) → 0 < m → GotOfStation k m later earlier r
    → LieInBroadcast (plan (station_plans (m + k) (later ++ earlier))) later earlier b → enough b ≤ free_in later
    → part r.view ≡ Some b.bytes

abbrev IsDelivered : (Plans → List Broadcast) → (ShownView → Option (List ℕ)) → (Broadcast → ℕ) → Config → Type 0
IsDelivered plan part enough config =
    (recent before : List Event) (view : ShownView) (b : Broadcast) → GotRecently config recent before view
    → LieIn (plan (plans_of (distance config) (recent ++ before))) recent before b → enough b ≤ free_slots recent
    → part view ≡ Some b.bytes

-- a world is a case of a station, and some of its slots are recent
delivered : (plan : Plans → List Broadcast) (part : ShownView → Option (List ℕ)) (enough : Broadcast → ℕ)
    → ((b : Broadcast) → 0 < enough b) → AStationDelivers plan part enough → (config : Config)
    → IsDelivered plan part enough config
delivered plan part enough some delivers config recent before view b gets =
    subst (IsDelivered plan part enough) (is_plain config gets.kind)
    (in_plain config.head config.dwell config.late) recent before view b gets
  where
    in_plain : (head : Head) (m k : ℕ) → IsDelivered plan part enough (plain head m k)
    in_plain head m k [] before view b gets lies free = absurd (omega (arith, some b, free))
    in_plain head m k (e ∷ recent) before view b gets lies free =
        let lasts = gets.stands.lasts in
        delivers k m _ _ _ b (omega arith) (got_of_station head m k e recent before view gets)
        (lies_of head m k e recent before view gets plan b lies)
        (omega (arith, free, (told head m k e recent before view gets).free))

pub text_delivered : AStationDeliversAText → ATextIsDelivered
text_delivered = delivered (λ plans. plans.text) (λ v. v.text) (λ b. 2 * segment_count (text_body b.bytes))
    (λ b. omega (arith, one_segment b.bytes))

pub any_text_delivered : AStationDeliversAnyText → AnyTextIsDelivered
any_text_delivered = delivered (λ plans. plans.text) (λ v. v.text) (λ b. 32) (λ b. omega arith)

pub name_delivered : AStationDeliversAName → ANameIsDelivered
name_delivered = delivered (λ plans. plans.name) (λ v. v.name) (λ b. 8) (λ b. omega arith)
