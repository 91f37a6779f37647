-- Lemmas: a receiver that got on time each free one of enough slots of a broadcast shows it, whatever the station sets
-- in a slot.
use Rattle.std.proofs.Common.{◌≡◌, ◌+◌, ◌-◌, ◌*◌, ◌<◌, ◌≤◌, ℕ, zero, suc, inl, inr, Bool, true, false, List, [], ◌∷◌}
use Rattle.std.proofs.Common.{◌++◌, Option, Some, None, refl, sym, ap, arith}
use Rattle.rds_fields.specs.declared.message.Message.{Message}
use Rattle.rds_fields.specs.declared.message.Message.TheVariants.{Text, Name}
use Rattle.rds_assembly.specs.Body.{name_body, segment_count, segment_of, text_body}
use Rattle.rds_assembly.specs.OwnSegments.{all_name, all_text}
use Rattle.rds_assembly.specs.Value.{IsName, IsText}
use Rattle.rds_assembly.specs.Whole.{IsWholeName, IsWholeText}
use Rattle.rds_encoder.specs.Delivery.{ANameIsSentWhole, ATextIsSentWhole, IsOnThroughout, IsSentAmong, free_in}
use Rattle.rds_encoder.specs.Entries.{Entry, Restart, SetText, SetName, Tick, Move, Begin, Set, End, name_moves}
use Rattle.rds_encoder.specs.Entries.{slot_of, text_moves}
use Rattle.rds_encoder.specs.Laws.{OnlyWhatIsOnAirCoversTheSlot, WhatIsOnAirWasOnAir}
use Rattle.rds_encoder.specs.Plan.{Broadcast, HasNumber, OnAir, endless, on_air, plan_of}
use Rattle.rds_encoder.specs.Sent.{one_if, sent_in, sent_log}
use Rattle.rds_receiver.specs.Receipts.{name_fragment, segments, text_fragment}
use Rattle.rds_receiver.specs.declared.fragment.Fragment.{Fragment}
use Rattle.rds_safety.specs.Late.{CameFrom, SentIn}
use Rattle.rds_safety.specs.Lawful.{names, texts}
use Rattle.rds_safety.specs.Laws.{PlanLaws}
use Rattle.rds_safety.specs.Marks.{name_mark, text_mark}
use Rattle.rds_safety.specs.Plans.{AreLawful}
use Rattle.rds_safety.specs.Safe.{Listener}
use Rattle.rds_safety.proofs.OneBroadcast.{name_service, names_send_their_body, text_service, texts_send_their_body}
use Rattle.rds_safety.proofs.Safety.{one_segment, two_segments, name_fragments_marked, text_fragments_marked}
use Rattle.rds_safety.proofs.Entries.{one_origin}
use Rattle.rds_safety.proofs.FlagRuns.{came_as_sent}
use Rattle.rds_safety.proofs.HeldWhole.{CameSince, came_in, in_segments, shown_whole}
use Rattle.rds_safety.proofs.Padded.{text_few}
use Rattle.rds_world.specs.Delivery.{AStationDeliversAName, AStationDeliversAText, AStationDeliversAnyText}
use Rattle.rds_world.specs.Delivery.{GotOfStation, LieInBroadcast}
use Rattle.rds_world.specs.Station.{EndsASlot, IsFreeIn, TheEncoderIsLawful, slots_in, station_plans}
use Rattle.rds_world.proofs.LawfulStation.{logged_names, logged_texts}

-- the laws about each encoder
pub record DeliveryLaws : Type 0 where
  pub plan : PlanLaws
  pub only : OnlyWhatIsOnAirCoversTheSlot
  pub was : WhatIsOnAirWasOnAir
  pub text : ATextIsSentWhole
  pub name : ANameIsSentWhole
  pub lawful : TheEncoderIsLawful

-- nothing is sent in a slot that is not free
others_slot : (m : ℕ) (free : Bool) (es : List Entry) → free ≡ false → sent_in m free es ≡ None
others_slot m free es e = grind arith

-- one service: an entry is at most one move of it, and the end of a slot is exactly one
record IsMoves (moves : List Entry → List Move) : Type 0 where
  ticks : (free : Bool) (es : List Entry) → moves (Tick free ∷ es) ≡ End free ∷ moves es
  longer : (entry : Entry) (es : List Entry) → (told : List Move) × (moves (entry ∷ es) ≡ told ++ moves es)
  rises : (entry : Entry) (es : List Entry) → slot_of (moves es) ≤ slot_of (moves (entry ∷ es))

moves_of_texts : IsMoves text_moves
moves_of_texts = record { ticks = λ free es. refl; longer = longer; rises = λ entry es. grind arith }
  where
    longer : (entry : Entry) (es : List Entry) → (told : List Move) × (text_moves (entry ∷ es) ≡ told ++ text_moves es)
    longer Restart es = (Begin ∷ [], refl)
    longer (SetText x) es = (Set x ∷ [], refl)
    longer (Tick free) es = (End free ∷ [], refl)
    longer _ es = ([], refl)

moves_of_names : IsMoves name_moves
moves_of_names = record { ticks = λ free es. refl; longer = longer; rises = λ entry es. grind arith }
  where
    longer : (entry : Entry) (es : List Entry) → (told : List Move) × (name_moves (entry ∷ es) ≡ told ++ name_moves es)
    longer Restart es = (Begin ∷ [], refl)
    longer (SetName x) es = (Set x ∷ [], refl)
    longer (Tick free) es = (End free ∷ [], refl)
    longer _ es = ([], refl)

-- a value that is on air at the end, and began by the first slot, was on air throughout
throughout : WhatIsOnAirWasOnAir → (moves : List Entry → List Move) → IsMoves moves
    → (m : ℕ) (air : OnAir) (later : List Entry) (free : Bool) (earlier : List Entry)
    → air.start ≤ slot_of (moves earlier) → on_air m (moves ((later ++ Tick free ∷ []) ++ earlier)) ≡ Some air
    → IsOnThroughout moves m air (later ++ Tick free ∷ []) earlier
throughout was moves service m air [] free earlier from on = grind arith
throughout was moves service m air (entry ∷ later) free earlier from on =
    let rest = (later ++ Tick free ∷ []) ++ earlier in
    let more = service.longer entry rest in
    search (arith, throughout was moves service m air later free earlier from, rises)
  where
    rises : (xs : List Entry) → slot_of (moves earlier) + 1 ≤ slot_of (moves ((xs ++ Tick free ∷ []) ++ earlier))
    rises [] = grind (arith, service.ticks free earlier)
    rises (x ∷ xs) = omega (arith, rises xs, service.rises x ((xs ++ Tick free ∷ []) ++ earlier))

-- ---- slots

slots_rise : (later earlier : List Entry) → slots_in earlier ≤ slots_in (later ++ earlier)
slots_rise [] earlier = omega arith
slots_rise (x ∷ later) earlier = grind (arith, slots_rise later earlier)

-- names have the slots of texts
same_slots : (told : List Entry) → slot_of (name_moves told) ≡ slots_in told
same_slots told = omega (arith, logged_texts 0 told, logged_names 0 told)

-- the message was sent in a free slot of the later entries
record WasSentFree (d : ℕ) (later earlier : List Entry) (message : Message) : Type 0 where
  slot : ℕ
  since : slots_in earlier ≤ slot
  free : IsFreeIn (later ++ earlier) slot
  sent : SentIn (sent_log d (later ++ earlier)) slot (Some message)

sent_free : (d : ℕ) (later earlier : List Entry) (message : Message) → IsSentAmong d later earlier message
    → WasSentFree d later earlier message
sent_free d [] earlier message among = absurd among
sent_free d (Tick free ∷ later) earlier message (inl is) = record {
  slot = slots_in (later ++ earlier);
  since = slots_rise later earlier;
  free = inl (refl, grind (arith, others_slot d free (later ++ earlier)));
  sent = inl (omega (arith, logged_texts d (later ++ earlier)), sym is);
}
sent_free d (Tick free ∷ later) earlier message (inr among) = grind (arith, sent_free d later earlier message among)
sent_free d (_ ∷ later) earlier message among = grind (arith, sent_free d later earlier message among)

-- entries split into newer ones, the end of the first free slot, and older ones without a free slot
record HasFirst (later : List Entry) : Type 0 where
  newer : List Entry
  older : List Entry
  is : later ≡ newer ++ Tick true ∷ older
  others : free_in older ≡ 0

longer_first : (x : Entry) (later : List Entry) → HasFirst later → HasFirst (x ∷ later)
longer_first x later f = record {
  newer = x ∷ f.newer;
  older = f.older;
  is = rw f.is;
  others = f.others;
}

has_first : (later : List Entry) → 0 < free_in later → HasFirst later
has_first [] some = absurd (omega (arith, some))
has_first (Tick free ∷ later) some = by free (free_in later) refl refl (has_first later)
  where
    by : (b : Bool) (n : ℕ) → free ≡ b → free_in later ≡ n → (0 < free_in later → HasFirst later)
        → HasFirst (Tick free ∷ later)
    by true zero is none rest = record
        { newer = []; older = later; is = ap (λ (b : Bool). Tick b ∷ later) is; others = none }
    by false zero is none rest = absurd (grind (arith, ap one_if is))
    by b (suc n) is more rest = longer_first (Tick free) later (rest (omega arith))
has_first (x ∷ later) some = longer_first x later (has_first later some)

-- the older ones can be left out
free_without : (newer older : List Entry) → free_in older ≡ 0
    → free_in (newer ++ Tick true ∷ older) ≡ free_in (newer ++ Tick true ∷ [])
free_without [] older none = omega (arith, none)
free_without (x ∷ newer) older none = grind (arith, free_without newer older none)

parts : (newer older earlier : List Entry) → (newer ++ Tick true ∷ older) ++ earlier ≡ (newer ++ Tick true ∷ [])
    ++ (older ++ earlier)
parts [] older earlier = refl
parts (x ∷ newer) older earlier = ap (λ (es : List Entry). x ∷ es) (parts newer older earlier)

first_is_free : (newer rest : List Entry) → IsFreeIn ((newer ++ Tick true ∷ []) ++ rest) (slots_in rest)
first_is_free [] rest = inl (refl, refl)
first_is_free (x ∷ newer) rest = grind (arith, first_is_free newer rest)

some_slots : (newer rest : List Entry) → slots_in rest < slots_in ((newer ++ Tick true ∷ []) ++ rest)
some_slots [] rest = omega arith
some_slots (x ∷ newer) rest = grind (arith, some_slots newer rest)

-- a broadcast that covers the last slot is on air in it
on_now : (laws : DeliveryLaws) (moves : List Entry → List Move) → IsMoves moves
    → ((es : List Entry) → slot_of (moves es) ≡ slots_in es) → (d : ℕ) → 0 < d → (told : List Entry) → EndsASlot told
    → (k : ℕ) (b : Broadcast)
    → HasNumber (plan_of d (slot_of (moves told) - 1) (moves told)) k b → b.start + 1 ≤ slots_in told
    → slots_in told ≤ b.end + 1 → on_air d (moves told) ≡ Some (endless b)
on_now laws moves service same d some [] ended k b planned from to = absurd (omega (arith, from))
on_now laws moves service same d some (Tick free ∷ rest) ended k b planned from to =
    let h = moves rest in
    let ticks = service.ticks free rest in
    let last : slot_of h + 1 - 1 ≡ slot_of h = omega arith in
    rw ticks (laws.only d h k b some (rw last at (rw ticks at planned)) (omega (arith, same rest)))
on_now laws moves service same d some (_ ∷ rest) ended k b planned from to = absurd ended

-- ---- what a receiver got since the first free slot

module _ (laws : DeliveryLaws) (k m : ℕ) (some : 0 < m) (newer rest : List Entry) (r : Listener) (b : Broadcast)
    (gets : GotOfStation k m (newer ++ Tick true ∷ []) rest r)
    (from : b.start ≤ slots_in rest) (to : slots_in ((newer ++ Tick true ∷ []) ++ rest) ≤ b.end + 1) where
  abbrev recent : List Entry
  recent = newer ++ Tick true ∷ []

  abbrev told : List Entry
  told = recent ++ rest

  abbrev first : ℕ
  first = slots_in rest

  lasts : 0 < m + k
  lasts = omega (arith, some)

  law : AreLawful (m + k) (station_plans (m + k) told) (sent_log (m + k) told)
  law = laws.lawful (m + k) told lasts gets.slots

  own : CameFrom r.input first first
  own = gets.got first (omega arith) (first_is_free newer rest)

  -- an entry that came since the first free slot was sent since then
  fresh : (u s : ℕ) → first ≤ u → CameFrom r.input u s → first ≤ s
  fresh u s since came = grind (arith, one_origin, own)

  soon : slots_in told - 1 < first + m
  soon = (let within = gets.within in omega (arith, within, some_slots newer rest))

  on : (moves : List Entry → List Move) → IsMoves moves → ((es : List Entry) → slot_of (moves es) ≡ slots_in es)
      → (number : ℕ) → HasNumber (plan_of (m + k) (slot_of (moves told) - 1) (moves told)) number b
      → IsOnThroughout moves (m + k) (endless b) recent rest
  on moves service same number planned = grind (arith, throughout, on_now, lasts, some_slots)

  -- each message sent since then came since then
  came : (pick : Message → Option Fragment) (message : Message) (p : Fragment) → pick message ≡ Some p
      → IsSentAmong (m + k) recent rest message
      → CameSince (segments pick r.input.first r.input.heard) first p.address
  came pick message p is among =
      let w = sent_free (m + k) recent rest message among in
      let heard = came_as_sent (sent_log (m + k) told) r.input w.slot w.slot message gets.listens.late.order
      (gets.got w.slot w.since w.free) w.sent in
      record {
        segment = came_in w.slot p;
        since = w.since;
        at = refl;
        is_in = search (arith, in_segments);
      }

  text_shown : (number : ℕ) → HasNumber (station_plans (m + k) told).text number b
      → 2 * segment_count (text_body b.bytes) ≤ free_in recent → r.view.text ≡ Some b.bytes
  text_shown number planned enough =
      let value : IsText b.bytes = law.text.values number b planned in
      shown_whole laws.plan m (slots_in told - 1) first texts texts_send_their_body text_fragment text_mark
      (station_plans (m + k) told).text
      (sent_log (m + k) told) r.input number b
      text_fragments_marked k law.text gets.listens.late gets.listens.now fresh planned from
      (omega (arith, to, some_slots newer rest)) soon
      IsWholeText text_service (λ cells held. all_text cells b.bytes value held) (one_segment b.bytes)
      (λ a within.
      let bytes = segment_of (text_body b.bytes) a in
      came text_fragment (Text b.flag a bytes) record { flag = b.flag; address = a; bytes = bytes } refl
      (laws.text (m + k) recent rest (endless b) (on text_moves moves_of_texts (λ es. refl) number planned) enough a
      within))
      r.view.text gets.listens.shows.text

  name_shown : (number : ℕ) → HasNumber (station_plans (m + k) told).name number b → 8 ≤ free_in recent
      → r.view.name ≡ Some b.bytes
  name_shown number planned enough =
      let value : IsName b.bytes = law.name.values number b planned in
      let two = two_segments b.bytes value in
      shown_whole laws.plan m (slots_in told - 1) first names names_send_their_body name_fragment name_mark
      (station_plans (m + k) told).name
      (sent_log (m + k) told) r.input number b
      name_fragments_marked k law.name gets.listens.late gets.listens.now fresh planned from
      (omega (arith, to, some_slots newer rest)) soon
      IsWholeName name_service (λ cells held. all_name cells b.bytes value held) (omega (arith, two))
      (λ a within.
      let bytes = segment_of (name_body b.bytes) a in
      came name_fragment (Name b.flag a bytes) record { flag = b.flag; address = a; bytes = bytes } refl
      (laws.name (m + k) recent rest (endless b) (on name_moves moves_of_names same_slots number planned) enough a
      (omega (arith, within, two))))
      r.view.name gets.listens.shows.name

-- what a receiver got since earlier entries it got since the first free slot
split : (k m : ℕ) (newer older earlier : List Entry) (r : Listener)
    → GotOfStation k m (newer ++ Tick true ∷ older) earlier r
    → GotOfStation k m (newer ++ Tick true ∷ []) (older ++ earlier) r
split k m newer older earlier r gets = grind (arith, parts, slots_rise)

module _ (laws : DeliveryLaws) (k m : ℕ) (earlier : List Entry) (r : Listener) (b : Broadcast) (some : 0 < m) where
  text_of : (newer older : List Entry) → free_in older ≡ 0 → GotOfStation k m (newer ++ Tick true ∷ older) earlier r
      → LieInBroadcast (station_plans (m + k) ((newer ++ Tick true ∷ older) ++ earlier)).text (newer ++ Tick true
      ∷ older) earlier b
      → 2 * segment_count (text_body b.bytes) ≤ free_in (newer ++ Tick true ∷ older) → r.view.text ≡ Some b.bytes
  text_of newer older none gets lies enough = grind (arith, parts, text_shown, split, slots_rise, free_without)

  name_of : (newer older : List Entry) → free_in older ≡ 0 → GotOfStation k m (newer ++ Tick true ∷ older) earlier r
      → LieInBroadcast (station_plans (m + k) ((newer ++ Tick true ∷ older) ++ earlier)).name (newer ++ Tick true
      ∷ older) earlier b
      → 8 ≤ free_in (newer ++ Tick true ∷ older) → r.view.name ≡ Some b.bytes
  name_of newer older none gets lies enough = grind (arith, parts, name_shown, split, slots_rise, free_without)

-- a planned text is valid
planned_text : DeliveryLaws → (k m : ℕ) (later earlier : List Entry) (r : Listener) (b : Broadcast) → 0 < m
    → GotOfStation k m later earlier r
    → LieInBroadcast (station_plans (m + k) (later ++ earlier)).text later earlier b → IsText b.bytes
planned_text laws k m later earlier r b some gets lies = grind arith

pub text_delivered : DeliveryLaws → AStationDeliversAText
text_delivered laws k m later earlier r b some gets lies enough =
    let f = has_first later (omega (arith, enough, one_segment b.bytes)) in
    text_of laws k m earlier r b some f.newer f.older f.others
    (rw f.is at gets) (rw f.is at lies) (rw f.is at enough)

pub any_text_delivered : DeliveryLaws → AStationDeliversAnyText
any_text_delivered laws k m later earlier r b some gets lies enough =
    let value = planned_text laws k m later earlier r b some gets lies in
    text_delivered laws k m later earlier r b some gets lies (omega (arith, enough, text_few b.bytes value))

pub name_delivered : DeliveryLaws → AStationDeliversAName
name_delivered laws k m later earlier r b some gets lies enough =
    let f = has_first later (omega (arith, enough)) in
    name_of laws k m earlier r b some f.newer f.older f.others
    (rw f.is at gets) (rw f.is at lies) (rw f.is at enough)
