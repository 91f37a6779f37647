-- Lemmas: the messages of an encoder are lawful for its plans. For each mark of its log there is the broadcast that was
-- on air in that slot, and it stays planned whatever comes later.
use Rattle.std.proofs.Common.{◌≡◌, ◌+◌, ◌-◌, ◌<◌, ◌≤◌, ℕ, List, [], ◌∷◌, ◌++◌, Bool, append_assoc, Option, Some, refl}
use Rattle.std.proofs.Common.{sym, ap, ◌∙◌, subst, inl, inr, arith, length, IfSome}
use Rattle.std.specs.List.{AllByRecursion}
use Rattle.rds_fields.specs.declared.message.Message.{Message}
use Rattle.rds_fields.specs.declared.message.Message.TheVariants.{Text, Name, Tags}
use Rattle.rds_fields.specs.Tag.{BothEndIn, PairFields}
use Rattle.rds_assembly.specs.Value.{IsName, IsText}
use Rattle.rds_encoder.specs.Entries.{Entry, Restart, SetText, SetName, Tick, Move, Begin, Set, End}
use Rattle.rds_encoder.specs.Entries.{name_moves, slot_of, text_moves}
use Rattle.rds_encoder.specs.Laws.{ANameSegmentIsOfTheNameOnAir, ATextSegmentIsOfTheTextOnAir, HasOnAir, IsSegmentOf}
use Rattle.rds_encoder.specs.Laws.{TagsAreOfTheTextOnAir, ThePairEndsInTheText, ThePlanIsSpaced, WasAccepted}
use Rattle.rds_encoder.specs.Laws.{WhatIsOnAirBegan, WhatIsPlannedWasAccepted, WhatWasOnAirStaysPlanned}
use Rattle.rds_encoder.specs.Plan.{Broadcast, HasNumber, OnAir, on_air, plan_of}
use Rattle.rds_encoder.specs.Sent.{sent_in, sent_log}
use Rattle.rds_encoder.specs.Spaced.{IsSpaced, RestartsComeFirst}
use Rattle.rds_receiver.specs.declared.fragment.Fragment.{Fragment}
use Rattle.rds_safety.specs.Lawful.{HasOne, HasFragment, HasTags, IsFragmentOf, IsLawful, Kind, names, texts}
use Rattle.rds_safety.specs.Marks.{IsMarkIn, Mark, Sends, Tagged, marks, name_mark, text_mark}
use Rattle.rds_safety.proofs.Entries.{marks_long}
use Rattle.rds_world.specs.Station.{AreEndedSlots, EachPairHasItsBroadcast, EndsASlot, IsFreeIn, IsValid}
use Rattle.rds_world.specs.Station.{TheEncoderIsLawful, slots_in, station_plans}

-- the laws about each encoder
pub record EncoderLaws : Type 0 where
  pub spaced : ThePlanIsSpaced
  pub began : WhatIsOnAirBegan
  pub stays : WhatWasOnAirStaysPlanned
  pub accepted : WhatIsPlannedWasAccepted
  pub text : ATextSegmentIsOfTheTextOnAir
  pub name : ANameSegmentIsOfTheNameOnAir
  pub tags : TagsAreOfTheTextOnAir
  pub ends : ThePairEndsInTheText

-- P holds of each value that is set
abbrev pub AllSetAre : (List ℕ → Type 0) → List Move → Type 0
AllSetAre P [] = Unit {0}
AllSetAre P (Begin ∷ before) = AllSetAre P before
AllSetAre P (Set x ∷ before) = P x × AllSetAre P before
AllSetAre P (End free ∷ before) = AllSetAre P before

accepted_value : (P : List ℕ → Type 0) (m slot : ℕ) (x : List ℕ) (moves : List Move) → AllSetAre P moves
    → WasAccepted m slot x moves → P x
accepted_value P m slot x [] all was = absurd was
accepted_value P m slot x (Set y ∷ before) all (inl now) = subst P now.1 all.0
accepted_value P m slot x (Set y ∷ before) all (inr was) = accepted_value P m slot x before all.1 was
accepted_value P m slot x (_ ∷ before) all was = accepted_value P m slot x before all was

-- one service: its moves are those of the entries that concern it
record IsService (IsValue : List ℕ → Type 0) (moves : List Entry → List Move) : Type 0 where
  none : moves [] ≡ []
  tick : (free : Bool) (before : List Entry) → moves (Tick free ∷ before) ≡ End free ∷ moves before
  longer : (x : Entry) (before : List Entry) → (told : List Move) × (moves (x ∷ before) ≡ told ++ moves before)
  values : (x : Entry) (before : List Entry) → IsValid x → AllSetAre IsValue (moves before)
      → AllSetAre IsValue (moves (x ∷ before))
  logged : (d : ℕ) (entries : List Entry) → length (sent_log d entries) ≡ slot_of (moves entries)

-- each slot that ended has its place in the log
pub logged_texts : (d : ℕ) (entries : List Entry) → length (sent_log d entries) ≡ slot_of (text_moves entries)
logged_texts d [] = refl
logged_texts d (x ∷ before) = grind (arith, logged_texts d before)

-- a free slot ended
pub free_before : (told : List Entry) (s : ℕ) → IsFreeIn told s → s < slots_in told
free_before [] s f = absurd f
free_before (x ∷ before) s f = grind (arith, free_before before s)

text_service : IsService IsText text_moves
text_service = search (arith, logged_texts, longer)
  where
    longer : (x : Entry) (before : List Entry)
        → (told : List Move) × (text_moves (x ∷ before) ≡ told ++ text_moves before)
    longer Restart before = (Begin ∷ [], refl)
    longer (SetText x) before = (Set x ∷ [], refl)
    longer (Tick free) before = (End free ∷ [], refl)
    longer _ before = ([], refl)

-- the log is as long as the moves of names
pub logged_names : (d : ℕ) (entries : List Entry) → length (sent_log d entries) ≡ slot_of (name_moves entries)
logged_names d [] = refl
logged_names d (x ∷ before) = grind (arith, logged_names d before)

name_service : IsService IsName name_moves
name_service = search (arith, logged_names, longer)
  where
    longer : (x : Entry) (before : List Entry)
        → (told : List Move) × (name_moves (x ∷ before) ≡ told ++ name_moves before)
    longer Restart before = (Begin ∷ [], refl)
    longer (SetName x) before = (Set x ∷ [], refl)
    longer (Tick free) before = (End free ∷ [], refl)
    longer _ before = ([], refl)

-- a mark of the log, with its slot, and the entries before its end and since
record WasSentIn (of : Option Message → Mark) (moves : List Entry → List Move) (d : ℕ) (entries : List Entry) (slot : ℕ)
    (mark : Mark) : Type 0 where
  free : Bool
  before : List Entry
  is : mark ≡ of (sent_in d free before)
  reached : slot_of (moves before) ≡ slot
  past : slot + 1 ≤ slot_of (moves entries)
  since : List Move
  told : moves entries ≡ since ++ End free ∷ moves before

module _ (IsValue : List ℕ → Type 0) (of : Option Message → Mark) (moves : List Entry → List Move)
    (service : IsService IsValue moves) where
  values_set : (entries : List Entry) → AllByRecursion IsValid entries → AllSetAre IsValue (moves entries)
  values_set [] valid = subst (AllSetAre IsValue) (sym service.none) tt
  values_set (x ∷ before) valid = service.values x before valid.0 (values_set before valid.1)

  began_by : (laws : EncoderLaws) (d : ℕ) (entries : List Entry) → EndsASlot entries
      → IfSome (on_air d (moves entries)) (λ (air : OnAir). air.start ≤ slot_of (moves entries) - 1)
  began_by laws d entries ended = grind (arith)

  marked : (d : ℕ) (entries : List Entry) → length (marks of (sent_log d entries)) ≡ slot_of (moves entries)
  marked d entries = grind (arith, marks_long of (sent_log d entries))

  -- an entry that is not the end of a slot keeps what was sent
  sent_before : (d : ℕ) (x : Entry) (before : List Entry) (slot : ℕ) (mark : Mark)
      → slot_of (moves before) ≤ slot_of (moves (x ∷ before)) → WasSentIn of moves d before slot mark
      → WasSentIn of moves d (x ∷ before) slot mark
  sent_before d x before slot mark rises w =
      let more = service.longer x before in
      record {
        free = w.free;
        before = w.before;
        is = w.is;
        reached = w.reached;
        past = omega (arith, w.past, rises);
        since = more.0 ++ w.since;
        told = more.1 ∙ ap (λ (h : List Move). more.0 ++ h) w.told ∙ sym (append_assoc more.0 w.since _);
      }

  -- an entry that adds nothing to the log stays in its slot
  same_slot : (d : ℕ) (x : Entry) (before : List Entry) → sent_log d (x ∷ before) ≡ sent_log d before
      → slot_of (moves before) ≤ slot_of (moves (x ∷ before))
  same_slot d x before same = grind (arith, service.logged d before, service.logged d (x ∷ before))

  sent_in_slot : (d : ℕ) (entries : List Entry) (slot : ℕ) (mark : Mark)
      → IsMarkIn (marks of (sent_log d entries)) slot mark → WasSentIn of moves d entries slot mark
  sent_in_slot d [] slot mark sent = absurd sent
  sent_in_slot d (x ∷ before) slot mark sent =
      search (arith, sent_in_slot d before slot mark, sent_before, same_slot, marked)

  -- the broadcast on air in that slot is planned
  planned_then : (laws : EncoderLaws) (d : ℕ) (entries : List Entry) (slot : ℕ) (mark : Mark)
      (w : WasSentIn of moves d entries slot mark) (air : OnAir)
      → on_air d (moves w.before) ≡ Some air
      → HasOnAir (plan_of d (slot_of (moves entries) - 1) (moves entries)) air slot
  planned_then laws d entries slot mark w air on = grind arith

  plan_spaced : (laws : EncoderLaws) (d : ℕ) (entries : List Entry) → 0 < d → RestartsComeFirst (moves entries)
      → EndsASlot entries → IsSpaced d (plan_of d (slot_of (moves entries) - 1) (moves entries))
  plan_spaced laws d entries some first ended = search (arith, began_by)

  plan_values : (laws : EncoderLaws) (d : ℕ) (entries : List Entry) → AllByRecursion IsValid entries
      → (k : ℕ) (b : Broadcast) → HasNumber (plan_of d (slot_of (moves entries) - 1) (moves entries)) k b
      → IsValue b.bytes
  plan_values laws d entries valid k b n = grind (arith, accepted_value, values_set)

-- a broadcast that was on air when a segment of it was sent has the fragment
has_fragment : (kind : Kind) → ((x : List ℕ) (p : Fragment) → IsFragmentOf (kind.body x) p → kind.HasPart x p)
    → (slot : ℕ) (p : Fragment) (plan : List Broadcast) (air : OnAir)
    → IsSegmentOf kind.body p.flag p.address p.bytes air → HasOnAir plan air slot
    → HasOne plan (HasFragment kind slot p)
has_fragment kind part slot p plan air segment has = grind arith

has_tags : (d slot : ℕ) (pair : PairFields) (plan : List Broadcast) (air : OnAir) → air.start + d ≤ slot
    → BothEndIn (length air.bytes) pair → HasOnAir plan air slot → HasOne plan (HasTags d slot pair)
has_tags d slot pair plan air lasted ends has = grind arith

-- a mark determines its message
text_of_mark : (sent : Option Message) (p : Fragment) → Sends p ≡ text_mark sent
    → sent ≡ Some (Text p.flag p.address p.bytes)
text_of_mark sent p e = grind arith

name_of_mark : (sent : Option Message) (p : Fragment) → Sends p ≡ name_mark sent
    → sent ≡ Some (Name p.flag p.address p.bytes)
name_of_mark sent p e = grind arith

tags_of_mark : (sent : Option Message) (pair : PairFields) → Tagged pair ≡ text_mark sent → sent ≡ Some (Tags pair)
tags_of_mark sent pair e = grind arith

no_tags_of_names : (sent : Option Message) (pair : PairFields) → Tagged pair ≡ name_mark sent → ⊥
no_tags_of_names sent pair e = grind arith

-- each pair of tags that was sent has its broadcast
pub each_pair : EncoderLaws → EachPairHasItsBroadcast
each_pair laws d told some slots slot pair sent =
    let w = sent_in_slot IsText text_mark text_moves text_service d told slot (Tagged pair) sent in
    let air = laws.tags d w.free w.before pair (tags_of_mark (sent_in d w.free w.before) pair w.is) in
    let own = laws.ends d w.before pair air.2 in
    search (arith, planned_then, text_service, has_tags)

texts_lawful : EncoderLaws → (d : ℕ) (told : List Entry) → 0 < d → AreEndedSlots told
    → IsLawful d texts (station_plans d told).text (marks text_mark (sent_log d told))
texts_lawful laws d told some slots = record {
  spaced = plan_spaced IsText text_mark text_moves text_service laws d told some slots.texts slots.ended;
  values = plan_values IsText text_mark text_moves text_service laws d told slots.valid;
  fragments = fragments;
  tags = λ slot pair sent after. each_pair laws d told some slots slot pair sent;
}
  where
    fragments : (slot : ℕ) (p : Fragment) → IsMarkIn (marks text_mark (sent_log d told)) slot (Sends p)
        → HasOne (station_plans d told).text (HasFragment texts slot p)
    fragments slot p sent =
        let w = sent_in_slot IsText text_mark text_moves text_service d told slot (Sends p) sent in
        let air = laws.text d w.free w.before p.flag p.address p.bytes (text_of_mark _ p w.is) in
        let planned = planned_then IsText text_mark text_moves text_service laws d told slot (Sends p) w air.0 air.1 in
        grind (arith, has_fragment texts (λ x p is. is) slot p (station_plans d told).text air.0 air.2)

names_lawful : EncoderLaws → (d : ℕ) (told : List Entry) → 0 < d → AreEndedSlots told
    → IsLawful d names (station_plans d told).name (marks name_mark (sent_log d told))
names_lawful laws d told some slots = record {
  spaced = plan_spaced IsName name_mark name_moves name_service laws d told some slots.names slots.ended;
  values = plan_values IsName name_mark name_moves name_service laws d told slots.valid;
  fragments = fragments;
  tags = λ slot pair sent after. absurd (no_tags_of_names _ pair (sent_in_slot IsName name_mark name_moves name_service d told
      slot (Tagged pair) sent).is);
}
  where
    fragments : (slot : ℕ) (p : Fragment) → IsMarkIn (marks name_mark (sent_log d told)) slot (Sends p)
        → HasOne (station_plans d told).name (HasFragment names slot p)
    fragments slot p sent =
        let w = sent_in_slot IsName name_mark name_moves name_service d told slot (Sends p) sent in
        let air = laws.name d w.free w.before p.flag p.address p.bytes (name_of_mark _ p w.is) in
        let planned = planned_then IsName name_mark name_moves name_service laws d told slot (Sends p) w air.0 air.1 in
        grind (arith, has_fragment names (λ x p is. is) slot p (station_plans d told).name air.0 air.2)

pub lawful_station : EncoderLaws → TheEncoderIsLawful
lawful_station laws d told some slots = grind (arith, texts_lawful, names_lawful)
