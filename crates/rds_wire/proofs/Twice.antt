-- The wire law for receivers that show only what they heard twice.
use Rattle.std.proofs.lemmas.List.{length-map}
use Rattle.std.proofs.Common.{◌≡◌, ◌⊎◌, ◌+◌, ◌∷◌, [], ℕ, List, Option, None, Some, arith, inl, inr, length, map, refl}
use Rattle.std.proofs.Common.{◌<◌, ◌∙◌, zero, suc, Bool, false, add-one, subst, sym, ap}
use Rattle.std.specs.List.{AllZip}
use Rattle.rds_block.specs.declared.group.Group.{Group}
use Rattle.rds_fields.specs.declared.message.Message.{Message}
use Rattle.rds_receiver.specs.Receipts.{heard_of, Tuning}
use Rattle.rds_safety.specs.Confirmed.{WasSent, IsHeardWithWrong, ListensConfirmed, confirmed_input, lateness_of_two}
use Rattle.rds_safety.specs.Late.{HasEntry, InputOf, IsHeardInOrder, IsHeardLate, own_origins, Input}
use Rattle.rds_safety.proofs.Entries.{before_end}
use Rattle.rds_wire.specs.Received.{WhoLosesSlotsReceives, first_entries, own_group}
use Rattle.rds_wire.specs.Twice.{WhoLosesSlotsReceivesForTwo, HasMessages, IsReceivedWithWrong, IsSafeIfHeardTwice}
use Rattle.rds_wire.specs.Twice.{WhatIsEncodedIsSafeIfHeardTwice, WhatPassesIsSafeIfHeardTwice}
use Rattle.rds_wire.proofs.Receiving.{entry_in_first, entry_of_first, first_length, entry_left, late_groups, own_heard}
use Rattle.rds_wire.proofs.Receiving.{displays_long, lawful_first, mark_in_first, newest_view, plain_view, view_in}
use Rattle.rds_wire.proofs.Wired.{entry_at, EncoderLaws, log_of_script, shown, tagged}
use Rattle.std.proofs.lemmas.Bool.{cases_lt}
use Rattle.rds_receiver.specs.OneView.{same_view}
use Rattle.rds_receiver.specs.Shown.{IsView, ShownView}
use Rattle.rds_receiver.specs.declared.why.Whys.{Whys}
use Rattle.rds_view_lines.specs.Output.{Display, newest}
use Rattle.rds_view_lines.specs.ViewParts.{line_in, part_content, Part}
use Rattle.rds_log.specs.LogWrites.{AreDisplays}
use Rattle.rds_wire.specs.Mixes.{AMixIsShown}
use Rattle.rds_wire.proofs.Reading.{In, are_lines, contains_from_in, in_older, in_slot, is_same_part, lines_of}
use Rattle.rds_wire.proofs.Reading.{AreTagsUpTo, IsContentOf, shown_safely}
use Rattle.rds_witness.specs.Lines.{content_of, part_of}
use Rattle.rds_witness.specs.Lost.{got}
use Rattle.rds_witness.specs.Mix.{Has, IsNew, ViewHas, Thing}
use Rattle.rds_witness.specs.declared.burst.Burst.{Burst}
use Rattle.rds_witness.proofs.Rulings.{got_long}
use Rattle.rds_script.proofs.Periods.{one_tag, one_text}
use Rattle.std.proofs.lemmas.List.Elements.{All-cons, All-nil}
use Rattle.rds_fields.specs.Tag.{PairFields}
use Rattle.rds_safety.specs.ConfirmedLaws.{LawfulPlansAreSafeConfirmed}
use Rattle.rds_safety.specs.Laws.{ARunHasOneSource}
use Rattle.rds_safety.specs.Marks.{IsMarkIn, Tagged, marks, text_mark}
use Rattle.rds_safety.specs.Lawful.{texts}
use Rattle.rds_safety.specs.Plans.{AreLawful}
use Rattle.rds_safety.specs.Safe.{Listener}
use Rattle.rds_world.specs.Slots.{log as log_of}
use Rattle.rds_audit.specs.AuditLaws.{WhatPassesIsSafe}
use Rattle.rds_audit.specs.declared.text_form.TextForm.TheVariants.{Plain}
use Rattle.rds_lines.specs.LogSlots.{IsLogOf}
use Rattle.rds_lines.specs.OneLog.{same_log}
use Rattle.rds_wire.specs.Printed.{Prints, Shows}
use Rattle.rds_wire.specs.Safe.{StationPlans}
use Rattle.rds_wire.specs.Wire.{aired, planned}
use Rattle.rds_wire.proofs.Logs.{is_log_of}

-- ---- inputs on time

origins_long : {X : Type 0} (got : List (Option X)) → length (own_origins 0 got) ≡ length got
origins_long [] = refl
origins_long (x ∷ before) = grind (arith, origins_long before)

-- the entry and its origin are nothing, or the origin is the slot itself
beside : {X : Type 0} (got : List (Option X)) (t : ℕ) (origin : Option ℕ) (entry : Option X)
    → HasEntry 0 (own_origins 0 got) t origin → HasEntry 0 got t entry
    → ((origin ≡ None) × (entry ≡ None)) ⊎ ((origin ≡ Some t) × ((x : X) × (entry ≡ Some x)))
beside [] t origin entry p q = absurd q
beside (None ∷ before) t origin entry p q = grind (arith, beside before t origin entry, origins_long, before_end)
beside (Some x ∷ before) t origin entry p q = grind (arith, beside before t origin entry, origins_long, before_end)

own : {X : Type 0} (got : List (Option X)) (t s : ℕ) → HasEntry 0 (own_origins 0 got) t (Some s) → s ≡ t
own [] t s from = absurd from
own (x ∷ before) t s here = grind (arith, own before t s, origins_long)

-- an input that has in each slot the entry of the log, or nothing, is heard with any lateness
on_time_is_late : {X : Type 0} (k : ℕ) (sent got : List (Option X))
    → ((t : ℕ) (entry : Option X) → HasEntry 0 got t entry → (entry ≡ None) ⊎ HasEntry 0 sent t entry)
    → IsHeardLate k sent record { first = 0; heard = got; origins = own_origins 0 got }
on_time_is_late {X = X} k sent got all = grind (arith, beside, origins_long, own)

-- ---- groups of the programme

-- an entry of a mapped list
pub entry_of_map : {A B : Type 0} (f : A → B) (xs : List A) (t : ℕ) (y : B) → HasEntry 0 (map f xs) t y
    → (x : A) × HasEntry 0 xs t x × (y ≡ f x)
entry_of_map f [] t y at = absurd at
entry_of_map f (x ∷ xs) t y (inl here) = (x, inl (omega (arith, here.0, length-map xs f), refl), here.1)
entry_of_map f (x ∷ xs) t y (inr there) = (let it = entry_of_map f xs t y there in (it.0, inr it.1, it.2))

own_or_none : (pi : ℕ) (slot : Option Group) → (own_group pi slot ≡ None) ⊎ (own_group pi slot ≡ slot)
own_or_none pi slot = grind arith

-- a log that lost slots was heard with any lateness
lost_is_late : (pi k n : ℕ) (sent got : List (Option Group))
    → AllZip (λ (group slot : Option Group). (slot ≡ None) ⊎ (slot ≡ group)) sent got
    → IsHeardLate k sent record {
      first = 0;
      heard = map (own_group pi) (first_entries n got);
      origins = own_origins 0 (map (own_group pi) (first_entries n got));
    }
lost_is_late pi k n sent got lost = on_time_is_late k sent (map (own_group pi) (first_entries n got)) each
  where
    each : (u : ℕ) (entry : Option Group) → HasEntry 0 (map (own_group pi) (first_entries n got)) u entry
        → (entry ≡ None) ⊎ HasEntry 0 sent u entry
    each u entry at =
        let x = entry_of_map (own_group pi) (first_entries n got) u entry at in
        let kept = entry_left (λ (group slot : Option Group). (slot ≡ None) ⊎ (slot ≡ group)) 0 sent got u x.0 lost
        (entry_in_first n got u x.0 x.1).0 in
        grind (arith, own_or_none pi x.0)

-- so it is received
pub lost_is_received : WhoLosesSlotsReceives
lost_is_received a log got t loses reached = record {
  sent = loses.sent;
  log_has = loses.log_has;
  reached = reached;
  few = loses.few;
  origins = own_origins 0 (map (own_group a.pi) (first_entries (t + 1) got));
  came = inl (lost_is_late a.pi a.late (t + 1) loses.sent got loses.lost, refl);
}

-- ---- without a wrong message

-- each message that was heard in order was sent
heard_was_sent : (log heard : List (Option Message)) (origins : List (Option ℕ)) (t : ℕ) (message : Message)
    → IsHeardInOrder log record { first = 0; heard = heard; origins = origins } → HasEntry 0 heard t (Some message)
    → WasSent record { first = 0; heard = heard; origins = origins } t
heard_was_sent log heard origins t message order at =
    let beside = order.beside in
    let it = entry_at origins t (omega (arith, beside, before_end 0 heard t (Some message) at)) in
    by it.0 it.1
  where
    by : (origin : Option ℕ) → HasEntry 0 origins t origin
        → WasSent record { first = 0; heard = heard; origins = origins } t
    by None from = (let none = order.each t None (Some message) from at in absurd (cc))
    by (Some s) from = record { slot = s; from = from }

-- so it is received as a log with wrong messages
pub lost_is_received_for_two : WhoLosesSlotsReceivesForTwo
lost_is_received_for_two n pi w k log got t loses reached =
    let some = first_entries (t + 1) got in
    let groups : InputOf Group = record {
      first = 0;
      heard = map (own_group pi) some;
      origins = own_origins 0 (map (own_group pi) some);
    } in
    let late = late_groups pi k k loses.sent (heard_of pi loses.sent) (heard_of pi some) groups refl
    (own_heard pi some (heard_of pi some) refl) (omega arith) (lost_is_late pi k (t + 1) loses.sent got loses.lost) in
    record {
      sent = heard_of pi loses.sent;
      log_has = record { slots = loses.sent; has = loses.log_has; heard = refl };
      reached = reached;
      few = loses.few;
      origins = groups.origins;
      late = record {
        beside = late.order.beside;
        each = λ u s entry from at. late.order.each u (Some s) entry from at;
        rising = late.order.rising;
        past = late.past;
        late = late.late;
      };
      once = λ u v message two before near p q. inl
          (heard_was_sent (heard_of pi loses.sent) (heard_of pi some) groups.origins u message late.order p);
    }

-- ---- a mix of `witness` is a line of `decode`, so the output shows it

-- the part of a view that has the thing has its content
content_is : (thing : Thing) (whys : Option Whys) (view : ShownView) → Has view thing
    → part_content (part_of thing) whys view ≡ content_of thing
content_is thing whys view has = grind arith

-- it is not the part of a view that does not show the thing
is_new : (thing : Thing) (before now : ShownView) → (ViewHas before thing → ⊥) → Has now thing
    → is_same_part (part_of thing) before now ≡ false
is_new thing before now isnt has = grind (arith, is_same_part, one_text, one_tag)

-- the line of the thing is one of the lines of the displays
has_line : (why : Bool) (t : Tuning) (log : List (Option Group)) (lost : List Burst) (slot : ℕ) (thing : Thing) (n : ℕ)
    (displays : List Display) → IsNew t log lost slot thing → slot < n → AreDisplays 0 why t (got lost log n) displays
    → In (line_in slot (part_of thing) (content_of thing)) (lines_of displays)
unfolding got
has_line why t log lost slot thing zero displays new less are = absurd (omega arith)
has_line why t log lost slot thing (suc n) [] new less are = absurd are
has_line why t log lost slot thing (suc n) (d ∷ older) new less are =
    let line = line_in slot (part_of thing) (content_of thing) in
    elim (cases_lt slot n) [
      | inl before ↦
          in_older line (length older) (newest older) d (lines_of older)
          (has_line why t log lost slot thing n older new before are.1)
      | inr from ↦ (
          let here : slot ≡ n = omega arith in
          let count : length older ≡ n = sym (displays_long 0 why t (got lost log n) older are.1) ∙ got_long lost log n in
          let was : IsView t (got lost log n) new.before =
          subst (λ (k : ℕ). IsView t (got lost log k) new.before) here new.was in
          let is : IsView t (got lost log (n + 1)) new.after =
          subst (λ (k : ℕ). IsView t (got lost log (k + 1)) new.after) here new.is in
          let is_next : IsView t (got lost log (suc n)) new.after =
          subst (λ (k : ℕ). IsView t (got lost log k) new.after) (add-one n) is in
          let old : newest older ≡ new.before =
          same_view t (got lost log n) (newest older) new.before
          (newest_view why t (got lost log n) older are.1) was in
          let now : d.view ≡ new.after = same_view t (got lost log (suc n)) d.view new.after
          (plain_view t (got lost log (suc n)) d.view are.0.view) is_next in
          let isnt : ViewHas (newest older) thing → ⊥ =
          subst (λ (v : ShownView). ViewHas v thing → ⊥) (sym old) new.not_shown in
          let has : Has d.view thing = subst (λ (v : ShownView). Has v thing) (sym now) new.has in
          let place : length older ≡ slot = count ∙ sym here in
          subst (λ (k : ℕ). In (line_in k (part_of thing) (content_of thing)) (lines_of (d ∷ older))) place
          (subst (λ (l : List ℕ). In (line_in (length older) (part_of thing) l) (lines_of (d ∷ older)))
          (content_is thing d.whys d.view has)
          (in_slot (part_of thing) (length older) (newest older) d (lines_of older)
          (is_new thing (newest older) d.view isnt has))))
    ]

-- the output shows a mix in its slot
pub mix_is_shown : AMixIsShown
mix_is_shown why t ahead log lost slot thing displays mix are = inl (record {
  lines = lines_of displays;
  are = are_lines displays _ refl;
  slot = slot;
  past = omega arith;
  line = contains_from_in (line_in slot (part_of thing) (content_of thing)) (lines_of displays)
      (has_line why t log lost slot thing (length log) displays mix.new mix.inside are);
  newest = λ u other after upto is. omega (arith, after, upto);
})

-- ---- the wire law for receivers that show only what they heard twice

-- bytes are heard as one list of messages
same_messages : (n pi : ℕ) (log : List ℕ) (one other : List (Option Message)) → HasMessages n pi log one
    → HasMessages n pi log other → one ≡ other
same_messages n pi log one other p q =
    p.heard ∙ ap (heard_of pi) (same_log n log p.slots q.slots p.has q.has) ∙ sym q.heard

-- the laws of the crates below
pub record TwiceLaws : Type 0 where
  pub safe : LawfulPlansAreSafeConfirmed
  pub source : ARunHasOneSource

module _ (n pi m w k : ℕ) (log : List ℕ) (sent : List (Option Message)) (is : HasMessages n pi log sent)
    (received printed : List ℕ) (t : ℕ) (p : Prints n pi m (Some w) received printed)
    (r : IsReceivedWithWrong n pi w k log p.write.slots t) where
  abbrev tuning : Tuning
  tuning = record { programme = pi; dwell = m; window = Some w; first = 0 }

  display : (d : Display) × HasEntry 0 p.write.write.displays t d
  display =
      let reached = r.reached in
      entry_at p.write.write.displays t
      (omega (arith, reached, displays_long 0 p.why tuning p.write.slots _ p.write.write.are))

  abbrev heard : List (Option Message)
  heard = heard_of pi (first_entries (t + 1) p.write.slots)

  abbrev raw : Input
  raw = record { first = 0; heard = heard; origins = r.origins }

  abbrev listener : Listener
  listener = record { input = confirmed_input w m raw; view = display.0.view }

  long : length heard ≡ t + 1
  long = grind (arith, length-map, first_length)

  heard_first : IsHeardWithWrong k (first_entries (t + 1) sent) raw
  heard_first =
      let late = r.late in
      let same = same_messages n pi log r.sent sent r.log_has is in
      let beside = late.beside in
      record {
        beside = late.beside;
        each = λ u s entry from at.
            let past = late.past u s from in
            let below = before_end 0 r.origins u (Some s) from in
            entry_of_first (t + 1) sent s entry
            (subst (λ (l : List (Option Message)). HasEntry 0 l s entry) same (late.each u s entry from at))
            (omega (arith, past, below, beside, long));
        rising = late.rising;
        past = late.past;
        late = late.late;
      }

  listens : ListensConfirmed w k m t (first_entries (t + 1) sent) listener
  listens =
      record {
        raw = raw;
        heard = heard_first;
        once = r.once;
        now = omega (arith, long);
        confirmed = refl;
        shows = (view_in p.why tuning p.write.slots p.write.write.displays t display.0 p.write.write.are display.1).0;
      }

  shows : (part : Part) (content : List ℕ) → Shows printed t part content → IsContentOf part display.0.view content
  shows part content sh =
      let few = r.few in
      shown p.write.write.displays printed t part content display.0 p.write.write.changes
      (omega (arith, few, displays_long 0 p.why tuning p.write.slots _ p.write.write.are)) display.1 sh

-- a log with lawful plans is safe for such receivers
lawful_is_safe_twice : TwiceLaws → (n pi m w k : ℕ) (log : List ℕ) (sent : List (Option Message)) (air : StationPlans)
    → HasMessages n pi log sent → AreLawful (m + lateness_of_two w k) air.plans sent
    → ((slot : ℕ) (pair : PairFields) → IsMarkIn (marks text_mark sent) slot (Tagged pair) → air.HasTags slot pair)
    → IsSafeIfHeardTwice n pi m w k log air
lawful_is_safe_twice laws n pi m w k log sent air is lawful tags x p y q t one other ra rb =
    let d = m + lateness_of_two w k in
    let r = listener n pi m w k log sent is x p t one ra in
    let s = listener n pi m w k log sent is y q t other rb in
    let Listens = ListensConfirmed w k m t (first_entries (t + 1) sent) in
    let lr : Listens r = listens n pi m w k log sent is x p t one ra in
    let ls : Listens s = listens n pi m w k log sent is y q t other rb in
    shown_safely laws.source d m t air (first_entries (t + 1) sent) r s (Shows p t) (Shows q t) upto lawful.text.spaced
    (laws.safe w k m t air.plans (first_entries (t + 1) sent) (r ∷ s ∷ []) (lawful_first texts d (t + 1) air.plans sent
    lawful)
    (All-cons Listens r (s ∷ []) lr (All-cons Listens s [] ls (All-nil Listens)))) lr.shows ls.shows
    (shows n pi m w k log sent is x p t one ra) (shows n pi m w k log sent is y q t other rb)
  where
    upto : AreTagsUpTo t air (marks text_mark (first_entries (t + 1) sent))
    upto slot pair mark =
        let it = mark_in_first text_mark (t + 1) sent slot (Tagged pair) mark in
        (tags slot pair it.0, omega (arith, it.1))

-- the law of scripts for receivers that show only what they heard twice
pub encoded_is_safe_twice : TwiceLaws → EncoderLaws → WhatIsEncodedIsSafeIfHeardTwice
encoded_is_safe_twice laws encoder n head m w k script log may is_head some encoded =
    let late = lateness_of_two w k in
    let events = encoded.write.events in
    let has = log_of_script encoder n head m late script log may is_head some encoded in
    lawful_is_safe_twice laws n head.pi m w k log (log_of (m + late) events) (aired (m + late) events)
    (record { slots = has.sent; has = is_log_of n log has.sent has.cut; heard = has.heard }) has.lawful
    (λ slot pair is. (tagged encoder.tags (m + late) events slot pair is).0)

-- the law of audits for them
pub passed_is_safe_twice : TwiceLaws → WhatPassesIsSafe → WhatPassesIsSafeIfHeardTwice
passed_is_safe_twice laws audits n pi m w k slots stop log some whole =
    let messages = heard_of pi whole.slots in
    let passed = audits Plain m (lateness_of_two w k) messages some whole.pass.passes in
    let is : IsLogOf n log whole.slots = record { lines = whole.lines; are = whole.are; say = whole.say } in
    let has : HasMessages n pi log messages = record { slots = whole.slots; has = is; heard = refl } in
    record {
      messages = messages;
      has = has;
      plans = passed.plans;
      lawful = passed.lawful;
      safe = lawful_is_safe_twice laws n pi m w k log messages
          (planned passed.plans messages)
          has passed.lawful (λ slot pair mark. mark);
    }
