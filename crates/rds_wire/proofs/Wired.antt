-- The wire laws.
use Rattle.std.proofs.Common.{◌≡◌, ◌<◌, ◌+◌, ◌-◌, ◌∷◌, [], ◌∙◌, ℕ, suc, true, List, Option, Some, ap, arith, length}
use Rattle.std.proofs.Common.{length-append, replicate, refl, ◌^◌, None, inl, inr, map, subst, sym, All, Contains}
use Rattle.std.proofs.lemmas.List.{length-replicate, length-map}
use Rattle.std.proofs.lemmas.List.Elements.{All-append, All-from_get_or, All-get_or, All-replicate, All-cons, All-nil}
use Rattle.rds_assembly.specs.Body.{name_body, space}
use Rattle.rds_assembly.specs.Value.{IsGivenName, IsName, is_name_byte}
use Rattle.rds_fields.specs.declared.message.Message.{Message}
use Rattle.rds_fields.specs.Tag.{PairFields}
use Rattle.rds_encoder.specs.Laws.{TagsAreOfTheTextOnAir}
use Rattle.rds_encoder.specs.Tags.{pair_on_air}
use Rattle.rds_receiver.specs.Receipts.{AreHeard, heard_of, tuned}
use Rattle.rds_safety.specs.Marks.{IsMarkIn, Tagged, marks, text_mark}
use Rattle.rds_safety.specs.Plans.{AreLawful, AreLawfulAs}
use Rattle.rds_safety.proofs.Entries.{marks_long, before_end}
use Rattle.rds_script.specs.Outcomes.{AreOutcomes, Outcome}
use Rattle.rds_script.specs.Rows.{AreRows, Record, SaysCommand}
use Rattle.rds_world.specs.Event.{Event}
use Rattle.rds_world.specs.Slots.{SetValues, SetsAValue, entries, log, plans_of, log as log_of}
use Rattle.rds_world.specs.State.{distance}
use Rattle.rds_world.specs.Station.{SlotsOfAWorldAreSlots, TheEncoderIsLawful}
use Rattle.rds_world.specs.declared.event.Command.{Command}
use Rattle.rds_world.specs.declared.world.Config.{Config}
use Rattle.rds_wire.specs.Received.{first_entries, IsReceived, own_group}
use Rattle.rds_wire.proofs.Receiving.{first_all, first_more, first_length, preceded_first, settled_first, ClockLaws}
use Rattle.rds_wire.proofs.Receiving.{by_own_clock, own_heard, displays_long, lawful_first, mark_in_first, view_in}
use Rattle.rds_wire.proofs.Logs.{HasNoReceivers, groups_sent, HasCut, encoded_cut, is_log_of}
use Rattle.rds_world.proofs.Received.{hears_sent}
use Rattle.std.proofs.lemmas.Bool.{cases_lt}
use Rattle.rds_block.specs.declared.group.Group.{Group}
use Rattle.rds_fields.specs.TagGroup.{MayCarryTags}
use Rattle.rds_fields.specs.declared.head.Head.{Head}
use Rattle.rds_receiver.specs.Shown.{IsView}
use Rattle.rds_safety.specs.Late.{HasEntry}
use Rattle.rds_safety.specs.Laws.{ARunHasOneSource, LawfulPlansAreSafeByOwnClocksAs}
use Rattle.rds_safety.specs.OwnClock.{ListensByOwnClock}
use Rattle.rds_audit.specs.Forms.{text_kind}
use Rattle.rds_audit.specs.declared.text_form.TextForm.{TextForm}
use Rattle.rds_audit.specs.declared.text_form.TextForm.TheVariants.{Plain}
use Rattle.rds_safety.specs.Safe.{Listener}
use Rattle.rds_audit.specs.AuditLaws.{PlansOfARecordingAreSafe, WhatPassesAsARecordingIsSafe, WhatPassesIsSafe, later}
use Rattle.rds_audit.specs.Recording.{from_first_text, preceded}
use Rattle.rds_audit.specs.declared.log_start.LogStart.{LogStart}
use Rattle.rds_audit.specs.declared.log_start.LogStart.TheVariants.{Complete, Running}
use Rattle.rds_view_lines.specs.Output.{Display, changes_of}
use Rattle.rds_view_lines.specs.ViewParts.{Part, line_in}
use Rattle.rds_log.specs.Audit.{WholePasses, spacing}
use Rattle.rds_lines.specs.LogSlots.{IsLogOf}
use Rattle.rds_lines.specs.OneLog.{same_lines, same_log}
use Rattle.rds_log.specs.declared.audit_log.Auditing.{Auditing}
use Rattle.rds_log.specs.declared.audit_log.Stop.{Stop}
use Rattle.rds_log.specs.declared.audit_log.Stop.TheVariants.{FirstFault}
use Rattle.rds_script.specs.Play.{with_form}
use Rattle.rds_script.specs.declared.form.Form.TheVariants.{Log}
use Rattle.rds_wire.specs.Printed.{Prints, Shows}
use Rattle.rds_wire.specs.Safe.{StationPlans}
use Rattle.rds_wire.specs.Wire.{Encodes, HasSafePlans, IsHead, IsSafeOnTheWire, WhatIsEncodedIsSafeOnTheWire}
use Rattle.rds_wire.specs.Wire.{WhatPassesIsSafeOnTheWire, aired, planned, station_of}
use Rattle.rds_wire.proofs.Reading.{In, are_lines, contains_from_in, in_from_contains, line_shows, lines_of, stays}
use Rattle.rds_wire.proofs.Reading.{unshown, AreTagsUpTo, IsContentOf, shown_safely}
use Rattle.rds_fields.specs.declared.message.Message.TheVariants as message

-- ---- rows

-- eight bytes of a name
name_given : (given : List ℕ) → IsGivenName given → IsName (name_body given)
name_given given is = (
  long,
  record {
    at_most = omega (arith, long);
    bytes = λ i h. All-get_or (λ x. x < 256)
        (name_body given) i 0 h bytes;
    allowed =
        λ i h. All-get_or (λ x. is_name_byte x ≡ true) (name_body given) i 0 h allowed;
  },
)
  where
    long : length (name_body given) ≡ 8
    long = length-append given (replicate (8 - length given) space)
        ∙ omega (arith, length-replicate (8 - length given) space, is.at_most)

    bytes : All (λ x. x < 256) (name_body given)
    bytes = All-append (λ x. x < 256) given (replicate (8 - length given) space)
        (All-from_get_or (λ x. x < 256) given 0 is.bytes)
        (All-replicate (λ x. x < 256) (8 - length given) space (omega arith))

    allowed : All (λ x. is_name_byte x ≡ true) (name_body given)
    allowed = All-append (λ x. is_name_byte x ≡ true) given (replicate (8 - length given) space)
        (All-from_get_or (λ x. is_name_byte x ≡ true) given 0 is.allowed)
        (All-replicate (λ x. is_name_byte x ≡ true) (8 - length given) space refl)

sets : (word argument : List ℕ) (c : Command) → SaysCommand word argument c → SetsAValue c
sets word argument c says = grind (arith, name_given)

-- rows set values
pub rows_set : (config : Config) (n : ℕ) (records : List Record) (events : List Event) → AreRows config n records events
    → SetValues events
rows_set config n [] [] are = tt
rows_set config n (row ∷ before) (e ∷ older) are = grind (arith, rows_set config n before older are.2, sets)
rows_set config n _ _ are = absurd are

-- rows without receptions name no receiver
pub rows_name_none : (config : Config) (n : ℕ) (records : List Record) (events : List Event) → n ≡ 0
    → AreRows config n records events → HasNoReceivers events
rows_name_none config n [] [] none are = tt
rows_name_none config n (row ∷ before) (e ∷ older) none are =
    grind (arith, rows_name_none config n before older none are.2)
rows_name_none config n _ _ none are = absurd are

-- ---- outcomes

-- the groups that were sent are those of the log, and receivers of the programme hear its messages
pub groups_are_heard : (config : Config) (events : List Event) (outcomes : List Outcome)
    → AreOutcomes 0 config events outcomes
    → AreHeard config.head.pi (groups_sent outcomes) (log (distance config) events)
groups_are_heard config [] [] are = refl
groups_are_heard config (e ∷ before) (o ∷ older) are =
    grind (arith, groups_are_heard config before older are.1, groups_sent, hears_sent)
groups_are_heard config _ _ are = absurd are

-- the plans of the slots are lawful for their log
pub log_is_lawful : TheEncoderIsLawful → SlotsOfAWorldAreSlots → (d : ℕ) (events : List Event) → 0 < d
    → SetValues events → AreLawful d (plans_of d events) (log d events)
log_is_lawful lawful slots d events some set = grind arith

-- ---- tags on air

tags_of_mark : (sent : Option Message) (pair : PairFields) → Tagged pair ≡ text_mark sent
    → sent ≡ Some (message.Tags pair)
tags_of_mark sent pair e = grind arith

log_long : (d : ℕ) (events : List Event) → length (log d events) ≡ length events
log_long d [] = refl
log_long d (e ∷ before) = ap suc (log_long d before)

-- tags that were sent were on air then
pub tagged : TagsAreOfTheTextOnAir → (d : ℕ) (events : List Event) (slot : ℕ) (pair : PairFields)
    → IsMarkIn (marks text_mark (log d events)) slot (Tagged pair)
    → (pair_on_air d (entries (first_entries (slot + 1) events)) ≡ Some pair) × (slot < length events)
tagged law d [] slot pair is = absurd is
tagged law d (e ∷ before) slot pair here =
    grind (arith, tagged law d before slot pair, marks_long, log_long, tags_of_mark, first_all, first_more)

-- ---- one receiver

-- what the output shows of a part is what the display shows
pub shown : (displays : List Display) (printed : List ℕ) (t : ℕ) (part : Part) (content : List ℕ) (d : Display)
    → printed ≡ changes_of displays → length displays < 2 ^ 64
    → HasEntry 0 displays t d → Shows printed t part content → IsContentOf part d.view content
shown displays printed t part content d is few at (inl s) =
    let same = same_lines printed s.lines (lines_of displays) s.are (are_lines displays printed is) in
    let below = before_end 0 displays t d at in
    let past = s.past in
    let here = line_shows displays s.slot part content (omega (arith, past, below, few)) few
    (subst (λ l. In (line_in s.slot part content) l) same
    (in_from_contains (line_in s.slot part content) s.lines s.line)) in (
      here.0.whys,
      here.2 ∙ sym (stays displays part here.0.whys s.slot t here.0 d s.past here.1 at
          (λ u other after upto is. s.newest u other after upto
          (subst (λ l. Contains l (line_in u part other)) (sym same)
          (contains_from_in (line_in u part other) (lines_of displays) is)))),
    )
shown displays printed t part content d is few at (inr (s, empty)) =
    let same = same_lines printed s.lines (lines_of displays) s.are (are_lines displays printed is) in (
      None,
      empty ∙ sym (unshown displays part t d at
          (λ u other upto is. s.none u other upto
          (subst (λ l. Contains l (line_in u part other)) (sym same)
          (contains_from_in (line_in u part other) (lines_of displays) is)))),
    )

-- each slot has an entry
pub entry_at : {X : Type 0} (xs : List X) (t : ℕ) → t < length xs → (x : X) × HasEntry 0 xs t x
entry_at [] t below = absurd (omega (arith, below))
entry_at (x ∷ older) t below = elim (cases_lt t (length older)) [
  | inl less ↦ (let it = entry_at older t less in (it.0, inr it.1))
  | inr here ↦ (x, inl (omega (arith, here, below), refl))
]

-- the laws of the crates below about all logs
pub record LogLaws : Type 0 where
  pub clocks : ClockLaws
  pub safe : (form : TextForm) → LawfulPlansAreSafeByOwnClocksAs (text_kind form)
  pub recording : PlansOfARecordingAreSafe
  pub source : ARunHasOneSource

module _ (a : Auditing) (log : List ℕ) (sent : List (Option Group)) (messages : List (Option Message)) (now : ℕ)
    (is : IsLogOf a.rtplus log sent) (heard : AreHeard a.pi sent messages) where
  module _ (received printed : List ℕ) (t : ℕ) (p : Prints a.rtplus a.pi a.dwell None received printed)
      (r : IsReceived a log p.write.slots t now) where
    -- the display in slot t
    display : (d : Display) × HasEntry 0 p.write.write.displays t d
    display =
        let reached = r.reached in
        entry_at p.write.write.displays t
        (omega (arith, reached, displays_long 0 p.why (tuned a.pi a.dwell) p.write.slots _ p.write.write.are))

    view : IsView (tuned a.pi a.dwell) (first_entries (t + 1) p.write.slots) display.0.view
    view = (view_in p.why (tuned a.pi a.dwell) p.write.slots p.write.write.displays t display.0 p.write.write.are
        display.1).0

    -- the receiver as one with a clock of its own
    abbrev listener : Listener
    listener = record {
      input = record { first = 0; heard = heard_of a.pi (first_entries (t + 1) p.write.slots); origins = r.origins };
      view = display.0.view;
    }

    listens : ClockLaws → ListensByOwnClock (spacing a) a.dwell now (first_entries (now + 1) messages) listener
    listens laws =
        let got = first_entries (t + 1) p.write.slots in
        let reached = r.reached in
        let long = length-map got (own_group a.pi) ∙ first_length (t + 1) p.write.slots (omega (arith, reached)) in
        let same = same_log a.rtplus log r.sent sent r.log_has is in
        let came = r.came in
        record {
          heard = by_own_clock laws a t now sent (map (own_group a.pi) got) messages (heard_of a.pi got) r.origins heard
              (own_heard a.pi got (heard_of a.pi got) refl) long (rw same at came);
          shows = view;
        }

    shows : (part : Part) (content : List ℕ) → Shows printed t part content
        → IsContentOf part display.0.view content
    shows part content sh =
        let few = r.few in
        shown p.write.write.displays printed t part content display.0 p.write.write.changes
        (omega (arith, few, displays_long 0 p.why (tuned a.pi a.dwell) p.write.slots _ p.write.write.are)) display.1 sh

-- ---- logs with lawful plans

abbrev settings : LogStart → TextForm → Stop → ℕ → ℕ → ℕ → ℕ → Auditing
settings start form stop n pi m k =
    record { pi = pi; rtplus = n; dwell = m; late = k; start = start; form = form; stop = stop }

-- a complete log with lawful plans is safe on the wire
pub lawful_is_safe : LogLaws → (form : TextForm) (stop : Stop) (n pi m k : ℕ) (log : List ℕ)
    (sent : List (Option Group))
    (messages : List (Option Message)) (air : StationPlans) → IsLogOf n log sent → AreHeard pi sent messages
    → AreLawfulAs (text_kind form) (m + k) air.plans messages
    → ((slot : ℕ) (pair : PairFields) → IsMarkIn (marks text_mark messages) slot (Tagged pair) → air.HasTags slot pair)
    → IsSafeOnTheWire (settings Complete form stop n pi m k) log air
lawful_is_safe laws form stop n pi m k log sent messages air is heard lawful tags x p y q t u now one other ra rb =
    let a : Auditing = settings Complete form stop n pi m k in
    let r = listener a log sent messages now is heard x p t one ra in
    let s = listener a log sent messages now is heard y q u other rb in
    let Listens = ListensByOwnClock (m + k) m now (first_entries (now + 1) messages) in
    let lr : Listens r = listens a log sent messages now is heard x p t one ra laws.clocks in
    let ls : Listens s = listens a log sent messages now is heard y q u other rb laws.clocks in
    shown_safely laws.source (m + k) m now air (first_entries (now + 1) messages) r s (Shows p t) (Shows q u) upto
    lawful.text.spaced
    (laws.safe form (m + k) m now air.plans (first_entries (now + 1) messages) (r ∷ s ∷ [])
    (lawful_first (text_kind form) (m + k) (now + 1) air.plans messages lawful)
    (All-cons Listens r (s ∷ []) lr (All-cons Listens s [] ls (All-nil Listens)))) lr.shows ls.shows
    (shows a log sent messages now is heard x p t one ra) (shows a log sent messages now is heard y q u other rb)
  where
    upto : AreTagsUpTo now air (marks text_mark (first_entries (now + 1) messages))
    upto slot pair mark =
        let it = mark_in_first text_mark (now + 1) messages slot (Tagged pair) mark in
        (tags slot pair it.0, omega (arith, it.1))

-- so is the log of a running station, by plans that count from m + k slots before it
pub recording_is_safe : LogLaws → (form : TextForm) (stop : Stop) (n pi m k : ℕ) (log : List ℕ)
    (sent : List (Option Group))
    (messages : List (Option Message)) (air : StationPlans) → IsLogOf n log sent → AreHeard pi sent messages
    → AreLawfulAs (text_kind form) (m + k) air.plans (from_first_text (preceded (m + k) messages))
    → ((slot : ℕ) (pair : PairFields) → IsMarkIn (marks text_mark (preceded (m + k) messages)) slot (Tagged pair)
    → air.HasTags slot pair)
    → IsSafeOnTheWire (settings Running form stop n pi m k) log air
recording_is_safe laws form stop n pi m k log sent messages air is heard lawful tags x p y q t u now one other ra rb =
    let a : Auditing = settings Running form stop n pi m k in
    let r = listener a log sent messages now is heard x p t one ra in
    let s = listener a log sent messages now is heard y q u other rb in
    let Listens = ListensByOwnClock (m + k) m now (first_entries (now + 1) messages) in
    let lr : Listens r = listens a log sent messages now is heard x p t one ra laws.clocks in
    let ls : Listens s = listens a log sent messages now is heard y q u other rb laws.clocks in
    shown_safely laws.source (m + k) m (now + (m + k)) air (preceded (m + k) (first_entries (now + 1) messages))
    (later (m + k) r) (later (m + k) s) (Shows p t) (Shows q u) upto lawful.text.spaced
    (laws.recording form (m + k) m now (m + k) air.plans (first_entries (now + 1) messages) (r ∷ s ∷ []) cut
    (All-cons Listens r (s ∷ []) lr (All-cons Listens s [] ls (All-nil Listens)))) lr.shows ls.shows
    (shows a log sent messages now is heard x p t one ra) (shows a log sent messages now is heard y q u other rb)
  where
    first : ℕ
    first = now + 1 + (m + k)

    cut : AreLawfulAs (text_kind form) (m + k) air.plans (from_first_text (preceded (m + k) (first_entries
        (now + 1) messages)))
    cut =
        subst (λ (l : List (Option Message)). AreLawfulAs (text_kind form) (m + k) air.plans (from_first_text l))
        (preceded_first (m + k) (now + 1) messages)
        (subst (AreLawfulAs (text_kind form) (m + k) air.plans) (settled_first first (preceded (m + k) messages))
        (lawful_first (text_kind form) (m + k) first air.plans (from_first_text (preceded (m + k) messages)) lawful))

    upto : AreTagsUpTo (now + (m + k)) air (marks text_mark (preceded (m + k) (first_entries (now + 1) messages)))
    upto slot pair mark =
        let it = mark_in_first text_mark first (preceded (m + k) messages) slot (Tagged pair)
        (subst (λ (l : List (Option Message)). IsMarkIn (marks text_mark l) slot (Tagged pair))
        (sym (preceded_first (m + k) (now + 1) messages)) mark) in
        (tags slot pair it.0, omega (arith, it.1))

-- ---- scripts

-- the laws about encoders
pub record EncoderLaws : Type 0 where
  pub lawful : TheEncoderIsLawful
  pub slots : SlotsOfAWorldAreSlots
  pub tags : TagsAreOfTheTextOnAir

-- what follows of the log of a script: its slots, what receivers of the programme hear in them, and that this is lawful
pub record HasLog (n : ℕ) (head : Head) (m k : ℕ) (log : List ℕ) (events : List Event) : Type 0 where
  pub sent : List (Option Group)
  pub cut : HasCut n log sent
  pub heard : AreHeard head.pi sent (log_of (m + k) events)
  pub lawful : AreLawful (m + k) (plans_of (m + k) events) (log_of (m + k) events)

-- the log of a script has all that
pub log_of_script : EncoderLaws → (n : ℕ) (head : Head) (m k : ℕ) (script log : List ℕ) → MayCarryTags n
    → IsHead head → 0 < m
    → (encoded : Encodes (with_form (Log n) (station_of head m k)) script log)
    → HasLog n head m k log encoded.write.events
log_of_script encoder n head m k script log may is_head some encoded =
    grind (arith, rows_name_none, groups_sent, encoded_cut, groups_are_heard, log_is_lawful, rows_set)

-- the law of scripts
pub encoded_is_safe : LogLaws → EncoderLaws → WhatIsEncodedIsSafeOnTheWire
encoded_is_safe laws encoder n head m k script log may is_head some encoded =
    let events = encoded.write.events in
    let has = log_of_script encoder n head m k script log may is_head some encoded in
    lawful_is_safe laws Plain FirstFault n head.pi m k log has.sent (log_of (m + k) events) (aired (m + k) events)
    (is_log_of n log has.sent has.cut) has.heard
    has.lawful (λ slot pair is. (tagged encoder.tags (m + k) events slot pair is).0)

-- ---- audits

-- the laws about audits
pub record AuditLaws : Type 0 where
  pub complete : WhatPassesIsSafe
  pub running : WhatPassesAsARecordingIsSafe

passed_from : LogLaws → AuditLaws → (start : LogStart) (form : TextForm) (stop : Stop) (n pi m k slots : ℕ)
    (log : List ℕ) → 0 < m
    → WholePasses (settings start form stop n pi m k) slots log
    → HasSafePlans (settings start form stop n pi m k) log
passed_from laws audits Complete form stop n pi m k slots log some whole =
    let messages = heard_of pi whole.slots in
    let safe = audits.complete form m k messages some whole.pass.passes in
    let is : IsLogOf n log whole.slots = record { lines = whole.lines; are = whole.are; say = whole.say } in
    record {
      slots = whole.slots;
      has = is;
      plans = safe.plans;
      lawful = safe.lawful;
      safe = lawful_is_safe laws form stop n pi m k log whole.slots messages
          (planned safe.plans messages)
          is refl safe.lawful (λ slot pair mark. mark);
    }
passed_from laws audits Running form stop n pi m k slots log some whole =
    let messages = heard_of pi whole.slots in
    let safe = audits.running form m k messages some whole.pass.passes in
    let is : IsLogOf n log whole.slots = record { lines = whole.lines; are = whole.are; say = whole.say } in
    record {
      slots = whole.slots;
      has = is;
      plans = safe.plans;
      lawful = safe.lawful;
      safe = recording_is_safe laws form stop n pi m k log whole.slots messages
          (planned safe.plans (preceded (m + k) messages))
          is refl safe.lawful (λ slot pair mark. mark);
    }

-- the law of audits
pub passed_is_safe : LogLaws → AuditLaws → WhatPassesIsSafeOnTheWire
passed_is_safe laws audits a slots log some whole =
    passed_from laws audits a.start a.form a.stop a.rtplus a.pi a.dwell a.late slots log some whole
