-- Lemmas: what a slot adds to the list of a log, and how the state of the list changes with the log.
use Rattle.std.proofs.Common.{◌≡◌, ◌↔◌, ◌≤◌, ℕ, Bool, true, false, List, [], ◌∷◌, Option, Some, None, refl, sym, ap}
use Rattle.std.proofs.Common.{◌∙◌, arith, MatchOption}
use Rattle.rds_block.specs.declared.group.Group.{Group}
use Rattle.rds_fields.specs.declared.message.Message.{Message}
use Rattle.rds_receiver.specs.Receipts.{heard_in, heard_of}
use Rattle.rds_safety.specs.Marks.{Mark, Nothing, marks, name_mark, text_mark}
use Rattle.rds_audit.specs.declared.audit.AuditFault.{AuditFault}
use Rattle.rds_audit.specs.declared.fault_set.FaultSet.{FaultSet}
use Rattle.rds_audit.specs.declared.log_start.LogStart.{LogStart}
use Rattle.rds_audit.specs.Ages.{Ages, HasCurrent}
use Rattle.rds_audit.specs.Judging.{judged_step}
use Rattle.rds_audit.specs.declared.text_form.TextForm.{TextForm}
use Rattle.rds_audit.specs.Lengths.{Gauge, gauge_of, name_gauge}
use Rattle.rds_audit.specs.Listing.{IsFaultOf, Span, added, both, first_fault, first_of, none_broken, reigns_of}
use Rattle.rds_audit.specs.Listing.{slot_adds, spans}
use Rattle.std.specs.List.{AllByRecursion}
use Rattle.rds_audit.specs.ListingLaws.{IsFormedMessage}
use Rattle.rds_audit.specs.AuditAt.{AuditAt, EndsSlot, FollowsLog, HasJudged, HoldsLog, HoldsSlot, HoldsSpans}
use Rattle.rds_audit.specs.AuditAt.{HoldsNewestSpans, IsSpacing, KeepsLog, ListsMessage, TakesAll, TakesMark}
use Rattle.rds_audit.specs.AuditState.{SpansState, aged_in}
use Rattle.rds_audit.specs.Stored.{fault_of, form_of, spans_stored, start_of}
use Rattle.rds_audit.specs.declared.audit.Audit.{Audit}
use Rattle.rds_audit.specs.declared.stored.StoredSpans.{StoredSpans}
use Rattle.rds_audit.specs.Recording.{counted_as, has_text, judged_as, silent_as}
use Rattle.rds_audit.specs.Rules.{LogPasses}
use Rattle.rds_audit.proofs.OneValue.{gauge_is_exact, name_gauge_is_exact}
use Rattle.rds_audit.proofs.SpanSteps.{IsSilent, names_begin, silent_passes, texts_begin, nothing_follows, sets_are}
use Rattle.rds_audit.proofs.SpanSteps.{spans_later}
use Rattle.rds_audit.proofs.SpanReigns.{adds_none, quiet_passes, service_passed_before}

-- ---- both services

with_none : (f : FaultSet) → f ≡ both f none_broken
with_none f = sets_are _ _ (grind arith) (grind arith) (grind arith) (grind arith) (grind arith)

-- nothing adds nothing
pub nothing_adds : (g : Gauge) (d : ℕ) (before : List Mark) → added g d Nothing before ≡ none_broken
nothing_adds g d before = grind (arith)

pub texts_add : (form : TextForm) (d : ℕ) (newest : Option Message) (before : List (Option Message))
    → name_mark newest ≡ Nothing
    → slot_adds form d newest before ≡ added (gauge_of form) d (text_mark newest) (marks text_mark before)
texts_add form d newest before silent = grind (arith, nothing_adds, with_none)

pub names_add : (form : TextForm) (d : ℕ) (newest : Option Message) (before : List (Option Message))
    → text_mark newest ≡ Nothing
    → slot_adds form d newest before ≡ added name_gauge d (name_mark newest) (marks name_mark before)
names_add form d newest before silent = rw (silent, nothing_adds (gauge_of form) d (marks text_mark before))

nothing_added : (form : TextForm) (d : ℕ) (newest : Option Message) (before : List (Option Message))
    → IsSilent newest → slot_adds form d newest before ≡ none_broken
nothing_added form d newest before silent = grind (arith, nothing_adds)

-- ---- up to the first fault of a log

pub log_passed_before : (form : TextForm) (d : ℕ) (newest : Option Message) (before : List (Option Message))
    → LogPasses form d (newest ∷ before) → LogPasses form d before
log_passed_before form d newest before h = search (arith, service_passed_before)

-- a slot that breaks no rule adds nothing
pub passing_adds : (form : TextForm) (d : ℕ) (newest : Option Message) (before : List (Option Message))
    → LogPasses form d (newest ∷ before)
    → none_broken ≡ slot_adds form d newest before
passing_adds form d newest before passes =
    let texts = adds_none (gauge_of form) (gauge_is_exact form) d (text_mark newest) (marks text_mark before) passes.text
    in
    let names = adds_none name_gauge name_gauge_is_exact d (name_mark newest) (marks name_mark before) passes.name in
    rw (texts, names) refl

formed_heard : (pi : ℕ) (slot : Option Group) → IsFormedMessage (heard_in pi slot)
formed_heard pi slot = grind (arith)

formed_counted : (start : LogStart) (judged : List (Option Message)) (message : Option Message)
    → IsFormedMessage message → IsFormedMessage (counted_as start judged message)
formed_counted start judged message h = grind (arith)

-- a log that passes has no fault
passes_quietly : (form : TextForm) (d : ℕ) (log : List (Option Message)) → LogPasses form d log
    → first_fault form d log ≡ None
passes_quietly form d [] passes = refl
passes_quietly form d (newest ∷ before) passes =
    let passed = log_passed_before form d newest before passes in
    grind (arith, passes_quietly form d before passed, log_passed_before, passing_adds)

-- a log with a fault does not pass
pub no_fault : (form : TextForm) (d : ℕ) (log : List (Option Message)) (fault : AuditFault)
    → IsFaultOf form d log fault → LogPasses form d log → ⊥
no_fault form d log fault f passes = cc (passes_quietly form d log passes)

-- without a first fault there is none
first_none : (f : FaultSet) → first_of f ≡ None → f ≡ none_broken
first_none f e = sets_are _ _ (grind arith) (grind arith) (grind arith) (grind arith) (grind arith)

none_of_both : (f g : FaultSet) → both f g ≡ none_broken → (f ≡ none_broken) × (g ≡ none_broken)
none_of_both f g e = grind (arith)

-- a slot that adds no fault after a log that passes: the log passes with it too
log_judged : (form : TextForm) (d : ℕ) (newest : Option Message) (before : List (Option Message))
    → IsFormedMessage newest → LogPasses form d before → first_of (slot_adds form d newest before) ≡ None
    → LogPasses form d (newest ∷ before)
log_judged form d newest before formed passes quiet =
    let none = none_of_both (added (gauge_of form) d (text_mark newest) (marks text_mark before))
    (added name_gauge d (name_mark newest) (marks name_mark before)) (first_none _ quiet) in
    record {
      text = quiet_passes (gauge_of form) (gauge_is_exact form) d (text_mark newest) (marks text_mark before)
          formed.text passes.text none.0;
      name = search (arith, quiet_passes, name_gauge_is_exact);
    }

-- a log without a fault passes
pub passes_without : (form : TextForm) (d : ℕ) (log : List (Option Message)) → AllByRecursion IsFormedMessage log
    → first_fault form d log ≡ None → LogPasses form d log
passes_without form d [] formed none = grind (arith)
passes_without form d (newest ∷ before) formed none = by (passes_without form d before formed.1)
    (first_fault form d before) refl
  where
    by : (first_fault form d before ≡ None → LogPasses form d before) → (o : Option AuditFault)
        → first_fault form d before ≡ o
        → LogPasses form d (newest ∷ before)
    by passes (Some fault) e = cc (rw e at none)
    by passes None e = log_judged form d newest before formed.0 (passes e) (rw e at none)

-- what is judged by the fault, and back
to_judged : (d : ℕ) (a : Audit) (judged : List (Option Message)) (form : TextForm) (o : Option AuditFault)
    → form_of a ≡ form → fault_of a ≡ o
    → MatchOption o (LogPasses form d judged × HoldsLog d judged a) (IsFaultOf form d judged) → HasJudged d a judged
to_judged d a judged form o same e m = simp (same, e) m

-- the fault of a log with one more slot
judged_next : (d : ℕ) (newest : Option Message) (judged : List (Option Message)) (a after : Audit)
    → form_of after ≡ form_of a → IsFormedMessage newest → (HoldsLog d judged a → HoldsLog d (newest ∷ judged) after)
    → (HoldsLog d judged a → fault_of a ≡ None → fault_of after ≡ first_of (slot_adds (form_of a) d newest judged))
    → ((fault : AuditFault) → fault_of a ≡ Some fault → fault_of after ≡ Some fault) → HasJudged d a judged
    → HasJudged d after (newest ∷ judged)
judged_next d newest judged a after same formed holds first again has = by (fault_of a) refl has
  where
    by : (was : Option AuditFault) → fault_of a ≡ was
        → MatchOption was (LogPasses (form_of a) d judged × HoldsLog d judged a) (IsFaultOf (form_of a) d judged)
        → HasJudged d after (newest ∷ judged)
    by (Some fault) e f = to_judged d after _ (form_of a) (Some fault) same (again fault e) (rw f)
    by None e (passes, h) = next (first_of (slot_adds (form_of a) d newest judged)) refl
      where
        next : (o : Option AuditFault) → first_of (slot_adds (form_of a) d newest judged) ≡ o
            → HasJudged d after (newest ∷ judged)
        next None q = search (arith, to_judged, log_judged)
        next (Some fault) q = grind (arith, to_judged, passes_quietly)

-- ---- from slot to slot

-- there is a span
abbrev is_begun : List Span → Bool
is_begun [] = false
is_begun (r ∷ older) = true

begun_if : (g : Gauge) (d : ℕ) (judged : List (Option Message))
    → is_begun (spans g d (marks text_mark judged)) ≡ has_text judged
begun_if g d [] = refl
begun_if g d (x ∷ before) = grind (arith, begun_if g d before)

open_begun : (d slot : ℕ) (rs : List Span) (a : Ages) → HasCurrent d slot (reigns_of rs) a → a.is_open ≡ is_begun rs
open_begun d slot rs a h = grind (arith)

-- there is a span of texts exactly if a text segment was judged
pub text_open : (d : ℕ) (judged : List (Option Message)) (l : Audit) → HoldsLog d judged l
    → (spans_stored l.text).reigns.ages.is_open ≡ has_text judged
text_open d judged l h = grind (arith, open_begun, begun_if)

-- a mark that is nothing changes no service
stays : (g : Gauge) (d : ℕ) (mark : Mark) (sent : List Mark) (s : SpansState) → mark ≡ Nothing → HoldsSpans g d sent s
    → HoldsNewestSpans g d mark sent s
stays g d mark sent s silent h = rw silent (nothing_follows g d sent _ s h)

-- a message of texts alone, that is judged as it is
pub texts_listed : (l : Audit) (tags : ℕ) (text : StoredSpans) (message : Option Message) (result : FaultSet)
    → name_mark message ≡ Nothing
    → ((judged : List (Option Message)) → HoldsLog l.distance judged l
    → counted_as (start_of l) judged message ≡ message)
    → TakesMark (gauge_of (form_of l)) l.distance (text_mark message) (spans_stored l.text) (spans_stored text) result
    → ListsMessage l record l { tags = tags; text = text } message result
texts_listed l tags text message result silent counts takes = record {
  holds = λ judged h. rw (counts judged h) record {
    spacing = h.spacing;
    text = search arith;
    name = stays _ _ _ _ _ silent h.name;
  };
  added = λ judged h. search (arith, texts_add);
}

-- and one of names alone
pub names_listed : (l : Audit) (name : StoredSpans) (message : Option Message) (result : FaultSet)
    → text_mark message ≡ Nothing
    → ((judged : List (Option Message)) → HoldsLog l.distance judged l
    → counted_as (start_of l) judged message ≡ message)
    → TakesMark name_gauge l.distance (name_mark message) (spans_stored l.name) (spans_stored name) result
    → ListsMessage l record l { name = name } message result
names_listed l name message result silent counts takes = record {
  holds = λ judged h. rw (counts judged h) record {
    spacing = h.spacing;
    text = stays _ _ _ _ _ silent h.text;
    name = search arith;
  };
  added = λ judged h. search (arith, names_add);
}

-- a message with nothing for either service
pub nothing_listed : (l : Audit) (message : Option Message) (result : FaultSet) → result ≡ none_broken
    → ((judged : List (Option Message)) → HoldsLog l.distance judged l
    → IsSilent (counted_as (start_of l) judged message)) → ListsMessage l l message result
nothing_listed l message result none silent = record {
  holds = λ judged h. record {
    spacing = h.spacing;
    text = stays _ _ _ _ _ (silent judged h).0 h.text;
    name = stays _ _ _ _ _ (silent judged h).1 h.name;
  };
  added = λ judged h. none ∙ sym (nothing_added _ _ _ _ (silent judged h));
}

-- at the end of a slot
pub slot_listed : (d : ℕ) (newest : Option Message) (judged : List (Option Message)) (l : Audit)
    (text name : StoredSpans) → (d ≤ 66813 → spans_stored text ≡ aged_in d (spans_stored l.text))
    → (d ≤ 66813 → spans_stored name ≡ aged_in d (spans_stored l.name))
    → HoldsSlot d newest judged l → HoldsLog d (newest ∷ judged) record l { text = text; name = name }
slot_listed d newest judged l text name texts names h = record {
  spacing = h.spacing;
  text = rw (texts h.spacing.most) (spans_later _ d _ _ _ h.spacing.some h.text);
  name = rw (names h.spacing.most) (spans_later _ d _ _ _ h.spacing.some h.name);
}

-- ---- the audit of a log

goes_on : (pi d : ℕ) (a after : Audit) (log : List (Option Group)) → AuditAt pi d a log → (slot : Option Group)
    → KeepsLog a after
    → HasJudged d after (counted_as (start_of a) (judged_as (start_of a) d (heard_of pi log)) (heard_in pi slot)
    ∷ judged_as (start_of a) d (heard_of pi log))
    → AuditAt pi d after (slot ∷ log)
goes_on pi d a after log s slot keeps has = grind (arith)

-- at each log that the audit follows with this programme and spacing, it follows the log with the slot, and what it
-- found is what the slot adds
abbrev Takes : Audit → Audit → Option Group → FaultSet → ℕ → ℕ → Type 0
Takes a after slot found pi d = (judged : List (Option Message)) → HoldsLog d judged a
    → HoldsLog d (counted_as (start_of a) judged (heard_in pi slot) ∷ judged) after
    × (found ≡ slot_adds (form_of a) d (counted_as (start_of a) judged (heard_in pi slot)) judged)

-- an audit takes a slot, whatever its fault, if it takes the message of the slot and then ends the slot
pub takes_all : (a heard after : Audit) (slot : Option Group) (found : FaultSet)
    → ListsMessage a heard (heard_in a.pi slot) found → KeepsLog a heard → EndsSlot heard after
    → KeepsLog heard after → (fault_of a ≡ None → fault_of after ≡ first_of found)
    → ((fault : AuditFault) → fault_of a ≡ Some fault → fault_of after ≡ Some fault) → TakesAll a after slot found
takes_all a heard after slot found lists hears ends goes first again = record {
  stands = stands;
  follows = λ pi d log s. record {
    at = stands pi d log s.at;
    holds = simp (keeps.start, judged_step (start_of a) d (heard_in pi slot) (heard_of pi log))
        (at pi d log s.at (judged_as (start_of a) d (heard_of pi log)) s.holds).0;
  };
  adds = λ pi d log s. (at pi d log s.at (judged_as (start_of a) d (heard_of pi log)) s.holds).1;
  start = keeps.start;
  form = keeps.form;
  first = first;
  again = again;
}
  where
    keeps : KeepsLog a after
    keeps = search arith

    takes : Takes a after slot found a.pi a.distance
    takes judged h = grind (arith)

    at : (pi d : ℕ) (log : List (Option Group)) → AuditAt pi d a log → Takes a after slot found pi d
    at pi d log s = grind (arith)

    stands : (pi d : ℕ) (log : List (Option Group)) → AuditAt pi d a log → AuditAt pi d after (slot ∷ log)
    stands pi d log s =
        let judged = judged_as (start_of a) d (heard_of pi log) in
        goes_on pi d a after log s slot keeps
        (judged_next d (counted_as (start_of a) judged (heard_in pi slot)) judged a after keeps.form
        (formed_counted (start_of a) judged (heard_in pi slot) (formed_heard pi slot)) (λ h. (at pi d log s judged h).0)
        (λ h none. first none ∙ ap first_of (at pi d log s judged h).1) again s.holds)

-- the log of an audit without a fault passes
pub log_passes : (d : ℕ) (a : Audit) (judged : List (Option Message)) → fault_of a ≡ None → HasJudged d a judged
    → LogPasses (form_of a) d judged × HoldsLog d judged a
log_passes d a judged none has = simp none at has

-- and a fault is that of the log
pub fault_is : (d : ℕ) (a : Audit) (judged : List (Option Message)) (fault : AuditFault) → fault_of a ≡ Some fault
    → HasJudged d a judged → IsFaultOf (form_of a) d judged fault
fault_is d a judged fault some has = simp some at has

-- before the first slot
pub audit_starts : (pi d : ℕ) (a : Audit) → a.pi ≡ pi → a.distance ≡ d → IsSpacing d → fault_of a ≡ None
    → HoldsSpans (gauge_of (form_of a)) d (silent_as (start_of a) d) (spans_stored a.text)
    → HoldsSpans name_gauge d (silent_as (start_of a) d) (spans_stored a.name)
    → FollowsLog pi d a []
audit_starts pi d a programme distance spacing clean texts_hold names_hold = record {
  at = record {
    programme = programme;
    distance = distance;
    lasts = spacing.some;
    holds = to_judged d a _ (form_of a) None refl clean (
      search (arith, texts_begin, silent_passes, names_begin),
      holds,
    );
  };
  holds = holds;
}
  where
    holds : HoldsLog d (judged_as (start_of a) d []) a
    holds = search (arith, texts_begin, names_begin)

-- the log passes exactly if there is no fault
pub passes_exactly : (d : ℕ) (a : Audit) (judged : List (Option Message)) → HasJudged d a judged
    → (fault_of a ≡ None) ↔ LogPasses (form_of a) d judged
passes_exactly d a judged has = grind (arith, log_passes, no_fault, fault_is)
