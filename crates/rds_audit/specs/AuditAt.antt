-- The state of an audit after a log. Lists have the newest first.
use Rattle.std.specs.Prelude.{◌≡◌, ◌≤◌, ◌<◌, ◌-◌, ◌^◌, ℕ, List, [], ◌∷◌, None, Some, MatchOption, Option}
use Rattle.std.specs.Prelude.{Err, MatchResult, Result, length, min}
use Rattle.rds_block.specs.declared.group.Group.{Group}
use Rattle.rds_fields.specs.declared.message.Message.{Message}
use Rattle.rds_receiver.specs.Receipts.{heard_in, heard_of}
use Rattle.rds_receiver.specs.declared.fragment.Fragment.{Fragment}
use Rattle.rds_audit.specs.declared.audit.Audit.{Audit}
use Rattle.rds_audit.specs.declared.audit.AuditFault.{AuditFault}
use Rattle.rds_audit.specs.declared.fault_set.FaultSet.{FaultSet}
use Rattle.rds_audit.specs.Ages.{HoldsAges}
use Rattle.rds_audit.specs.Lengths.{Gauge, gauge_of, lengths_of, name_gauge, sent_cells, tags_end}
use Rattle.rds_audit.specs.Listing.{IsFaultOf, Span, added, broken_newest, first_of, reigns_of, slot_adds, spans}
use Rattle.rds_audit.specs.AuditState.{SpansState}
use Rattle.rds_audit.specs.ReignsState.{ContentState}
use Rattle.rds_audit.specs.Recording.{counted_as, judged_as}
use Rattle.rds_audit.specs.Reigns.{SentTags}
use Rattle.rds_audit.specs.Rules.{LogPasses}
use Rattle.rds_audit.specs.Stored.{fault_of, form_of, spans_stored, start_of}
use Rattle.rds_safety.specs.Marks.{Mark, marks, name_mark, text_mark}

-- the fragments of the newest span
abbrev pub fragments_now : List Span → List Fragment
fragments_now [] = []
fragments_now (r ∷ older) = r.reign.fragments

-- the tags of the newest span
abbrev pub tags_now : List Span → List SentTags
tags_now [] = []
tags_now (r ∷ older) = r.reign.tags

-- the content of these fragments and tags
abbrev pub content_of : Gauge → List Fragment → List SentTags → ContentState
content_of g fragments tags =
    record { cells = sent_cells fragments; lengths = lengths_of g fragments; tags_end = tags_end tags }

-- in slot `now` of these marks, the state of a service follows from these spans of the marks
pub record FollowsFrom (g : Gauge) (d now : ℕ) (sent : List Mark) (rs : List Span)
    (s : SpansState) : Type 0 where
  pub ages : HoldsAges d now (reigns_of rs) s.reigns.ages
  pub content : s.reigns.content ≡ content_of g (fragments_now rs) (tags_now rs)
  pub count : s.count ≡ min (length rs) (2 ^ 64 - 1)
  pub broken : s.broken ≡ broken_newest g d sent rs

-- the state holds these marks, one slot after the newest
abbrev pub HoldsSpans : Gauge → ℕ → List Mark → SpansState → Type 0
HoldsSpans g d sent s = FollowsFrom g d (length sent) sent (spans g d sent) s

-- the state holds these marks, in the slot of the newest
abbrev pub HoldsNewestSpans : Gauge → ℕ → Mark → List Mark → SpansState → Type 0
HoldsNewestSpans g d newest before s =
    FollowsFrom g d (length before) (newest ∷ before) (spans g d (newest ∷ before)) s

-- a service took this mark: its state follows from all marks with it, in its slot, and the result is what the mark adds
abbrev pub TakesMark : Gauge → ℕ → Mark → SpansState → SpansState → FaultSet → Type 0
TakesMark g d mark s after result = 0 < d → (sent : List Mark) → HoldsSpans g d sent s
    → HoldsNewestSpans g d mark sent after × (result ≡ added g d mark sent)

-- d slots are a spacing, as a `Distance` of rds_fields is
pub record IsSpacing (d : ℕ) : Type 0 where
  pub some : 0 < d
  pub most : d ≤ 66813

-- the spacing is in its range, and the state of both services follows from this log, in the slot after it
pub record HoldsLog (d : ℕ) (judged : List (Option Message)) (a : Audit) : Type 0 where
  pub spacing : IsSpacing d
  pub text : HoldsSpans (gauge_of (form_of a)) d (marks text_mark judged) (spans_stored a.text)
  pub name : HoldsSpans name_gauge d (marks name_mark judged) (spans_stored a.name)

-- the same in its newest slot
pub record HoldsSlot (d : ℕ) (newest : Option Message) (before : List (Option Message)) (a : Audit) : Type 0 where
  pub spacing : IsSpacing d
  pub text : HoldsNewestSpans (gauge_of (form_of a)) d (text_mark newest) (marks text_mark before) (spans_stored a.text)
  pub name : HoldsNewestSpans name_gauge d (name_mark newest) (marks name_mark before) (spans_stored a.name)

-- without a fault this log passes, and the state follows from it; a fault that there is is the fault of the log
abbrev pub HasJudged : ℕ → Audit → List (Option Message) → Type 0
HasJudged d a judged =
    MatchOption (fault_of a) (LogPasses (form_of a) d judged × HoldsLog d judged a) (IsFaultOf (form_of a) d judged)

-- the audit has this PI and a spacing of d slots, and judged the log as that is to be judged
pub record AuditAt (pi d : ℕ) (a : Audit) (log : List (Option Group)) : Type 0 where
  pub programme : a.pi ≡ pi
  pub distance : a.distance ≡ d
  pub lasts : 0 < d
  pub holds : HasJudged d a (judged_as (start_of a) d (heard_of pi log))

-- this holds of the programme, the spacing and the groups of each log that the audit stands at
abbrev pub WhereAuditIs : Audit → (ℕ → ℕ → List (Option Group) → Type 0) → Type 0
WhereAuditIs a Holds = (pi d : ℕ) (log : List (Option Group)) → AuditAt pi d a log → Holds pi d log

-- this holds of the spacing of each log that the audit stands at, and of its messages as they are judged
abbrev pub WhereTheAuditStands : Audit → (ℕ → List (Option Message) → Type 0) → Type 0
WhereTheAuditStands a Holds = WhereAuditIs a (λ pi d log. Holds d (judged_as (start_of a) d (heard_of pi log)))

-- the audit stands at the log, and its state follows from all of the log, after a fault too
pub record FollowsLog (pi d : ℕ) (a : Audit) (log : List (Option Group)) : Type 0 where
  pub at : AuditAt pi d a log
  pub holds : HoldsLog d (judged_as (start_of a) d (heard_of pi log)) a

-- this holds of the programme, the spacing and the groups of each log that the audit follows
abbrev pub WhereAuditFollows : Audit → (ℕ → ℕ → List (Option Group) → Type 0) → Type 0
WhereAuditFollows a Holds = (pi d : ℕ) (log : List (Option Group)) → FollowsLog pi d a log → Holds pi d log

-- this holds of the spacing of each log that the audit follows, and of its messages as they are judged
abbrev pub WhereItFollows : Audit → (ℕ → List (Option Message) → Type 0) → Type 0
WhereItFollows a Holds = WhereAuditFollows a (λ pi d log. Holds d (judged_as (start_of a) d (heard_of pi log)))

-- the audit took the next slot, with this group or with none: it stands at the log with that slot, and without a fault
-- before it follows the log, also in the slot of the fault; the result is its fault, which is that of the log; after a
-- fault the result is that fault, and nothing changes
pub record AuditTakesSlot (a after : Audit) (group : Option Group)
    (result : Result (Unit {0}) AuditFault) : Type 0 where
  pub stands : WhereAuditIs a (λ pi d log. AuditAt pi d after (group ∷ log))
  pub follows : fault_of a ≡ None → WhereAuditFollows a (λ pi d log. FollowsLog pi d after (group ∷ log))
  pub fault : MatchResult result (λ _. fault_of after ≡ None) (λ fault. fault_of after ≡ Some fault)
  pub start : start_of after ≡ start_of a
  pub form : form_of after ≡ form_of a
  pub which : WhereTheAuditStands after (λ d heard. MatchResult result (λ _. LogPasses (form_of after) d heard)
      (λ fault. IsFaultOf (form_of after) d heard fault))
  pub again : (fault : AuditFault) → fault_of a ≡ Some fault → (result ≡ Err fault) × (after ≡ a)

-- these are the faults that the slot adds to the list of the log
abbrev pub Adds : Audit → Option Group → FaultSet → Type 0
Adds a group found = WhereAuditFollows a (λ pi d log. found ≡ slot_adds (form_of a) d
    (counted_as (start_of a) (judged_as (start_of a) d (heard_of pi log)) (heard_in pi group))
    (judged_as (start_of a) d (heard_of pi log)))

-- the audit took the next slot, with this group or with none, whatever its fault: it stands at the log with that slot,
-- and follows it if it followed the log; the result is what the slot adds to the list of the log; the fault is the
-- first one that was added
pub record TakesAll (a after : Audit) (group : Option Group) (result : FaultSet) : Type 0 where
  pub stands : WhereAuditIs a (λ pi d log. AuditAt pi d after (group ∷ log))
  pub follows : WhereAuditFollows a (λ pi d log. FollowsLog pi d after (group ∷ log))
  pub adds : Adds a group result
  pub start : start_of after ≡ start_of a
  pub form : form_of after ≡ form_of a
  pub first : fault_of a ≡ None → fault_of after ≡ first_of result
  pub again : (fault : AuditFault) → fault_of a ≡ Some fault → fault_of after ≡ Some fault

-- the audit took this message in a slot of a log: its state follows from the log with that slot, in that slot, and the
-- result is what the slot adds
pub record ListsMessage (a after : Audit) (message : Option Message) (result : FaultSet) : Type 0 where
  pub holds : (judged : List (Option Message)) → HoldsLog a.distance judged a
      → HoldsSlot a.distance (counted_as (start_of a) judged message) judged after
  pub added : (judged : List (Option Message)) → HoldsLog a.distance judged a
      → result ≡ slot_adds (form_of a) a.distance (counted_as (start_of a) judged message) judged

-- the slot is over: the state follows from the log with its newest slot
abbrev pub EndsSlot : Audit → Audit → Type 0
EndsSlot a after =
    (judged : List (Option Message)) (newest : Option Message) → HoldsSlot a.distance newest judged a
    → HoldsLog a.distance (newest ∷ judged) after

-- what stays the same in each slot
pub record KeepsLog (a after : Audit) : Type 0 where
  pub programme : after.pi ≡ a.pi
  pub distance : after.distance ≡ a.distance
  pub start : start_of after ≡ start_of a
  pub form : form_of after ≡ form_of a
