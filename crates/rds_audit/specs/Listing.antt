-- The list of all faults of a log (this project's own rule). It judges spans. A span is a reign with two marks. Other
-- bytes at an address of the current span begin a span too, as though the flag had turned, if no value has both. Each
-- span has each fault at most once, in the first slot in which it breaks the rule. Lists have the newest first.
use Rattle.std.specs.Prelude.{◌≡◌, ◌+◌, ◌==◌, ◌&&◌, ◌||◌, [], ◌∷◌, ℕ, Bool, true, false, List, Option, Some, None}
use Rattle.std.specs.Prelude.{length, map, max, nat_lt, not, if◌then◌else◌}
use Rattle.std.specs.List.{list_any}
use Rattle.rds_fields.specs.declared.message.Message.{Message}
use Rattle.rds_fields.specs.Tag.{PairFields}
use Rattle.rds_receiver.specs.declared.fragment.Fragment.{Fragment}
use Rattle.rds_receiver.specs.Run.{is_same}
use Rattle.rds_audit.specs.declared.audit.AuditFault.{AuditFault}
use Rattle.rds_audit.specs.declared.audit.AuditFault.TheVariants.{Changed, NotOneText, EarlyFlag, EarlyTag, TagOutside}
use Rattle.rds_audit.specs.declared.fault_set.FaultSet.{FaultSet}
use Rattle.rds_audit.specs.Lengths.{Gauge, all_fit, changes, gauge_of, is_past, lengths_of, name_gauge, tags_end}
use Rattle.rds_audit.specs.declared.text_form.TextForm.{TextForm}
use Rattle.rds_audit.specs.Reigns.{Reign, SentTags, opened_from, past_newest, with_fragment, with_tags}
use Rattle.rds_safety.specs.Marks.{Mark, Nothing, Sends, Tagged, marks, name_mark, text_mark}

-- ---- spans

-- a span: its reign, whether it began with other bytes at an address of the span before it, and whether it began too
-- early after the span before that
pub record Span : Type 0 where
  pub reign : Reign
  pub is_changed : Bool
  pub is_early : Bool

abbrev pub reigns_of : List Span → List Reign
reigns_of rs = map (λ (r : Span). r.reign) rs

-- the span that a fragment opens, which can have started in the slot `start`
abbrev pub first_of_span : ℕ → Fragment → ℕ → Bool → Bool → Span
first_of_span slot p start is_changed is_early =
    record { reign = opened_from start slot p; is_changed = is_changed; is_early = is_early }

-- the span with one more fragment
abbrev pub span_with : ℕ → Fragment → Span → Span
span_with slot p r = record r { reign = with_fragment slot p r.reign }

-- the first slot in which a span that turned the flag of r is not too early: after r, and d slots after the one before
abbrev pub due_after : ℕ → Span → List Span → ℕ
due_after d r older = max (r.reign.last + 1) (past_newest d (reigns_of older))

-- these spans and one that turned the flag, or counts so. If it is too early, it starts after r
abbrev pub turned : ℕ → ℕ → Fragment → Bool → Span → List Span → List Span
turned d slot p is_changed r older =
    let is_early = nat_lt slot (due_after d r older) in
    first_of_span slot p (if is_early then r.reign.last + 1 else due_after d r older) is_changed is_early ∷ r ∷ older

-- these spans after a fragment with the flag of r, less than d slots after r: it joins r, except if it changes the
-- value of r
abbrev pub joined : Gauge → ℕ → ℕ → Fragment → Span → List Span → List Span
joined g d slot p r older =
    if changes g r.reign.fragments p then turned d slot p true r older else span_with slot p r ∷ older

-- these spans after one more fragment
abbrev pub spans_after : Gauge → ℕ → ℕ → Fragment → List Span → List Span
spans_after g d slot p [] = first_of_span slot p 0 false false ∷ []
spans_after g d slot p (r ∷ older) =
    if is_same r.reign.flag p.flag
    then (if nat_lt slot (r.reign.last + d) then joined g d slot p r older
    else first_of_span slot p (r.reign.last + d) false false ∷ r ∷ older)
    else turned d slot p false r older

-- these spans after one more pair of tags
abbrev pub spans_tagged : ℕ → PairFields → List Span → List Span
spans_tagged slot pair [] = []
spans_tagged slot pair (r ∷ older) = record r { reign = with_tags slot pair r.reign } ∷ older

-- these spans after one more mark
abbrev pub spans_marked : Gauge → ℕ → ℕ → Mark → List Span → List Span
spans_marked g d slot Nothing rs = rs
spans_marked g d slot (Sends p) rs = spans_after g d slot p rs
spans_marked g d slot (Tagged pair) rs = spans_tagged slot pair rs

-- the spans of the marks of a service
abbrev pub spans : Gauge → ℕ → List Mark → List Span
spans g d [] = []
spans g d (mark ∷ before) = spans_marked g d (length before) mark (spans g d before)

-- ---- what a span breaks

-- the lengths that the fragments of a span leave. A fragment that fits no value beside those before it leaves them as
-- they are
abbrev pub lengths_in : Gauge → Span → ℕ
lengths_in g r = lengths_of g r.reign.fragments

-- each fragment fits those before it
abbrev pub fits : Gauge → Span → Bool
fits g r = all_fit g r.reign.fragments

-- tags came less than d slots after the start
abbrev pub has_early_tags : ℕ → Span → Bool
has_early_tags d r = list_any (λ (s : SentTags). nat_lt s.slot (r.reign.start + d)) r.reign.tags

-- the rules that a span breaks
abbrev pub broken_by : Gauge → ℕ → Span → FaultSet
broken_by g d r = record {
  changed = r.is_changed;
  early_flag = r.is_early;
  not_one_text = not (fits g r);
  early_tag = has_early_tags d r;
  tag_outside = is_past (lengths_in g r) (tags_end r.reign.tags);
}

-- this fault is one of these
abbrev pub has_fault : FaultSet → AuditFault → Bool
has_fault f Changed = f.changed
has_fault f EarlyFlag = f.early_flag
has_fault f NotOneText = f.not_one_text
has_fault f EarlyTag = f.early_tag
has_fault f TagOutside = f.tag_outside

-- ---- the list

abbrev pub none_broken : FaultSet
none_broken = record {
  changed = false;
  early_flag = false;
  not_one_text = false;
  early_tag = false;
  tag_outside = false;
}

-- the mark is a pair of tags
abbrev pub is_tagged : Mark → Bool
is_tagged Nothing = false
is_tagged (Sends p) = false
is_tagged (Tagged pair) = true

-- the rules that the newest span of these marks breaks; before the first span, tags break one
abbrev pub broken_newest : Gauge → ℕ → List Mark → List Span → FaultSet
broken_newest g d sent [] = record none_broken { early_tag = list_any is_tagged sent }
broken_newest g d sent (r ∷ older) = broken_by g d r

-- the faults that were not there before
abbrev pub not_before : FaultSet → FaultSet → FaultSet
not_before old new = record {
  changed = new.changed && not old.changed;
  early_flag = new.early_flag && not old.early_flag;
  not_one_text = new.not_one_text && not old.not_one_text;
  early_tag = new.early_tag && not old.early_tag;
  tag_outside = new.tag_outside && not old.tag_outside;
}

-- the faults that the newest mark adds to the list: all of its span if it opened that, and otherwise those that its
-- span did not have
abbrev pub added : Gauge → ℕ → Mark → List Mark → FaultSet
added g d mark before =
    let older = spans g d before in
    let newer = spans g d (mark ∷ before) in
    if length newer == length older
    then not_before (broken_newest g d before older) (broken_newest g d (mark ∷ before) newer)
    else broken_newest g d (mark ∷ before) newer

-- the faults of both
abbrev pub both : FaultSet → FaultSet → FaultSet
both f g = record {
  changed = f.changed || g.changed;
  early_flag = f.early_flag || g.early_flag;
  not_one_text = f.not_one_text || g.not_one_text;
  early_tag = f.early_tag || g.early_tag;
  tag_outside = f.tag_outside || g.tag_outside;
}

-- the faults that the newest slot of a log adds to its list, for texts of this form and for names
abbrev pub slot_adds : TextForm → ℕ → Option Message → List (Option Message) → FaultSet
slot_adds form d newest before =
    both (added (gauge_of form) d (text_mark newest) (marks text_mark before))
    (added name_gauge d (name_mark newest) (marks name_mark before))

-- ---- the order of the faults of a slot

-- the first fault
abbrev pub first_of : FaultSet → Option AuditFault
first_of f =
    if f.changed then Some Changed else if f.early_flag then Some EarlyFlag else if f.not_one_text then Some NotOneText
    else if f.early_tag then Some EarlyTag else if f.tag_outside then Some TagOutside else None

-- the first of two
abbrev pub or_else : Option AuditFault → Option AuditFault → Option AuditFault
or_else None next = next
or_else (Some fault) next = Some fault

-- the fault of a log: the first one of the first slot that adds any to its list
abbrev pub first_fault : TextForm → ℕ → List (Option Message) → Option AuditFault
first_fault form d [] = None
first_fault form d (newest ∷ before) = or_else (first_fault form d before) (first_of (slot_adds form d newest before))

-- this is the fault of the log
abbrev pub IsFaultOf : TextForm → ℕ → List (Option Message) → AuditFault → Type 0
IsFaultOf form d log fault = first_fault form d log ≡ Some fault
