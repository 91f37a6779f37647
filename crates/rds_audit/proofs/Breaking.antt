-- Lemmas: the fault of a log has the name of the rule that its first failing slot breaks first.
use Rattle.std.proofs.Common.{◌≡◌, ◌⊎◌, ◌≤◌, ◌∷◌, ◌∙◌, [], ℕ, true, false, List, Option, None, Some, ap, arith, inl}
use Rattle.std.proofs.Common.{inr, length, refl, sym}
use Rattle.std.specs.List.{AllByRecursion}
use Rattle.rds_fields.specs.declared.message.Message.{Message}
use Rattle.rds_fields.specs.Tag.{PairFields}
use Rattle.rds_receiver.specs.declared.fragment.Fragment.{Fragment}
use Rattle.rds_safety.specs.Lawful.{names}
use Rattle.rds_safety.specs.Marks.{Mark, Nothing, Sends, Tagged, marks, name_mark, text_mark}
use Rattle.rds_audit.specs.declared.audit.AuditFault.{AuditFault}
use Rattle.rds_audit.specs.declared.audit.AuditFault.TheVariants.{Changed, NotOneText, EarlyFlag, EarlyTag, TagOutside}
use Rattle.rds_audit.specs.declared.fault_set.FaultSet.{FaultSet}
use Rattle.rds_audit.specs.Broken.{BreaksByFragment, BreaksByTags, BreaksRule, FailsBy}
use Rattle.rds_audit.specs.Forms.{text_kind}
use Rattle.rds_audit.specs.declared.text_form.TextForm.{TextForm}
use Rattle.rds_audit.specs.Lengths.{Gauge, IsExact, IsFormed, changes, gauge_of, name_gauge}
use Rattle.rds_audit.specs.Listing.{IsFaultOf, Span, added, broken_by, broken_newest, first_fault, first_of}
use Rattle.rds_audit.specs.Listing.{first_of_span, none_broken, or_else, reigns_of, slot_adds, span_with, spans}
use Rattle.rds_audit.specs.Listing.{spans_after, spans_tagged}
use Rattle.rds_audit.specs.ListingLaws.{IsFormedMark, IsFormedMessage}
use Rattle.rds_audit.specs.Reigns.{Reign, after_fragment, after_tags, opened_from, with_fragment}
use Rattle.rds_audit.specs.Rules.{CanBeBroadcast, LogPasses, Passes}
use Rattle.rds_audit.proofs.LengthSets.{none_past}
use Rattle.rds_audit.proofs.OneValue.{gauge_is_exact, name_gauge_is_exact}
use Rattle.rds_audit.proofs.ListingSteps.{names_add, no_fault, passes_without, passing_adds, texts_add}
use Rattle.rds_audit.proofs.SpanReigns.{adds_all, are_reigns, by_fragment}

-- what these faults say if this is the first of them
abbrev IsFirst : FaultSet → AuditFault → Type 0
IsFirst f Changed = f.changed ≡ true
IsFirst f EarlyFlag = f.early_flag ≡ true
IsFirst f NotOneText = f.not_one_text ≡ true
IsFirst f EarlyTag = f.early_tag ≡ true
IsFirst f TagOutside = (f.not_one_text ≡ false) × (f.early_tag ≡ false) × (f.tag_outside ≡ true)

first_is : (f : FaultSet) (fault : AuditFault) → first_of f ≡ Some fault → IsFirst f fault
first_is f fault e = grind (arith)

module _ (g : Gauge) (exact : IsExact g) (d : ℕ) where
  -- ---- what the marks of a span say of its reign

  -- ---- by the newest mark

  -- a fragment opens a reign in time
  opened_breaks : (slot start : ℕ) (p : Fragment) (older : List Reign) (fault : AuditFault) → IsFormed g.segments p
      → start ≤ slot → IsFirst (broken_by g d (first_of_span slot p start false false)) fault
      → BreaksByFragment g.kind (opened_from start slot p ∷ older) fault
  opened_breaks slot start p older fault formed late is =
      grind (arith, none_past g exact.some (p ∷ []))

  -- a fragment joins a reign
  joined_breaks : (slot : ℕ) (p : Fragment) (r : Span) (older : List Reign) (fault : AuditFault)
      → IsFormed g.segments p → CanBeBroadcast d g.kind r.reign → broken_by g d r ≡ none_broken
      → changes g r.reign.fragments p ≡ false → IsFirst (broken_by g d (span_with slot p r)) fault
      → BreaksByFragment g.kind (with_fragment slot p r.reign ∷ older) fault
  joined_breaks slot p r older fault formed was none joins is =
      grind (arith, none_past g exact.some (p ∷ r.reign.fragments))

  -- a fragment changes a reign
  changed_breaks : (slot : ℕ) (p : Fragment) (r : Reign) (older : List Reign) (fault : AuditFault)
      → CanBeBroadcast d g.kind r → changes g r.fragments p ≡ true → Changed ≡ fault
      → BreaksByFragment g.kind (with_fragment slot p r ∷ older) fault
  changed_breaks slot p r older fault was changed is = grind (arith)

  fragment_breaks : (p : Fragment) (before : List Mark) (rs : List Span) (fault : AuditFault)
      → IsFormed g.segments p → AllByRecursion (CanBeBroadcast d g.kind) (reigns_of rs)
      → broken_newest g d before rs ≡ none_broken
      → first_of (broken_newest g d (Sends p ∷ before) (spans_after g d (length before) p rs)) ≡ Some fault
      → BreaksByFragment g.kind (after_fragment d (length before) p (reigns_of rs)) fault
  fragment_breaks p before [] fault formed was none is =
      grind (arith, none_past g exact.some (p ∷ []))
  fragment_breaks p before (r ∷ older) fault formed was none is =
      by_fragment g (λ (rs : List Span) (regs : List Reign).
      first_of (broken_newest g d (Sends p ∷ before) rs) ≡ Some fault → BreaksByFragment g.kind regs fault)
      d (length before) p r older
      (λ joins is. joined_breaks (length before) p r (reigns_of older) fault formed was.0 none joins
      (first_is _ fault is))
      (λ changed is. changed_breaks (length before) p r.reign (reigns_of older) fault was.0 changed (cc))
      (λ start late is. opened_breaks (length before) start p (reigns_of (r ∷ older)) fault formed late
      (first_is _ fault is))
      (λ start late less is. let same : fault ≡ EarlyFlag = cc in rw same less)
      is

  tags_break : (pair : PairFields) (before : List Mark) (rs : List Span) (fault : AuditFault)
      → broken_newest g d before rs ≡ none_broken
      → first_of (broken_newest g d (Tagged pair ∷ before) (spans_tagged (length before) pair rs)) ≡ Some fault
      → BreaksByTags d g.kind (length before) (after_tags (length before) pair (reigns_of rs)) fault
  tags_break pair before rs fault none is = grind (arith)

  -- the newest mark breaks the rule of its first fault, after marks that pass
  service_breaks : (mark : Mark) (before : List Mark) (fault : AuditFault) → IsFormedMark g.segments mark
      → Passes d g.kind before → first_of (added g d mark before) ≡ Some fault
      → BreaksRule d g.kind mark before fault
  service_breaks Nothing before fault formed passes is = grind (arith)
  service_breaks (Sends p) before fault formed passes is =
      let h = are_reigns g exact d before passes in
      rw (← h.same) (fragment_breaks p before (spans g d before) fault formed (rw h.same passes.reigns) h.none
      (sym (ap first_of (adds_all g exact d (Sends p) before h.none)) ∙ is))
  service_breaks (Tagged pair) before fault formed passes is =
      let h = are_reigns g exact d before passes in
      rw (← h.same) (tags_break pair before (spans g d before) fault h.none
      (sym (ap first_of (adds_all g exact d (Tagged pair) before h.none)) ∙ is))

-- ---- the fault of a log

-- a message is silent for names or for texts
one_silent : (m : Option Message) → (name_mark m ≡ Nothing) ⊎ (text_mark m ≡ Nothing)
one_silent m = grind (arith)

slot_breaks : (form : TextForm) (d : ℕ) (newest : Option Message) (before : List (Option Message)) (fault : AuditFault)
    → IsFormedMessage newest → LogPasses form d before → first_of (slot_adds form d newest before) ≡ Some fault
    → BreaksRule d (text_kind form) (text_mark newest) (marks text_mark before) fault
    ⊎ BreaksRule d names (name_mark newest) (marks name_mark before) fault
slot_breaks form d newest before fault formed passes is = elim (one_silent newest) [
  | inl silent ↦ inl (service_breaks (gauge_of form) (gauge_is_exact form) d (text_mark newest)
      (marks text_mark before) fault formed.text passes.text
      (sym (ap first_of (texts_add form d newest before silent)) ∙ is))
  | inr silent ↦ inr (service_breaks name_gauge name_gauge_is_exact d (name_mark newest) (marks name_mark before) fault
      formed.name passes.name (sym (ap first_of (names_add form d newest before silent)) ∙ is))
]

-- the fault of a log is that of the rule that its first failing slot breaks first
pub fails_by : (form : TextForm) (d : ℕ) (log : List (Option Message)) (fault : AuditFault)
    → AllByRecursion IsFormedMessage log
    → IsFaultOf form d log fault → FailsBy form d log fault
fails_by form d [] fault formed is = (cc)
fails_by form d (newest ∷ before) fault formed is = by (fails_by form d before fault formed.1)
    (first_fault form d before) refl
  where
    next : (o : Option AuditFault) → first_fault form d before ≡ o
        → or_else o (first_of (slot_adds form d newest before)) ≡ Some fault
    next o e = sym (ap (λ (o : Option AuditFault). or_else o (first_of (slot_adds form d newest before))) e) ∙ is

    by : (IsFaultOf form d before fault → FailsBy form d before fault) → (o : Option AuditFault)
        → first_fault form d before ≡ o
        → FailsBy form d (newest ∷ before) fault
    by earlier (Some found) e =
        let f = earlier (e ∙ next (Some found) e) in
        record {
          later = newest ∷ f.later;
          newest = f.newest;
          before = f.before;
          slots = ap (λ (log : List (Option Message)). newest ∷ log) f.slots;
          passed = f.passed;
          breaks = f.breaks;
        }
    by earlier None e =
        let passes = passes_without form d before formed.1 e in
        record {
          later = [];
          newest = newest;
          before = before;
          slots = refl;
          passed = passes;
          breaks = slot_breaks form d newest before fault formed.0 passes (next None e);
        }

-- what a verdict means, and how up to the first fault the list judges the reigns
pub ruleset verdicts = (no_fault, passes_without, fails_by)

pub ruleset judged_reigns = (are_reigns, gauge_is_exact, name_gauge_is_exact, passing_adds)
