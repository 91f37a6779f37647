-- Lemmas: up to the first fault of a service, its spans have its reigns and break no rule; marks that add nothing to
-- its list pass.
use Rattle.std.proofs.Common.{◌≡◌, ◌+◌, ◌<◌, ◌≤◌, not, ℕ, true, false, nat_lt, List, [], ◌∷◌, length, refl, sym, ap}
use Rattle.std.proofs.Common.{◌∙◌, inl, inr, arith}
use Rattle.std.specs.List.{AllByRecursion, list_any}
use Rattle.std.proofs.lemmas.Bool.{le-ltb, not-false, or_from}
use Rattle.rds_fields.specs.Tag.{PairFields}
use Rattle.rds_receiver.specs.declared.fragment.Fragment.{Fragment}
use Rattle.rds_safety.specs.Flags.{is_other_flag, is_same_flag, same_or_other}
use Rattle.rds_safety.specs.Lawful.{IsAfterFragment, Kind}
use Rattle.rds_safety.specs.Marks.{Mark, Nothing, Sends, Tagged}
use Rattle.rds_audit.specs.declared.fault_set.FaultSet.{FaultSet}
use Rattle.rds_audit.specs.Lengths.{Gauge, IsExact, IsFormed, changes, is_past, lengths_of, tags_end}
use Rattle.rds_audit.specs.Listing.{Span, added, broken_by, broken_newest, first_of_span, fits, joined, none_broken}
use Rattle.rds_audit.specs.Listing.{reigns_of, span_with, spans, spans_after, spans_tagged, turned}
use Rattle.rds_audit.specs.ListingLaws.{IsFormedMark}
use Rattle.rds_audit.specs.Reigns.{Reign, SentTags, after_fragment, after_tags, reigns, opened_from, with_fragment}
use Rattle.rds_audit.specs.Reigns.{with_tags}
use Rattle.rds_audit.specs.Dense.{TagsAreAfter}
use Rattle.rds_audit.specs.Rules.{CanBeBroadcast, HaveOneValue, Passes}
use Rattle.rds_audit.proofs.Keeping.{AreKept, Keeps, keeps, after_later, early, sent_before}
use Rattle.rds_audit.proofs.SpanSteps.{sets_are}

-- ---- a service that passes passed before its newest mark

reigns_before : (d : ℕ) (kind : Kind) (mark : Mark) (before : List Mark)
    → AllByRecursion (CanBeBroadcast d kind) (reigns d (mark ∷ before))
    → AllByRecursion (CanBeBroadcast d kind) (reigns d before)
reigns_before d kind mark before all = grind (arith)

-- a service that passes passed before its newest mark
pub service_passed_before : (d : ℕ) (kind : Kind) (mark : Mark) (before : List Mark) → Passes d kind (mark ∷ before)
    → Passes d kind before
service_passed_before d kind mark before h = grind (arith, reigns_before, early, sent_before)

-- tags come after a fragment with a mark that is no tags, and with tags after a fragment
tags_after : (x : Mark) (sent : List Mark) → ((pair : PairFields) → Tagged pair ≡ x → ⊥) → TagsAreAfter sent
    → TagsAreAfter (x ∷ sent)
tags_after x sent none h t pair (inl s) = absurd (none pair s.1)
tags_after x sent none h t pair (inr s) = after_later x sent t (h t pair s)

tagged_after : (pair : PairFields) (sent : List Mark) → IsAfterFragment sent (length sent) → TagsAreAfter sent
    → TagsAreAfter (Tagged pair ∷ sent)
tagged_after pair sent w h t other (inl s) = after_later (Tagged pair) sent t (rw s.0 w)
tagged_after pair sent w h t other (inr s) = after_later (Tagged pair) sent t (h t other s)

after_some : (d : ℕ) (sent : List Mark) (rs : List Reign) → AreKept d sent rs → (rs ≡ [] → ⊥)
    → IsAfterFragment sent (length sent)
after_some d sent [] k some = absurd (some refl)
after_some d sent (r ∷ older) k some = grind (arith, early)

-- what passes with tags has a reign for them
tagged_some : (d : ℕ) (kind : Kind) (pair : PairFields) (before : List Mark) (rs : List Reign) → Keeps d before rs
    → Passes d kind (Tagged pair ∷ before) → rs ≡ [] → ⊥
tagged_some d kind pair before [] k passes e =
    let w = passes.tagged (length before) pair (inl (refl, refl)) in
    grind (arith)
tagged_some d kind pair before (r ∷ older) k passes e = (cc)

-- ---- the rules that a span breaks

none_early : (d start : ℕ) (tags : List SentTags) → AllByRecursion (λ (s : SentTags). start + d ≤ s.slot) tags
    → list_any (λ (s : SentTags). nat_lt s.slot (start + d)) tags ≡ false
none_early d start [] all = refl
none_early d start (s ∷ older) all = or_from _ _ (le-ltb s.slot (start + d) all.0) (none_early d start older all.1)

module _ (g : Gauge) (exact : IsExact g) (d : ℕ) where
  -- fragments of one value fit it
  pub one_fits : (r : Span) → HaveOneValue g.kind r.reign.fragments r.reign.tags → fits g r ≡ true
  one_fits r one = (exact.measured r.reign.fragments r.reign.tags one).fit

  pub fits_one : (r : Span) → AllByRecursion (IsFormed g.segments) r.reign.fragments → fits g r ≡ true
      → is_past (lengths_of g r.reign.fragments) (tags_end r.reign.tags) ≡ false
      → HaveOneValue g.kind r.reign.fragments r.reign.tags
  fits_one r formed fit ends = grind (arith)

  -- a span that can be a broadcast breaks no rule
  breaks_none : (r : Span) → CanBeBroadcast d g.kind r.reign → r.is_changed ≡ false → r.is_early ≡ false
      → broken_by g d r ≡ none_broken
  breaks_none r can changed early =
      sets_are _ _ changed early (ap not (one_fits r can.one)) (none_early d r.reign.start r.reign.tags can.lasted)
      (exact.measured r.reign.fragments r.reign.tags can.one).ends

  -- a span that breaks no rule has one value
  quiet_one : (r : Span) → AllByRecursion (IsFormed g.segments) r.reign.fragments
      → broken_by g d r ≡ none_broken → HaveOneValue g.kind r.reign.fragments r.reign.tags
  quiet_one r formed none = grind (arith, fits_one, not-false)

-- ---- spans and reigns after one more fragment

-- what a fragment makes of spans, beside what it makes of their reigns: it joins; or it joins the reign, which it
-- changes; or it opens one in time; or it opens one too early
module _ (g : Gauge) (Q : List Span → List Reign → Type 0) (d slot : ℕ) (p : Fragment) (r : Span) (older : List Span)
    (joins_it : changes g r.reign.fragments p ≡ false
    → Q (span_with slot p r ∷ older) (with_fragment slot p r.reign ∷ reigns_of older))
    (changes_it : changes g r.reign.fragments p ≡ true
    → Q (turned d slot p true r older) (with_fragment slot p r.reign ∷ reigns_of older))
    (opens_late : (start : ℕ) → start ≤ slot
    → Q (first_of_span slot p start false false ∷ r ∷ older) (opened_from start slot p ∷ reigns_of (r ∷ older)))
    (opens_early : (start late : ℕ) → slot < late
    → Q (first_of_span slot p start false true ∷ r ∷ older) (opened_from late slot p ∷ reigns_of (r ∷ older))) where
  by_change : Q (joined g d slot p r older) (with_fragment slot p r.reign ∷ reigns_of older)
  by_change = grind (arith)

  pub by_fragment : Q (spans_after g d slot p (r ∷ older)) (after_fragment d slot p (reigns_of (r ∷ older)))
  by_fragment = grind (arith, same_or_other, is_same_flag, by_change, is_other_flag)

-- ---- up to the first fault

-- these spans are these reigns, and the newest one breaks no rule
pub record AreReigns (g : Gauge) (d : ℕ) (sent : List Mark) (rs : List Span) (regs : List Reign) : Type 0 where
  pub same : reigns_of rs ≡ regs
  pub none : broken_newest g d sent rs ≡ none_broken

module _ (g : Gauge) (exact : IsExact g) (d : ℕ) where
  -- no fragment of a reign that can be a broadcast changes it
  never_changes : (p : Fragment) (older : List Fragment) (tags : List SentTags)
      → HaveOneValue g.kind (p ∷ older) tags → changes g older p ≡ false
  never_changes p older tags one =
      let fit = (exact.measured (p ∷ older) tags one).fit in
      grind (arith)

  fragment_reigns : (p : Fragment) (before : List Mark) (rs : List Span)
      → AllByRecursion (CanBeBroadcast d g.kind) (reigns_of rs)
      → AllByRecursion (CanBeBroadcast d g.kind) (after_fragment d (length before) p (reigns_of rs))
      → AreReigns g d before rs (reigns_of rs)
      → AreReigns g d (Sends p ∷ before) (spans_after g d (length before) p rs) (after_fragment d (length before) p
      (reigns_of rs))
  fragment_reigns p before [] was all h = search (arith, breaks_none)
  fragment_reigns p before (r ∷ older) was all h =
      by_fragment g (λ (rs : List Span) (regs : List Reign). AllByRecursion (CanBeBroadcast d g.kind) regs
      → AreReigns g d (Sends p ∷ before) rs regs) d (length before) p r older
      (λ u all. record {
        same = refl;
        none = breaks_none g exact d (span_with (length before) p r) all.0 (ap (λ (f : FaultSet). f.changed) h.none)
            (ap (λ (f : FaultSet). f.early_flag) h.none);
      })
      (λ changed all. cc (never_changes p r.reign.fragments r.reign.tags all.0.one))
      (λ start late all. record {
        same = refl;
        none = breaks_none g exact d (first_of_span (length before) p start false false) all.0 refl refl;
      })
      (λ start late less all. absurd (omega (arith, all.0.begun, less)))
      all

  tags_reigns : (pair : PairFields) (before : List Mark) (rs : List Span) → (reigns_of rs ≡ [] → ⊥)
      → AllByRecursion (CanBeBroadcast d g.kind) (after_tags (length before) pair (reigns_of rs))
      → AreReigns g d before rs (reigns_of rs)
      → AreReigns g d (Tagged pair ∷ before) (spans_tagged (length before) pair rs) (after_tags (length before) pair
      (reigns_of rs))
  tags_reigns pair before [] some all h = absurd (some refl)
  tags_reigns pair before (r ∷ older) some all h = record {
    same = refl;
    none = breaks_none g exact d (record r { reign = with_tags (length before) pair r.reign }) all.0
        (ap (λ (f : FaultSet). f.changed) h.none) (ap (λ (f : FaultSet). f.early_flag) h.none);
  }

  -- the spans of a service that passes have its reigns, and the newest breaks no rule
  pub are_reigns : (sent : List Mark) → Passes d g.kind sent → AreReigns g d sent (spans g d sent) (reigns d sent)
  are_reigns [] passes = record { same = refl; none = refl }
  are_reigns (Nothing ∷ before) passes = grind (arith, are_reigns before)
  are_reigns (Sends p ∷ before) passes =
      let passed = service_passed_before d g.kind (Sends p) before passes in
      let h = are_reigns before passed in
      rw (← h.same) (fragment_reigns p before (spans g d before) (rw h.same passed.reigns) (rw h.same passes.reigns)
      record { same = refl; none = h.none })
  are_reigns (Tagged pair ∷ before) passes =
      let passed = service_passed_before d g.kind (Tagged pair) before passes in
      let h = are_reigns before passed in
      rw (← h.same) (tags_reigns pair before (spans g d before)
      (λ e. tagged_some d g.kind pair before (reigns d before) (keeps d before) passes (sym h.same ∙ e))
      (rw h.same passes.reigns) record { same = refl; none = h.none })

  -- ---- at the first fault

  -- without a fault before, a slot adds what the newest span breaks
  pub adds_all : (mark : Mark) (before : List Mark) → broken_newest g d before (spans g d before) ≡ none_broken
      → added g d mark before ≡ broken_newest g d (mark ∷ before) (spans g d (mark ∷ before))
  adds_all mark before none = grind (arith, sets_are)

  -- a mark that breaks no rule adds nothing
  pub adds_none : (mark : Mark) (before : List Mark) → Passes d g.kind (mark ∷ before)
      → added g d mark before ≡ none_broken
  adds_none mark before passes = adds_all mark before (are_reigns before (service_passed_before d g.kind mark before
      passes)).none ∙ (are_reigns (mark ∷ before) passes).none

  -- ---- the next mark

  can_be_after : (p : Fragment) (before : List Mark) (rs : List Span) → IsFormed g.segments p
      → AllByRecursion (CanBeBroadcast d g.kind) (reigns_of rs)
      → broken_newest g d (Sends p ∷ before) (spans_after g d (length before) p rs) ≡ none_broken
      → AllByRecursion (CanBeBroadcast d g.kind) (after_fragment d (length before) p (reigns_of rs))
  can_be_after p before [] formed was none = (
    record {
      begun = omega arith;
      lasted = tt;
      one = quiet_one g exact d (first_of_span (length before) p 0 false false)
          (formed, tt) none;
    },
    tt,
  )
  can_be_after p before (r ∷ older) formed was none =
      by_fragment g (λ (rs : List Span) (regs : List Reign). broken_newest g d (Sends p ∷ before) rs ≡ none_broken
      → AllByRecursion (CanBeBroadcast d g.kind) regs) d (length before) p r older
      (λ u none. (
        record {
          begun = was.0.begun;
          lasted = was.0.lasted;
          one = quiet_one g exact d (span_with (length before) p r)
              (formed, exact.formed r.reign.fragments r.reign.tags was.0.one) none;
        },
        was.1,
      ))
      (λ other none. cc (ap (λ (f : FaultSet). f.changed) none))
      (λ start late none. (
        record {
          begun = late;
          lasted = tt;
          one = quiet_one g exact d (first_of_span (length before)
              p start false false) (formed, tt) none;
        },
        was,
      ))
      (λ start late less none. cc (ap (λ (f : FaultSet). f.early_flag) none))
      none

  can_be_tagged : (pair : PairFields) (before : List Mark) (rs : List Span)
      → AllByRecursion (CanBeBroadcast d g.kind) (reigns_of rs)
      → broken_newest g d (Tagged pair ∷ before) (spans_tagged (length before) pair rs) ≡ none_broken
      → (reigns_of rs ≡ [] → ⊥) × AllByRecursion (CanBeBroadcast d g.kind) (after_tags (length before) pair
      (reigns_of rs))
  can_be_tagged pair before rs was none = grind (arith)

  -- a mark that adds nothing to marks that pass: they pass with it too
  pub quiet_passes : (mark : Mark) (before : List Mark) → IsFormedMark g.segments mark → Passes d g.kind before
      → added g d mark before ≡ none_broken → Passes d g.kind (mark ∷ before)
  quiet_passes Nothing before formed passes none = grind (arith, tags_after)
  quiet_passes (Sends p) before formed passes none =
      let h = are_reigns before passes in
      record {
        reigns = rw (← h.same) (can_be_after p before (spans g d before) formed (rw h.same passes.reigns)
            (sym (adds_all (Sends p) before h.none) ∙ none));
        tagged = tags_after (Sends p) before (λ pair e. (cc)) passes.tagged;
      }
  quiet_passes (Tagged pair) before formed passes none =
      let h = are_reigns before passes in
      let can = can_be_tagged pair before (spans g d before) (rw h.same passes.reigns)
      (sym (adds_all (Tagged pair) before h.none) ∙ none) in
      record {
        reigns = rw (← h.same) can.1;
        tagged = tagged_after pair before (after_some d before (reigns d before) (keeps d before).0
            (λ e. can.0 (h.same ∙ e))) passes.tagged;
      }
