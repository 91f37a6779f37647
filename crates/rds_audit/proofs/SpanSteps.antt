-- Lemmas: the state of a service from slot to slot, as a list of faults keeps it.
use Rattle.std.proofs.lemmas.Bool.Decides.{nat_tests}
use Rattle.std.proofs.Common.{◌≡◌, ℕ, zero, suc, Bool, true, false, List, [], ◌∷◌, Option, Some, None, length, refl, ap}
use Rattle.std.proofs.Common.{inl, inr, arith, ◌<◌, get_or, set, sym, ◌+◌, ◌-◌, ◌≤◌, min, not, ◌&&◌, ◌↔◌, IsTrue, ◌∙◌}
use Rattle.std.proofs.Common.{◌*◌, ◌^◌, ◌||◌, nat_lt, cond, replicate}
use Rattle.rds_fields.specs.declared.message.Message.{Message}
use Rattle.rds_fields.specs.declared.message.Message.TheVariants.{Text, Name, Announce, Tags}
use Rattle.rds_fields.specs.Tag.{PairFields}
use Rattle.rds_safety.specs.Marks.{IsMarkIn, Mark, Nothing, Tagged, marks, name_mark, text_mark, Sends}
use Rattle.rds_audit.specs.declared.log_start.LogStart.{LogStart}
use Rattle.rds_audit.specs.declared.log_start.LogStart.TheVariants.{Complete, Running}
use Rattle.rds_audit.specs.Recording.{counted_as, from_first_text, has_text, judged_as, silent_as}
use Rattle.rds_audit.specs.Reigns.{reigns, AlternateFlags, Reign, SentTags}
use Rattle.rds_audit.specs.Rules.{Passes}
use Rattle.rds_safety.specs.Lawful.{Kind}
use Rattle.std.specs.List.{AllByRecursion, list_any}
use Rattle.rds_receiver.specs.declared.fragment.Fragment.{Fragment}
use Rattle.rds_receiver.specs.Run.{is_same}
use Rattle.rds_audit.specs.Ages.{Ages, HoldsAges, Joins, aged, restarted, age_of_newest, ages_at}
use Rattle.std.proofs.lemmas.Bool.{le-ltb}
use Rattle.rds_safety.specs.Flags.{is_other_flag, is_same_flag, same_or_other}
use Rattle.rds_audit.specs.declared.fault_set.FaultSet.{FaultSet}
use Rattle.rds_audit.specs.AuditAt.{FollowsFrom, HoldsNewestSpans, HoldsSpans, content_of}
use Rattle.rds_audit.proofs.SpanOrder.{cells_long, cells_sent, AreInOrder, bytes_same, in_order}
use Rattle.rds_audit.specs.ReignsState.{ContentState, cell_at, changes_in, no_content}
use Rattle.rds_audit.specs.Lengths.{Gauge, IsFormed, all_fit, changes, is_past, measured_after, sent_cells, sent_last}
use Rattle.rds_audit.specs.Lengths.{tags_end}
use Rattle.rds_audit.proofs.LengthSets.{past_further, past_less, measured_again, measured_less, not_past}
use Rattle.rds_audit.specs.Listing.{Span, added, broken_by, broken_newest, due_after, first_of_span, is_tagged, joined}
use Rattle.rds_audit.specs.Listing.{none_broken, not_before, reigns_of, span_with, spans, spans_after, spans_tagged}
use Rattle.rds_audit.specs.Listing.{turned}
use Rattle.rds_audit.specs.AuditState.{SpansState, began_before, comes_early, is_turned, judged_fragment, opened_in}
use Rattle.rds_audit.specs.AuditState.{put_in, repeated_in, tagged_in}

-- ---- before the first slot

silent_texts : (lost : ℕ) → marks text_mark (from_first_text (replicate lost None)) ≡ replicate lost Nothing
silent_texts zero = refl
silent_texts (suc n) = ap (λ (sent : List Mark). Nothing ∷ sent) (silent_texts n)

silent_names : (lost : ℕ) → marks name_mark (from_first_text (replicate lost None)) ≡ replicate lost Nothing
silent_names zero = refl
silent_names (suc n) = ap (λ (sent : List Mark). Nothing ∷ sent) (silent_names n)

-- what is judged before the first slot is silent
pub texts_begin : (start : LogStart) (d : ℕ) → marks text_mark (judged_as start d []) ≡ silent_as start d
texts_begin start d = grind (arith, silent_texts)

-- before the first slot no name is judged
pub names_begin : (start : LogStart) (d : ℕ) → marks name_mark (judged_as start d []) ≡ silent_as start d
names_begin start d = grind (arith, silent_names)

pub silent_reigns : (d lost : ℕ) → reigns d (replicate lost Nothing) ≡ []
silent_reigns d zero = refl
silent_reigns d (suc n) = silent_reigns d n

-- as many slots are silent as were lost
pub silent_length : (lost : ℕ) → length (replicate lost Nothing) ≡ lost
silent_length zero = refl
silent_length (suc n) = let e = silent_length n in omega arith

no_tags : (lost t : ℕ) (pair : PairFields) → IsMarkIn (replicate lost Nothing) t (Tagged pair) → ⊥
no_tags zero t pair h = h
no_tags (suc n) t pair (inl s) = (let none = s.1 in cc)
no_tags (suc n) t pair (inr s) = no_tags n t pair s

-- what is silent passes
silence : (kind : Kind) (d lost : ℕ) → Passes d kind (replicate lost Nothing)
silence kind d lost = grind (arith, silent_reigns, no_tags)

-- silence passes
pub silent_passes : (kind : Kind) (start : LogStart) (d : ℕ) → Passes d kind (silent_as start d)
silent_passes kind Complete d = silence kind d 0
silent_passes kind Running d = silence kind d d

-- ---- from slot to slot

-- tags count after a text segment, and not before
pub tags_count : (start : LogStart) (judged : List (Option Message)) (pair : PairFields) → has_text judged ≡ true
    → counted_as start judged (Some (Tags pair)) ≡ Some (Tags pair)
tags_count start judged pair e = grind (arith)

tags_wait : (start : LogStart) (judged : List (Option Message)) (pair : PairFields) → start ≡ Running
    → has_text judged ≡ false → counted_as start judged (Some (Tags pair)) ≡ None
tags_wait start judged pair is e = rw (is, e) refl

-- in a complete log all tags count
pub tags_complete : (start : LogStart) (judged : List (Option Message)) (pair : PairFields) → start ≡ Complete
    → counted_as start judged (Some (Tags pair)) ≡ Some (Tags pair)
tags_complete start judged pair is = rw is refl

-- all others count as they are
pub text_counts : (start : LogStart) (judged : List (Option Message)) (f : Bool) (a : ℕ) (b : List ℕ)
    → counted_as start judged (Some (Text f a b)) ≡ Some (Text f a b)
text_counts start judged f a b = grind (arith)

-- segments of names count in each log
pub name_counts : (start : LogStart) (judged : List (Option Message)) (f : Bool) (a : ℕ) (b : List ℕ)
    → counted_as start judged (Some (Name f a b)) ≡ Some (Name f a b)
name_counts start judged f a b = grind (arith)

-- these count for neither service
abbrev pub IsSilent : Option Message → Type 0
IsSilent message = (text_mark message ≡ Nothing) × (name_mark message ≡ Nothing)

-- an empty slot counts as silent
pub nothing_counts : (start : LogStart) (judged : List (Option Message)) → IsSilent (counted_as start judged None)
nothing_counts start judged = grind (arith)

-- in a recording tags before the first text count as silent
pub tags_silent : (start : LogStart) (judged : List (Option Message)) (pair : PairFields) → start ≡ Running
    → has_text judged ≡ false → IsSilent (counted_as start judged (Some (Tags pair)))
tags_silent start judged pair is e = rw (tags_wait start judged pair is e) (refl, refl)

-- an announcement counts as silent
pub announcement_counts : (start : LogStart) (judged : List (Option Message)) (code bits aid : ℕ)
    → IsSilent (counted_as start judged (Some (Announce code bits aid)))
announcement_counts start judged code bits aid = grind (arith)

-- another message counts as silent
-- ---- a segment that the reign has already changes nothing but the age of the reign

-- an element replaced by itself
pub set_held : {A : Type 0} (l : List A) (i : ℕ) (x d : A) → i < length l → get_or l i d ≡ x → set l i x ≡ l
set_held [] i x d h e = absurd (omega (arith, h))
set_held (y ∷ l) zero x d h e = ap (λ z. z ∷ l) (sym e)
set_held (y ∷ l) (suc i) x d h e = ap (λ r. y ∷ r) (set_held l i x d (omega (arith, h)) e)

-- ---- how the ages change with the reigns

-- each reign ended before this slot
abbrev pub AreOver : ℕ → List Reign → Type 0
AreOver now rs = AllByRecursion (λ (r : Reign). (r.start ≤ r.last) × (r.last < now)) rs

-- more of the newest reign was sent now
pub ages_renewed : (d now opened : ℕ) (fragments : List Fragment) (tags : List SentTags) (r : Reign)
    (older : List Reign) (a : Ages) → HoldsAges d now (r ∷ older) a
    → HoldsAges d now (record {
      start = r.start;
      opened = opened;
      last = now;
      flag = r.flag;
      fragments = fragments;
      tags = tags;
    } ∷ older) record a { since_last = 0 }
ages_renewed d now opened fragments tags r older a h = grind (arith)

-- a fragment of this flag joins the newest reign
pub joins_near : (d now : ℕ) (flag : Bool) (r : Reign) (older : List Reign) (a : Ages) → HoldsAges d now (r ∷ older) a
    → Joins d flag a → (r.flag ≡ flag) × (now < r.last + d)
joins_near d now flag r older a h g = (sym h.current.1 ∙ sym g.0, omega (arith, h.newest, g.1))

-- before the first reign none joins
pub none_joins : (d now : ℕ) (flag : Bool) (a : Ages) → HoldsAges d now [] a → Joins d flag a → ⊥
none_joins d now flag a h g = omega (arith, h.newest, g.1)

opened_turns : (d now : ℕ) (q : Reign) (rs : List Reign) (a : Ages) → HoldsAges d now rs a
    → IsTrue (a.turns && not (a.is_open && is_same q.flag a.flag)) ↔ AlternateFlags (q ∷ rs)
opened_turns d now q rs a h = grind (arith)

-- the ages once a reign was opened that started n slots ago
pub ages_begun : (d now n : ℕ) (q : Reign) (rs : List Reign) (a : Ages) → q.last ≡ now → n ≡ min (now - q.start) d
    → HoldsAges d now rs a → HoldsAges d now (q ∷ rs) record (restarted n q.flag a) { since_last = 0 }
ages_begun d now n q rs a last start h = grind (arith, opened_turns)

-- one slot older
pub ages_later : (d now : ℕ) (rs : List Reign) (a : Ages) → AreOver (now + 1) rs → HoldsAges d now rs a
    → HoldsAges d (now + 1) rs (aged d a)
ages_later d now rs a over h = grind (arith)

-- ---- the rules that a span breaks

-- two sets with the same five faults are equal
pub sets_are : (f g : FaultSet) → f.changed ≡ g.changed → f.early_flag ≡ g.early_flag → f.not_one_text ≡ g.not_one_text
    → f.early_tag ≡ g.early_tag → f.tag_outside ≡ g.tag_outside → f ≡ g
sets_are f g a b c d e = grind (arith)

not_one : (some each : Bool) → (not each || not some) ≡ not (some && each)
not_one some each = grind arith

-- an end past each length stays past those that a fragment leaves
ends_past : (l less n : ℕ) → less ≤ l → (is_past l n || is_past less n) ≡ is_past less n
ends_past l less n h = grind (arith, past_less l less n h)

-- the rules that a span breaks with one more fragment
broken_with : (g : Gauge) (d now : ℕ) (p : Fragment) (r : Span)
    → judged_fragment (measured_after g r.reign.fragments p) (tags_end r.reign.tags) (broken_by g d r)
    ≡ broken_by g d (span_with now p r)
broken_with g d now p r = sets_are _ _ refl refl (not_one _ _) refl
    (ends_past _ _ (tags_end r.reign.tags) (measured_less g r.reign.fragments p))

-- a span without fragments
abbrev no_fragment : ℕ → ℕ → Bool → Bool → Bool → Span
no_fragment start now flag is_changed is_early = record {
  reign = record { start = start; opened = now; last = now; flag = flag; fragments = []; tags = [] };
  is_changed = is_changed;
  is_early = is_early;
}

empty_broken : (g : Gauge) → 0 < g.lengths → (d start now : ℕ) (flag is_changed is_early : Bool)
    → record none_broken { changed = is_changed; early_flag = is_early }
    ≡ broken_by g d (no_fragment start now flag is_changed is_early)
empty_broken g some d start now flag is_changed is_early =
    sets_are _ _ refl refl refl refl (sym (not_past g.lengths some))

-- a span breaks the same rules with what was sent last at an address
broken_again : (g : Gauge) (d now : ℕ) (p : Fragment) (r : Span)
    → get_or (sent_cells r.reign.fragments) p.address None ≡ Some p.bytes
    → broken_by g d (span_with now p r) ≡ broken_by g d r
broken_again g d now p r e =
    let again = measured_again g r.reign.fragments p e in
    sets_are _ _ refl refl (ap (λ m. not (m.fits && all_fit g r.reign.fragments)) again) refl
    (ap (λ m. is_past m.lengths (tags_end r.reign.tags)) again)

-- an end past each length is not within by a further end
further_past : (l end more : ℕ) → end ≤ more → (is_past l end || is_past l more) ≡ is_past l more
further_past l end more less = grind (arith, past_further)

or_swap : (x y : Bool) → (x || y) ≡ (y || x)
or_swap x y = grind arith

-- ---- the state after a fragment

module _ (g : Gauge) (few : g.segments ≤ 16) (some : 0 < g.lengths) (d : ℕ) (pos : 0 < d) (sent : List Mark) where
  abbrev now : ℕ
  now = length sent

  -- a fragment is put into a span
  put_follows : (p : Fragment) (r : Span) (older : List Span) (s : SpansState) → IsFormed g.segments p
      → HoldsAges d now (reigns_of (span_with now p r ∷ older)) record s.reigns.ages { since_last = 0 }
      → s.reigns.content ≡ content_of g r.reign.fragments r.reign.tags
      → s.count ≡ min (suc (length older)) (2 ^ 64 - 1) → s.broken ≡ broken_by g d r
      → FollowsFrom g d now (Sends p ∷ sent) (span_with now p r ∷ older) (put_in g p s)
  put_follows p r older s formed ages content count broken = grind (arith, broken_with)

  -- the content holds what was sent last at the address of a fragment
  held : (p : Fragment) (r : Span) → IsFormed g.segments p
      → get_or (sent_cells r.reign.fragments) p.address None ≡ sent_last p.address r.reign.fragments
  held p r formed = cells_sent r.reign.fragments p.address (omega (arith, formed.address))

  -- what joins the newest span joins it by the definition too
  is_joined : (Q : List Span → Type 0) (p : Fragment) (r : Span) (older : List Span) (a : Ages)
      → HoldsAges d now (reigns_of (r ∷ older)) a → Joins d p.flag a
      → Q (joined g d now p r older) → Q (spans_after g d now p (r ∷ older))
  is_joined Q p r older a h on q = grind (arith, joins_near, is_same_flag)

  -- a fragment changes the newest span by the state if it does by the spans
  changed_by : (p : Fragment) (r : Span) (c : ContentState) → IsFormed g.segments p
      → c ≡ content_of g r.reign.fragments r.reign.tags
      → changes g r.reign.fragments p ≡ changes_in g p.address p.bytes c
  changed_by p r c formed h = rw (h, held p r formed)

  -- the state after a fragment that joins the newest span follows from the spans
  pub joined_follows : (p : Fragment) (rs : List Span) (s : SpansState) → IsFormed g.segments p
      → FollowsFrom g d now sent rs s → Joins d p.flag s.reigns.ages
      → changes_in g p.address p.bytes s.reigns.content ≡ false
      → FollowsFrom g d now (Sends p ∷ sent) (spans_after g d now p rs) (put_in g p s)
      × (length (spans_after g d now p rs) ≡ length rs)
  joined_follows p [] s formed h on no_other = absurd (none_joins d now p.flag s.reigns.ages h.ages on)
  joined_follows p (r ∷ older) s formed h on no_other =
      is_joined (λ (rs : List Span). FollowsFrom g d now (Sends p ∷ sent) rs (put_in g p s)
      × (length rs ≡ suc (length older))) p r older s.reigns.ages h.ages on
      (rw (changed_by p r s.reigns.content formed h.content ∙ no_other) (
        search (arith, put_follows, ages_renewed),
        refl,
      ))

  -- the test of an early span
  early_same : (r : Span) (older : List Span) (since_before : ℕ) → r.reign.last < now
      → since_before ≡ age_of_newest d now (reigns_of older)
      → nat_lt since_before d ≡ nat_lt now (due_after d r older)
  early_same r older since_before over e = grind (arith)

  -- the start of a span that turned
  turned_start : (r : Span) (older : List Span) (since_last since_before : ℕ) → AreInOrder now (r ∷ older)
      → since_last ≡ min (now - r.reign.last) (2 * d) → since_before ≡ age_of_newest d now (reigns_of older)
      → cond (nat_lt since_before d) (since_last - 1) (min (since_last - 1) (since_before - d))
      ≡ min (now - cond (nat_lt now (due_after d r older)) (r.reign.last + 1)
      (due_after d r older)) d
  turned_start r older since_last since_before order last before = grind (arith)

  -- a span is opened that started in slot `start`
  begins : (p : Fragment) (rs : List Span) (start : ℕ) (is_changed is_early : Bool) (s : SpansState)
      → IsFormed g.segments p → HoldsAges d now (reigns_of rs) s.reigns.ages
      → began_before d is_changed p.flag s.reigns.ages ≡ min (now - start) d
      → comes_early d is_changed p.flag s.reigns.ages ≡ is_early → s.count ≡ min (length rs) (2 ^ 64 - 1)
      → FollowsFrom g d now (Sends p ∷ sent) (first_of_span now p start is_changed is_early ∷ rs)
      (put_in g p (opened_in d g.lengths is_changed p.flag s))
  begins p rs start is_changed is_early s formed ages began early count =
      grind (arith, put_follows, ages_begun, empty_broken)

  -- the newest span of these is followed by one that counts as turned
  turns : (p : Fragment) (r : Span) (older : List Span) (is_changed : Bool) (s : SpansState) → IsFormed g.segments p
      → AreInOrder now (r ∷ older) → HoldsAges d now (reigns_of (r ∷ older)) s.reigns.ages
      → is_turned is_changed p.flag s.reigns.ages ≡ true
      → s.count ≡ min (suc (length older)) (2 ^ 64 - 1)
      → FollowsFrom g d now (Sends p ∷ sent) (turned d now p is_changed r older)
      (put_in g p (opened_in d g.lengths is_changed p.flag s))
  turns p r older is_changed s formed order ages is count = search (arith, begins, turned_start, early_same)

  -- so does the state after a fragment that changes the newest span
  pub changed_follows : (p : Fragment) (rs : List Span) (s : SpansState) → IsFormed g.segments p → AreInOrder now rs
      → FollowsFrom g d now sent rs s → Joins d p.flag s.reigns.ages
      → changes_in g p.address p.bytes s.reigns.content ≡ true
      → FollowsFrom g d now (Sends p ∷ sent) (spans_after g d now p rs)
      (put_in g p (opened_in d g.lengths true p.flag s)) × (length (spans_after g d now p rs) ≡ suc (length rs))
  changed_follows p [] s formed order h on other = absurd (none_joins d now p.flag s.reigns.ages h.ages on)
  changed_follows p (r ∷ older) s formed order h on other =
      is_joined (λ (rs : List Span). FollowsFrom g d now (Sends p ∷ sent) rs
      (put_in g p (opened_in d g.lengths true p.flag s)) × (length rs ≡ suc (suc (length older))))
      p r older s.reigns.ages h.ages on
      (rw (changed_by p r s.reigns.content formed h.content ∙ other)
      (turns p r older true s formed order h.ages refl h.count, refl))

  -- so does the state after a fragment that joins no span
  pub opened_follows : (p : Fragment) (rs : List Span) (s : SpansState) → IsFormed g.segments p → AreInOrder now rs
      → FollowsFrom g d now sent rs s → (Joins d p.flag s.reigns.ages → ⊥)
      → FollowsFrom g d now (Sends p ∷ sent) (spans_after g d now p rs)
      (put_in g p (opened_in d g.lengths false p.flag s)) × (length (spans_after g d now p rs) ≡ suc (length rs))
  opened_follows p [] s formed order h apart = grind (arith, begins)
  opened_follows p (r ∷ older) s formed order h apart = elim (same_or_other r.reign.flag p.flag) [
    | inl e ↦
        let mine = is_same_flag p.flag s.reigns.ages.flag (sym (h.ages.current.1 ∙ e)) in
        let away : r.reign.last + d ≤ now = grind (arith) in
        rw (is_same_flag r.reign.flag p.flag e, le-ltb now (r.reign.last + d) away) (
          search (arith, begins),
          refl,
        )
    | inr ne ↦
        let mine = is_other_flag p.flag s.reigns.ages.flag (λ e. ne (sym h.ages.current.1 ∙ sym e)) in
        rw (is_other_flag r.reign.flag p.flag ne)
        (turns p r older false s formed order h.ages (rw mine) h.count, refl)
  ]

  -- so does the state after a fragment that the newest span has already
  pub repeated_follows : (p : Fragment) (rs : List Span) (s : SpansState) → IsFormed g.segments p
      → FollowsFrom g d now sent rs s → Joins d p.flag s.reigns.ages → cell_at p.address s.reigns.content ≡ Some p.bytes
      → FollowsFrom g d now (Sends p ∷ sent) (spans_after g d now p rs) (repeated_in s) × (length
      (spans_after g d now p rs)
      ≡ length rs)
  repeated_follows p [] s formed h on is = absurd (none_joins d now p.flag s.reigns.ages h.ages on)
  repeated_follows p (r ∷ older) s formed h on is =
      let there : get_or (sent_cells r.reign.fragments) p.address None ≡ Some p.bytes = rw h.content at is in
      grind (
        arith,
        nat_tests,
        measured_again g r.reign.fragments p there,
        broken_again g d now p r there,
        held,
        set_held,
        cells_long,
        is_joined,
        bytes_same,
        ages_renewed,
      )

  -- so does the state after tags
  pub tags_follow : (pair : PairFields) (rs : List Span) (s : SpansState) → FollowsFrom g d now sent rs s
      → FollowsFrom g d now (Tagged pair ∷ sent) (spans_tagged now pair rs) (tagged_in d pair s)
      × (length (spans_tagged now pair rs) ≡ length rs)
  tags_follow pair [] s h = grind (arith)
  tags_follow pair (r ∷ older) s h = grind (arith, ages_renewed, sets_are, or_swap, further_past)

-- so does the state after a slot without a mark
pub nothing_follows : (g : Gauge) (d : ℕ) (sent : List Mark) (rs : List Span) (s : SpansState)
    → FollowsFrom g d (length sent) sent rs s → FollowsFrom g d (length sent) (Nothing ∷ sent) rs s
nothing_follows g d sent rs s h = grind (arith)

-- the reigns of spans are over
reigns_over : (slot : ℕ) (rs : List Span) → AreInOrder slot rs → AreOver slot (reigns_of rs)
reigns_over slot [] h = tt
reigns_over slot (r ∷ older) h = ((h.0.begun, h.0.over), reigns_over slot older h.1)

-- at the end of a slot
pub spans_later : (g : Gauge) (d : ℕ) (mark : Mark) (before : List Mark) (s : SpansState) → 0 < d
    → HoldsNewestSpans g d mark before s
    → HoldsSpans g d (mark ∷ before) record s { reigns = record s.reigns { ages = aged d s.reigns.ages } }
spans_later g d mark before s pos h =
    let one : suc (length before) ≡ length before + 1 = omega arith in
    record {
      ages = rw one (ages_later d (length before) (reigns_of (spans g d (mark ∷ before))) s.reigns.ages
          (rw one at (reigns_over _ _ (in_order g d (mark ∷ before) pos))) h.ages);
      content = h.content;
      count = h.count;
      broken = h.broken;
    }

-- ---- what a slot adds

-- a mark that opens no span adds the faults that its span did not have
pub added_more : (g : Gauge) (d : ℕ) (mark : Mark) (before : List Mark) (old new : FaultSet)
    → length (spans g d (mark ∷ before)) ≡ length (spans g d before)
    → old ≡ broken_newest g d before (spans g d before)
    → new ≡ broken_newest g d (mark ∷ before) (spans g d (mark ∷ before)) → not_before old new ≡ added g d mark before
added_more g d mark before old new same e f = grind (arith)

-- a mark that opens a span adds all faults of it
pub added_first : (g : Gauge) (d : ℕ) (mark : Mark) (before : List Mark) (new : FaultSet)
    → length (spans g d (mark ∷ before)) ≡ suc (length (spans g d before))
    → new ≡ broken_newest g d (mark ∷ before) (spans g d (mark ∷ before)) → new ≡ added g d mark before
added_first g d mark before new more f = grind (arith)

-- a mark that opens no span, or opens one
pub takes_more : (g : Gauge) (d : ℕ) (mark : Mark) (sent : List Mark) (s after made : SpansState) (result : FaultSet)
    → after ≡ made → result ≡ not_before s.broken after.broken
    → HoldsNewestSpans g d mark sent made × (length (spans g d (mark ∷ sent)) ≡ length (spans g d sent))
    → HoldsSpans g d sent s → HoldsNewestSpans g d mark sent after × (result ≡ added g d mark sent)
takes_more g d mark sent s after made result e r f h = grind (arith, added_more)

pub takes_first : (g : Gauge) (d : ℕ) (mark : Mark) (sent : List Mark) (after made : SpansState) (result : FaultSet)
    → after ≡ made → result ≡ after.broken
    → HoldsNewestSpans g d mark sent made × (length (spans g d (mark ∷ sent)) ≡ suc (length (spans g d sent)))
    → HoldsNewestSpans g d mark sent after × (result ≡ added g d mark sent)
takes_first g d mark sent after made result e r f = rw (r, e) (f.0, added_first g d mark sent _ f.1 f.0.broken)

-- nothing new is added
pub none_new : (f : FaultSet) → none_broken ≡ not_before f f
none_new f = sets_are _ _ (grind arith) (grind arith) (grind arith) (grind arith) (grind arith)

-- ---- before the first slot

silent_spans : (g : Gauge) (d lost : ℕ) → spans g d (replicate lost Nothing) ≡ []
silent_spans g d zero = refl
silent_spans g d (suc n) = silent_spans g d n

silent_tags : (lost : ℕ) → list_any is_tagged (replicate lost Nothing) ≡ false
silent_tags zero = refl
silent_tags (suc n) = silent_tags n

-- before the first slot the state follows from no span
pub silent_follows : (g : Gauge) (start : LogStart) (d : ℕ) (s : SpansState)
    → s.reigns ≡ record { ages = ages_at start d; content = no_content g.lengths } → s.count ≡ 0
    → s.broken ≡ none_broken → HoldsSpans g d (silent_as start d) s
silent_follows g start d s e count broken = grind (arith, silent_spans, silent_length, turns, silent_tags)
