-- Lemmas: what the reigns of a log keep from slot to slot.
use Rattle.std.proofs.Common.{◌≡◌, ◌<◌, ℕ, List, [], ◌∷◌, length, sym, ◌∙◌, inl, inr, arith, ◌+◌, ◌≤◌, refl}
use Rattle.rds_fields.specs.Tag.{PairFields}
use Rattle.rds_receiver.specs.declared.fragment.Fragment.{Fragment}
use Rattle.rds_encoder.specs.Plan.{Broadcast}
use Rattle.rds_audit.specs.Dense.{IsBridged, IsDense, IsMarked}
use Rattle.rds_safety.specs.Lawful.{IsAfterFragment, IsLawful, Kind}
use Rattle.rds_safety.specs.Marks.{IsMarkIn, Mark, Sends, Tagged, Nothing}
use Rattle.std.proofs.lemmas.Bool.{cond_both}
use Rattle.rds_audit.specs.Reigns.{Reign, after_fragment, after_tags, joins, opened_by, reigns, with_fragment}
use Rattle.rds_audit.specs.Reigns.{with_tags}

-- ---- the marks before and after one more slot

-- a mark was sent before now
pub early : (sent : List Mark) (t : ℕ) (m : Mark) → IsMarkIn sent t m → t < length sent
early [] t m s = absurd s
early (n ∷ before) t m (inl s) = omega arith
early (n ∷ before) t m (inr s) = omega (arith, early before t m s)

-- a slot with a mark is before now
pub marked_early : (sent : List Mark) (t : ℕ) → IsMarked sent t → t < length sent
marked_early sent t m = early sent t m.mark m.is_sent

-- a slot has one mark at most
pub one_mark : (sent : List Mark) (t : ℕ) (m n : Mark) → IsMarkIn sent t m → IsMarkIn sent t n → m ≡ n
one_mark [] t m n p q = absurd p
one_mark (x ∷ before) t m n (inl p) (inl q) = p.1 ∙ sym q.1
one_mark (x ∷ before) t m n (inl p) (inr q) = absurd (omega (arith, early before t n q))
one_mark (x ∷ before) t m n (inr p) (inl q) = absurd (omega (arith, early before t m p))
one_mark (x ∷ before) t m n (inr p) (inr q) = one_mark before t m n p q

-- a mark of an earlier slot than the newest
pub sent_before : (x : Mark) (before : List Mark) (t : ℕ) (m : Mark) → t < length before → IsMarkIn (x ∷ before) t m
    → IsMarkIn before t m
sent_before x before t m h h5 = grind (arith)

-- an older slot that has a mark had it before the newest slot
pub marked_before : (x : Mark) (before : List Mark) (t : ℕ) → t < length before → IsMarked (x ∷ before) t
    → IsMarked before t
marked_before x before t h m = grind (arith, sent_before)

-- a slot that has a mark has it after one slot more
pub marked_later : (x : Mark) (before : List Mark) (t : ℕ) → IsMarked before t → IsMarked (x ∷ before) t
marked_later x before t m = record { mark = m.mark; some = m.some; is_sent = inr m.is_sent }

-- slots that are bridged stay so after one slot more
pub bridged_later : (d : ℕ) (x : Mark) (before : List Mark) (u t : ℕ) → IsBridged d before u t
    → IsBridged d (x ∷ before) u t
bridged_later d x before u t b = grind (arith, marked_later)

-- the slot of a fragment has a mark
pub fragment_is_marked : (sent : List Mark) (t : ℕ) (p : Fragment) → IsMarkIn sent t (Sends p) → IsMarked sent t
fragment_is_marked sent t p s = record { mark = Sends p; some = λ e. (cc); is_sent = s }

-- the slot of tags has a mark
pub tags_are_marked : (sent : List Mark) (t : ℕ) (pair : PairFields) → IsMarkIn sent t (Tagged pair) → IsMarked sent t
tags_are_marked sent t pair s = record { mark = Tagged pair; some = λ e. (cc); is_sent = s }

-- what came after a fragment comes after it with one slot more too
pub after_later : (x : Mark) (sent : List Mark) (t : ℕ) → IsAfterFragment sent t → IsAfterFragment (x ∷ sent) t
after_later x sent t w = record { slot = w.slot; fragment = w.fragment; is_sent = inr w.is_sent; before = w.before }

-- a plan that is lawful and dense for a log is so for its earlier slots
pub lawful_before : (d : ℕ) (kind : Kind) (plan : List Broadcast) (x : Mark) (before : List Mark)
    → IsLawful d kind plan (x ∷ before) → IsLawful d kind plan before
lawful_before d kind plan x before h = grind (arith, after_later)

-- a plan that is dense for some marks is dense for those before the newest
pub dense_before : (d : ℕ) (plan : List Broadcast) (x : Mark) (before : List Mark) → IsDense d plan (x ∷ before)
    → IsDense d plan before
dense_before d plan x before h = record {
  fragments = λ k b u t q p n cu ct su st lt.
      let w = h.fragments k b u t q p n cu ct (inr su) (inr st) lt in
      search (arith, early, marked_before);
  tags = λ k b t pair n ct st.
      let w = h.tags k b t pair n ct (inr st) in
      search (arith, early, sent_before);
}

-- ---- what the reigns of a log keep from slot to slot

-- the slot is not after the newest of these reigns; without a reign, no fragment was sent in it
abbrev pub IsBehind : List Mark → List Reign → ℕ → Type 0
IsBehind sent [] u = (p : Fragment) → IsMarkIn sent u (Sends p) → ⊥
IsBehind sent (r ∷ older) u = u ≤ r.last

-- a fragment opened the reign, something was sent in its last slot, and its fragments are as in a dense plan
pub record IsKept (d : ℕ) (sent : List Mark) (r : Reign) : Type 0 where
  pub first : Fragment
  pub opened : IsMarkIn sent r.opened (Sends first)
  pub ends : IsMarked sent r.last
  pub until : r.opened ≤ r.last
  pub dense : (u t : ℕ) (q p : Fragment) → IsMarkIn sent u (Sends q) → IsMarkIn sent t (Sends p) → r.opened ≤ u → u < t
      → t ≤ r.last → IsBridged d sent u t

abbrev pub AllBehind : List Mark → List Reign → Type 0
AllBehind sent rs = (u : ℕ) → IsMarked sent u → IsBehind sent rs u

-- each reign is kept, and each mark before it opened is behind the reigns before it (`IsBehind`)
abbrev pub AreKept : ℕ → List Mark → List Reign → Type 0
AreKept d sent [] = Unit {0}
AreKept d sent (r ∷ older) = IsKept d sent r × ((u : ℕ) → IsMarked sent u → u < r.opened → IsBehind sent older u)
    × AreKept d sent older

behind_later : (x : Mark) (sent : List Mark) (rs : List Reign) (u : ℕ) → u < length sent → IsBehind sent rs u
    → IsBehind (x ∷ sent) rs u
behind_later x sent rs u h b = grind (arith)

kept_later : (d : ℕ) (x : Mark) (sent : List Mark) (r : Reign) → IsKept d sent r → IsKept d (x ∷ sent) r
kept_later d x sent r k =
    let now = marked_early sent r.last k.ends in
    record {
      first = k.first;
      opened = inr k.opened;
      ends = marked_later x sent r.last k.ends;
      until = k.until;
      dense = λ u t q p su st from lt to.
          bridged_later d x sent u t (k.dense u t q p (sent_before x sent u (Sends q) (omega arith) su)
          (sent_before x sent t (Sends p) (omega arith) st) from lt to);
    }

pub are_kept_later : (d : ℕ) (x : Mark) (sent : List Mark) (rs : List Reign) → AreKept d sent rs
    → AreKept d (x ∷ sent) rs
are_kept_later d x sent [] k = tt
are_kept_later d x sent (r ∷ older) k =
    grind (arith, are_kept_later d x sent older k.2, early, kept_later, behind_later, marked_before)

-- a slot with nothing of the service
nothing_behind : (sent : List Mark) (rs : List Reign) → AllBehind sent rs → AllBehind (Nothing ∷ sent) rs
nothing_behind sent rs h u m = grind (arith, behind_later, early)

-- tags
tags_behind : (sent : List Mark) (pair : PairFields) (rs : List Reign) → AllBehind sent rs
    → AllBehind (Tagged pair ∷ sent) (after_tags (length sent) pair rs)
tags_behind sent pair [] h u m = grind (arith, fragment_is_marked)
tags_behind sent pair (r ∷ older) h u m = omega (arith, marked_early (Tagged pair ∷ sent) u m)

-- a mark that goes on with the newest reign
renewed_kept : (d : ℕ) (x : Mark) (sent : List Mark) (r more : Reign) (older : List Reign) → (x ≡ Nothing → ⊥)
    → more.opened ≡ r.opened → more.last ≡ length sent
    → ((p : Fragment) → Sends p ≡ x → length sent < r.last + d) → AllBehind sent (r ∷ older)
    → AreKept d sent (r ∷ older) → AreKept d (x ∷ sent) (more ∷ older)
renewed_kept d x sent r more older some opened last near h k =
    let rest = are_kept_later d x sent (r ∷ older) k in
    let now = early sent r.opened (Sends k.0.first) k.0.opened in (
      record {
        first = k.0.first;
        opened = rw opened (inr k.0.opened);
        ends = record { mark = x; some = some; is_sent = inl (last, refl) };
        until = omega arith;
        dense = λ u t q p su st from lt to. dense u t q p su st (omega arith) lt;
      },
      rw opened rest.1,
      rest.2,
    )
  where
    dense : (u t : ℕ) (q p : Fragment) → IsMarkIn (x ∷ sent) u (Sends q) → IsMarkIn (x ∷ sent) t (Sends p)
        → r.opened ≤ u → u < t → IsBridged d (x ∷ sent) u t
    dense u t q p su (inl st) from lt =
        let before = sent_before x sent u (Sends q) (omega arith) su in
        let less = near p st.1 in
        record {
          slot = r.last;
          marked = marked_later x sent r.last k.0.ends;
          from = h u (fragment_is_marked sent u q before);
          before = omega (arith, marked_early sent r.last k.0.ends);
          near = omega arith;
        }
    dense u t q p su (inr st) from lt =
        let now = early sent t (Sends p) st in
        bridged_later d x sent u t (k.0.dense u t q p (sent_before x sent u (Sends q) (omega arith) su)
        st from lt (h t (fragment_is_marked sent t p st)))

tags_kept : (d : ℕ) (sent : List Mark) (pair : PairFields) (rs : List Reign) → AllBehind sent rs → AreKept d sent rs
    → AreKept d (Tagged pair ∷ sent) (after_tags (length sent) pair rs)
tags_kept d sent pair [] h k = tt
tags_kept d sent pair (r ∷ older) h k = renewed_kept d (Tagged pair) sent r (with_tags (length sent) pair r) older
    (λ e. (cc)) refl refl (λ p e. absurd (cc)) h k

-- a fragment that opens a reign
opened_kept : (d : ℕ) (sent : List Mark) (p : Fragment) (rs : List Reign) → AllBehind sent rs → AreKept d sent rs
    → AreKept d (Sends p ∷ sent) (opened_by d (length sent) p rs ∷ rs)
opened_kept d sent p rs h k = (
  record {
    first = p;
    opened = inl (refl, refl);
    ends = record { mark = Sends p; some = λ e. (cc); is_sent = inl (refl, refl) };
    until = omega arith;
    dense = λ u t q g su st from lt to. absurd (omega arith);
  },
  (λ u m lt. behind_later (Sends p) sent rs u lt (h u (marked_before (Sends p) sent u lt m))),
  are_kept_later d (Sends p) sent rs k,
)

-- the reigns are kept, and all marks are behind them
abbrev pub Keeps : ℕ → List Mark → List Reign → Type 0
Keeps d sent rs = AreKept d sent rs × AllBehind sent rs

now_behind : (sent : List Mark) (p : Fragment) (r : Reign) (older : List Reign) → r.last ≡ length sent
    → AllBehind (Sends p ∷ sent) (r ∷ older)
now_behind sent p r older e u m = omega (arith, marked_early (Sends p ∷ sent) u m)

fragment_keeps : (d : ℕ) (sent : List Mark) (p : Fragment) (rs : List Reign) → Keeps d sent rs
    → Keeps d (Sends p ∷ sent) (after_fragment d (length sent) p rs)
fragment_keeps d sent p [] k = search (arith, opened_kept, now_behind)
fragment_keeps d sent p (r ∷ older) k =
    cond_both (joins d (length sent) p.flag r) _ _ (Keeps d (Sends p ∷ sent))
    (λ t. let near : length sent < r.last + d = search arith in (
      renewed_kept d (Sends p) sent r (with_fragment (length sent) p r) older (λ e. (cc)) refl refl (λ g e. near)
          k.1 k.0,
      now_behind sent p (with_fragment (length sent) p r) older refl,
    ))
    (λ _. (
      opened_kept d sent p (r ∷ older) k.1 k.0,
      search (arith, now_behind),
    ))

-- the reigns keep each fragment and each pair of tags
pub keeps : (d : ℕ) (sent : List Mark) → Keeps d sent (reigns d sent)
keeps d [] = (tt, λ u m. absurd m.is_sent)
keeps d (x ∷ sent) =
    grind (arith, keeps d sent, are_kept_later, nothing_behind, fragment_keeps, tags_kept, tags_behind)
