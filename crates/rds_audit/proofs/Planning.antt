-- Lemmas: the reigns of a log that passes are a lawful and dense plan.
use Rattle.std.proofs.Common.{◌≡◌, ◌≢◌, ◌⊎◌, ◌+◌, ◌<◌, ◌≤◌, ℕ, Bool, List, [], ◌∷◌, length, refl, sym, ap, subst, inl}
use Rattle.std.proofs.Common.{inr, arith}
use Rattle.std.specs.List.{AllByRecursion}
use Rattle.std.proofs.lemmas.Bool.{cases_lt, cases_order}
use Rattle.rds_fields.specs.Tag.{PairFields, BothEndIn}
use Rattle.rds_receiver.specs.declared.fragment.Fragment.{Fragment}
use Rattle.rds_encoder.specs.Plan.{Broadcast, Covers, HasNumber}
use Rattle.rds_encoder.specs.Laws.{ANumberIsBelowTheLength}
use Rattle.rds_audit.specs.AuditLaws.{SomeReign, AreReignsOf, AreTagsOf, IsReignOf}
use Rattle.rds_audit.specs.Dense.{TagsAreAfter, HasFragmentBefore, HasPlan, IsBridged, IsMarked, IsDense}
use Rattle.rds_safety.specs.Lawful.{HasOne, HasFragment, HasTags, IsAfterFragment, Kind, IsLawful}
use Rattle.rds_safety.specs.Marks.{IsMarkIn, Mark, Nothing, Sends, Tagged}
use Rattle.rds_audit.proofs.SpanOrder.{IsIn, all_in}
use Rattle.rds_audit.specs.Reigns.{Reign, after_fragment, after_tags, reigns, start_after, SentTags, opened_by}
use Rattle.rds_audit.specs.Reigns.{past_newest}
use Rattle.rds_audit.specs.Rules.{CanBeBroadcast, Passes}
use Rattle.rds_safety.specs.Flags.{other_flag, same_flag}
use Rattle.rds_audit.proofs.Keeping.{AreKept, IsBehind, Keeps, keeps, early, one_mark, fragment_is_marked}
use Rattle.rds_audit.proofs.Keeping.{sent_before, tags_are_marked, dense_before, lawful_before, marked_before}
use Rattle.rds_encoder.specs.Spaced.{IsSpaced}
use Rattle.rds_safety.specs.Laws.{PlanLaws}

-- each reign starts as early as one can after those before it
abbrev pub IsChained : ℕ → List Reign → Type 0
IsChained d [] = Unit {0}
IsChained d (r ∷ older) = (r.start ≡ start_after d r.flag older) × IsChained d older

pub chained : (d : ℕ) (sent : List Mark) → IsChained d (reigns d sent)
chained d [] = tt
chained d (x ∷ sent) = grind (arith, chained d sent)

-- the fragment, or the tags, of slot t belong to the reign
pub record HoldsFragment (t : ℕ) (p : Fragment) (r : Reign) : Type 0 where
  pub from : r.opened ≤ t
  pub to : t ≤ r.last
  pub flag : p.flag ≡ r.flag
  pub listed : IsIn p r.fragments

pub record HoldsTags (t : ℕ) (pair : PairFields) (r : Reign) : Type 0 where
  pub to : t ≤ r.last
  pub listed : IsIn record { slot = t; pair = pair } r.tags

-- one more slot keeps the marks that the reigns hold
fragment_stays : (d now t : ℕ) (p q : Fragment) (rs : List Reign) → t ≤ now → SomeReign (HoldsFragment t p) rs
    → SomeReign (HoldsFragment t p) (after_fragment d now q rs)
fragment_stays d now t p q rs le h = grind (arith)

fragment_stays_tagged : (now t : ℕ) (p : Fragment) (pair : PairFields) (rs : List Reign) → t ≤ now
    → SomeReign (HoldsFragment t p) rs → SomeReign (HoldsFragment t p) (after_tags now pair rs)
fragment_stays_tagged now t p pair rs le h = grind (arith)

tags_stay : (d now t : ℕ) (pair : PairFields) (q : Fragment) (rs : List Reign) → t ≤ now
    → SomeReign (HoldsTags t pair) rs → SomeReign (HoldsTags t pair) (after_fragment d now q rs)
tags_stay d now t pair q rs le h = grind (arith)

tags_stay_tagged : (now t : ℕ) (pair other : PairFields) (rs : List Reign) → t ≤ now → SomeReign (HoldsTags t pair) rs
    → SomeReign (HoldsTags t pair) (after_tags now other rs)
tags_stay_tagged now t pair other rs le h = grind (arith)

-- the newest reign holds a new fragment
new_fragment : (d now : ℕ) (p : Fragment) (sent : List Mark) (rs : List Reign) → now ≡ length sent → Keeps d sent rs
    → SomeReign (HoldsFragment now p) (after_fragment d now p rs)
new_fragment d now p sent rs e k = grind (arith, early, same_flag)

-- each fragment that was sent is in a reign
pub fragment_held : (d : ℕ) (sent : List Mark) (t : ℕ) (p : Fragment) → IsMarkIn sent t (Sends p)
    → SomeReign (HoldsFragment t p) (reigns d sent)
fragment_held d [] t p s = absurd s
fragment_held d (Nothing ∷ sent) t p (inr s) = fragment_held d sent t p s
fragment_held d (Tagged pair ∷ sent) t p (inr s) =
    grind (arith, fragment_held d sent t p s, early, fragment_stays_tagged)
fragment_held d (Sends q ∷ sent) t p (inr s) =
    grind (arith, fragment_held d sent t p s, early, fragment_stays)
fragment_held d (x ∷ sent) t p (inl s) = grind (arith, new_fragment, keeps)

after_before : (x : Mark) (sent : List Mark) → TagsAreAfter (x ∷ sent) → TagsAreAfter sent
after_before x sent h t pair s = grind (arith, early, sent_before)

new_tags : (d : ℕ) (pair : PairFields) (sent : List Mark) (rs : List Reign) → (u : ℕ) (p : Fragment)
    → IsMarkIn (Tagged pair ∷ sent) u (Sends p) → u < length sent → Keeps d sent rs
    → SomeReign (HoldsTags (length sent) pair) (after_tags (length sent) pair rs)
new_tags d pair sent [] u p (inl s) lt k = absurd (omega arith)
new_tags d pair sent [] u p (inr s) lt k = absurd (k.1 u (fragment_is_marked sent u p s) p s)
new_tags d pair sent (r ∷ older) u p s lt k = inl record { to = omega arith; listed = inl refl }

pub tags_held : (d : ℕ) (sent : List Mark) → TagsAreAfter sent → (t : ℕ) (pair : PairFields)
    → IsMarkIn sent t (Tagged pair) → SomeReign (HoldsTags t pair) (reigns d sent)
tags_held d [] h t pair s = absurd s
tags_held d (Nothing ∷ sent) h t pair (inr s) = tags_held d sent (after_before Nothing sent h) t pair s
tags_held d (Sends q ∷ sent) h t pair (inr s) =
    grind (arith, tags_held d sent (after_before (Sends q) sent h) t pair s, early, tags_stay, after_before)
tags_held d (Tagged other ∷ sent) h t pair (inr s) =
    let before = after_before (Tagged other) sent h in
    grind (arith, tags_held d sent before t pair s, early, tags_stay_tagged)
tags_held d (Tagged other ∷ sent) h t pair (inl s) =
    let e : Tagged pair ≡ Tagged other = s.1 in
    let same : pair ≡ other = cc in
    let w = h (length sent) other (inl (refl, refl)) in
    subst (λ (g : PairFields). SomeReign (HoldsTags t g) (after_tags (length sent) other (reigns d sent))) (sym same)
    (subst (λ (n : ℕ). SomeReign (HoldsTags n other) (after_tags (length sent) other (reigns d sent))) (sym s.0)
    (new_tags d other sent (reigns d sent) w.slot w.fragment w.is_sent w.before (keeps d sent)))
tags_held d (x ∷ sent) h t pair (inl s) = grind (arith)

-- a broadcast for each reign
abbrev pub plan_from : (d : ℕ) (kind : Kind) (rs : List Reign) → AllByRecursion (CanBeBroadcast d kind) rs
    → List Broadcast
plan_from d kind [] a = []
plan_from d kind (r ∷ older) a = record { start = r.start; end = r.last; flag = r.flag; bytes = a.0.one.value }
    ∷ plan_from d kind older a.1

lasting : (d : ℕ) (kind : Kind) (sent : List Mark) (rs : List Reign) (a : AllByRecursion (CanBeBroadcast d kind) rs)
    → AreKept d sent rs → (k : ℕ) (b : Broadcast) → HasNumber (plan_from d kind rs a) k b → b.start ≤ b.end
lasting d kind sent [] a keep k b n = absurd n
lasting d kind sent (r ∷ older) a keep k b (inr n) = lasting d kind sent older a.1 keep.2 k b n
lasting d kind sent (r ∷ older) a keep k b (inl n) = grind (arith)

starts_after : (d : ℕ) (flag : Bool) (r : Reign) (older : List Reign) → 0 < d → r.last < start_after d flag (r ∷ older)
starts_after d flag r older pos = grind (arith)

starts_apart : (d : ℕ) (flag : Bool) (r : Reign) (older : List Reign)
    → (r.flag ≢ flag) ⊎ (r.last + d ≤ start_after d flag (r ∷ older))
starts_apart d flag r older = grind (arith, other_flag)

starts_far : (d : ℕ) (flag : Bool) (r q : Reign) (older : List Reign) → q.last ≤ r.last
    → q.last + d ≤ start_after d flag (r ∷ q ∷ older)
starts_far d flag r q older le = grind (arith)

ordering : ANumberIsBelowTheLength
    → (d : ℕ) (kind : Kind) (rs : List Reign) (a : AllByRecursion (CanBeBroadcast d kind) rs) → 0 < d → IsChained d rs
    → (k : ℕ) (x y : Broadcast)
    → HasNumber (plan_from d kind rs a) k x → HasNumber (plan_from d kind rs a) (k + 1) y
    → (x.end < y.start) × ((x.flag ≢ y.flag) ⊎ (x.end + d ≤ y.start))
ordering below d kind [] a pos c k x y p q = absurd p
ordering below d kind (r ∷ older) a pos c k x y (inl p) (inl q) = absurd (omega (arith, p.0, q.0))
ordering below d kind (r ∷ older) a pos c k x y (inl p) (inr q) = grind (arith)
ordering below d kind (r ∷ older) a pos c k x y (inr p) (inr q) = ordering below d kind older a.1 pos c.1 k x y p q
ordering below d kind (r ∷ []) a pos c k x y (inr p) (inl q) = absurd p
ordering below d kind (r ∷ e ∷ older) a pos c k x y (inr (inr p)) (inl q) = grind (arith)
ordering below d kind (r ∷ e ∷ older) a pos c k x y (inr (inl p)) (inl q) =
    grind (arith, starts_after, starts_apart)

distance : ANumberIsBelowTheLength
    → (d : ℕ) (kind : Kind) (sent : List Mark) (rs : List Reign) (a : AllByRecursion (CanBeBroadcast d kind) rs) → 0 < d
    → IsChained d rs → AreKept d sent rs → (k : ℕ) (x y : Broadcast)
    → HasNumber (plan_from d kind rs a) k x → HasNumber (plan_from d kind rs a) (k + 2) y → x.end + d ≤ y.start
distance below d kind sent [] a pos c keep k x y p q = absurd p
distance below d kind sent (r ∷ older) a pos c keep k x y (inl p) (inl q) = absurd (omega (arith, p.0, q.0))
distance below d kind sent (r ∷ older) a pos c keep k x y (inl p) (inr q) = grind (arith)
distance below d kind sent (r ∷ older) a pos c keep k x y (inr p) (inr q) =
    grind (arith, distance below d kind sent older a.1 pos c.1 keep.2 k x y p q)
distance below d kind sent (r ∷ []) a pos c keep k x y (inr p) (inl q) = absurd p
distance below d kind sent (r ∷ e ∷ older) a pos c keep k x y (inr (inl p)) (inl q) = absurd (omega (arith, p.0, q.0))
distance below d kind sent (r ∷ e ∷ []) a pos c keep k x y (inr (inr p)) (inl q) = absurd p
distance below d kind sent (r ∷ e ∷ f ∷ older) a pos c keep k x y (inr (inr (inr p))) (inl q) = grind (arith)
distance below d kind sent (r ∷ e ∷ f ∷ older) a pos c keep k x y (inr (inr (inl p))) (inl q) =
    grind (arith, starts_after, starts_far)

valued : (d : ℕ) (kind : Kind) (rs : List Reign) (a : AllByRecursion (CanBeBroadcast d kind) rs)
    → (k : ℕ) (b : Broadcast) → HasNumber (plan_from d kind rs a) k b → kind.IsValue b.bytes
valued d kind [] a k b n = absurd n
valued d kind (r ∷ older) a k b (inl n) = subst (λ (x : Broadcast). kind.IsValue x.bytes) (sym n.1) a.0.one.valid
valued d kind (r ∷ older) a k b (inr n) = valued d kind older a.1 k b n

wider : (c : Broadcast) (older : List Broadcast) (Is : Broadcast → Type 0) → HasOne older Is → HasOne (c ∷ older) Is
wider c older Is h = record { number = h.number; broadcast = h.broadcast; planned = inr h.planned; is = h.is }

fragment_planned : (d : ℕ) (kind : Kind) (t : ℕ) (p : Fragment) (rs : List Reign)
    (a : AllByRecursion (CanBeBroadcast d kind) rs) → SomeReign (HoldsFragment t p) rs
    → HasOne (plan_from d kind rs a) (HasFragment kind t p)
fragment_planned d kind t p [] a h = absurd h
fragment_planned d kind t p (r ∷ older) a (inr h) =
    grind (arith, fragment_planned d kind t p older a.1 h, wider)
fragment_planned d kind t p (r ∷ older) a (inl h) = record {
  number = length (plan_from d kind older a.1);
  broadcast = record { start = r.start; end = r.last; flag = r.flag; bytes = a.0.one.value };
  planned = inl (refl, refl);
  is = search (arith, all_in);
}

tags_planned : (d : ℕ) (kind : Kind) (t : ℕ) (pair : PairFields) (rs : List Reign)
    (a : AllByRecursion (CanBeBroadcast d kind) rs) → SomeReign (HoldsTags t pair) rs
    → HasOne (plan_from d kind rs a) (HasTags d t pair)
tags_planned d kind t pair [] a h = absurd h
tags_planned d kind t pair (r ∷ older) a (inr h) =
    grind (arith, tags_planned d kind t pair older a.1 h, wider)
tags_planned d kind t pair (r ∷ older) a (inl h) = record {
  number = length (plan_from d kind older a.1);
  broadcast = record { start = r.start; end = r.last; flag = r.flag; bytes = a.0.one.value };
  planned = inl (refl, refl);
  is = search (arith, all_in);
}

-- a mark in a reign's broadcast was sent after the reign was opened
since_opened : (d : ℕ) (sent : List Mark) (r : Reign) (older : List Reign) (u : ℕ) → 0 < d
    → r.start ≡ start_after d r.flag older → r.start ≤ u → IsBehind sent older u → (q : Fragment)
    → IsMarkIn sent u (Sends q) → ⊥
since_opened d sent r older u pos c from b q s = grind (arith)

dense_fragments : (d : ℕ) (kind : Kind) (sent : List Mark) (rs : List Reign) (a : AllByRecursion (CanBeBroadcast d kind)
    rs) → 0 < d → IsChained d rs → AreKept d sent rs
    → (k : ℕ) (b : Broadcast) (u t : ℕ) (q p : Fragment) → HasNumber (plan_from d kind rs a) k b → Covers b u
    → Covers b t → IsMarkIn sent u (Sends q) → IsMarkIn sent t (Sends p) → u < t
    → IsBridged d sent u t
dense_fragments d kind sent [] a pos c keep k b u t q p n cu ct su st lt = absurd n
dense_fragments d kind sent (r ∷ older) a pos c keep k b u t q p (inr n) cu ct su st lt =
    grind (arith, dense_fragments d kind sent older a.1 pos c.1 keep.2 k b u t q p n cu ct su st lt)
dense_fragments d kind sent (r ∷ older) a pos c keep k b u t q p (inl n) cu ct su st lt =
    let start : b.start ≡ r.start = ap (λ (x : Broadcast). x.start) n.1 in
    let end : b.end ≡ r.last = ap (λ (x : Broadcast). x.end) n.1 in
    elim (cases_lt u r.opened) [
      | inl less ↦ search (arith, since_opened, fragment_is_marked)
      | inr from ↦ keep.0.dense u t q p su st from lt (omega (arith, ct.to))
    ]

-- tags sent in a reign's broadcast come after the reign's first fragment
opened_before : (d : ℕ) (sent : List Mark) (r : Reign) (older : List Reign) (t : ℕ) (pair : PairFields) → 0 < d
    → TagsAreAfter sent → r.start ≡ start_after d r.flag older → r.start ≤ t
    → ((u : ℕ) → IsMarked sent u → u < r.opened → IsBehind sent older u) → IsMarkIn sent t (Tagged pair) → t < r.opened
    → ⊥
opened_before d sent r [] t pair pos h c from gap s lt = grind (arith, fragment_is_marked)
opened_before d sent r (e ∷ older) t pair pos h c from gap s lt =
    grind (arith, starts_after, tags_are_marked)

dense_tags : (d : ℕ) (kind : Kind) (sent : List Mark) (rs : List Reign) (a : AllByRecursion (CanBeBroadcast d kind) rs)
    → 0 < d → TagsAreAfter sent → IsChained d rs → AreKept d sent rs
    → (k : ℕ) (b : Broadcast) (t : ℕ) (pair : PairFields) → HasNumber (plan_from d kind rs a) k b → Covers b t
    → IsMarkIn sent t (Tagged pair)
    → HasFragmentBefore sent b t
dense_tags d kind sent [] a pos h c keep k b t pair n ct st = absurd n
dense_tags d kind sent (r ∷ older) a pos h c keep k b t pair (inr n) ct st =
    grind (arith, dense_tags d kind sent older a.1 pos h c.1 keep.2 k b t pair n ct st)
dense_tags d kind sent (r ∷ older) a pos h c keep k b t pair (inl n) ct st =
    grind (arith, one_mark, opened_before)

-- a service that passes has the plan of its reigns
pub has_plan_of_reigns : ANumberIsBelowTheLength → (d : ℕ) (kind : Kind) (sent : List Mark) → 0 < d
    → (h : Passes d kind sent)
    → (w : HasPlan d kind sent) × (w.plan ≡ plan_from d kind (reigns d sent) h.reigns)
has_plan_of_reigns below d kind sent pos h = (
  record {
    plan = plan_from d kind (reigns d sent) h.reigns;
    lawful = record {
      spaced = search (arith, lasting, keeps, ordering, chained, distance);
      values = valued d kind (reigns d sent) h.reigns;
      fragments = λ t p s. fragment_planned d kind t p (reigns d sent) h.reigns (fragment_held d sent t p s);
      tags = λ t pair s after. tags_planned d kind t pair (reigns d sent) h.reigns (tags_held d sent h.tagged t pair s);
    };
    dense = search (arith, dense_fragments, chained, keeps, dense_tags);
    tagged = h.tagged;
  },
  refl,
)

-- marks that pass have a lawful and dense plan
pub has_plan : ANumberIsBelowTheLength → (d : ℕ) (kind : Kind) (sent : List Mark) → 0 < d → Passes d kind sent
    → HasPlan d kind sent
has_plan below d kind sent pos h = (has_plan_of_reigns below d kind sent pos h).0

-- ---- the reigns of a log are of broadcasts of any lawful and dense plan, in order

opened_of : (d now : ℕ) (kind : Kind) (b : Broadcast) (p : Fragment) (rs : List Reign)
    → start_after d p.flag rs ≤ b.start → HasFragment kind now p b → IsReignOf d kind b (opened_by d now p rs)
opened_of d now kind b p rs le has = grind (arith)

module _ (laws : PlanLaws) (d : ℕ) (kind : Kind) (plan : List Broadcast) (spaced : IsSpaced d plan) where
  past_newest_before : (k l : ℕ) (b : Broadcast) (rs : List Reign) → HasNumber plan l b → k < l
      → AreReignsOf d kind plan k rs → past_newest d rs ≤ b.start
  past_newest_before k l b rs q lt a = grind (arith)

  -- a reign that is opened in a later broadcast starts no later than this broadcast
  start_before : (k l : ℕ) (c b : Broadcast) (flag : Bool) (r : Reign) (older : List Reign)
      → HasNumber plan k c → HasNumber plan l b → k < l → flag ≡ b.flag → IsReignOf d kind c r
      → AreReignsOf d kind plan k older → start_after d flag (r ∷ older) ≤ b.start
  start_before k l c b flag r older p q lt e of a = grind (arith, same_flag, past_newest_before)

  -- a fragment that is sent in a later broadcast opens a reign
  fragment_opens : (now n k l : ℕ) (c b : Broadcast) (p : Fragment) (r : Reign) (older : List Reign)
      → HasNumber plan k c → HasNumber plan l b → k < l → l < n → HasFragment kind now p b → IsReignOf d kind c r
      → AreReignsOf d kind plan k older → AreReignsOf d kind plan n (after_fragment d now p (r ∷ older))
  fragment_opens now n k l c b p r older pc pb lt ln has of a =
      grind (arith, same_flag, opened_of, start_before)

  -- broadcasts with one number are equal
  same_broadcast : (k l : ℕ) (a b : Broadcast) → HasNumber plan k a → HasNumber plan l b → k ≡ l → a ≡ b
  same_broadcast k l a b p q e = laws.one plan l a b (subst (λ (n : ℕ). HasNumber plan n a) {x = k} e p) q

  -- the number of the newest reign's broadcast is at most that of one that has a fragment after it
  fragment_of : (n l : ℕ) (sent : List Mark) (b : Broadcast) (p : Fragment) (rs : List Reign)
      → IsDense d plan (Sends p ∷ sent) → HasNumber plan l b → l < n → HasFragment kind (length sent) p b
      → Keeps d sent rs → AreReignsOf d kind plan n rs
      → AreReignsOf d kind plan n (after_fragment d (length sent) p rs)
  fragment_of n l sent b p [] dense q lt has k a = grind (arith, opened_of)
  fragment_of n l sent b p (r ∷ older) dense q lt has keep a =
      elim (cases_order a.0 l) [
        | inl same ↦
            let one : a.1 ≡ b = same_broadcast a.0 l a.1 b a.3 q same in
            let of : IsReignOf d kind b r = subst (λ (x : Broadcast). IsReignOf d kind x r) {x = a.1} one a.4 in
            let opened = keep.0.0.opened in
            let first = early sent r.opened (Sends keep.0.0.first) opened in
            let opened_b : Covers b r.opened = record { from = of.from; to = omega (arith, has.covers.to) } in
            let w = dense.fragments l b r.opened (length sent) keep.0.0.first p q opened_b has.covers (inr opened)
            (inl (refl, refl)) first in
            let near : length sent < r.last + d = omega
            (arith, w.near, keep.1 w.slot (marked_before (Sends p) sent w.slot w.before w.marked)) in
            grind (arith)
        | inr other ↦ search (arith, fragment_opens, early)
      ]

  tags_of : (n l : ℕ) (sent : List Mark) (b : Broadcast) (pair : PairFields) (rs : List Reign)
      → IsDense d plan (Tagged pair ∷ sent) → HasNumber plan l b → HasTags d (length sent) pair b → Keeps d sent rs
      → AreReignsOf d kind plan n rs
      → AreReignsOf d kind plan n (after_tags (length sent) pair rs)
  tags_of n l sent b pair [] dense q has keep a = tt
  tags_of n l sent b pair (r ∷ older) dense q has keep a =
      let covers : Covers b (length sent) = record { from = omega (arith, has.lasted); to = has.to } in
      let w = dense.tags l b (length sent) pair q covers (inl (refl, refl)) in
      let fragment = sent_before (Tagged pair) sent w.slot (Sends w.fragment) w.before w.is_sent in
      search (arith, fragment_is_marked, same_broadcast, early)

-- tags are of the broadcast of the newest reign, if there is one
tags_are_of : (laws : PlanLaws) (d : ℕ) (kind : Kind) (plan : List Broadcast) → IsSpaced d plan → (sent : List Mark)
    (pair : PairFields) (rs : List Reign) → IsLawful d kind plan (Tagged pair ∷ sent)
    → IsDense d plan (Tagged pair ∷ sent) → Keeps d sent rs → AreReignsOf d kind plan (length plan) rs
    → AreReignsOf d kind plan (length plan) (after_tags (length sent) pair rs)
tags_are_of laws d kind plan spaced sent pair [] law dense keep a = tt
tags_are_of laws d kind plan spaced sent pair (r ∷ older) law dense keep a =
    let after : IsAfterFragment (Tagged pair ∷ sent) (length sent) = record {
      slot = r.opened;
      fragment = keep.0.0.first;
      is_sent = inr keep.0.0.opened;
      before = early sent r.opened (Sends keep.0.0.first) keep.0.0.opened;
    } in
    let w = law.tags (length sent) pair (inl (refl, refl)) after in
    tags_of laws d kind plan spaced (length plan) w.number sent w.broadcast pair (r ∷ older) dense w.planned w.is keep a

-- the reigns are of broadcasts of each lawful and dense plan, in order
pub are_reigns_of : PlanLaws → (d : ℕ) (kind : Kind) (plan : List Broadcast) (sent : List Mark)
    → IsLawful d kind plan sent → IsDense d plan sent → AreReignsOf d kind plan (length plan) (reigns d sent)
are_reigns_of laws d kind plan [] law dense = tt
are_reigns_of laws d kind plan (Nothing ∷ sent) law dense =
    grind (arith, are_reigns_of laws d kind plan sent, lawful_before, dense_before)
are_reigns_of laws d kind plan (Sends p ∷ sent) law dense =
    let before = are_reigns_of laws d kind plan sent (lawful_before d kind plan (Sends p) sent law)
    (dense_before d plan (Sends p) sent dense) in
    let w = law.fragments (length sent) p (inl (refl, refl)) in
    let lawful = lawful_before d kind plan (Sends p) sent law in
    let filled = dense_before d plan (Sends p) sent dense in
    grind (arith, are_reigns_of laws d kind plan sent lawful filled, fragment_of, keeps)
are_reigns_of laws d kind plan (Tagged pair ∷ sent) law dense =
    let before = are_reigns_of laws d kind plan sent (lawful_before d kind plan (Tagged pair) sent law)
    (dense_before d plan (Tagged pair) sent dense) in
    tags_are_of laws d kind plan law.spaced sent pair (reigns d sent) law dense (keeps d sent) before

all_lasted : (d start : ℕ) (b : Broadcast) (tags : List SentTags) → start ≤ b.start
    → AllByRecursion (AreTagsOf d b) tags → AllByRecursion (λ (s : SentTags). start + d ≤ s.slot) tags
all_lasted d start b [] le f = tt
all_lasted d start b (s ∷ tags) le f = (omega (arith, f.0.lasted), all_lasted d start b tags le f.1)

all_end : (d : ℕ) (b : Broadcast) (tags : List SentTags) → AllByRecursion (AreTagsOf d b) tags
    → AllByRecursion (λ (s : SentTags). BothEndIn (length b.bytes) s.pair) tags
all_end d b [] f = tt
all_end d b (s ∷ tags) f = (f.0.ends, all_end d b tags f.1)

can_be_broadcasts : (d n : ℕ) (kind : Kind) (plan : List Broadcast) (rs : List Reign)
    → ((k : ℕ) (b : Broadcast) → HasNumber plan k b → kind.IsValue b.bytes) → AreReignsOf d kind plan n rs
    → AllByRecursion (CanBeBroadcast d kind) rs
can_be_broadcasts d n kind plan [] values a = tt
can_be_broadcasts d n kind plan (r ∷ older) values a =
    let of = a.4 in (
      record {
        begun = omega (arith, of.start, of.from);
        lasted = all_lasted d r.start a.1 r.tags of.start of.tags;
        one = search (arith, all_end);
      },
      can_be_broadcasts d a.0 kind plan older values a.5,
    )

-- so a log with such a plan passes
pub passes : PlanLaws → (d : ℕ) (kind : Kind) (sent : List Mark) → HasPlan d kind sent → Passes d kind sent
passes laws d kind sent h = record {
  reigns = can_be_broadcasts d (length h.plan) kind h.plan (reigns d sent) h.lawful.values
      (are_reigns_of laws d kind h.plan sent h.lawful h.dense);
  tagged = h.tagged;
}
