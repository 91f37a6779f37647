-- Lemmas about the runs of a receiver with the flag bit alone that heard a segment of each broadcast before news: all
-- segments of a run are of its source's value, or this value is empty.
use Rattle.std.proofs.Common.{◌≡◌, ◌≢◌, ◌⊎◌, ◌+◌, ◌-◌, ◌<◌, ◌≤◌, ℕ, zero, suc, Bool, List, [], ◌∷◌, length, Option}
use Rattle.std.proofs.Common.{refl, sym, ◌∙◌, inl, inr, arith, true, false, Some, bytes_eq}
use Rattle.std.specs.List.{AllByRecursion}
use Rattle.std.proofs.lemmas.Bool.{both_ways, cases_Bool, cases_lt, cond_both}
use Rattle.std.proofs.lemmas.Slice.Eq.{bytes_eq-Decides}
use Rattle.rds_fields.specs.declared.message.Message.{Message}
use Rattle.rds_encoder.specs.Laws.{EachNumberNamesOne}
use Rattle.rds_encoder.specs.Plan.{Broadcast, Covers, HasNumber}
use Rattle.rds_encoder.specs.Spaced.{IsSpaced}
use Rattle.rds_receiver.specs.Receipts.{Segment, segments, text_fragment}
use Rattle.rds_receiver.specs.declared.fragment.Fragment.{Fragment}
use Rattle.rds_receiver.specs.Run.{is_same, run, run_at, run_before}
use Rattle.rds_safety.specs.FlagAlone.{HearsEach, IsHarmless, IsHeardFrom, IsNews, TurnsTheFlag, flag_run}
use Rattle.rds_safety.specs.FlagAlone.{flag_run_before, run_by_flag, EachLasts, GetsInARow, HearsOneIn}
use Rattle.rds_safety.specs.FlagAlone.{HearsTextBeforeTags, ListensByFlag}
use Rattle.rds_safety.specs.Flags.{same_flag, same_or_other}
use Rattle.rds_safety.specs.Late.{CameFrom, Input, InputOf, IsHeardInOrder, HasEntry, SentIn}
use Rattle.rds_safety.specs.Lawful.{IsLawful, Kind, texts}
use Rattle.rds_safety.specs.Laws.{PlanLaws}
use Rattle.rds_safety.specs.Marks.{Mark, marks, text_mark}
use Rattle.rds_safety.proofs.Entries.{in_order_is_heard, one_origin, arrival, entry_beside, mark_sent, one_entry}
use Rattle.rds_safety.proofs.Entries.{AreFalling, IsPicked, all_picked, segments_fall, fall_below}
use Rattle.rds_safety.proofs.HeldWhole.{IsIn, after_heard, came_in, in_below, in_segments, one_covers, tags_are_marked}
use Rattle.rds_safety.proofs.OneBroadcast.{PicksWhatIsMarked, all_of_any, AreJoined, IsOfAny, IsSegmentLike}
use Rattle.rds_safety.proofs.OneBroadcast.{IsSegmentOf, IsTold, all_like}
use Rattle.rds_fields.specs.declared.message.Message.TheVariants.{Tags}
use Rattle.rds_receiver.specs.Holds.{newest_slot}
use Rattle.rds_receiver.proofs.Runs.{run_at_newest}
use Rattle.rds_safety.specs.FlagLaws.{CameWithin, HearsWithin, TheFlagAloneIsADwellWhileHeard, TheFlagAloneIsALongDwell}
use Rattle.rds_safety.specs.FlagLaws.{WhoGetsSomeHearsOneIn, WhoHearsOneInHearsEach, WhoLosesFewGetsSome}
use Rattle.rds_safety.specs.OwnClock.{next_slot}
use Rattle.rds_safety.specs.Safe.{Listener}

-- ---- the runs of a receiver with the flag bit alone that heard a segment of each broadcast before news:
-- all segments of a run are of its source's value, or this value is empty

-- joining without harm is transitive
pub harmless_on : (x y z : Broadcast) → IsHarmless x y → IsHarmless y z → IsHarmless x z
harmless_on x y z u v = grind arith

-- an entry that was sent earlier came earlier
pub came_earlier : {X : Type 0} (log : List (Option X)) (input : InputOf X) (t u r s : ℕ) → IsHeardInOrder log input
    → CameFrom input t r → CameFrom input u s → r < s → t < u
came_earlier log input t u r s order p q less = grind (arith, order.rising u t s r q p, one_origin input t r s p)

-- each segment of a run is one of the segments
pub all_before : (P : Segment → Type 0) (f : Bool) (gs : List Segment) → AllByRecursion P gs
    → AllByRecursion P (flag_run_before f gs)
all_before P f [] all = tt
all_before P f (g ∷ older) all = grind (arith, all_before P f older all.1)

-- a segment that was picked was heard, with its origin
pub heard_from : (pick : Message → Option Fragment) (input : Input) (g : Segment) (r : ℕ)
    → IsPicked pick input.first input.heard g → CameFrom input g.slot r → IsHeardFrom pick input g.slot r
heard_from pick input g r is from = grind arith

-- these bytes are the same, or they differ
same_or_differ : (x y : List ℕ) → (x ≡ y) ⊎ (x ≢ y)
same_or_differ x y = elim (cases_Bool (bytes_eq x y)) [
  | inl same ↦ inl ((bytes_eq-Decides x y).0 same)
  | inr differ ↦ inr (λ e. both_ways _ differ ((bytes_eq-Decides x y).1 e))
]

-- broadcast a has the flag and the bytes of b
abbrev IsLike : Broadcast → Broadcast → Type 0
IsLike a b = (a.flag ≡ b.flag) × (a.bytes ≡ b.bytes)

like_or_not : (a b : Broadcast) → IsLike a b ⊎ (IsLike a b → ⊥)
like_or_not a b = elim (same_or_other a.flag b.flag) [
  | inr differ ↦ inr (λ like. differ like.0)
  | inl flag ↦ elim (same_or_differ a.bytes b.bytes) [
    | inl same ↦ inl (flag, same)
    | inr differ ↦ inr (λ like. differ like.1)
  ]
]

-- a broadcast is news if it is filled and not like one of the two before it
is_news : PlanLaws → (plan : List Broadcast) (l : ℕ) (c e b : Broadcast) → HasNumber plan (l - 1) c
    → HasNumber plan (l - 2) e → 1 < l → b.bytes ≢ [] → (IsLike c b → ⊥) → (IsLike e b → ⊥)
    → IsNews plan l b
is_news laws plan l c e b p q two filled one other = grind (arith)

module _ (laws : PlanLaws) (names_one : EachNumberNamesOne) (d now : ℕ) (pick : Message → Option Fragment)
    (plan : List Broadcast) (log : List (Option Message)) (input : Input)
    (spaced : IsSpaced d plan) (order : IsHeardInOrder log input) (past : (t s : ℕ) → CameFrom input t s → s ≤ now)
  where
    abbrev all_segments : List Segment
    all_segments = segments pick input.first input.heard

    -- nothing of the service came between the segment h and a later slot
    abbrev IsNext : ℕ → Segment → Type 0
    IsNext slot h = (x : Segment) → IsIn all_segments x → h.slot < x.slot → x.slot < slot → ⊥

    -- so each broadcast that Is holds of and that began by slot s is at most the next one after that of h
    pub none_passes : (Is : List Broadcast → ℕ → Broadcast → Type 0) → HearsEach Is pick plan now input
        → (slot s : ℕ) (h : Segment) (r k l : ℕ) (a b : Broadcast) → IsNext slot h
        → ((t q : ℕ) → CameFrom input t q → q < s → t < slot) → s ≤ now
        → IsPicked pick input.first input.heard h → CameFrom input h.slot r → HasNumber plan k a → HasNumber plan l b
        → Covers a r → b.start ≤ s
        → k + 1 < l → Is plan l b → ⊥
    none_passes Is each slot s h r k l a b next earlier by_now is from p q covers begun far so =
        let c = names_one plan (l - 1) (omega (arith, laws.below plan l b q)) in
        let after = laws.order d plan k (l - 1) a c.0 spaced p c.1 (omega arith) in
        let before = laws.order d plan (l - 1) l c.0 b spaced c.1 q (omega arith) in
        let number : l ≡ l - 1 + 1 = omega arith in
        let w = each (l - 1) c.0 b h.slot r c.1 (rw number at q) (rw number at so) (heard_from pick input h r is from)
        (omega arith) (omega arith) in
        let its = w.heard in
        next (came_in w.slot its.fragment) (in_segments pick input.first input.heard w.slot its.message its.fragment
        its.came its.picked) (came_earlier log input h.slot w.slot r w.origin order from its.from (omega arith))
        (earlier w.slot w.origin its.from (omega arith))

    -- the next broadcast with one flag does no harm
    next_is_harmless : TurnsTheFlag plan → (k l : ℕ) (a b : Broadcast) → l ≡ k + 1 → HasNumber plan k a
        → HasNumber plan l b → a.flag ≡ b.flag → IsHarmless a b
    next_is_harmless turns k l a b follows p q flag = grind (arith, turns k a b p)

    -- so each broadcast with the flag of that of h does no harm, if what was missed comes before no news
    harmless_after : HearsEach IsNews pick plan now input → TurnsTheFlag plan
        → (slot s : ℕ) (h : Segment) (r k : ℕ) (a : Broadcast) → IsNext slot h
        → ((t q : ℕ) → CameFrom input t q → q < s → t < slot) → s ≤ now → IsPicked pick input.first input.heard h
        → CameFrom input h.slot r → HasNumber plan k a → Covers a r
        → (n l : ℕ) (b : Broadcast) → l ≤ k + 1 + n → k < l → HasNumber plan l b → b.start ≤ s → a.flag ≡ b.flag
        → IsHarmless a b
    harmless_after each turns slot s h r k a next earlier by_now is from p covers zero l b within less q begun
        flag = next_is_harmless turns k l a b (omega arith) p q flag
    harmless_after each turns slot s h r k a next earlier by_now is from p covers (suc m) l b within less q begun
        flag = elim (cases_lt (k + 1) l) [
          | inr near ↦ next_is_harmless turns k l a b (omega arith) p q flag
          | inl far ↦
              let one = names_one plan (l - 1) (omega (arith, laws.below plan l b q)) in
              let two = names_one plan (l - 2) (omega (arith, laws.below plan l b q)) in
              let one_ends = laws.order d plan (l - 1) l one.0 b spaced one.1 q (omega arith) in
              let two_ends = laws.order d plan (l - 2) l two.0 b spaced two.1 q (omega arith) in
              let rest = harmless_after each turns slot s h r k a next earlier by_now is from p covers m in
              elim (same_or_differ b.bytes []) [
                | inl none ↦ inr none
                | inr filled ↦ elim (like_or_not one.0 b) [
                  | inl like ↦
                      harmless_on a one.0 b (rest (l - 1) one.0 (omega arith) (omega arith) one.1
                      (omega (arith, spaced.lasts (l - 1) one.0 one.1)) (flag ∙ sym like.0)) (inl like.1)
                  | inr not_one ↦ elim (like_or_not two.0 b) [
                    | inr not_two ↦ absurd (none_passes IsNews each slot s h r k l a b next earlier by_now is from p q
                        covers begun far (is_news laws plan l one.0 two.0 b one.1 two.1 (omega arith) filled not_one
                        not_two))
                    | inl like ↦ elim (cases_lt k (l - 2)) [
                      | inl further ↦
                          harmless_on a two.0 b (rest (l - 2) two.0 (omega arith) further two.1
                          (omega (arith, spaced.lasts (l - 2) two.0 two.1)) (flag ∙ sym like.0)) (inl like.1)
                      | inr here ↦ grind (arith, laws.one plan k a two.0 p)
                    ]
                  ]
                ]
              ]
        ]

    -- the flag separates the broadcasts of two segments that came one after the other
    told : HearsEach IsNews pick plan now input → TurnsTheFlag plan → (g h : Segment) → h.slot < g.slot
        → IsNext g.slot h
        → IsPicked pick input.first input.heard h
        → (r s : ℕ) → CameFrom input h.slot r → CameFrom input g.slot s → IsTold IsHarmless plan r s
    told each turns g h falls next is r s from to k l a b p q u v flag =
        let later = order.rising h.slot g.slot r s from to falls in
        elim (cases_lt k l) [
          | inl less ↦
              harmless_after each turns g.slot s h r k a next (λ t n came before. came_earlier log input t g.slot n s
              order came to before) (past g.slot s to) is from p u l l b (omega arith) less q v.from flag
          | inr more ↦ grind (arith, laws.one plan k a b p, laws.order d plan l k b a spaced q p)
        ]

    -- so the run is joined
    joined_before : HearsEach IsNews pick plan now input → TurnsTheFlag plan
        → (f : Bool) (g : Segment) (gs : List Segment) → g.fragment.flag ≡ f → AreFalling g.slot gs
        → AllByRecursion (IsPicked pick input.first input.heard) gs
        → ((x : Segment) → IsIn all_segments x → x.slot < g.slot → IsIn gs x)
        → AreJoined IsHarmless plan input (g ∷ flag_run_before f gs)
    joined_before each turns f g [] e falls picks holds = tt
    joined_before each turns f g (h ∷ older) e falls picks holds =
        cond_both (is_same f h.fragment.flag) (h ∷ flag_run_before f older) [] (λ (gs : List Segment). AreJoined
        IsHarmless plan input (g ∷ gs))
        (λ same. (
          record { flag = e ∙ same_flag f h.fragment.flag same; told = told each turns g h falls.0 next picks.0 },
          joined_before each turns f h older (sym (same_flag f h.fragment.flag same)) falls.1 picks.1 rest,
        ))
        (λ _. tt)
      where
        next : IsNext g.slot h
        next x is_in after before = grind (arith, holds x is_in, in_below h.slot older x falls.1)

        rest : (x : Segment) → IsIn all_segments x → x.slot < h.slot → IsIn older x
        rest x is_in before = grind (arith, holds x is_in, falls.0)

-- a run has one value, that of the broadcast of its newest segment, or that broadcast is empty
pub record IsOfOneValue (kind : Kind) (plan : List Broadcast) (input : Input) (g : Segment) (older : List Segment)
    : Type 0 where
  pub number : ℕ
  pub broadcast : Broadcast
  pub planned : HasNumber plan number broadcast
  pub newest : IsSegmentOf kind input g broadcast
  pub all : AllByRecursion (IsSegmentLike IsHarmless kind plan input broadcast) (g ∷ older)

abbrev pub RunIsOfOneValue : Kind → List Broadcast → Input → List Segment → Type 0
RunIsOfOneValue kind plan input [] = Unit {0}
RunIsOfOneValue kind plan input (g ∷ older) = IsOfOneValue kind plan input g older

-- what a radio with the flag alone holds is of one broadcast
pub run_is_of_one_value : PlanLaws → EachNumberNamesOne
    → (d now : ℕ) (kind : Kind) (pick : Message → Option Fragment) (of : Option Message → Mark) (plan : List Broadcast)
    (log : List (Option Message)) (input : Input)
    → PicksWhatIsMarked pick of → IsLawful d kind plan (marks of log) → TurnsTheFlag plan → IsHeardInOrder log input
    → ((t s : ℕ) → CameFrom input t s → s ≤ now) → HearsEach IsNews pick plan now input
    → RunIsOfOneValue kind plan input (run_by_flag pick input)
run_is_of_one_value laws names_one d now kind pick of plan log input alike law turns order past each =
    search (arith, segments_fall, all_picked, all_of_any, in_order_is_heard, by)
  where
    by : (gs : List Segment) → AreFalling (input.first + length input.heard) gs
        → AllByRecursion (IsPicked pick input.first input.heard) gs → AllByRecursion (IsOfAny kind plan input) gs
        → ((x : Segment) → IsIn (segments pick input.first input.heard) x → IsIn gs x)
        → RunIsOfOneValue kind plan input (flag_run gs)
    by [] falls picks all holds = tt
    by (g ∷ older) falls picks all holds =
        let its = all.0 in
        let rest = all_like IsHarmless harmless_on kind plan input its.broadcast g
        (flag_run_before g.fragment.flag older) its.number its.broadcast its.planned its.is (inl refl)
        (joined_before laws names_one d now pick plan log input law.spaced order past each turns g.fragment.flag g older
        refl falls.1 picks.1 (λ x is_in before. grind (arith, holds x is_in)))
        (all_before (IsOfAny kind plan input) g.fragment.flag older all.1) in
        search arith

-- ---- lemmas in slots: a receiver that hears a segment in each n slots in a row hears one of each broadcast that lasts
-- for n slots

hears_each_so : (Is : List Broadcast → ℕ → Broadcast → Type 0) (d n now : ℕ) (pick : Message → Option Fragment)
    (plan : List Broadcast) (input : Input)
    → IsSpaced d plan → HearsOneIn n pick plan now input → EachLasts Is n plan → HearsEach Is pick plan now input
hears_each_so Is d n now pick plan input spaced often lasts k b next t r p q so heard before begun =
    let long = lasts k b next p q so in
    let after = spaced.order k b next p q in
    let w = often k b.start t r b p (omega arith) long (omega arith) heard before in
    grind arith

pub hears_each : WhoHearsOneInHearsEach
hears_each d n now pick plan input spaced often = search (arith, hears_each_so)

-- who hears a segment in every d slots hears one of a text before its tags
pub hears_text_before_tags : PlanLaws → (d now : ℕ) (plan : List Broadcast) (log : List (Option Message)) (r : Listener)
    → IsLawful d texts plan (marks text_mark log) → ListensByFlag now log r
    → HearsOneIn d text_fragment plan now r.input → HearsTextBeforeTags plan r.input
hears_text_before_tags laws d now plan log r law listens often t s u q k pair b came from planned covers heard before =
    let w = arrival log r.input t (Tags pair) (in_order_is_heard log r.input listens.order) (tags_are_marked pair) came
    in
    let slot = one_origin r.input t w.slot s w.from from in
    let sent_before : q < w.slot = omega (arith, before, covers.from, slot) in
    let after = after_heard log r.input record { slot = u; fragment = heard.fragment } q w.slot
    (in_order_is_heard log r.input listens.order)
    (record { message = heard.message; came = heard.came; fragment = heard.picked }) heard.from sent_before in
    let lies = law.tags w.slot pair (mark_sent text_mark log w.slot (Some (Tags pair)) w.sent) after in
    let same =
    one_covers laws d plan lies.number k lies.broadcast b w.slot law.spaced lies.planned planned (omega arith)
    (omega arith) in
    let lasted : b.start + d ≤ s = grind arith in
    let past = listens.past t s from in
    let one = often k b.start u q b planned (omega arith) (omega arith) (omega arith) heard before in
    grind arith

-- each entry is that of the log in its origin
pub came_as_sent : (log : List (Option Message)) (input : Input) (t s : ℕ) (message : Message)
    → IsHeardInOrder log input → CameFrom input t s → SentIn log s (Some message)
    → HasEntry input.first input.heard t (Some message)
came_as_sent log input t s message order from sent =
    let w = entry_beside input.first input.origins input.heard t (Some s) (sym order.beside) from in
    rw (one_entry 0 log s w.0 (Some message) (order.each t (Some s) w.0 from w.1) sent) at w.1

pub hears_one_in : WhoGetsSomeHearsOneIn
hears_one_in r n now pick plan log input order sends gets k s t q b planned from to by_now heard before =
    let got = gets k s t q b planned from to by_now heard before in
    let w = sends k got.first b planned (omega arith) (omega arith) in
    let came = got.each w.slot w.since w.until in
    search (arith, came_as_sent)

-- all of k slots in a row came, or one was lost
all_or_lost : (got : ℕ → Bool) (s k : ℕ)
    → ((v : ℕ) → s ≤ v → v < s + k → got v ≡ true) ⊎ ((x : ℕ) × (s ≤ x) × (x < s + k) × (got x ≡ false))
all_or_lost got s zero = inl (λ v from to. absurd (omega arith))
all_or_lost got s (suc k) = by (all_or_lost got s k) (got (s + k)) refl
  where
    by : ((v : ℕ) → s ≤ v → v < s + k → got v ≡ true) ⊎ ((x : ℕ) × (s ≤ x) × (x < s + k) × (got x ≡ false)) → (b : Bool)
        → got (s + k) ≡ b
        → ((v : ℕ) → s ≤ v → v < s + suc k → got v ≡ true) ⊎ ((x : ℕ) × (s ≤ x) × (x < s + suc k) × (got x ≡ false))
    by (inr lost) b is = inr (lost.0, lost.1, omega arith, lost.3)
    by (inl all) false is = inr (s + k, omega arith, omega arith, is)
    by (inl all) true is = inl (λ v from to. grind (arith, all))

-- between a lost slot and one that came, some lost slot is followed by one that came
edge : (got : ℕ → Bool) (j x : ℕ) → got x ≡ false → got (x + 1 + j) ≡ true
    → (y : ℕ) × (x ≤ y) × (y ≤ x + j) × (got y ≡ false) × (got (y + 1) ≡ true)
edge got zero x lost came = (x, omega arith, omega arith, lost, grind arith)
edge got (suc j) x lost came = grind (arith, edge got j (x + 1))

pub gets_some : WhoLosesFewGetsSome
gets_some most r n now pick plan input got few loses k s t q b planned from to by_now heard before =
    by (all_or_lost got s r)
  where
    later : (x v : ℕ) → x ≤ v → got x ≡ false → got v ≡ true → x < v
    later x v le lost came = grind arith

    by : ((v : ℕ) → s ≤ v → v < s + r → got v ≡ true) ⊎ ((x : ℕ) × (s ≤ x) × (x < s + r) × (got x ≡ false))
        → GetsInARow r input s (s + n)
    by (inl all) =
        record { first = s; since = omega arith; until = omega arith; each = λ v u w. loses.came v (all v u w) }
    by (inr (x, since, until, lost)) =
        let v = loses.short x t q heard (omega arith) (omega arith) in
        let less = later x v.0 v.1 lost v.3 in
        let place : x + 1 + (v.0 - x - 1) ≡ v.0 = omega arith in
        let e = edge got (v.0 - x - 1) x lost (rw place v.3) in
        record {
          first = e.0 + 1;
          since = omega arith;
          until = omega arith;
          each = λ u from_u to_u. loses.came u
              (loses.long e.0 u e.3 e.4 (omega arith) (omega arith) (omega arith));
        }

-- ---- a long dwell

within_before : (m : ℕ) (f : Bool) (s : ℕ) (gs : List Segment) → CameWithin m s gs
    → run_before m f s gs ≡ flag_run_before f gs
within_before m f s [] came = refl
within_before m f s (g ∷ older) came = grind (arith, within_before m f g.slot older came.1)

within_run : (m t : ℕ) (gs : List Segment) → CameWithin m t gs → run m t gs ≡ flag_run gs
within_run m t gs came = grind (arith, within_before)

run_while_heard : (pick : Message → Option Fragment) (m : ℕ) (input : Input) → HearsWithin m pick input
    → run_at pick m input.first input.heard ≡ run_by_flag pick input
run_while_heard pick m input came = grind (arith, run_at_newest, within_run)

-- segments that came in fewer than m slots came within m slots
falls_within : (m t : ℕ) (gs : List Segment) → t < m → AreFalling (t + 1) gs → CameWithin m t gs
falls_within m t [] long falls = tt
falls_within m t (g ∷ older) long falls =
    let below = fall_below g.slot (g.slot + 1) older (omega arith) falls.1 in
    grind (arith, falls_within m g.slot older (omega arith) below)

long_within : (pick : Message → Option Fragment) (m : ℕ) (input : Input) → next_slot input ≤ m
    → HearsWithin m pick input
long_within pick m input long = by input.heard long
  where
    by : (heard : List (Option Message)) → input.first + length heard ≤ m
        → CameWithin m (newest_slot input.first heard) (segments pick input.first heard)
    by [] long = tt
    by (x ∷ before) long =
        let next : input.first + length (x ∷ before) ≡ input.first + length before + 1 = omega arith in
        falls_within m (input.first + length before) (segments pick input.first (x ∷ before)) (omega arith)
        (rw next at (segments_fall pick input.first (x ∷ before)))

pub while_heard : TheFlagAloneIsADwellWhileHeard
while_heard m input view texts_came names_came = grind (arith, run_while_heard)

pub long_dwell : TheFlagAloneIsALongDwell
long_dwell m input view long = search (arith, while_heard, long_within)
