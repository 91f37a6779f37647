-- Lemmas: a filled log is heard by an own clock that counts no slot too few.
use Rattle.std.proofs.Common.{◌≡◌, ◌⊎◌, ◌+◌, ◌<◌, ◌≤◌, ℕ, zero, suc, List, [], ◌∷◌, length, Option, Some, None, max}
use Rattle.std.proofs.Common.{refl, ap, arith, All}
use Rattle.std.proofs.lemmas.List.Elements.{All-head, All-tail}
use Rattle.rds_safety.specs.Late.{CameFrom, HasEntry, IsHeardInOrder}
use Rattle.rds_safety.specs.OwnClock.{IsHeardByOwnClock}
use Rattle.rds_safety.proofs.Entries.{before_end, nothing_in_order, one_more_in_order}
use Rattle.rds_arrivals.specs.Arrivals.{and_lost, filled, lost_before, lost_until}
use Rattle.rds_arrivals.specs.Delivered.{AreBelowASlot, AreOf, Delivery, EachTwo, IsLater, IsOnItsWay, KeepsPace}
use Rattle.rds_arrivals.specs.Delivered.{arrivals, delivered_input, origins}
use Rattle.rds_arrivals.specs.Laws.{AreDelivered}

lost_long : {X : Type 0} (n : ℕ) (before : List (Option X)) → length (and_lost n before) ≡ n + length before
lost_long zero before = omega arith
lost_long (suc n) before = (let more = lost_long n before in omega arith)

-- what came before lost slots is no lost slot
lost_came : {X : Type 0} (first n : ℕ) (before : List (Option X)) (t : ℕ) (x : X)
    → HasEntry first (and_lost n before) t (Some x) → HasEntry first before t (Some x)
lost_came first zero before t x a = a
lost_came first (suc n) before t x a = grind (arith, lost_came first n before t x)

-- the times alone decide the lost slots
same_lost : {X : Type 0} (grain m : ℕ) (before : List (Delivery X)) (time : ℕ)
    → lost_until grain m (origins before) time ≡ lost_until grain m (arrivals before) time
same_lost grain m [] time = refl
same_lost grain m (d ∷ before) time = refl

-- lost slots extend an input in order
lost_in_order : {X : Type 0} (log : List (Option X)) (first n : ℕ) (heard : List (Option X)) (from : List (Option ℕ))
    → IsHeardInOrder log (record { first = first; heard = heard; origins = from })
    → IsHeardInOrder log (record { first = first; heard = and_lost n heard; origins = and_lost n from })
lost_in_order log first zero heard from order = order
lost_in_order log first (suc n) heard from order =
    one_more_in_order log first (and_lost n heard) (and_lost n from) None None (lost_in_order log first n heard from
    order) refl (λ r u s e a. absurd (cc))

-- the slots on air of the entries
abbrev from_of : {X : Type 0} → ℕ → ℕ → List (Delivery X) → List (Option ℕ)
from_of grain m given = filled grain m (origins given)

abbrev heard_of : {X : Type 0} → ℕ → ℕ → List (Delivery X) → List (Option X)
heard_of grain m given = filled grain m (arrivals given)

-- the lost slots before a delivery
abbrev lost_at : {X : Type 0} → ℕ → ℕ → List (Delivery X) → Delivery X → ℕ
lost_at grain m before d = lost_before grain m (origins before) d.arrival

same_before : {X : Type 0} (grain m : ℕ) (before : List (Delivery X)) (d : Delivery X)
    → lost_at grain m before d ≡ lost_before grain m (arrivals before) d.arrival
same_before grain m before d = ap (max d.arrival.told) (same_lost grain m before d.arrival.time)

some_is : (r s : ℕ) → Some s ≡ Some r → s ≡ r
some_is r s e = cc

-- an entry is the newest one, or it came before
came_cases : {X : Type 0} (grain m first : ℕ) (d : Delivery X) (before : List (Delivery X)) (t s : ℕ)
    → CameFrom (delivered_input grain m first 0 (d ∷ before)) t s
    → ((t + 1 ≡ first + length (from_of grain m (d ∷ before))) × (s ≡ d.slot))
    ⊎ CameFrom (delivered_input grain m first 0 before) t s
came_cases grain m first d before t s came = grind (arith, some_is, lost_came)

-- the number of own slots
long : {X : Type 0} (grain m : ℕ) (d : Delivery X) (before : List (Delivery X))
    → length (from_of grain m (d ∷ before)) ≡ lost_at grain m before d + length (from_of grain m before) + 1
long grain m d before = (let n = lost_long (lost_at grain m before d) (from_of grain m before) in omega arith)

-- what holds for each two deliveries holds for each two of those before the newest
shorter : {X : Type 0} (Holds : Delivery X → Delivery X → Type 0) (d : Delivery X) (before : List (Delivery X))
    → EachTwo Holds (d ∷ before) → EachTwo Holds before
shorter Holds d before all = grind (arith)

-- no entry was sent later than the newest
pub no_later : {X : Type 0} (grain m first : ℕ) (d : Delivery X) (before : List (Delivery X))
    → EachTwo IsLater (d ∷ before) → (t s : ℕ) → CameFrom (delivered_input grain m first 0 (d ∷ before)) t s
    → s ≤ d.slot
no_later {X} grain m first d [] later t s p = grind (arith, came_cases grain m first d [] t s p)
no_later {X} grain m first d (e ∷ before) later t s p =
    grind (arith, came_cases grain m first d (e ∷ before) t s p, no_later grain m first e before later.1 t s)

-- the slots on air from one delivery to the next are no more than the own slots, unless m own slots are lost between
-- them
keeps_up : {X : Type 0} (grain spread m : ℕ) (d e : Delivery X) (before : List (Delivery X))
    → AreBelowASlot grain spread → KeepsPace spread d e
    → (m ≤ lost_at grain m (e ∷ before) d) ⊎ (d.slot ≤ e.slot + lost_at grain m (e ∷ before) d + 1)
keeps_up grain spread m d e before wide pace = grind (arith)

-- an entry that came less than m own slots before the next one was sent no more slots before
pub recent : {X : Type 0} (grain spread m first : ℕ) (d : Delivery X) (before : List (Delivery X))
    → AreBelowASlot grain spread → EachTwo (KeepsPace spread) (d ∷ before)
    → (t s : ℕ) → CameFrom (delivered_input grain m first 0 (d ∷ before)) t s
    → first + length (from_of grain m (d ∷ before)) ≤ t + m
    → d.slot + t + 1 ≤ s + (first + length (from_of grain m (d ∷ before)))
recent {X} grain spread m first d [] wide pace t s p near = grind (arith, came_cases grain m first d [] t s p)
recent {X} grain spread m first d (e ∷ before) wide pace t s p near =
    let up = keeps_up grain spread m d e before wide pace.0 in
    let older = recent grain spread m first e before wide pace.1 t s in
    let more = long grain m d (e ∷ before) in
    let came = came_cases grain m first d (e ∷ before) t s p in
    grind (arith, before_end first (from_of grain m (e ∷ before)) t (Some s))

-- the filled log is heard in order
pub in_order : {X : Type 0} (grain m first : ℕ) (log : List (Option X)) (given : List (Delivery X)) → AreOf log given
    → EachTwo IsLater given → IsHeardInOrder log (delivered_input grain m first 0 given)
in_order grain m first log [] of later = nothing_in_order log first
in_order {X} grain m first log (d ∷ before) of later =
    rw (← same_before grain m before d)
    (one_more_in_order log first (and_lost (lost_at grain m before d) (heard_of grain m before))
    (and_lost (lost_at grain m before d) (from_of grain m before))
    (Some d.slot) (Some d.arrival.entry)
    (lost_in_order log first (lost_at grain m before d) (heard_of grain m before) (from_of grain m before)
    (in_order grain m first log before of.1 (shorter IsLater d before later)))
    of.0 (after before later))
  where
    after : (given : List (Delivery X)) → EachTwo IsLater (d ∷ given) → (r u s : ℕ) → Some d.slot ≡ Some r
        → HasEntry first (and_lost (lost_at grain m given d) (from_of grain m given)) u (Some s) → s < r
    after [] l r u s o a = absurd (lost_came first (lost_at grain m [] d) (from_of {X = X} grain m []) u s a)
    after (e ∷ given) l r u s o a = search (arith, some_is, no_later, lost_came)

-- fewer than m own slots between two entries are fewer than m on air
between : {X : Type 0} (grain spread m first : ℕ) (given : List (Delivery X)) → AreBelowASlot grain spread → 0 < m
    → EachTwo IsLater given → EachTwo (KeepsPace spread) given
    → (t u r s : ℕ) → CameFrom (delivered_input grain m first 0 given) t r
    → CameFrom (delivered_input grain m first 0 given) u s → u < t + m → s < r + m
between grain spread m first [] wide some later pace t u r s p q near = absurd p
between {X} grain spread m first (d ∷ before) wide some later pace t u r s p q near =
    grind (arith, between grain spread m first before wide some, shorter, came_cases, no_later, recent)

-- a receiver of a filled log hears by a clock of its own that counts no slot too few
pub own_clock : {X : Type 0} (grain spread m first lost : ℕ) (log : List (Option X)) (d : Delivery X)
    (before : List (Delivery X)) → AreBelowASlot grain spread → 0 < m
    → AreDelivered spread log (d ∷ before)
    → IsHeardByOwnClock m m (d.slot + lost) log (delivered_input grain m first lost (d ∷ before))
own_clock grain spread m first lost log d before wide some are =
    let order = in_order grain m first log (d ∷ before) are.of are.later in
    let all = lost_in_order log first lost (heard_of grain m (d ∷ before)) (from_of grain m (d ∷ before)) order in
    search (arith, lost_long, lost_came, in_order, lost_in_order, between, recent, no_later)

-- ---- exact: the delays vary by no more than the grain, and no break is among them

-- if the delays vary by no more than the spread, the times keep pace
pub keep_pace : {X : Type 0} (least ahead spread : ℕ) (given : List (Delivery X))
    → All (IsOnItsWay least ahead spread) given → EachTwo (KeepsPace spread) given
keep_pace least ahead spread [] ways = tt
keep_pace least ahead spread (d ∷ []) ways = tt
keep_pace {X} least ahead spread (d ∷ e ∷ before) ways =
    let late = All-head (IsOnItsWay {X = X} least ahead spread) d (e ∷ before) ways in
    let rest = All-tail (IsOnItsWay {X = X} least ahead spread) d (e ∷ before) ways in
    let early = All-head (IsOnItsWay {X = X} least ahead spread) e before rest in
    grind (arith, keep_pace least ahead spread (e ∷ before))

-- ---- the times of even delays are not coarse
