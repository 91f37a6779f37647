-- Lemmas about entries of lists by their slots, and about the slots in which entries were sent.
use Rattle.std.proofs.Common.{◌≡◌, ◌+◌, ◌<◌, ℕ, suc, List, [], ◌∷◌, length, Option, Some, None, refl, sym, ap, subst}
use Rattle.std.proofs.Common.{inl, inr, arith, ◌≤◌, ◌⊎◌, ◌↔◌}
use Rattle.rds_fields.specs.declared.message.Message.{Message}
use Rattle.rds_safety.specs.Late.{CameFrom, HasEntry, Input, InputOf, IsHeardInOrder, IsOfItsOrigin, SentIn}
use Rattle.rds_safety.specs.Late.{IsHeardLate, IsHeardOnTime, own_origins}
use Rattle.rds_safety.specs.Marks.{IsMarkIn, Mark, marks}
use Rattle.rds_safety.specs.Near.{IsHeard, IsOfItsOriginIfMarked, IsUnmarked, IsHeardNear, ListensNear}
use Rattle.std.specs.List.{AllByRecursion}
use Rattle.rds_receiver.specs.Receipts.{Segment, segments}
use Rattle.rds_receiver.specs.declared.fragment.Fragment.{Fragment}
use Rattle.rds_safety.specs.OwnClock.{IsHeardByOwnClock, IsTrueClock, ListensByOwnClock, ListensBySlowClock}
use Rattle.rds_safety.specs.OwnClock.{LosesAtMost, next_slot}
use Rattle.rds_safety.specs.Safe.{Listener, ListensTo}

-- an entry's slot comes before the end of the list
pub before_end : {X : Type 0} (first : ℕ) (entries : List X) (t : ℕ) (x : X) → HasEntry first entries t x
    → t < first + length entries
before_end first [] t x a = absurd a
before_end first (n ∷ before) t x a = grind (arith, before_end first before t x)

-- a slot has one entry
pub one_entry : {X : Type 0} (first : ℕ) (entries : List X) (t : ℕ) (x y : X) → HasEntry first entries t x
    → HasEntry first entries t y → x ≡ y
one_entry first [] t x y p q = absurd p
one_entry first (n ∷ before) t x y p q =
    grind (arith, before_end first before t x, before_end first before t y, one_entry first before t x y)

-- two lists of one length have entries in the same slots
pub entry_beside : {X : Type 0} {Y : Type 0} (first : ℕ) (xs : List X) (ys : List Y) (t : ℕ) (x : X)
    → length ys ≡ length xs → HasEntry first xs t x → (y : Y) × HasEntry first ys t y
entry_beside first [] ys t x e a = absurd a
entry_beside first (n ∷ before) [] t x e a = absurd (omega arith)
entry_beside first (n ∷ before) (y ∷ ys) t x e (inl a) = (y, grind arith)
entry_beside first (n ∷ before) (y ∷ ys) t x e (inr a) =
    (let w = entry_beside first before ys t x (omega arith) a in (w.0, inr w.1))

-- a log has as many marks as slots
pub marks_long : (of : Option Message → Mark) (log : List (Option Message)) → length (marks of log) ≡ length log
marks_long of [] = refl
marks_long of (x ∷ log) = ap suc (marks_long of log)

-- the mark of a sent message is among the marks of the log
pub mark_sent : (of : Option Message → Mark) (log : List (Option Message)) (s : ℕ) (message : Option Message)
    → SentIn log s message → IsMarkIn (marks of log) s (of message)
mark_sent of [] s message a = absurd a
mark_sent of (x ∷ log) s message a = grind (arith, marks_long of log, mark_sent of log s message)

-- the message that came in slot t was sent in a slot of the log
pub record Arrival (log : List (Option Message)) (input : Input) (t : ℕ) (message : Message) : Type 0 where
  pub slot : ℕ
  pub from : CameFrom input t slot
  pub sent : SentIn log slot (Some message)

-- a message with a mark that was heard arrived from a slot of the log
pub arrival : (log : List (Option Message)) (input : Input) (t : ℕ) (message : Message) → IsHeard log input
    → (IsUnmarked (Some message) → ⊥) → HasEntry input.first input.heard t (Some message) → Arrival log input t message
arrival log input t message hears marked a = search (arith, entry_beside, by)
  where
    by : (origin : Option ℕ) × HasEntry input.first input.origins t origin → Arrival log input t message
    by (None, o) = absurd (marked (hears.each t None (Some message) o a))
    by (Some s, o) = record { slot = s; from = o; sent = hears.each t (Some s) (Some message) o a }

-- in order, each entry is that of its origin
pub in_order_is_heard : (log : List (Option Message)) (input : Input) → IsHeardInOrder log input → IsHeard log input
in_order_is_heard log input order = search (arith, by)
  where
    by : (origin : Option ℕ) (entry : Option Message) → IsOfItsOrigin log origin entry
        → IsOfItsOriginIfMarked log origin entry
    by None entry none = subst IsUnmarked (sym none) record { text = refl; name = refl }
    by (Some s) entry sent = sent

-- an entry has one origin
pub one_origin : {X : Type 0} (input : InputOf X) (t r s : ℕ) → CameFrom input t r → CameFrom input t s → r ≡ s
one_origin input t r s p q = grind (arith, one_entry input.first input.origins t (Some r) (Some s) p q)

-- ---- the segments among what was heard: each came in its slot, and the slots fall

-- the segment was picked from what was heard in its slot
pub record IsPicked (pick : Message → Option Fragment) (first : ℕ) (heard : List (Option Message)) (g : Segment) : Type
    0 where
  pub message : Message
  pub came : HasEntry first heard g.slot (Some message)
  pub fragment : pick message ≡ Some g.fragment

-- this stays so as more is heard
still_picked : (pick : Message → Option Fragment) (first : ℕ) (newest : Option Message) (heard : List (Option Message))
    (gs : List Segment)
    → AllByRecursion (IsPicked pick first heard) gs → AllByRecursion (IsPicked pick first (newest ∷ heard)) gs
still_picked pick first newest heard [] all = tt
still_picked pick first newest heard (g ∷ gs) all = grind (arith, still_picked pick first newest heard gs all.1)

-- each segment of what was heard was picked from a message that was heard
pub all_picked : (pick : Message → Option Fragment) (first : ℕ) (heard : List (Option Message))
    → AllByRecursion (IsPicked pick first heard) (segments pick first heard)
all_picked pick first [] = tt
all_picked pick first (x ∷ before) = grind (arith, all_picked pick first before, still_picked)

-- the slots of the segments fall, from below slot n on
abbrev pub AreFalling : ℕ → List Segment → Type 0
AreFalling n [] = Unit {0}
AreFalling n (g ∷ older) = (g.slot < n) × AreFalling g.slot older

pub fall_below : (n u : ℕ) (gs : List Segment) → n ≤ u → AreFalling n gs → AreFalling u gs
fall_below n u [] h f = tt
fall_below n u (g ∷ older) h f = (omega arith, f.1)

-- the segments of what was heard have falling slots, all before now
pub segments_fall : (pick : Message → Option Fragment) (first : ℕ) (heard : List (Option Message))
    → AreFalling (first + length heard) (segments pick first heard)
segments_fall pick first [] = tt
segments_fall pick first (newest ∷ before) = grind (arith, segments_fall pick first before, fall_below)

-- ---- one more entry of an input in order, or of a late one, and about inputs that are on time

abbrev pub input_of : {X : Type 0} → ℕ → List (Option X) → List (Option ℕ) → InputOf X
input_of first heard origins = record { first = first; heard = heard; origins = origins }

-- who heard nothing heard it in order
pub nothing_in_order : {X : Type 0} (log : List (Option X)) (first : ℕ) → IsHeardInOrder log (input_of first [] [])
nothing_in_order log first = grind arith

-- an entry of the log extends an input in order, if its origin is later than all origins before
pub one_more_in_order : {X : Type 0} (log : List (Option X)) (first : ℕ) (heard : List (Option X))
    (origins : List (Option ℕ)) (o : Option ℕ) (x : Option X)
    → IsHeardInOrder log (input_of first heard origins) → IsOfItsOrigin log o x
    → ((r u s : ℕ) → o ≡ Some r → HasEntry first origins u (Some s) → s < r)
    → IsHeardInOrder log (input_of first (x ∷ heard) (o ∷ origins))
one_more_in_order {X} log first heard origins o x order says after = grind (arith, before_end)

-- the origin of an entry that came in slot t, if it has one, is one of the slots t - k to t
abbrev pub IsSoon : ℕ → ℕ → Option ℕ → Type 0
IsSoon k t None = Unit {0}
IsSoon k t (Some s) = (s ≤ t) × (t ≤ s + k)

-- who heard nothing heard it late enough for any k
pub nothing_heard : {X : Type 0} (k : ℕ) (log : List (Option X)) (first : ℕ) → IsHeardLate k log (input_of first [] [])
nothing_heard k log first = (let order = nothing_in_order log first in grind arith)

-- the same for a late input, if the entry came so soon
pub one_more : {X : Type 0} (k : ℕ) (log : List (Option X)) (first : ℕ) (heard : List (Option X))
    (origins : List (Option ℕ)) (o : Option ℕ) (x : Option X)
    → IsHeardLate k log (input_of first heard origins) → IsOfItsOrigin log o x → IsSoon k (first + length heard) o
    → ((r u s : ℕ) → o ≡ Some r → HasEntry first origins u (Some s) → s < r)
    → IsHeardLate k log (input_of first (x ∷ heard) (o ∷ origins))
one_more {X} k log first heard origins o x late says soon after = search (arith, one_more_in_order, all_soon)
  where
    all_soon : (t s : ℕ) → HasEntry first (o ∷ origins) t (Some s) → (s ≤ t) × (t ≤ s + k)
    all_soon t s (inl p) = (let beside = late.order.beside in grind arith)
    all_soon t s (inr p) = (late.past t s p, late.late t s p)

-- zero slots late, each entry is that of its slot
pub each_on_time : {X : Type 0} (log : List (Option X)) (first : ℕ) (heard : List (Option X))
    (origins : List (Option ℕ)) → IsHeardLate 0 log (input_of first heard origins) → IsHeardOnTime log first heard
each_on_time {X} log first heard origins late t entry a = search (arith, entry_beside, by)
  where
    by : (origin : Option ℕ) × HasEntry first origins t origin → (entry ≡ None) ⊎ SentIn log t entry
    by (None, o) = inl (late.order.each t None entry o a)
    by (Some s, o) =
        let same : s ≡ t = omega (arith, late.past t s o, late.late t s o) in
        inr (rw same at (late.order.each t (Some s) entry o a))

pub own_long : {X : Type 0} (first : ℕ) (heard : List (Option X)) → length (own_origins first heard) ≡ length heard
own_long first [] = refl
own_long first (x ∷ before) = grind (arith, own_long first before)

-- each of its own origins is the slot itself
origin_is_slot : {X : Type 0} (first : ℕ) (heard : List (Option X)) (t s : ℕ)
    → HasEntry first (own_origins first heard) t (Some s) → (s ≡ t) × (t < first + length heard)
origin_is_slot first [] t s a = absurd a
origin_is_slot first (x ∷ before) t s a = grind (arith, origin_is_slot first before t s, own_long)

-- an input that is on time is zero slots late
pub no_slot_late : {X : Type 0} (log : List (Option X)) (first : ℕ) (heard : List (Option X))
    → IsHeardOnTime log first heard → IsHeardLate 0 log (input_of first heard (own_origins first heard))
no_slot_late log first [] each = nothing_heard 0 log first
no_slot_late log first (None ∷ before) each =
    one_more 0 log first before (own_origins first before) None None (no_slot_late log first before
    (λ t entry a. each t entry (inr a))) refl tt (λ r u s e a. absurd (cc))
no_slot_late {X} log first (Some x ∷ before) each =
    one_more 0 log first before (own_origins first before) (Some (first + length before)) (Some x)
    (no_slot_late log first before (λ t entry a. each t entry (inr a)))
    (grind (arith, each (first + length before) (Some x) (inl (refl, refl)))) (omega arith, omega arith)
    (λ r u s e a. grind (arith, origin_is_slot first before u s a))

-- ---- own clocks are a slow clock, that of a receiver that hears late, and that of the station

-- a receiver that gets groups at most k slots late counts at most k slots too few
pub late_is_slow : {X : Type 0} (k m now : ℕ) (log : List (Option X)) (input : InputOf X) → IsHeardLate k log input
    → next_slot input ≡ now + 1 → IsHeardInOrder log input × LosesAtMost k m now input
late_is_slow k m now log input late next = grind (arith, before_end)

-- by a clock that counts at most k slots too few, fewer than m own slots are fewer than m + k of the station
pub slow_is_own : {X : Type 0} (k m now : ℕ) (log : List (Option X)) (input : InputOf X) → IsHeardInOrder log input
    → LosesAtMost k m now input → IsHeardByOwnClock (m + k) m now log input
slow_is_own k m now log input order loses = record {
  order = order;
  between =
      λ t u r s p q near. grind (arith, one_origin input u r s, loses.between t u r s p q, order.rising u t s r q p);
  since = λ t s p near. omega (arith, loses.since t s p near);
  past = loses.past;
}

-- the same for an input at most k slots late
pub late_hears : {X : Type 0} (k m now : ℕ) (log : List (Option X)) (input : InputOf X) → IsHeardLate k log input
    → next_slot input ≡ now + 1 → IsHeardByOwnClock (m + k) m now log input
late_hears k m now log input late next =
    (let slow = late_is_slow k m now log input late next in slow_is_own k m now log input slow.0 slow.1)

-- an input by an own clock is near the log
pub own_is_near : (d m now : ℕ) (log : List (Option Message)) (input : Input) → IsHeardByOwnClock d m now log input
    → IsHeardNear d m now log input
own_is_near d m now log input hears = record {
  heard = in_order_is_heard log input hears.order;
  between = hears.between;
  since = hears.since;
  past = hears.past;
  tags = λ t u r s pair begins later came p q. hears.order.rising t u r s p q later;
}

-- the same of receivers
pub own_listens : (d m now : ℕ) (log : List (Option Message)) (r : Listener) → ListensByOwnClock d m now log r
    → ListensNear d m now log r
own_listens d m now log r listens = (let near = own_is_near d m now log r.input listens.heard in grind arith)

-- who listens by a slow clock listens by a clock of its own
pub slow_listens : (k m now : ℕ) (log : List (Option Message)) (r : Listener) → ListensBySlowClock k m now log r
    → ListensByOwnClock (m + k) m now log r
slow_listens k m now log r listens = search (arith, slow_is_own)

-- who listens at most k slots late listens by a slow clock
pub late_listens : (k m now : ℕ) (log : List (Option Message)) (r : Listener) → ListensTo k m now log r
    → ListensBySlowClock k m now log r
late_listens k m now log r listens =
    (let slow = late_is_slow k m now log r.input listens.late listens.now in grind arith)

-- a receiver that counts the station's slots hears zero slots late, and the other way round
pub true_clock : {X : Type 0} (log : List (Option X)) (input : InputOf X)
    → (IsHeardInOrder log input × IsTrueClock input) ↔ IsHeardLate 0 log input
true_clock log input = grind (arith)
