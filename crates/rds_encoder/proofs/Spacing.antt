-- Lemmas: the broadcasts of a plan are spaced.
use Rattle.std.proofs.Common.{◌≡◌, ◌+◌, ◌-◌, ◌<◌, ◌≤◌, ℕ, zero, suc, List, [], ◌∷◌, length, refl, inl, inr, arith, ◌≢◌}
use Rattle.std.proofs.Common.{◌*◌, Bool, true, false, Option, Some, ◌⊎◌, is_ok, IfSome}
use Rattle.std.proofs.lemmas.Bool.{cases_lt}
use Rattle.rds_encoder.specs.Plan.{Broadcast, HasNumber, OnAir, endless, next_flag, on_air, plan_of}
use Rattle.rds_encoder.specs.Spaced.{IsSpaced, RestartsComeFirst, IsUnset}
use Rattle.rds_encoder.specs.Entries.{Move, Begin, Set, End, restart_before, slot_of}
use Rattle.rds_encoder.specs.Reply.{held_reply, reply_in, reply_to}
use Rattle.rds_encoder.proofs.OnAir.{air_since, flag_on_air, start_on_air}

-- ---- broadcasts by their numbers

-- the number of a broadcast is below the length of the plan
pub below : (plan : List Broadcast) (k : ℕ) (b : Broadcast) → HasNumber plan k b → k < length plan
below [] k b p = absurd p
below (c ∷ older) k b p = grind (arith, below older k b)

-- a number names one broadcast
pub only_one : (plan : List Broadcast) (k : ℕ) (a b : Broadcast) → HasNumber plan k a → HasNumber plan k b → a ≡ b
only_one [] k a b p q = absurd p
only_one (c ∷ older) k a b p q = grind (arith, below older, only_one older k a b)

-- each number below the length names a broadcast
pub there : (plan : List Broadcast) (k : ℕ) → k < length plan → (b : Broadcast) × HasNumber plan k b
there [] k h = absurd (omega arith)
there (c ∷ older) k h = elim (cases_lt k (length older)) [
  | inl less ↦ (let w = there older k less in (w.0, inr w.1))
  | inr more ↦ (c, inl (omega arith, refl))
]

-- the one before a broadcast
before_it : (plan : List Broadcast) (k l : ℕ) (b : Broadcast) → HasNumber plan l b → k < l
    → (a : Broadcast) × HasNumber plan k a
before_it plan k l b q h = there plan k (omega (arith, below plan l b q))

ordered_by : (d : ℕ) (plan : List Broadcast) (n k : ℕ) (a b : Broadcast) → IsSpaced d plan → HasNumber plan k a
    → HasNumber plan (k + 1 + n) b → a.end < b.start
ordered_by d plan zero k a b s p q = grind (arith, s.order k a b p)
ordered_by d plan (suc n) k a b s p q =
    let w = before_it plan (k + 1 + n) (k + 1 + suc n) b q (omega arith) in
    grind (arith, ordered_by d plan n k a w.0 s p w.1, s.lasts (k + 1 + n) w.0 w.1, s.order (k + 1 + n) w.0 b w.1)

-- a broadcast with a lower number ended before one with a higher number starts
pub ordered : (d : ℕ) (plan : List Broadcast) (k l : ℕ) (a b : Broadcast) → IsSpaced d plan → HasNumber plan k a
    → HasNumber plan l b → k < l → a.end < b.start
ordered d plan k l a b s p q h = grind (arith, ordered_by d plan (l - (k + 1)) k a b s p)

far_by : (d : ℕ) (plan : List Broadcast) (n k : ℕ) (a b : Broadcast) → IsSpaced d plan → HasNumber plan k a
    → HasNumber plan (k + 2 + n) b → a.end + d ≤ b.start
far_by d plan zero k a b s p q = grind (arith, s.far k a b p)
far_by d plan (suc n) k a b s p q =
    let w = before_it plan (k + 2 + n) (k + 2 + suc n) b q (omega arith) in
    grind (arith, far_by d plan n k a w.0 s p w.1, s.lasts (k + 2 + n) w.0 w.1, s.order (k + 2 + n) w.0 b w.1)

-- two broadcasts with one between them are d slots apart
pub far_apart : (d : ℕ) (plan : List Broadcast) (k l : ℕ) (a b : Broadcast) → IsSpaced d plan → HasNumber plan k a
    → HasNumber plan l b → k + 2 ≤ l → a.end + d ≤ b.start
far_apart d plan k l a b s p q h = grind (arith, far_by d plan (l - (k + 2)) k a b s p)

-- broadcasts of one flag are d slots apart
pub one_flag_apart : (d : ℕ) (plan : List Broadcast) (k l : ℕ) (a b : Broadcast) → IsSpaced d plan → HasNumber plan k a
    → HasNumber plan l b → k < l → a.flag ≡ b.flag → a.end + d ≤ b.start
one_flag_apart d plan k l a b s p q h e = grind (arith, far_apart d plan k l a b s p q, s.apart k a b p)

-- ---- the broadcasts of a plan are spaced

restart_by_now : (moves : List Move) → restart_before moves ≤ slot_of moves
restart_by_now [] = omega arith
restart_by_now (x ∷ before) = grind (arith, restart_by_now before)

-- a set is accepted only if 2m slots have passed since the one before
not_held_back : (m now : ℕ) (last : Option ℕ) → is_ok (held_reply m now last) ≡ true
    → IfSome last (λ a. a + 2 * m ≤ now)
not_held_back m now last h = grind (arith)

when_accepted : (m now start : ℕ) (last : Option ℕ) → is_ok (reply_in m now start last) ≡ true
    → (start + m ≤ now) × IfSome last (λ a. a + 2 * m ≤ now)
when_accepted m now start last h = grind (arith, not_held_back m now last)

-- so the text or name on air then began at least 2m slots before
pub long_on_air : (m : ℕ) (moves : List Move) (air : OnAir) → is_ok (reply_to m moves) ≡ true
    → on_air m moves ≡ Some air → air.start + 2 * m ≤ slot_of moves
long_on_air m moves air ok on = grind (arith, start_on_air m moves, when_accepted)

-- the broadcast with number k is on air, and the newest
abbrev IsOn : ℕ → ℕ → List Move → ℕ → Broadcast → Type 0
IsOn m end moves k b = (on_air m moves ≡ Some (endless b)) × (b.end ≡ end) × (k + 1 ≡ length (plan_of m end moves))

-- the broadcast ended before the last restart, or before the one on air began
abbrev IsOver : ℕ → List Move → Broadcast → Type 0
IsOver m moves b = (b.end < restart_before moves) ⊎ ((air : OnAir) × (on_air m moves ≡ Some air) × (b.end < air.start))

ended : (m : ℕ) (moves : List Move) (k : ℕ) (b : Broadcast) → 0 < m
    → IsOn m (slot_of moves - 1) moves k b ⊎ IsOver m moves b → b.end < slot_of moves
ended m moves k b lasts state = grind (arith, air_since, restart_by_now)

-- one of the two holds of each
on_or_over : (m : ℕ) (moves : List Move) → 0 < m → (end k : ℕ) (b : Broadcast) → HasNumber (plan_of m end moves) k b
    → IsOn m end moves k b ⊎ IsOver m moves b
on_or_over m [] lasts end k b n = absurd n
on_or_over m (Begin ∷ before) lasts end k b n = inr
    (inl (ended m before k b lasts (on_or_over m before lasts (slot_of before - 1) k b n)))
on_or_over m (End free ∷ before) lasts end k b n = on_or_over m before lasts end k b n
on_or_over m (Set x ∷ before) lasts end k b n =
    by (is_ok (reply_to m before)) refl n (on_or_over m before lasts (slot_of before - 1) k b)
    (on_or_over m before lasts end k b)
  where
    by : (r : Bool) → is_ok (reply_to m before) ≡ r → HasNumber (plan_of m end (Set x ∷ before)) k b
        → (HasNumber (plan_of m (slot_of before - 1) before) k b
        → IsOn m (slot_of before - 1) before k b ⊎ IsOver m before b)
        → (HasNumber (plan_of m end before) k b → IsOn m end before k b ⊎ IsOver m before b)
        → IsOn m end (Set x ∷ before) k b ⊎ IsOver m (Set x ∷ before) b
    by true r n closed lasting = elim (rw r at n) [
      | inl newest ↦ inl (grind arith)
      | inr older ↦ (let over = ended m before k b lasts (closed older) in search arith)
    ]
    by false r n closed lasting = rw r (lasting (rw r at n))

-- broadcast a, with number k, is far enough before one that begins in this slot with this flag
abbrev IsBefore : ℕ → ℕ → Bool → List Broadcast → ℕ → Broadcast → Type 0
IsBefore d slot flag older k a = (a.end < slot) × (((a.flag ≢ flag) × (k + 1 ≡ length older)) ⊎ (a.end + d ≤ slot))

before_next : (m : ℕ) (moves : List Move) (k : ℕ) (a : Broadcast) → 0 < m → is_ok (reply_to m moves) ≡ true
    → HasNumber (plan_of m (slot_of moves - 1) moves) k a
    → IsBefore m (slot_of moves) (next_flag m moves) (plan_of m (slot_of moves - 1) moves) k a
before_next m moves k a lasts ok n =
    grind (arith, on_or_over, ended, flag_on_air, when_accepted, long_on_air)

-- one more broadcast in a spaced plan
on_top : (d : ℕ) (b : Broadcast) (older : List Broadcast) → IsSpaced d older → b.start ≤ b.end
    → ((k : ℕ) (a : Broadcast) → HasNumber older k a → IsBefore d b.start b.flag older k a) → IsSpaced d (b ∷ older)
on_top d b older s last next = grind (arith, below)

-- the text or name on air began by this slot
abbrev pub BeganBy : ℕ → Option OnAir → Type 0
BeganBy slot o = IfSome o (λ (air : OnAir). air.start ≤ slot)

began_now : (m : ℕ) (moves : List Move) (o : Option OnAir) → on_air m moves ≡ o → BeganBy (slot_of moves) o
began_now m moves o on = grind (arith, air_since m moves)

began_before : (m : ℕ) (moves : List Move) → IsUnset moves → BeganBy (slot_of moves - 1) (on_air m moves)
began_before m [] unset = tt
began_before m (Set x ∷ before) unset = absurd unset
began_before m (x ∷ before) unset = (let now = began_now m before (on_air m before) refl in grind arith)

-- if a set is accepted, what was on air began in an earlier slot
began_earlier : (m : ℕ) (moves : List Move) → 0 < m → is_ok (reply_to m moves) ≡ true
    → BeganBy (slot_of moves - 1) (on_air m moves)
began_earlier m moves lasts ok = grind (arith, long_on_air)

-- the broadcasts of the moves of an encoder are spaced
pub spaced : (m end : ℕ) (moves : List Move) → 0 < m → RestartsComeFirst moves → BeganBy end (on_air m moves)
    → IsSpaced m (plan_of m end moves)
spaced m end [] lasts first by = grind arith
spaced m end (Begin ∷ before) lasts first by = grind (arith, began_before, spaced m (slot_of before - 1) before lasts)
spaced m end (End free ∷ before) lasts first by = spaced m end before lasts first by
spaced m end (Set x ∷ before) lasts first by =
    let closed = spaced m (slot_of before - 1) before lasts first in
    let lasting = spaced m end before lasts first in
    grind (arith, on_top, began_earlier, before_next)
