-- Lemmas: the text or name on air, beside the last accepted set and the flag of the next one.
use Rattle.std.proofs.Common.{◌≡◌, ℕ, ◌+◌, ◌<◌, ◌≤◌, List, [], ◌∷◌, Some, None, refl, arith, option_map, ◌-◌, Bool}
use Rattle.std.proofs.Common.{true, false, ◌⊎◌, inr, length, is_ok, ◌++◌, IfSome}
use mathlib.Core.Bool.{not}
use Rattle.rds_encoder.specs.Entries.{Move, restart_before, slot_of, Begin, Set, End}
use Rattle.rds_encoder.specs.Plan.{OnAir, next_flag, on_air, Broadcast, HasNumber, ending_in, endless, plan_of}
use Rattle.rds_encoder.specs.Reply.{last_accepted, reply_to}
use Rattle.rds_encoder.specs.Laws.{HasOnAir, WasAccepted}

abbrev pub start_of : OnAir → ℕ
start_of air = air.start

-- the text or name on air began with the last accepted set
pub start_on_air : (m : ℕ) (moves : List Move) → option_map start_of (on_air m moves) ≡ last_accepted m moves
start_on_air m [] = refl
start_on_air m (x ∷ before) = grind (arith, start_on_air m before)

-- the text or name on air has the flag that the next one does not have
pub flag_on_air : (m : ℕ) (moves : List Move) (air : OnAir) → on_air m moves ≡ Some air
    → not (next_flag m moves) ≡ air.flag
flag_on_air m [] air e = absurd (cc)
flag_on_air m (x ∷ before) air e = grind (arith, flag_on_air m before air)

-- a set is accepted only after the silence
pub since_silence : (m : ℕ) (moves : List Move)
    → IfSome (last_accepted m moves) (λ a. (restart_before moves + m ≤ a) × (a ≤ slot_of moves))
since_silence m [] = tt
since_silence m (x ∷ before) = grind (arith, since_silence m before)

-- nothing is held back in the silence
pub not_held_in_silence : (m : ℕ) (moves : List Move) → slot_of moves < restart_before moves + m
    → last_accepted m moves ≡ None
not_held_in_silence m moves h = grind (arith, since_silence m moves)

-- the text or name on air began after the silence
pub air_since : (m : ℕ) (moves : List Move) (air : OnAir) → on_air m moves ≡ Some air
    → (restart_before moves + m ≤ air.start) × (air.start ≤ slot_of moves)
air_since m moves air e = grind (arith, start_on_air m moves, since_silence m moves)

-- ---- which broadcast of a plan covers the current slot

-- the text or name on air is in the plan
pub planned : (m end : ℕ) (moves : List Move) (air : OnAir) → on_air m moves ≡ Some air
    → (k : ℕ) × HasNumber (plan_of m end moves) k (ending_in end air)
planned m end [] air e = absurd (cc)
planned m end (Begin ∷ before) air e = absurd (cc)
planned m end (End free ∷ before) air e = planned m end before air e
planned m end (Set x ∷ before) air e = by (is_ok (reply_to m before)) refl (planned m end before air)
  where
    by : (b : Bool) → is_ok (reply_to m before) ≡ b
        → (on_air m before ≡ Some air → (k : ℕ) × HasNumber (plan_of m end before) k (ending_in end air))
        → (k : ℕ) × HasNumber (plan_of m end (Set x ∷ before)) k (ending_in end air)
    by true accepted rest = (length (plan_of m (slot_of before - 1) before), grind arith)
    by false refused rest = (let older = rest (grind arith) in (older.0, grind arith))

-- a broadcast is still on air, with slot `end` as its end, or it ended before the current slot
abbrev LastsOrEnded : ℕ → ℕ → List Move → Broadcast → Type 0
LastsOrEnded m end moves b = ((on_air m moves ≡ Some (endless b)) × (b.end ≡ end)) ⊎ (b.end < slot_of moves)

-- it has ended when the next one begins
ended : (m : ℕ) (moves : List Move) (b : Broadcast) → 0 < m → LastsOrEnded m (slot_of moves - 1) moves b
    → b.end < slot_of moves
ended m moves b lasts state = grind (arith, air_since)

lasts_or_ended : (m : ℕ) (moves : List Move) → 0 < m → (end k : ℕ) (b : Broadcast) → HasNumber (plan_of m end moves) k b
    → LastsOrEnded m end moves b
lasts_or_ended m [] lasts end k b h = absurd h
lasts_or_ended m (Begin ∷ before) lasts end k b h =
    inr (ended m before b lasts (lasts_or_ended m before lasts (slot_of before - 1) k b h))
lasts_or_ended m (x ∷ before) lasts end k b h =
    let closed = lasts_or_ended m before lasts (slot_of before - 1) k b in
    let lasting = lasts_or_ended m before lasts end k b in
    grind (arith)

-- the broadcast that covers the current slot is on air
pub covers_now : (m : ℕ) (moves : List Move) (k : ℕ) (b : Broadcast) → 0 < m
    → HasNumber (plan_of m (slot_of moves) moves) k b → slot_of moves ≤ b.end → on_air m moves ≡ Some (endless b)
covers_now m moves k b lasts h to = grind (arith, lasts_or_ended)

-- ---- a text or name that was on air stays planned, and was on air before

slots_rise : (later earlier : List Move) → slot_of earlier ≤ slot_of (later ++ earlier)
slots_rise [] earlier = omega arith
slots_rise (x ∷ later) earlier = grind (arith, slots_rise later earlier)

-- what is on air stays in the plan
pub stays_planned : (m end : ℕ) (later : List Move) (free : Bool) (earlier : List Move) (air : OnAir)
    → on_air m earlier ≡ Some air → slot_of earlier ≤ end
    → HasOnAir (plan_of m end (later ++ End free ∷ earlier)) air (slot_of earlier)
stays_planned m end [] free earlier air on to = grind (arith, planned m end earlier air on, air_since m earlier air on)
stays_planned m end (x ∷ later) free earlier air on to =
    let rise = slots_rise later (End free ∷ earlier) in
    let closed = stays_planned m (slot_of (later ++ End free ∷ earlier) - 1) later free earlier air on in
    let lasting = stays_planned m end later free earlier air on in
    grind arith

-- a later move did not put it on air
back : (m : ℕ) (move : Move) (before : List Move) (air : OnAir) → air.start < slot_of before
    → on_air m (move ∷ before) ≡ Some air → on_air m before ≡ Some air
back m move before air since on = grind (arith)

-- what is on air since an earlier slot was on air in that slot
pub was_on_air : (m : ℕ) (later earlier : List Move) (air : OnAir) → on_air m (later ++ earlier) ≡ Some air
    → air.start < slot_of earlier → on_air m earlier ≡ Some air
was_on_air m [] earlier air on since = on
was_on_air m (move ∷ later) earlier air on since =
    grind (arith, slots_rise, back m move (later ++ earlier) air, was_on_air m later earlier air)

-- each planned broadcast was accepted
pub was_accepted : (m end : ℕ) (moves : List Move) (k : ℕ) (b : Broadcast) → HasNumber (plan_of m end moves) k b
    → WasAccepted m b.start b.bytes moves
was_accepted m end [] k b n = absurd n
was_accepted m end (x ∷ before) k b n =
    grind (arith, was_accepted m (slot_of before - 1) before k b, was_accepted m end before k b)
