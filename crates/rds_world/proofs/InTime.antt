-- Lemmas: each message that a receiver of a world got was sent at most k slots before or is wrong, if its receptions
-- are due.
use Rattle.std.proofs.Common.{◌≡◌, ◌+◌, ◌-◌, ◌<◌, ◌≤◌, ℕ, zero, suc, List, [], ◌∷◌, Option, Some, None, refl, inl}
use Rattle.std.proofs.Common.{arith, length, IfSome, slice_index_or}
use Rattle.rds_fields.specs.declared.message.Message.{Message}
use Rattle.rds_world.specs.declared.event.Reception.{Reception}
use Rattle.rds_world.specs.declared.event.Reception.TheVariants.{Got, Lost, Wrong, Restart}
use Rattle.rds_world.specs.Due.{AreDue, IsDue, last_named}
use Rattle.rds_world.specs.Event.{Event}
use Rattle.rds_safety.specs.Late.{CameFrom, HasEntry, Input, SentIn}
use Rattle.rds_safety.specs.Confirmed.{IsHeardWithWrong}
use Rattle.rds_world.specs.Slots.{input_of, log, received, sent_at, sent_back}
use Rattle.rds_safety.proofs.Entries.{before_end, IsSoon}

-- the entry with this origin is that of the log; without an origin it may be wrong
abbrev IsSaid : List (Option Message) → Option ℕ → Option Message → Type 0
IsSaid log None entry = Unit {0}
IsSaid log (Some s) entry = SentIn log s entry

-- a longer log has the entries of the shorter one
longer_log : (k : ℕ) (log : List (Option Message)) (sent : Option Message) (input : Input)
    → IsHeardWithWrong k log input → IsHeardWithWrong k (sent ∷ log) input
longer_log k log sent input heard = grind arith

nothing_heard : (k : ℕ) (log : List (Option Message)) (first : ℕ)
    → IsHeardWithWrong k log record { first = first; heard = []; origins = [] }
nothing_heard k log first = grind arith

-- one more entry: that of the log in its origin, which is later than all origins before, or one without an origin
one_more : (k : ℕ) (log : List (Option Message)) (first : ℕ) (heard : List (Option Message)) (origins : List (Option ℕ))
    (o : Option ℕ) (x : Option Message)
    → IsHeardWithWrong k log record { first = first; heard = heard; origins = origins } → IsSaid log o x
    → IsSoon k (first + length heard) o
    → ((r u s : ℕ) → o ≡ Some r → HasEntry first origins u (Some s) → s < r)
    → IsHeardWithWrong k log record { first = first; heard = x ∷ heard; origins = o ∷ origins }
one_more k log first heard origins o x old says soon after = grind (arith, before_end)

-- the message sent so many slots before the last one of a log is its entry in that slot
back_in_log : (back : ℕ) (newest : Option Message) (before : List (Option Message)) → back ≤ length before
    → HasEntry 0 (newest ∷ before) (length before - back) (sent_back back (newest ∷ before))
back_in_log zero newest before h = inl (omega arith, refl)
back_in_log (suc back) newest [] h = absurd (omega arith)
back_in_log (suc back) newest (x ∷ before) h = grind (arith, back_in_log back x before (omega arith))

-- the slot is the last one given, or comes before it
abbrev IsUpTo : Option ℕ → ℕ → Type 0
IsUpTo None s = ⊥
IsUpTo (Some last) s = s ≤ last

-- no entry of the input was sent after the last slot given
abbrev AreUpTo : Option ℕ → Input → Type 0
AreUpTo last input = (u s : ℕ) → CameFrom input u s → IsUpTo last s

up_to_next : (last : Option ℕ) (next s : ℕ) → IfSome last (λ l. l < next) → IsUpTo last s → s < next
up_to_next last next s after h = grind arith

in_time_with : (k : ℕ) (r : Reception) (slot : ℕ) (sent : Option Message) (log : List (Option Message)) (input : Input)
    (last : Option ℕ) → slot ≡ length log → input.first + length input.heard ≡ slot
    → IsDue k slot last r → AreUpTo last input → IsHeardWithWrong k log input
    → IsHeardWithWrong k (sent ∷ log) (received r slot (sent ∷ log) input)
in_time_with k (Got back) slot sent log input last reached now due upto late =
    let there = due.there in
    let soon = due.soon in
    one_more k (sent ∷ log) input.first input.heard input.origins (Some (slot - back)) (sent_back back (sent ∷ log))
    (longer_log k log sent input late) (grind (arith, back_in_log back sent log)) (omega arith, omega arith)
    (λ r u s e o. grind (arith, up_to_next))
in_time_with k Lost slot sent log input last reached now due upto late =
    one_more k (sent ∷ log) input.first input.heard input.origins None None (longer_log k log sent input late) tt tt
    (λ r u s e o. absurd (cc))
in_time_with k (Wrong x) slot sent log input last reached now due upto late =
    one_more k (sent ∷ log) input.first input.heard input.origins None (Some x) (longer_log k log sent input late) tt tt
    (λ r u s e o. absurd (cc))
in_time_with k Restart slot sent log input last reached now due upto late = nothing_heard k (sent ∷ log) (slot + 1)

-- the input of a receiver has an entry up to the last slot
pub input_reaches : (d i : ℕ) (events : List Event) → (input_of d i events).first + length (input_of d i events).heard
    ≡ length events
input_reaches d i [] = refl
input_reaches d i (e ∷ before) = grind (arith, input_reaches d i before)

pub logged : (d : ℕ) (events : List Event) → length events ≡ length (log d events)
logged d [] = refl
logged d (e ∷ before) = omega (arith, logged d before)

up_to : (d k i : ℕ) (events : List Event) → AreDue k events → AreUpTo (last_named i events) (input_of d i events)
up_to d k i [] due u s h = absurd h
up_to d k i (e ∷ before) due u s h = grind (arith, up_to d k i before due.1)

-- what is due in a world is heard in time
pub in_time : (d k i : ℕ) (events : List Event) → AreDue k events
    → IsHeardWithWrong k (log d events) (input_of d i events)
in_time d k i [] due = nothing_heard k [] 0
in_time d k i (e ∷ before) due =
    in_time_with k (slice_index_or e.receptions i Lost) (length before) (sent_at d e before) (log d before)
    (input_of d i before) (last_named i before) (logged d before) (input_reaches d i before)
    (due.0 i) (up_to d k i before due.1) (in_time d k i before due.1)
