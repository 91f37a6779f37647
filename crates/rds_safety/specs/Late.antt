-- Inputs that come late (this project's own rule). In each slot a receiver gets nothing, or an entry of the log that
-- was sent at most k slots before, in the order of sending. Beside an input is a list of origins: the slots in which
-- its entries were sent. A receiver does not know them. If k = 0, a receiver gets each entry in its own slot or loses
-- it. Lists have the newest first.
use Rattle.std.specs.Prelude.{◌≡◌, ◌+◌, ◌<◌, ◌≤◌, ◌⊎◌, ℕ, List, [], ◌∷◌, Option, Some, None, length}
use Rattle.rds_fields.specs.declared.message.Message.{Message}

-- the list has this entry in this slot; its first entry has slot `first`, as in the segments of an input
abbrev pub HasEntry : {X : Type 0} → ℕ → List X → ℕ → X → Type 0
HasEntry first [] slot entry = ⊥
HasEntry first (newest ∷ before) slot entry =
    ((slot ≡ first + length before) × (entry ≡ newest)) ⊎ HasEntry first before slot entry

-- this was sent in this slot; a log begins in slot 0
abbrev pub SentIn : {X : Type 0} → List (Option X) → ℕ → Option X → Type 0
SentIn log slot entry = HasEntry 0 log slot entry

-- an input: the entry that a receiver got in each slot from `first` on. `origins` has the slot in which the entry was
-- sent, or none if nothing came
pub record InputOf (X : Type 0) : Type 0 where
  pub first : ℕ
  pub heard : List (Option X)
  pub origins : List (Option ℕ)

-- an input as a receiver hears it: the messages of its programme
abbrev pub Input : Type 0
Input = InputOf Message

-- the entry of slot t was sent in slot s
abbrev pub CameFrom : {X : Type 0} → InputOf X → ℕ → ℕ → Type 0
CameFrom input t s = HasEntry input.first input.origins t (Some s)

-- the entry is that of the log in its origin; without an origin it is nothing
abbrev pub IsOfItsOrigin : {X : Type 0} → List (Option X) → Option ℕ → Option X → Type 0
IsOfItsOrigin log None entry = entry ≡ None
IsOfItsOrigin log (Some s) entry = SentIn log s entry

-- the input was heard from the log in order: each entry is that of the log in its origin, and later entries have later
-- origins
pub record IsHeardInOrder {X : Type 0} (log : List (Option X)) (input : InputOf X) : Type 0 where
  pub beside : length input.origins ≡ length input.heard
  pub each : (t : ℕ) (origin : Option ℕ) (entry : Option X) → HasEntry input.first input.origins t origin
      → HasEntry input.first input.heard t entry → IsOfItsOrigin log origin entry
  pub rising : (t u r s : ℕ) → CameFrom input t r → CameFrom input u s → t < u → r < s

-- the input was heard from the log at most k slots late: in order, and the entry of slot t was sent in one of the slots
-- t - k to t
pub record IsHeardLate {X : Type 0} (k : ℕ) (log : List (Option X)) (input : InputOf X) : Type 0 where
  pub order : IsHeardInOrder log input
  pub past : (t s : ℕ) → CameFrom input t s → s ≤ t
  pub late : (t s : ℕ) → CameFrom input t s → t ≤ s + k

-- each entry is nothing, or that of the log in its slot
abbrev pub IsHeardOnTime : {X : Type 0} → List (Option X) → ℕ → List (Option X) → Type 0
IsHeardOnTime {X} log first heard =
    (t : ℕ) (entry : Option X) → HasEntry first heard t entry → (entry ≡ None) ⊎ SentIn log t entry

-- the origins of an input that is on time: each entry was sent in its own slot
abbrev pub own_origins : {X : Type 0} → ℕ → List (Option X) → List (Option ℕ)
own_origins first [] = []
own_origins first (None ∷ before) = None ∷ own_origins first before
own_origins first (Some x ∷ before) = Some (first + length before) ∷ own_origins first before
