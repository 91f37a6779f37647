-- When a reception is due (this project's own rule): a message comes at most k slots late, and messages come in the
-- order of sending. Lists have the newest first.
use Rattle.std.specs.Prelude.{◌<◌, ◌≤◌, ◌+◌, ◌-◌, [], ◌∷◌}
use Rattle.std.specs.Prelude.{ℕ, List, Option, Some, None, IfSome, length, min, slice_index_or}
use Rattle.rds_world.specs.declared.event.Reception.{Reception}
use Rattle.rds_world.specs.declared.event.Reception.TheVariants.{Got, Lost, Wrong, Restart}
use Rattle.rds_world.specs.Event.{Event}

-- the slot whose message a receiver's last `Got` gave, after this reception in this slot
abbrev pub named : Reception → ℕ → Option ℕ → Option ℕ
named (Got d) slot last = Some (slot - d)
named Lost slot last = last
named (Wrong message) slot last = last
named Restart slot last = last

-- the slot whose message the last `Got` of receiver i gave, through all restarts
abbrev pub last_named : ℕ → List Event → Option ℕ
last_named i [] = None
last_named i (e ∷ before) = named (slice_index_or e.receptions i Lost) (length before) (last_named i before)

-- a `Got` of d slots before is due: at most k slots late, not before slot 0, and later than the slot whose message the
-- last `Got` gave
pub record IsDueBack (k slot : ℕ) (last : Option ℕ) (d : ℕ) : Type 0 where
  pub soon : d ≤ k
  pub there : d ≤ slot
  pub after : IfSome last (λ s. s < slot - d)

-- the reception is due
abbrev pub IsDue : ℕ → ℕ → Option ℕ → Reception → Type 0
IsDue k slot last (Got d) = IsDueBack k slot last d
IsDue k slot last Lost = Unit {0}
IsDue k slot last (Wrong message) = Unit {0}
IsDue k slot last Restart = Unit {0}

-- the reception of receiver i in this event is due
abbrev pub IsDueTo : ℕ → Event → List Event → ℕ → Type 0
IsDueTo k e before i = IsDue k (length before) (last_named i before) (slice_index_or e.receptions i Lost)

-- each reception in this event is due
abbrev pub IsDueToAll : ℕ → Event → List Event → Type 0
IsDueToAll k e before = (i : ℕ) → IsDueTo k e before i

-- each reception in these slots is due
abbrev pub AreDue : ℕ → List Event → Type 0
AreDue k [] = Unit {0}
AreDue k (e ∷ before) = IsDueToAll k e before × AreDue k before

-- receiver r is the first whose reception in this event is not due
pub record IsFirstLate (k : ℕ) (e : Event) (before : List Event) (r : ℕ) : Type 0 where
  pub there : r < length e.receptions
  pub late : IsDueTo k e before r → ⊥
  pub first : (i : ℕ) → i < r → IsDueTo k e before i

-- the number of slots after the slot whose message the last `Got` gave, this one included; without a `Got`, all slots
-- so far
abbrev pub slots_since : ℕ → Option ℕ → ℕ
slots_since slot None = slot + 1
slots_since slot (Some s) = slot - s

-- a `Got` of fewer slots back than this is due; at most k + 1
abbrev pub reach_of : ℕ → ℕ → Option ℕ → ℕ
reach_of k slot last = min (k + 1) (slots_since slot last)
