-- Broadcasts: the accepted texts, or names, each with the slots in which it is on air (the flag is the A/B flag of IEC
-- 62106). Here m is the spacing d. Lists have the newest first.
use Rattle.std.specs.Prelude.{◌≡◌, ◌≤◌, ◌⊎◌, ◌+◌, ◌-◌, ◌%◌, ◌==◌, [], ◌∷◌}
use Rattle.std.specs.Prelude.{ℕ, Bool, List, Option, Some, None, is_ok, length, if◌then◌else◌}
use Rattle.rds_encoder.specs.Entries.{Move, Begin, Set, End, slot_of}
use Rattle.rds_encoder.specs.Reply.{reply_to}

-- the number of sets accepted since the last restart
abbrev pub accepted : ℕ → List Move → ℕ
accepted m [] = 0
accepted m (Begin ∷ before) = 0
accepted m (Set x ∷ before) = if is_ok (reply_to m before) then accepted m before + 1 else accepted m before
accepted m (End free ∷ before) = accepted m before

-- the flag of the next accepted set: 1 if an odd number were accepted before it since the restart
abbrev pub next_flag : ℕ → List Move → Bool
next_flag m before = accepted m before % 2 == 1

-- a broadcast is on air from its start to its end
pub record Broadcast : Type 0 where
  pub start : ℕ
  pub end : ℕ
  pub flag : Bool
  pub bytes : List ℕ

-- the plan: a broadcast starts in the slot of its set and ends in the slot before the next accepted set or restart; one
-- that is still on air ends in slot `end`
abbrev pub plan_of : ℕ → ℕ → List Move → List Broadcast
plan_of m end [] = []
plan_of m end (Begin ∷ before) = plan_of m (slot_of before - 1) before
plan_of m end (Set x ∷ before) =
    if is_ok (reply_to m before)
    then record { start = slot_of before; end = end; flag = next_flag m before; bytes = x }
    ∷ plan_of m (slot_of before - 1) before
    else plan_of m end before
plan_of m end (End free ∷ before) = plan_of m end before

-- broadcast b has number k; they are counted from 0, from the oldest on and through all restarts
abbrev pub HasNumber : List Broadcast → ℕ → Broadcast → Type 0
HasNumber [] k b = ⊥
HasNumber (newest ∷ older) k b = ((k ≡ length older) × (b ≡ newest)) ⊎ HasNumber older k b

-- the broadcast covers the slot
pub record Covers (b : Broadcast) (slot : ℕ) : Type 0 where
  pub from : b.start ≤ slot
  pub to : slot ≤ b.end

-- a broadcast whose end is not known yet
pub record OnAir : Type 0 where
  pub start : ℕ
  pub flag : Bool
  pub bytes : List ℕ

-- the text or name on air in the current slot: the last set accepted since the last restart
abbrev pub on_air : ℕ → List Move → Option OnAir
on_air m [] = None
on_air m (Begin ∷ before) = None
on_air m (Set x ∷ before) =
    if is_ok (reply_to m before)
    then Some record { start = slot_of before; flag = next_flag m before; bytes = x }
    else on_air m before
on_air m (End free ∷ before) = on_air m before

-- the text or name on air, as a broadcast that ends in this slot
abbrev pub ending_in : ℕ → OnAir → Broadcast
ending_in slot air = record { start = air.start; end = slot; flag = air.flag; bytes = air.bytes }

-- a broadcast without its end
abbrev pub endless : Broadcast → OnAir
endless b = record { start = b.start; flag = b.flag; bytes = b.bytes }

-- the bytes on air
abbrev pub bytes_of : OnAir → List ℕ
bytes_of air = air.bytes
