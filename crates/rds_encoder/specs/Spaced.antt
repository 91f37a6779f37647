-- How far apart broadcasts are (this project's own rule). A segment has only the flag of its broadcast. So receivers
-- can separate two broadcasts only by the flag, or by the slots between them. Lists have the newest first.
use Rattle.std.specs.Prelude.{◌≢◌, ◌≤◌, ◌<◌, ◌⊎◌, ◌+◌, ℕ, List, [], ◌∷◌}
use Rattle.rds_encoder.specs.Entries.{Move, Begin, Set, End}
use Rattle.rds_encoder.specs.Plan.{Broadcast, HasNumber}

-- the current slot had no set so far
abbrev pub IsUnset : List Move → Type 0
IsUnset [] = Unit {0}
IsUnset (Begin ∷ before) = IsUnset before
IsUnset (Set x ∷ before) = ⊥
IsUnset (End free ∷ before) = Unit {0}

-- each restart comes before the sets of its slot; a slot has any number of sets
abbrev pub RestartsComeFirst : List Move → Type 0
RestartsComeFirst [] = Unit {0}
RestartsComeFirst (Begin ∷ before) = IsUnset before × RestartsComeFirst before
RestartsComeFirst (Set x ∷ before) = RestartsComeFirst before
RestartsComeFirst (End free ∷ before) = RestartsComeFirst before

-- each broadcast ends no earlier than it starts, and before the next one starts; one and the next differ in flag, or
-- are at least d slots apart; one and the second after it are at least d slots apart
pub record IsSpaced (d : ℕ) (plan : List Broadcast) : Type 0 where
  pub lasts : (k : ℕ) (b : Broadcast) → HasNumber plan k b → b.start ≤ b.end
  pub order : (k : ℕ) (a b : Broadcast) → HasNumber plan k a → HasNumber plan (k + 1) b → a.end < b.start
  pub apart : (k : ℕ) (a b : Broadcast) → HasNumber plan k a → HasNumber plan (k + 1) b
      → (a.flag ≢ b.flag) ⊎ (a.end + d ≤ b.start)
  pub far : (k : ℕ) (a b : Broadcast) → HasNumber plan k a → HasNumber plan (k + 2) b → a.end + d ≤ b.start
