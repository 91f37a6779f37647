-- Times that are too coarse to count slots by: in a stretch of a log without a break, more slots are counted than its
-- clock has room for (this project's own rule). Lists have the newest first.
use Rattle.std.specs.Prelude.{◌+◌, ◌-◌, ◌*◌, ◌/◌, ◌<◌, ◌⊎◌, ℕ, List, [], ◌∷◌, IfSome, None, Option, Some, max}
use Rattle.std.specs.Prelude.{if◌then◌else◌}
use Rattle.rds_arrivals.specs.Arrivals.{Arrival, is_break, lost_within, nineteen_slots}
use Rattle.rds_arrivals.specs.declared.stretch.Stretch.{Stretch}

-- a stretch of one group
abbrev pub begun_at : ℕ → Stretch
begun_at time = record { first = time; last = time; slots = 0 }

-- the stretch of a group that follows one of this stretch, with its lost slots: those by its time, and no fewer than
-- were known before
abbrev pub followed_by : ℕ → Option Stretch → ℕ → ℕ → Stretch
followed_by grain None told time = begun_at time
followed_by grain (Some s) told time =
    if is_break s.last time then begun_at time
    else record { first = s.first; last = time; slots = s.slots + max told (lost_within grain (time - s.last)) + 1 }

-- the stretch of the newest arrival
abbrev pub newest_stretch : {X : Type 0} → ℕ → List (Arrival X) → Option Stretch
newest_stretch grain [] = None
newest_stretch grain (a ∷ before) = Some (followed_by grain (newest_stretch grain before) a.told a.time)

-- the number of slots that fit between its times, which are off by at most the grain
abbrev pub room : ℕ → Stretch → ℕ
room grain s = 19 * (s.last - s.first + grain) / nineteen_slots

-- it has more slots
abbrev pub IsCoarse : ℕ → Stretch → Type 0
IsCoarse grain s = room grain s < s.slots

-- the stretch so far was coarse at some arrival
abbrev pub AreCoarse : {X : Type 0} → ℕ → List (Arrival X) → Type 0
AreCoarse grain [] = ⊥
AreCoarse grain (a ∷ before) = IfSome (newest_stretch grain (a ∷ before)) (IsCoarse grain) ⊎ AreCoarse grain before
