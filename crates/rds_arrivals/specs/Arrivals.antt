-- The slots that a log lacks, by the times of its groups (this project's own rule; the time of a slot is the
-- standard's). Times are in microseconds. Lists have the newest first.
use Rattle.std.specs.Prelude.{◌≡◌, ◌+◌, ◌-◌, ◌*◌, ◌/◌, ◌<◌, ◌≤◌, ◌⊎◌, ◌||◌, ℕ, zero, suc, Bool, List, [], ◌∷◌, Option}
use Rattle.std.specs.Prelude.{Some, None, max, nat_lt, if◌then◌else◌}

-- 19 slots: a slot has 104 bits at 1187.5 bit/s
abbrev pub nineteen_slots : ℕ
nineteen_slots = 1664000

abbrev pub hour : ℕ
hour = 3600000000

-- a group with its time. `told` lost slots before it were known before it came: by then a later time had been given, or
-- more than one, at which no group had come
pub record Arrival (X : Type 0) : Type 0 where
  pub entry : X
  pub time : ℕ
  pub told : ℕ

-- n slots are lost between two groups whose times are so far apart and off by at most the grain: n whole slots and more
-- passed, and no more than n + 1
pub record AreLost (grain apart n : ℕ) : Type 0 where
  pub passed : (n ≡ 0) ⊎ (19 * grain + nineteen_slots * n < 19 * apart)
  pub no_more : 19 * apart ≤ 19 * grain + nineteen_slots * (n + 1)

-- that number
abbrev pub lost_within : ℕ → ℕ → ℕ
lost_within grain apart = (19 * (apart - grain) - 1) / nineteen_slots

-- nobody knows how many slots passed: the time went back, or on by more than an hour
abbrev pub IsBreak : ℕ → ℕ → Type 0
IsBreak earlier later = (later < earlier) ⊎ (earlier + hour < later)

abbrev pub is_break : ℕ → ℕ → Bool
is_break earlier later = nat_lt later earlier || nat_lt (earlier + hour) later

-- the lost slots between two times: m of them after a break, so that a receiver of this dwell drops everything
abbrev pub lost_between : ℕ → ℕ → ℕ → ℕ → ℕ
lost_between grain m earlier later = if is_break earlier later then m else lost_within grain (later - earlier)

-- the lost slots from the newest of these arrivals up to this time
abbrev pub lost_until : {X : Type 0} → ℕ → ℕ → List (Arrival X) → ℕ → ℕ
lost_until grain m [] time = 0
lost_until grain m (last ∷ before) time = lost_between grain m last.time time

-- the lost slots before the arrival that follows these: those by its time, and no fewer than were known before
abbrev pub lost_before : {X Y : Type 0} → ℕ → ℕ → List (Arrival X) → Arrival Y → ℕ
lost_before grain m before a = max a.told (lost_until grain m before a.time)

-- n lost slots come after these slots
abbrev pub and_lost : {X : Type 0} → ℕ → List (Option X) → List (Option X)
and_lost zero before = before
and_lost (suc n) before = None ∷ and_lost n before

-- the slots of a log: each arrival, and the lost slots before it
abbrev pub filled : {X : Type 0} → ℕ → ℕ → List (Arrival X) → List (Option X)
filled grain m [] = []
filled grain m (a ∷ before) = Some a.entry ∷ and_lost (lost_before grain m before a) (filled grain m before)
