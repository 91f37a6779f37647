-- How the groups of a station are delivered: which slot each group is from, and when it came (this project's own rule).
-- Lists have the newest first.
use Rattle.std.specs.Prelude.{◌+◌, ◌*◌, ◌<◌, ◌≤◌, ◌⊎◌, ℕ, List, [], ◌∷◌, Option, Some}
use Rattle.rds_safety.specs.Late.{InputOf, IsOfItsOrigin}
use Rattle.rds_arrivals.specs.Arrivals.{Arrival, IsBreak, and_lost, filled, nineteen_slots}

-- an arrival, and the station's slot in which it was sent
pub record Delivery (X : Type 0) : Type 0 where
  pub arrival : Arrival X
  pub slot : ℕ

abbrev pub arrivals : {X : Type 0} → List (Delivery X) → List (Arrival X)
arrivals [] = []
arrivals (d ∷ before) = d.arrival ∷ arrivals before

abbrev pub origins : {X : Type 0} → List (Delivery X) → List (Arrival ℕ)
origins [] = []
origins (d ∷ before) = record { entry = d.slot; time = d.arrival.time; told = d.arrival.told } ∷ origins before

-- the filled log as a receiver hears it, and the slot of each entry; `lost` slots without a group follow
abbrev pub delivered_input : {X : Type 0} → ℕ → ℕ → ℕ → ℕ → List (Delivery X) → InputOf X
delivered_input grain m first lost given = record {
  first = first;
  heard = and_lost lost (filled grain m (arrivals given));
  origins = and_lost lost (filled grain m (origins given));
}

-- this holds for each delivery and the one before it
abbrev pub EachTwo : {X : Type 0} → (Delivery X → Delivery X → Type 0) → List (Delivery X) → Type 0
EachTwo Holds [] = Unit {0}
EachTwo Holds (d ∷ []) = Unit {0}
EachTwo Holds (newer ∷ older ∷ before) = Holds newer older × EachTwo Holds (older ∷ before)

-- each group was sent in its slot
abbrev pub AreOf : {X : Type 0} → List (Option X) → List (Delivery X) → Type 0
AreOf log [] = Unit {0}
AreOf log (d ∷ before) = IsOfItsOrigin log (Some d.slot) (Some d.arrival.entry) × AreOf log before

-- it was sent later
abbrev pub IsLater : {X : Type 0} → Delivery X → Delivery X → Type 0
IsLater newer older = older.slot < newer.slot

-- the slots from one to the other took no longer than the times say, and `spread` microseconds; or there is a break
abbrev pub KeepsPace : {X : Type 0} → ℕ → Delivery X → Delivery X → Type 0
KeepsPace spread newer older =
    IsBreak older.arrival.time newer.arrival.time
    ⊎ (nineteen_slots * newer.slot + 19 * older.arrival.time
    ≤ nineteen_slots * older.slot + 19 * (newer.arrival.time + spread))

-- a delivery came `least` to `least` + `spread` after the start of its slot, by a clock that is `ahead`. Both ends
-- are in nineteenths of a microsecond, the spread in microseconds
pub record IsOnItsWay {X : Type 0} (least ahead spread : ℕ) (d : Delivery X) : Type 0 where
  pub at_least : nineteen_slots * d.slot + least ≤ 19 * d.arrival.time + ahead
  pub at_most : 19 * d.arrival.time + ahead ≤ nineteen_slots * d.slot + least + 19 * spread

-- the grain and the spread together are less than a slot
abbrev pub AreBelowASlot : ℕ → ℕ → Type 0
AreBelowASlot grain spread = 19 * (grain + spread) < nineteen_slots
