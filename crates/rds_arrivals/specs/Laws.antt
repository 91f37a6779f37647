-- The laws of filled logs. Lists have the newest first.
use Rattle.std.specs.Prelude.{◌≡◌, ◌+◌, ◌<◌, ℕ, List, ◌∷◌, Option, All}
use Rattle.rds_safety.specs.OwnClock.{IsHeardByOwnClock}
use Rattle.rds_arrivals.specs.Arrivals.{AreLost, lost_within}
use Rattle.rds_arrivals.specs.Delivered.{AreBelowASlot, AreOf, Delivery, EachTwo, IsLater, IsOnItsWay}
use Rattle.rds_arrivals.specs.Delivered.{KeepsPace, delivered_input}

-- the number of lost slots is the one of the definition
abbrev pub LostSlotsAreCounted : Type 0
LostSlotsAreCounted = (grain apart : ℕ) → AreLost grain apart (lost_within grain apart)

abbrev pub OneCount : Type 0
OneCount = (grain apart n k : ℕ) → AreLost grain apart n → AreLost grain apart k → n ≡ k

-- groups that were delivered in order, with times that keep pace but for breaks
pub record AreDelivered {X : Type 0} (spread : ℕ) (log : List (Option X)) (given : List (Delivery X)) : Type 0 where
  pub of : AreOf log given
  pub later : EachTwo IsLater given
  pub pace : EachTwo (KeepsPace spread) given

-- if the delay of all groups is between `least` and `least` + `spread`, the times keep pace
abbrev pub EvenDelaysKeepPace : Type 0 → Type 0
EvenDelaysKeepPace X =
    (least ahead spread : ℕ) (given : List (Delivery X)) → All (IsOnItsWay least ahead spread) given
    → EachTwo (KeepsPace spread) given

-- a receiver of the filled log hears by an own clock that counts no slot too few, also in the lost slots that follow
abbrev pub FilledLogsAreOwnClocks : Type 0 → Type 0
FilledLogsAreOwnClocks X =
    (grain spread m first lost : ℕ) (log : List (Option X)) (newest : Delivery X) (before : List (Delivery X))
    → AreBelowASlot grain spread → 0 < m → AreDelivered spread log (newest ∷ before)
    → IsHeardByOwnClock m m (newest.slot + lost) log (delivered_input grain m first lost (newest ∷ before))
