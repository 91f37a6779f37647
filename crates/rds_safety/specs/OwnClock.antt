-- Inputs that a receiver hears by its own clock (this project's own rule). A receiver shares no clock with the station.
-- It counts slots by a crystal or by what it receives, and may count too many or too few. So there are two clocks: the
-- entries of an input have the receiver's own slots; logs, origins and plans have the station's. Two receivers may have
-- two clocks. Lists have the newest first.
use Rattle.std.specs.Prelude.{◌≡◌, ◌+◌, ◌-◌, ◌<◌, ◌≤◌, ℕ, List, Option, length}
use Rattle.rds_fields.specs.declared.message.Message.{Message}
use Rattle.rds_receiver.specs.Shown.{ShowsView}
use Rattle.rds_safety.specs.Late.{CameFrom, InputOf, IsHeardInOrder}
use Rattle.rds_safety.specs.Safe.{Listener}

-- the slot after the newest one of an input, by the receiver's clock
abbrev pub next_slot : {X : Type 0} → InputOf X → ℕ
next_slot input = input.first + length input.heard

-- fewer than m slots of the receiver's clock are fewer than d of the station: between entries that came less than m
-- slots apart, and since an entry that came less than m slots ago, when the station has reached slot `now`; no entry
-- was sent later than `now`
pub record IsHeardByOwnClock {X : Type 0} (d m now : ℕ) (log : List (Option X)) (input : InputOf X) : Type 0 where
  pub order : IsHeardInOrder log input
  pub between : (t u r s : ℕ) → CameFrom input t r → CameFrom input u s → u < t + m → s < r + d
  pub since : (t s : ℕ) → CameFrom input t s → next_slot input ≤ t + m → now < s + d
  pub past : (t s : ℕ) → CameFrom input t s → s ≤ now

-- the receiver's clock counts at most k slots too few within m; it may count too many
pub record LosesAtMost {X : Type 0} (k m now : ℕ) (input : InputOf X) : Type 0 where
  pub between : (t u r s : ℕ) → CameFrom input t r → CameFrom input u s → t < u → u < t + m → s ≤ r + (u - t) + k
  pub since : (t s : ℕ) → CameFrom input t s → next_slot input ≤ t + m → now < s + (next_slot input - t) + k
  pub past : (t s : ℕ) → CameFrom input t s → s ≤ now

-- the receiver counts the station's slots
abbrev pub IsTrueClock : {X : Type 0} → InputOf X → Type 0
IsTrueClock input = (t s : ℕ) → CameFrom input t s → s ≡ t

-- the receiver of dwell m heard the log by its own clock up to slot `now`, and shows the view of that
pub record ListensByOwnClock (d m now : ℕ) (log : List (Option Message)) (r : Listener) : Type 0 where
  pub heard : IsHeardByOwnClock d m now log r.input
  pub shows : ShowsView m r.input.first r.input.heard r.view

-- the same for a clock that counts at most k slots too few within m
pub record ListensBySlowClock (k m now : ℕ) (log : List (Option Message)) (r : Listener) : Type 0 where
  pub order : IsHeardInOrder log r.input
  pub clock : LosesAtMost k m now r.input
  pub shows : ShowsView m r.input.first r.input.heard r.view
