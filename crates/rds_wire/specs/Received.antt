-- What reaches a receiver of a log (this project's own rule). Slots are lost, and groups come late, or the receiver has
-- a clock of its own. `a` has the programme, the group type of the tags, the dwell M and
-- the lateness K. Lists have the newest first.
use Rattle.std.specs.Prelude.{◌≡◌, ◌⊎◌, ◌<◌, ◌+◌, ◌-◌, ◌^◌, ◌==◌}
use Rattle.std.specs.Prelude.{ℕ, List, Option, None, Some, drop, if◌then◌else◌, length, map}
use Rattle.std.specs.List.{AllZip}
use Rattle.rds_block.specs.declared.group.Group.{Group}
use Rattle.rds_log.specs.Audit.{spacing}
use Rattle.rds_lines.specs.LogSlots.{IsLogOf}
use Rattle.rds_log.specs.declared.audit_log.Auditing.{Auditing}
use Rattle.rds_safety.specs.Late.{InputOf, IsHeardLate}
use Rattle.rds_safety.specs.OwnClock.{IsHeardByOwnClock}

-- the first n entries of a list over time
abbrev pub first_entries : {X : Type 0} → ℕ → List X → List X
first_entries n all = drop (length all - n) all

-- the group of a slot for a receiver of this programme: one of another programme is as nothing
abbrev pub own_group : ℕ → Option Group → Option Group
own_group pi None = None
own_group pi (Some g) = if g.pi == pi then Some g else None

-- the input came until the station has reached slot `now`, and the receiver its slot t. Either both count the same
-- slots, and each slot has a group that was sent at most K slots before, in the order of sending, or nothing. Or the
-- receiver has a clock of its own, by which fewer than M slots are fewer than M + K of the station
abbrev pub Came : Auditing → ℕ → ℕ → List (Option Group) → InputOf Group → Type 0
Came a t now sent input =
    (IsHeardLate a.late sent input × (now ≡ t)) ⊎ IsHeardByOwnClock (spacing a) a.dwell now sent input

-- a receiver of the log got these slots. When the station has reached slot `now`, it has reached slot t
pub record IsReceived (a : Auditing) (log : List ℕ) (got : List (Option Group)) (t now : ℕ) : Type 0 where
  pub sent : List (Option Group)
  pub log_has : IsLogOf a.rtplus log sent
  pub reached : t < length got
  pub few : length got < 2 ^ 64
  pub origins : List (Option ℕ)
  pub came : Came a t now sent record {
    first = 0;
    heard = map (own_group a.pi) (first_entries (t + 1) got);
    origins = origins;
  }

-- the receiver got each slot of the log in its time, or lost it
pub record LosesSlots (n : ℕ) (log : List ℕ) (got : List (Option Group)) : Type 0 where
  pub sent : List (Option Group)
  pub log_has : IsLogOf n log sent
  pub lost : AllZip (λ (group slot : Option Group). (slot ≡ None) ⊎ (slot ≡ group)) sent got
  pub few : length got < 2 ^ 64

-- so the log is received in each slot, with any programme, dwell and lateness
abbrev pub WhoLosesSlotsReceives : Type 0
WhoLosesSlotsReceives =
    (a : Auditing) (log : List ℕ) (got : List (Option Group)) (t : ℕ) → LosesSlots a.rtplus log got → t < length got
    → IsReceived a log got t t
