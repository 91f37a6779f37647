-- The ages of reigns, in slots (this project's own rule), and how they change. An age says how long ago a reign started
-- or had its last slot. It stops at a limit.
use Rattle.std.specs.Prelude.{◌≡◌, ◌≤◌, ◌+◌, ◌-◌, ◌*◌, ◌<◌, ◌&&◌, ◌↔◌, [], ◌∷◌}
use Rattle.std.specs.Prelude.{ℕ, Bool, true, false, IsTrue, List, min, not}
use Rattle.rds_receiver.specs.Run.{is_same}
use Rattle.rds_audit.specs.declared.log_start.LogStart.{LogStart}
use Rattle.rds_audit.specs.declared.log_start.LogStart.TheVariants.{Complete, Running}
use Rattle.rds_audit.specs.Reigns.{AlternateFlags, Reign}

-- how many slots ago the current reign and the one before it had their last slot, and how many slots ago the current
-- one started; and whether the flag turned from each reign to the next one. Before the first reign, a complete log
-- counts as d slots older than it is, and the log of a running station as 2 * d or more
pub record Ages : Type 0 where
  pub is_open : Bool
  pub flag : Bool
  pub since_last : ℕ
  pub since_before : ℕ
  pub since_start : ℕ
  pub turns : Bool

-- how old a log counts before its first slot
abbrev pub age_at : LogStart → ℕ → ℕ
age_at Complete d = d
age_at Running d = 2 * d

-- the ages before the first slot
abbrev pub ages_at : LogStart → ℕ → Ages
ages_at start d = record {
  is_open = false;
  flag = false;
  since_last = age_at start d;
  since_before = age_at start d;
  since_start = 0;
  turns = true;
}

-- a fragment with this flag joins the current reign
abbrev pub Joins : ℕ → Bool → Ages → Type 0
Joins d flag a = (flag ≡ a.flag) × (a.since_last < d)

-- there is a reign, and it started at least d slots ago, so tags may be sent
abbrev pub HasLasted : ℕ → Ages → Type 0
HasLasted d a = (a.is_open ≡ true) × (d ≤ a.since_start)

-- the ages after a reign with this flag was opened that started so many slots ago
abbrev pub restarted : ℕ → Bool → Ages → Ages
restarted since_start flag a = record {
  is_open = true;
  flag = flag;
  since_last = a.since_last;
  since_before = a.since_last;
  since_start = since_start;
  turns = a.turns && not (a.is_open && is_same flag a.flag);
}

-- the ages one slot later
abbrev pub aged : ℕ → Ages → Ages
aged d a = record {
  is_open = a.is_open;
  flag = a.flag;
  since_last = min (a.since_last + 1) (2 * d);
  since_before = min (a.since_before + 1) (2 * d);
  since_start = min (a.since_start + 1) d;
  turns = a.turns;
}

-- how many slots before this one the newest reign had its last slot, at most 2 * d; without a reign, the log counts as
-- d slots older than it is
abbrev pub age_of_newest : ℕ → ℕ → List Reign → ℕ
age_of_newest d slot [] = min (slot + d) (2 * d)
age_of_newest d slot (r ∷ older) = min (slot - r.last) (2 * d)

-- the same for the reign before the newest one
abbrev pub age_of_second : ℕ → ℕ → List Reign → ℕ
age_of_second d slot [] = min (slot + d) (2 * d)
age_of_second d slot (r ∷ older) = age_of_newest d slot older

-- the flag and the start of the newest reign, if there is one
abbrev pub HasCurrent : ℕ → ℕ → List Reign → Ages → Type 0
HasCurrent d slot [] a = a.is_open ≡ false
HasCurrent d slot (r ∷ older) a = (a.is_open ≡ true) × (a.flag ≡ r.flag) × (a.since_start ≡ min (slot - r.start) d)

-- these are the ages of the reigns in this slot, and whether the flag turned from each of them to the next one
pub record HoldsAges (d slot : ℕ) (rs : List Reign) (a : Ages) : Type 0 where
  pub newest : a.since_last ≡ age_of_newest d slot rs
  pub second : a.since_before ≡ age_of_second d slot rs
  pub current : HasCurrent d slot rs a
  pub turns : IsTrue a.turns ↔ AlternateFlags rs
