-- The state of a display one slot later (this project's own form).
use Rattle.std.specs.Prelude.{◌≡◌, ◌⊎◌, ◌+◌, ◌<◌, ◌≤◌, ℕ, None}
use Rattle.std.specs.FinMap.{empty}
use Rattle.rds_receiver.specs.State.{HeldSegments, DisplayState}

-- the segments are one slot older, and dropped at the dwell m
pub record AreOlder (m : ℕ) (h after : HeldSegments) : Type 0 where
  pub gone : m ≤ h.age → after ≡ h
  pub older : h.age + 1 < m → after ≡ record h { age = h.age + 1 }
  pub over : h.age + 1 ≡ m → after ≡ record h { cells = empty; age = m }

-- the segments are one slot older, and the pair is dropped with those of the text
pub record IsOlder (r after : DisplayState) : Type 0 where
  pub dwell : after.dwell ≡ r.dwell
  pub text : AreOlder r.dwell r.text after.text
  pub name : AreOlder r.dwell r.name after.name
  pub pair : (after.pair ≡ r.pair) ⊎ (after.pair ≡ None)
  pub held : after.text.age < r.dwell → after.pair ≡ r.pair
  pub dropped : r.text.age + 1 ≡ r.dwell → after.pair ≡ None
  pub known : after.is_known ≡ r.is_known
