-- A name in a plain struct (this project's own form).
use Rattle.std.specs.Prelude.{◌≡◌, ◌-◌, ◌≤◌, ℕ, List, drop, length, replicate, take}
use Rattle.rds_ffi.specs.declared.label.RdsrtLabel.{RdsrtLabel}

-- the struct has this name, and a 0 in each place after it, of which there is one at least
pub record IsLabel (name : List ℕ) (s : RdsrtLabel) : Type 0 where
  pub count : s.length ≡ length name
  pub bytes : take s.length s.bytes ≡ name
  pub zeros : drop s.length s.bytes ≡ replicate (31 - s.length) 0
  pub ended : s.length ≤ 30
