-- Two calls over the same bytes. w and v are the traffic of each call with its writer.
use Rattle.std.specs.Prelude.{ℕ, List}
use Rattle.std.specs.Io.KnownBytes.{Appends}
use Rattle.rds_io.specs.Told.{Traffic}

-- both wrote the same
pub record WriteAlike (w v : Traffic) : Type 0 where
  pub written : List ℕ
  pub one : Appends w.before w.after written
  pub other : Appends v.before v.after written
