-- Output that waits in memory until it is written. w is the traffic with the writer.
use Rattle.std.specs.Prelude.{◌≡◌, ◌++◌, ℕ, List}
use Rattle.std.specs.Io.KnownBytes.{Appends}
use Rattle.rds_io.specs.Told.{AppendsPrefix, HasFailed, IsCalm, Traffic}

-- this is the output so far: a part of it was written, and the rest waits
pub record Waits (w : Traffic) (waiting total : List ℕ) : Type 0 where
  pub written : List ℕ
  pub all : written ++ waiting ≡ total
  pub wrote : Appends w.before w.after written
  pub calm : IsCalm w

-- the writer failed at it: some first part of it was written
pub record IsLost (w : Traffic) (total : List ℕ) : Type 0 where
  pub wrote : AppendsPrefix w.before w.after total
  pub failed : HasFailed w
