-- The time that a C program reads in a text (this project's own rule).
use Rattle.std.specs.Prelude.{ℕ, List, Option, Some, None, take, nat_le, option_and_then, if◌then◌else◌}
use Rattle.rds_arrivals.specs.Stamps.{stamp_in}
use Rattle.rds_arrivals.specs.declared.stamp.Stamp.{Stamp}

-- the time that a text begins with, if it ends within the first 40 bytes. The byte after these shows that it ends
abbrev pub time_in : List ℕ → Option Stamp
time_in text = option_and_then (λ stamp. if nat_le stamp.end 40 then Some stamp else None) (stamp_in (take 41 text))
