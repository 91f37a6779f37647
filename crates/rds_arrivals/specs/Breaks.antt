-- Why nobody knows how many slots passed.
use Rattle.std.specs.Prelude.{◌+◌, ◌<◌, ℕ, None, Option, Some, nat_lt, if◌then◌else◌}
use Rattle.rds_arrivals.specs.Arrivals.{hour}
use Rattle.rds_arrivals.specs.declared.lost.Break.{Break}
use Rattle.rds_arrivals.specs.declared.lost.Break.TheVariants.{Back, Hour}

-- the cause of a break
abbrev pub IsBreakOf : ℕ → ℕ → Break → Type 0
IsBreakOf earlier later Back = later < earlier
IsBreakOf earlier later Hour = earlier + hour < later

-- that cause, if there is a break
abbrev pub break_of : ℕ → ℕ → Option Break
break_of earlier later =
    if nat_lt later earlier then Some Back else if nat_lt (earlier + hour) later then Some Hour else None
