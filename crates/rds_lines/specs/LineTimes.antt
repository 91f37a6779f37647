-- The time of a line of a log, and the comment at a break in these times: both are this project's own format.
use Rattle.std.specs.Prelude.{◌+◌, ℕ, List, [], None, Option, Some, codes, drop, length, nat_lt, option_and_then}
use Rattle.std.specs.Prelude.{if◌then◌else◌}
use Rattle.rds_arrivals.specs.Stamps.{stamp_in}
use Rattle.rds_arrivals.specs.declared.lost.Break.{Break}
use Rattle.rds_arrivals.specs.declared.lost.Break.TheVariants.{Back, Hour}
use Rattle.rds_arrivals.specs.declared.stamp.Stamp.{Stamp}
use Rattle.rds_lines.specs.LineSays.{deciding}

-- this time, if it ends before the last of the bytes that are kept of a line, so that the line shows where it ends
abbrev pub ended_within : Option Stamp → Option Stamp
ended_within found = option_and_then (λ stamp. if nat_lt (20 + stamp.end) deciding then Some stamp else None) found

-- the time of a slot's line: that of its text after the blocks and a space, in the bytes that are kept of a line
abbrev pub time_of : List ℕ → Option Stamp
time_of first = if nat_lt (length first) 20 then None else ended_within (stamp_in (drop 20 first))

-- the comment at a break
abbrev pub break_line : Option Break → List ℕ
break_line None = []
break_line (Some Back) = codes "# time went back\n"
break_line (Some Hour) = codes "# more than an hour passed\n"
