-- The output of `slots` as a log. Lists have the newest first.
use Rattle.std.specs.Prelude.{List, All}
use Rattle.rds_arrivals.specs.Arrivals.{and_lost, filled}
use Rattle.rds_log.specs.Fill.{AreFilled, SoFar}
use Rattle.rds_lines.specs.LogSlots.{IsLogOf}
use Rattle.rds_lines.specs.LogLines.{IsLine, Line}
use Rattle.rds_log.specs.declared.filler.Filling.{Filling}

-- the output of `slots` is a log: its slots are the groups, the slots that were lost between them, and those since
abbrev pub FilledTextsAreLogs : Type 0
FilledTextsAreLogs =
    (f : Filling) (lines : List Line) (s : SoFar) → All IsLine lines
    → AreFilled f lines s → IsLogOf 11 s.written (and_lost s.told (filled f.grain f.dwell s.came))
