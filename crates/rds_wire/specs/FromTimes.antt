-- What `slots` writes of a recording with times is a received log. Lists have the newest first.
use Rattle.std.specs.Prelude.{◌≡◌, ◌+◌, ◌-◌, ◌<◌, ◌^◌, ◌∷◌, ℕ, List, Option, length, All}
use Rattle.rds_block.specs.declared.group.Group.{Group}
use Rattle.rds_arrivals.specs.Delivered.{AreBelowASlot, Delivery, arrivals}
use Rattle.rds_arrivals.specs.Laws.{AreDelivered}
use Rattle.rds_log.specs.Fill.{AreFilled, SoFar}
use Rattle.rds_lines.specs.LogSlots.{IsLogOf}
use Rattle.rds_lines.specs.LogLines.{IsLine, Line}
use Rattle.rds_log.specs.declared.audit_log.Auditing.{Auditing}
use Rattle.rds_log.specs.declared.filler.Filling.{Filling}
use Rattle.rds_wire.specs.Received.{IsReceived}

-- the lines have groups of the log, with tags in groups 11A, as they were delivered, and `slots` wrote this for them,
-- with the dwell of the receivers. Then its slots are received: the newest one in the slot of the newest group, or in a
-- lost slot since
abbrev pub WhatSlotsWritesIsReceived : Type 0
WhatSlotsWritesIsReceived =
    (a : Auditing) (f : Filling) (spread : ℕ) (log : List ℕ) (sent : List (Option Group))
    (newest : Delivery Group) (before : List (Delivery Group)) (lines : List Line) (s : SoFar)
    (got : List (Option Group))
    → AreBelowASlot f.grain spread → 0 < f.dwell → a.dwell ≡ f.dwell → a.rtplus ≡ 11
    → IsLogOf 11 log sent → AreDelivered spread sent (newest ∷ before)
    → All IsLine lines → AreFilled f lines s → s.came ≡ arrivals (newest ∷ before)
    → IsLogOf 11 s.written got → length got < 2 ^ 64
    → IsReceived a log got (length got - 1) (newest.slot + s.told)
