-- The headline for receivers that get wrong groups and show only what they heard twice.
use Rattle.std.specs.Prelude.{◌+◌, ◌<◌, ℕ, List, All}
use Rattle.rds_encoder.specs.Entries.{Entry}
use Rattle.rds_encoder.specs.Sent.{sent_log}
use Rattle.rds_safety.specs.Safe.{AreSafeViews, Listener}
use Rattle.rds_safety.specs.Confirmed.{ListensConfirmed, lateness_of_two}
use Rattle.rds_world.specs.Station.{AreEndedSlots, station_plans}

-- if a station spaces its texts by the dwell and the lateness of two receipts, the views of any number of receivers
-- that show only what they heard twice are safe, whatever the station sets, and whatever wrong messages they get, none
-- of them twice within w slots
abbrev pub WhoConfirmsAStationIsSafe : Type 0
WhoConfirmsAStationIsSafe =
    (w k m t : ℕ) (told : List Entry) (receivers : List Listener) → 0 < m → AreEndedSlots told
    → All (ListensConfirmed w k m t (sent_log (m + lateness_of_two w k) told)) receivers
    → AreSafeViews (m + lateness_of_two w k) m t (station_plans (m + lateness_of_two w k) told)
    (sent_log (m + lateness_of_two w k) told) receivers
