-- The wire law for receivers that get wrong groups too, and show only what they heard twice within a window of w slots
-- (this project's own rule). Here d is m + k + w - 1. Lists have the newest first.
use Rattle.std.specs.Prelude.{◌+◌, ◌<◌, ◌^◌, ℕ, List, Option, Some, length}
use Rattle.rds_block.specs.declared.group.Group.{Group}
use Rattle.rds_fields.specs.TagGroup.{MayCarryTags}
use Rattle.rds_fields.specs.declared.head.Head.{Head}
use Rattle.rds_fields.specs.declared.message.Message.{Message}
use Rattle.rds_receiver.specs.Receipts.{AreHeard, heard_of}
use Rattle.rds_safety.specs.Confirmed.{IsHeardWithWrong, NoWrongConfirmed, lateness_of_two}
use Rattle.rds_safety.specs.Plans.{AreLawful, Plans}
use Rattle.rds_log.specs.Audit.{WholePasses}
use Rattle.rds_lines.specs.LogSlots.{IsLogOf}
use Rattle.rds_log.specs.declared.audit_log.Stop.{Stop}
use Rattle.rds_script.specs.Play.{with_form}
use Rattle.rds_script.specs.declared.form.Form.TheVariants.{Log}
use Rattle.rds_wire.specs.Printed.{Prints, Shows}
use Rattle.rds_wire.specs.Received.{LosesSlots, first_entries}
use Rattle.rds_wire.specs.Safe.{AreSafe, StationPlans}
use Rattle.rds_wire.specs.Wire.{Encodes, IsHead, aired, complete_in, planned, station_of}

-- receivers of this programme hear these messages in the slots of a log with tags in groups nA
pub record HasMessages (n pi : ℕ) (log : List ℕ) (messages : List (Option Message)) : Type 0 where
  pub slots : List (Option Group)
  pub has : IsLogOf n log slots
  pub heard : AreHeard pi slots messages

-- a receiver got these slots. In each slot up to t it heard a message that the log has at most k slots before, in the
-- order of sending, or nothing, or a wrong message; no segment and no pair of tags is wrong twice within w slots
pub record IsReceivedWithWrong (n pi w k : ℕ) (log : List ℕ) (got : List (Option Group)) (t : ℕ) : Type 0 where
  pub sent : List (Option Message)
  pub log_has : HasMessages n pi log sent
  pub reached : t < length got
  pub few : length got < 2 ^ 64
  pub origins : List (Option ℕ)
  pub late : IsHeardWithWrong k sent record
      { first = 0; heard = heard_of pi (first_entries (t + 1) got); origins = origins }
  pub once : NoWrongConfirmed w record { first = 0; heard = heard_of pi (first_entries (t + 1) got); origins = origins }

-- a receiver that got each slot of the log in its time, or lost it, received it so
abbrev pub WhoLosesSlotsReceivesForTwo : Type 0
WhoLosesSlotsReceivesForTwo =
    (n pi w k : ℕ) (log : List ℕ) (got : List (Option Group)) (t : ℕ) → LosesSlots n log got → t < length got
    → IsReceivedWithWrong n pi w k log got t

-- whatever two such receivers of the log print is safe
abbrev pub IsSafeIfHeardTwice : ℕ → ℕ → ℕ → ℕ → ℕ → List ℕ → StationPlans → Type 0
IsSafeIfHeardTwice n pi m w k log air =
    (received printed other_received other_printed : List ℕ) (t : ℕ)
    → (one : Prints n pi m (Some w) received printed)
    → (other : Prints n pi m (Some w) other_received other_printed)
    → IsReceivedWithWrong n pi w k log one.write.slots t → IsReceivedWithWrong n pi w k log other.write.slots t
    → AreSafe (m + lateness_of_two w k) t air (Shows printed t) (Shows other_printed t)

-- the log that `encode` writes with a lateness of k + w - 1 is safe for receivers with a window of w slots
abbrev pub WhatIsEncodedIsSafeIfHeardTwice : Type 0
WhatIsEncodedIsSafeIfHeardTwice =
    (n : ℕ) (head : Head) (m w k : ℕ) (script log : List ℕ) → MayCarryTags n → IsHead head → 0 < m
    → (encoded : Encodes (with_form (Log n) (station_of head m (lateness_of_two w k))) script log)
    → IsSafeIfHeardTwice n head.pi m w k log (aired (m + lateness_of_two w k) encoded.write.events)

-- some plans are lawful for the messages of the log, and by them it is safe for receivers with a window of w slots
pub record HasPlansForTwo (n pi m w k : ℕ) (log : List ℕ) : Type 0 where
  pub messages : List (Option Message)
  pub has : HasMessages n pi log messages
  pub plans : Plans
  pub lawful : AreLawful (m + lateness_of_two w k) plans messages
  pub safe : IsSafeIfHeardTwice n pi m w k log (planned plans messages)

-- a complete log to which `audit` says yes with a lateness of k + w - 1 has such plans, wherever the audit would stop
abbrev pub WhatPassesIsSafeIfHeardTwice : Type 0
WhatPassesIsSafeIfHeardTwice =
    (n pi m w k slots : ℕ) (stop : Stop) (log : List ℕ) → 0 < m
    → WholePasses (record (complete_in n pi m (lateness_of_two w k)) { stop = stop }) slots log
    → HasPlansForTwo n pi m w k log
