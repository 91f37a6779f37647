-- The wire laws (this project's own rule), from bytes to bytes. A log reaches receivers, and `decode` prints what they
-- show. The log is one that `encode` wrote for a script, or one to which `audit` said yes. Lists have the newest first.
use Rattle.std.specs.Prelude.{◌≡◌, ◌<◌, ◌+◌, ◌^◌, ℕ, List, None, Option, Some}
use Rattle.rds_block.specs.declared.group.Group.{Group}
use Rattle.rds_fields.specs.TagGroup.{MayCarryTags}
use Rattle.rds_fields.specs.declared.head.Head.{Head}
use Rattle.rds_fields.specs.declared.message.Message.{Message}
use Rattle.rds_encoder.specs.Tags.{pair_on_air}
use Rattle.rds_receiver.specs.Receipts.{heard_of}
use Rattle.rds_safety.specs.Marks.{IsMarkIn, Tagged, marks, text_mark}
use Rattle.rds_safety.specs.Plans.{AreLawfulAs, Plans}
use Rattle.rds_audit.specs.Forms.{text_kind}
use Rattle.rds_world.specs.Event.{Event}
use Rattle.rds_world.specs.Slots.{entries, plans_of}
use Rattle.rds_world.specs.ReceiverKind.{with_dwell}
use Rattle.rds_world.specs.declared.world.Config.{Config}
use Rattle.rds_audit.specs.Recording.{preceded}
use Rattle.rds_audit.specs.declared.log_start.LogStart.{LogStart}
use Rattle.rds_audit.specs.declared.log_start.LogStart.TheVariants.{Complete, Running}
use Rattle.rds_log.specs.Audit.{WholePasses, complete, judged, spacing}
use Rattle.rds_lines.specs.LogSlots.{IsLogOf}
use Rattle.rds_log.specs.declared.audit_log.Auditing.{Auditing}
use Rattle.rds_script.specs.Play.{HasRecords, RowsWrite, with_form}
use Rattle.rds_script.specs.Rows.{Record}
use Rattle.rds_script.specs.declared.form.Form.TheVariants.{Log}
use Rattle.rds_script.specs.declared.play.Playing.{Playing}
use Rattle.rds_wire.specs.Printed.{Prints, Shows}
use Rattle.rds_wire.specs.Received.{IsReceived, first_entries}
use Rattle.rds_wire.specs.Safe.{AreSafe, StationPlans}

-- the slot of the station, as its plans count it: those of a running station count from d slots before the log
abbrev pub slot_of_plans : LogStart → ℕ → ℕ → ℕ
slot_of_plans Complete d now = now
slot_of_plans Running d now = now + d

-- whatever two receivers of the log print is safe
abbrev pub IsSafeOnTheWire : Auditing → List ℕ → StationPlans → Type 0
IsSafeOnTheWire a log air =
    (received printed other_received other_printed : List ℕ) (t u now : ℕ)
    → (one : Prints a.rtplus a.pi a.dwell None received printed)
    → (other : Prints a.rtplus a.pi a.dwell None other_received other_printed)
    → IsReceived a log one.write.slots t now → IsReceived a log other.write.slots u now
    → AreSafe (spacing a) (slot_of_plans a.start (spacing a) now) air (Shows printed t) (Shows other_printed u)

-- ---- the law of scripts

-- `encode` wrote this log for some first records of a script, or for all of them
pub record Encodes (how : Playing) (script log : List ℕ) : Type 0 where
  pub records : List Record
  pub begins : HasRecords (Some script) records
  pub write : RowsWrite how records log

-- the station of `encode`: its receivers have the dwell m, and get groups at most k slots late
abbrev pub station_of : Head → ℕ → ℕ → Config
station_of head m k = record {
  head = head;
  dwell = m;
  late = k;
  kind = with_dwell;
}

-- the PI and the programme type fit into their bits
pub record IsHead (head : Head) : Type 0 where
  pub pi : head.pi < 2 ^ 16
  pub pty : head.pty < 32

-- what the station of these events has on air: the texts and names that were accepted, and at the end of each slot the
-- pair that was accepted for the text
abbrev pub aired : ℕ → List Event → StationPlans
aired d events = record {
  plans = plans_of d events;
  HasTags = λ slot pair. pair_on_air d (entries (first_entries (slot + 1) events)) ≡ Some pair;
}

-- the first fault of a complete log with tags in groups nA
abbrev pub complete_in : ℕ → ℕ → ℕ → ℕ → Auditing
complete_in n pi m k = record (complete pi m k) { rtplus = n }

-- the log that `encode` writes for any script is safe on the wire: what receivers show was on air by the script. Both
-- have the tags in the same group type
abbrev pub WhatIsEncodedIsSafeOnTheWire : Type 0
WhatIsEncodedIsSafeOnTheWire =
    (n : ℕ) (head : Head) (m k : ℕ) (script log : List ℕ) → MayCarryTags n → IsHead head → 0 < m
    → (encoded : Encodes (with_form (Log n) (station_of head m k)) script log)
    → IsSafeOnTheWire (complete_in n head.pi m k) log (aired (m + k) encoded.write.events)

-- ---- the law of audits

-- the messages of a log, as its plans count the slots
abbrev pub messages_of_plans : LogStart → ℕ → List (Option Message) → List (Option Message)
messages_of_plans Complete d messages = messages
messages_of_plans Running d messages = preceded d messages

-- what these messages have on air by plans: their texts and names, and in each slot the pair that they have there
abbrev pub planned : Plans → List (Option Message) → StationPlans
planned plans messages = record {
  plans = plans;
  HasTags = λ slot pair. IsMarkIn (marks text_mark messages) slot (Tagged pair);
}

-- some plans are lawful for what `audit` judges of the messages of the log, and by them the log is safe on the wire
pub record HasSafePlans (a : Auditing) (log : List ℕ) : Type 0 where
  pub slots : List (Option Group)
  pub has : IsLogOf a.rtplus log slots
  pub plans : Plans
  pub lawful : AreLawfulAs (text_kind a.form) (spacing a) plans (judged a slots)
  pub safe : IsSafeOnTheWire a log (planned plans (messages_of_plans a.start (spacing a) (heard_of a.pi slots)))

-- a log to which `audit` says yes has safe plans
abbrev pub WhatPassesIsSafeOnTheWire : Type 0
WhatPassesIsSafeOnTheWire =
    (a : Auditing) (n : ℕ) (log : List ℕ) → 0 < a.dwell → WholePasses a n log → HasSafePlans a log
