-- From groups to messages (this project's own rule). Who gets the groups of a station hears its messages: as late as
-- the groups come, or by the same clock. So the laws about messages are laws about groups. Lists have the newest
-- first.
use Rattle.std.specs.Prelude.{◌≤◌, ℕ, List, Option, map}
use Rattle.std.specs.List.{AllZip}
use Rattle.rds_block.specs.declared.group.Group.{Group}
use Rattle.rds_fields.specs.declared.head.Head.{Head}
use Rattle.rds_fields.specs.declared.message.Message.{Message}
use Rattle.rds_encoder.specs.Sent.{IsSent}
use Rattle.rds_receiver.specs.Receipts.{AreHeard}
use Rattle.rds_safety.specs.Late.{Input, InputOf, IsHeardLate}
use Rattle.rds_safety.specs.OwnClock.{IsHeardByOwnClock}
use Rattle.rds_wire.specs.Received.{own_group}

-- the input with these messages in place of its groups
abbrev pub with_messages : InputOf Group → List (Option Message) → Input
with_messages input heard = record { first = input.first; heard = heard; origins = input.origins }

-- receivers of the programme hear the messages that an encoder sends
abbrev pub WhatIsSentIsHeard : Type 0
WhatIsSentIsHeard =
    (head : Head) (messages : List (Option Message)) (sent : List (Option Group))
    → AllZip (IsSent head) messages sent → AreHeard head.pi sent messages

-- they hear nothing of a group of another programme
abbrev pub OtherGroupsAreNothing : Type 0
OtherGroupsAreNothing =
    (pi : ℕ) (slots : List (Option Group)) (heard : List (Option Message)) → AreHeard pi slots heard
    → AreHeard pi (map (own_group pi) slots) heard

-- groups that come in order and at most k slots late are messages that come so, and also for a larger k
abbrev pub LateGroupsAreLateMessages : Type 0
LateGroupsAreLateMessages =
    (pi k l : ℕ) (sent : List (Option Group)) (messages heard : List (Option Message)) (input : InputOf Group)
    → AreHeard pi sent messages → AreHeard pi input.heard heard → k ≤ l
    → IsHeardLate k sent input → IsHeardLate l messages (with_messages input heard)

-- groups that come by a clock of the receiver's own are messages that come by it, and also for a larger d
abbrev pub GroupsByOwnClockAreMessagesByIt : Type 0
GroupsByOwnClockAreMessagesByIt =
    (pi d e m now : ℕ) (sent : List (Option Group)) (messages heard : List (Option Message)) (input : InputOf Group)
    → AreHeard pi sent messages → AreHeard pi input.heard heard → d ≤ e
    → IsHeardByOwnClock d m now sent input → IsHeardByOwnClock e m now messages (with_messages input heard)
