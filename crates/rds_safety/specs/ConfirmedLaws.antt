-- The laws about receivers that show only what they heard twice. Lists have the newest first.
use Rattle.std.specs.Prelude.{◌≡◌, ◌+◌, ◌<◌, ◌≤◌, ℕ, List, Option, Some, All}
use Rattle.rds_fields.specs.declared.message.Message.{Message}
use Rattle.rds_assembly.specs.Body.{segment_count, text_body}
use Rattle.rds_encoder.specs.Plan.{Broadcast, HasNumber}
use Rattle.rds_receiver.specs.Receipts.{name_fragment, text_fragment}
use Rattle.rds_receiver.specs.declared.fragment.Fragment.{Fragment}
use Rattle.rds_safety.specs.Late.{CameFrom, HasEntry, Input}
use Rattle.rds_safety.specs.Near.{ListensNear}
use Rattle.rds_safety.specs.Plans.{AreLawful, Plans}
use Rattle.rds_safety.specs.Safe.{AreSafeViews, Listener}
use Rattle.rds_safety.specs.Confirmed.{ListensConfirmed, lateness_of_two}

-- the confirmed messages are near the log, for the lateness of two receipts
abbrev pub WhoConfirmsListensNear : Type 0
WhoConfirmsListensNear =
    (w k m t : ℕ) (log : List (Option Message)) (r : Listener) → ListensConfirmed w k m t log r
    → ListensNear (m + lateness_of_two w k) m t log r

-- plans that are lawful for the dwell and the lateness of two receipts make each slot safe, for any number of receivers
-- that show only what they heard twice, whatever wrong messages they get, none of them twice within w slots
abbrev pub LawfulPlansAreSafeConfirmed : Type 0
LawfulPlansAreSafeConfirmed =
    (w k m t : ℕ) (plans : Plans) (log : List (Option Message)) (receivers : List Listener)
    → AreLawful (m + lateness_of_two w k) plans log → All (ListensConfirmed w k m t log) receivers
    → AreSafeViews (m + lateness_of_two w k) m t plans log receivers

-- a segment of a service with this address came in this slot
pub record CameAt (pick : Message → Option Fragment) (raw : Input) (slot address : ℕ) : Type 0 where
  pub message : Message
  pub heard : HasEntry raw.first raw.heard slot (Some message)
  pub fragment : Fragment
  pub picks : pick message ≡ Some fragment
  pub at : fragment.address ≡ address

-- from slot s on, a segment with this address came twice, less than w slots apart
pub record CameTwice (pick : Message → Option Fragment) (w s address : ℕ) (raw : Input) : Type 0 where
  pub one : ℕ
  pub two : ℕ
  pub since : s ≤ one
  pub later : one < two
  pub soon : two < one + w
  pub first : CameAt pick raw one address
  pub second : CameAt pick raw two address

-- slots s to t are at most m and lie in this broadcast of the plan. Each message that the receiver heard in them is the
-- one that was sent in the same slot. Each of the n segments came twice in them, less than w slots apart
pub record HearsEachTwice (pick : Message → Option Fragment) (w m t s n : ℕ) (plan : List Broadcast) (raw : Input)
    (b : Broadcast) : Type 0 where
  pub number : ℕ
  pub planned : HasNumber plan number b
  pub from : b.start ≤ s
  pub to : t ≤ b.end
  pub within : t < s + m
  pub right : (u : ℕ) (message : Message) → s ≤ u → HasEntry raw.first raw.heard u (Some message) → CameFrom raw u u
  pub each : (a : ℕ) → a < n → CameTwice pick w s a raw

-- a receiver that heard each segment of a text twice shows the text
abbrev pub WhoHearsEachSegmentTwiceShowsTheText : Type 0
WhoHearsEachSegmentTwiceShowsTheText =
    (w k m t s : ℕ) (plans : Plans) (log : List (Option Message)) (r : Listener) (b : Broadcast)
    → AreLawful (m + lateness_of_two w k) plans log → (listens : ListensConfirmed w k m t log r)
    → HearsEachTwice text_fragment w m t s (segment_count (text_body b.bytes)) plans.text listens.raw b
    → r.view.text ≡ Some b.bytes

-- the same for the two segments of a name
abbrev pub WhoHearsBothSegmentsTwiceShowsTheName : Type 0
WhoHearsBothSegmentsTwiceShowsTheName =
    (w k m t s : ℕ) (plans : Plans) (log : List (Option Message)) (r : Listener) (b : Broadcast)
    → AreLawful (m + lateness_of_two w k) plans log → (listens : ListensConfirmed w k m t log r)
    → HearsEachTwice name_fragment w m t s 2 plans.name listens.raw b
    → r.view.name ≡ Some b.bytes
