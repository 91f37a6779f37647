-- The replies of a world: to a command, to a slot, and to a list of slots (this project's own rule).
use Rattle.std.specs.Prelude.{◌≡◌, ◌≢◌, ◌<◌, ◌≤◌, IfSome, IsSome, ℕ, List, None, Option, Ok, Err, length, reverse}
use Rattle.std.specs.Prelude.{slice_get, take}
use Rattle.rds_encoder.specs.Entries.{Entry, name_moves, text_moves}
use Rattle.rds_encoder.specs.Reply.{reply_to}
use Rattle.rds_encoder.specs.Reply as encoder
use Rattle.rds_encoder.specs.Tags.{tags_reply}
use Rattle.rds_world.specs.declared.event.Command.{Command}
use Rattle.rds_world.specs.declared.event.Command.TheVariants.{Quiet, Restart, SetText, SetName, SetTags}
use Rattle.rds_world.specs.declared.event.TheConstants.{MOST_RECEIVERS}
use Rattle.rds_world.specs.declared.reply.StepRefused.{StepRefused}
use Rattle.rds_world.specs.declared.reply.StepRefused.TheVariants as step
use Rattle.rds_world.specs.declared.reply.Reply.{Reply}
use Rattle.rds_world.specs.declared.reply.Reply.TheVariants.{Restarted, Done, Refused}
use Rattle.rds_world.specs.declared.reply.Reply.TheVariants as reply
use Rattle.rds_world.specs.declared.slots.PlayRefused.{PlayRefused}
use Rattle.rds_world.specs.declared.slots.PlayRefused.TheVariants.{TooManyReceivers, Memory, ReceiverCount, Late, Wrong}
use Rattle.rds_world.specs.declared.slots.PlayRefused.TheVariants.{WrongConfirmed}
use Rattle.rds_world.specs.Due.{IsDueToAll, IsFirstLate}
use Rattle.rds_world.specs.Event.{Event}
use Rattle.rds_world.specs.Wrong.{IsFirstWrong, IsFitToAll}
use Rattle.rds_world.specs.declared.world.Config.{Config}

-- the encoder's reply as the reply of the world
abbrev pub answered : encoder.Reply → Reply
answered (Ok done) = Done
answered (Err refusal) = Refused refusal

-- the reply to a command, for an encoder with a spacing of d slots and these entries before
abbrev pub reply_at : ℕ → Command → List Entry → Reply
reply_at d Quiet before = reply.Quiet
reply_at d Restart before = Restarted
reply_at d (SetText x) before = answered (reply_to d (text_moves before))
reply_at d (SetName x) before = answered (reply_to d (name_moves before))
reply_at d (SetTags pair) before = answered (tags_reply d pair before)

-- the slot can be taken after those before: it has one reception for each receiver, each is due, and each keeps the
-- premise about wrong groups
pub record CanBeTaken (config : Config) (receivers : ℕ) (e : Event) (before : List Event) : Type 0 where
  pub count : length e.receptions ≡ receivers
  pub due : IsDueToAll config.late e before
  pub fit : IsFitToAll config.kind.window e before

-- the slot has one reception for each receiver, and r is the first receiver whose reception is not due
pub record IsLateTo (k receivers : ℕ) (e : Event) (before : List Event) (r : ℕ) : Type 0 where
  pub count : length e.receptions ≡ receivers
  pub late : IsFirstLate k e before r

-- why an event breaks the premise about wrong groups: r is the first receiver whose reception breaks it; with a window
-- it gets a wrong message for a second time
abbrev pub IsUnfit : Option ℕ → Event → List Event → StepRefused → Type 0
IsUnfit window e before step.ReceiverCount = ⊥
IsUnfit window e before (step.Late r) = ⊥
IsUnfit window e before (step.Wrong r) = (window ≡ None) × IsFirstWrong window e before r
IsUnfit window e before (step.WrongConfirmed r) = IsSome window × IsFirstWrong window e before r

-- the slot has one reception for each receiver, each is due, and this is why it breaks the premise about wrong groups
pub record IsWrong (config : Config) (receivers : ℕ) (e : Event) (before : List Event) (why : StepRefused)
    : Type 0 where
  pub count : length e.receptions ≡ receivers
  pub due : IsDueToAll config.late e before
  pub unfit : IsUnfit config.kind.window e before why

-- why a slot is refused after those before
abbrev pub IsStepRefused : Config → ℕ → Event → List Event → StepRefused → Type 0
IsStepRefused config receivers e before step.ReceiverCount = length e.receptions ≢ receivers
IsStepRefused config receivers e before (step.Late r) = IsLateTo config.late receivers e before r
IsStepRefused config receivers e before (step.Wrong r) = IsWrong config receivers e before (step.Wrong r)
IsStepRefused config receivers e before (step.WrongConfirmed r) =
    IsWrong config receivers e before (step.WrongConfirmed r)

-- the event at this place can be taken after those before it; the oldest event is the first of this list
abbrev pub IsTaken : Config → ℕ → List Event → ℕ → Type 0
IsTaken config receivers events place =
    IfSome (slice_get events place) (λ e. CanBeTaken config receivers e (reverse (take place events)))

-- the slots can be played: there are at most eight receivers, and each slot can be taken
pub record CanBePlayed (config : Config) (receivers : ℕ) (events : List Event) : Type 0 where
  pub few : receivers ≤ MOST_RECEIVERS
  pub each : (place : ℕ) → place < length events → IsTaken config receivers events place

-- there are at most eight receivers, the event at this place is the first that is refused, and this is why
pub record IsFirstRefused (config : Config) (receivers : ℕ) (events : List Event) (place : ℕ) (why : StepRefused)
    : Type 0 where
  pub few : receivers ≤ MOST_RECEIVERS
  pub refused : IfSome (slice_get events place)
      (λ e. IsStepRefused config receivers e (reverse (take place events)) why)
  pub there : place < length events
  pub first : (before : ℕ) → before < place → IsTaken config receivers events before

-- why slots cannot be played: for too many receivers exactly if there are more than eight
abbrev pub IsPlayRefused : Config → ℕ → List Event → PlayRefused → Type 0
IsPlayRefused config receivers events TooManyReceivers = MOST_RECEIVERS < receivers
IsPlayRefused config receivers events Memory = receivers ≤ MOST_RECEIVERS
IsPlayRefused config receivers events (ReceiverCount place) =
    IsFirstRefused config receivers events place step.ReceiverCount
IsPlayRefused config receivers events (Late place r) = IsFirstRefused config receivers events place (step.Late r)
IsPlayRefused config receivers events (Wrong place r) = IsFirstRefused config receivers events place (step.Wrong r)
IsPlayRefused config receivers events (WrongConfirmed place r) =
    IsFirstRefused config receivers events place (step.WrongConfirmed r)
