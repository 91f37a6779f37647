-- The state of a world after a list of slots. Lists have the newest first.
use Rattle.std.specs.Prelude.{◌≡◌, ◌<◌, ◌≤◌, ◌∷◌, [], ℕ, List, Option, Some, None, false, length, slice_get}
use Rattle.std.specs.Prelude.{slice_index_or, take, true}
use Rattle.circular_buffer.specs.Buffer.{Buffer, buffer}
use Rattle.rds_block.specs.declared.group.Group.{Group}
use Rattle.rds_fields.specs.declared.message.Message.{Message}
use Rattle.rds_encoder.specs.EncoderAt.{EncoderAt}
use Rattle.rds_receiver.specs.Confirmed.{counted}
use Rattle.rds_receiver.specs.Kept.{GoesOnBy}
use Rattle.rds_receiver.specs.Receipts.{AreHeard, Hears, Tuning}
use Rattle.rds_receiver.specs.Shown.{IsView, ShownView, ShowsView}
use Rattle.rds_receiver.specs.ReceiverAt.{ReceiverAt, WhereReceiverStands}
use Rattle.rds_world.specs.declared.event.Reception.{Reception}
use Rattle.rds_world.specs.declared.event.Reception.TheVariants.{Lost}
use Rattle.rds_world.specs.ReceiverKind.{dwell_of, own_window}
use Rattle.rds_receiver.specs.declared.receiver.Receiver.{Receiver}
use Rattle.rds_world.specs.Due.{AreDue, IsDue, last_named, reach_of}
use Rattle.rds_world.specs.Event.{Event}
use Rattle.rds_safety.specs.Late.{Input}
use Rattle.rds_world.specs.Slots.{SetValues, entries, input_of, log, received, sent_back}
use Rattle.rds_world.specs.State.{WorldState, distance}
use Rattle.rds_world.specs.Wrong.{AreFit, slots_back, wrong_of}
use Rattle.rds_world.specs.declared.world.Config.{Config}

-- the tuning to the station: its PI, the dwell and the window of its kind of receivers, and the slot in which the input
-- begins
abbrev pub tuned_to : Config → Input → Tuning
tuned_to config input = record {
  programme = config.head.pi;
  dwell = dwell_of config.kind.is_flag_alone config.dwell;
  window = own_window config.kind;
  first = input.first;
}

-- the receiver stands at groups whose messages are the input
pub record HasHeard (config : Config) (input : Input) (r : Receiver) : Type 0 where
  pub groups : List (Option Group)
  pub spelled : AreHeard config.head.pi groups input.heard
  pub stands : ReceiverAt (tuned_to config input) r groups

-- the receiver has heard nothing yet, in whichever slot its input begins
abbrev pub HeardNothing : Config → Receiver → Type 0
HeardNothing config r =
    (first : ℕ)
    → ReceiverAt (tuned_to config record { first = first; heard = []; origins = [] }) r []

-- each receiver has heard the input with its number
pub record AllHaveHeard (config : Config) (inputs : ℕ → Input) (receivers : List Receiver) : Type 0 where
  pub each : (i : ℕ) (r : Receiver) → slice_get receivers i ≡ Some r → HasHeard config (inputs i) r

-- these are the groups of the last K + 1 slots, the newest first: receivers of the programme hear the messages of the
-- log from them
abbrev pub AreLastSent : Config → List (Option Message) → List (Option Group) → Type 0
AreLastSent config sent groups =
    (back : ℕ) → back ≤ config.late
    → Hears config.head.pi (slice_index_or groups back None) (sent_back back sent)

-- the inputs of all receivers after one more slot, with the log up to this slot
abbrev pub all_received : List Reception → ℕ → List (Option Message) → (ℕ → Input) → ℕ → Input
all_received receptions slot sent inputs i = received (slice_index_or receptions i Lost) slot sent (inputs i)

-- this holds of each slot, log and list of inputs for which the kept groups are the last ones of the log, each
-- reception is due, and the receivers have heard the inputs
abbrev pub WhereTheyListen : Config → List Reception → List (Option Group) → List Receiver
    → (ℕ → List (Option Message) → (ℕ → Input) → Type 0) → Type 0
WhereTheyListen config receptions kept receivers Holds =
    (slot : ℕ) (sent : List (Option Message)) (inputs : ℕ → Input) (last : ℕ → Option ℕ) → AreLastSent config sent kept
    → ((i : ℕ) → IsDue config.late slot (last i) (slice_index_or receptions i Lost))
    → AllHaveHeard config inputs receivers → Holds slot sent inputs

-- each receiver has the reach that follows from the slots
pub record HaveReaches (k : ℕ) (events : List Event) (reaches : List ℕ) : Type 0 where
  pub each : (i reach : ℕ) → slice_get reaches i ≡ Some reach → reach ≡ reach_of k (length events) (last_named i events)

-- each ring has the last wrong messages of its receiver, as far back as the window goes
pub record HavePasts (window : Option ℕ) (events : List Event) (pasts : List (Buffer (Option Message))) : Type 0 where
  pub each : (i : ℕ) (past : Buffer (Option Message)) → slice_get pasts i ≡ Some past
      → past ≡ buffer (take (slots_back window) (wrong_of i events)) (slots_back window)

-- the view after what was heard in the input
abbrev pub IsViewOfInput : Config → Input → ShownView → Type 0
IsViewOfInput config input view =
    let t = tuned_to config input in ShowsView t.dwell t.first (counted t input.heard) view

-- the slot between these inputs was no restart, and nothing that is shown changed in it
pub record StaysShown (config : Config) (before after : Input) : Type 0 where
  pub first : after.first ≡ before.first
  pub message : Option Message
  pub heard : after.heard ≡ message ∷ before.heard
  pub view : (view : ShownView) → IsViewOfInput config before view → IsViewOfInput config after view
  pub goes_on : GoesOnBy (tuned_to config before) before.heard after.heard

-- the newest slot changed nothing that receiver i shows
abbrev pub ShowsStill : Config → ℕ → List Event → Type 0
ShowsStill config i [] = Unit {0}
ShowsStill config i (e ∷ before) =
    StaysShown config (input_of (distance config) i before) (input_of (distance config) i (e ∷ before))

-- the world has this configuration, and its state follows from these slots
pub record WorldAt (config : Config) (w : WorldState) (events : List Event) : Type 0 where
  pub is_set : w.config ≡ config
  pub lasts : 0 < config.dwell
  pub values : SetValues events
  pub due : AreDue config.late events
  pub fit : AreFit config.kind.window events
  pub encoder : EncoderAt config.head (distance config) w.encoder (entries events)
  pub receivers : AllHaveHeard config (λ i. input_of (distance config) i events) w.receivers
  pub reaches : HaveReaches config.late events w.reaches
  pub pasts : HavePasts config.kind.window events w.pasts
  pub sent : AreLastSent config (log (distance config) events) w.sent
  pub same : (i : ℕ) → slice_index_or w.changed i true ≡ false → ShowsStill config i events

-- this holds of each configuration and list of slots that the world stands at
abbrev pub WhereWorldStands : WorldState → (Config → List Event → Type 0) → Type 0
WhereWorldStands w Holds = (config : Config) (events : List Event) → WorldAt config w events → Holds config events

-- the receiver shows this view: the view follows from every input that can lead to this state
abbrev pub ReceiverShows : Receiver → ShownView → Type 0
ReceiverShows r view = WhereReceiverStands r (λ t input. IsView t input view)
