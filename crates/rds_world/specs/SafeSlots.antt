-- The headline (this project's own rule): receivers show only what was on air. Lists have the newest first.
use Rattle.std.specs.Prelude.{◌≡◌, ℕ, ◌+◌, List, [], ◌∷◌, false, length}
use Rattle.std.specs.List.{AllZip}
use Rattle.rds_receiver.specs.Shown.{ShownView}
use Rattle.rds_world.specs.Event.{Event}
use Rattle.rds_world.specs.ReceiverKind.{counted_input}
use Rattle.rds_receiver.specs.declared.receiver.Receiver.{Receiver}
use Rattle.rds_safety.specs.Late.{Input}
use Rattle.rds_safety.specs.Safe.{AreSafeViews, Listener}
use Rattle.rds_world.specs.Slots.{input_of, log, plans_of}
use Rattle.rds_world.specs.WorldAt.{ReceiverShows, WorldAt}
use Rattle.rds_world.specs.State.{WorldState, distance}
use Rattle.rds_world.specs.declared.world.Config.{Config}

-- what counts of the input of receiver i
abbrev pub input_that_counts : Config → ℕ → List Event → Input
input_that_counts config i events =
    counted_input config.kind.window config.dwell (input_of (distance config) i events)

-- the receivers from number i on, each with what counts of its input, and its view
abbrev pub listeners : Config → List Event → ℕ → List ShownView → List Listener
listeners config events i [] = []
listeners config events i (view ∷ views) =
    record { input = input_that_counts config i events; view = view } ∷ listeners config events (i + 1) views

-- The headline, for receivers with the dwell, and for each list of slots. In each slot the encoder and any receiver may
-- restart. Each receiver gets what was sent at most K slots before, in the order of sending, or nothing. With a window
-- of W slots it may also get a wrong message, but none that needs two receipts twice within W slots. At the end of the
-- newest slot, each text or name that these receivers show was on air in one of the last d slots, the tags shown were
-- sent for the text shown, and any two receivers show one broadcast or two that follow each other. Here d is M + K, and
-- M + K + W - 1 for receivers with a window of W slots.
abbrev pub OnlyWhatWasOnAirIsShown : Config → List Event → List Receiver → Type 0
OnlyWhatWasOnAirIsShown config [] receivers = Unit {0}
OnlyWhatWasOnAirIsShown config (newest ∷ before) receivers =
    config.kind.is_flag_alone ≡ false → (views : List ShownView) → AllZip ReceiverShows receivers views
    → AreSafeViews (distance config) config.dwell (length before) (plans_of (distance config) (newest ∷ before))
    (log (distance config) (newest ∷ before)) (listeners config (newest ∷ before) 0 views)

-- this holds in each world, for each list of slots that it stands at
abbrev pub EveryWorldShowsOnlyWhatWasOnAir : Type 0
EveryWorldShowsOnlyWhatWasOnAir =
    (config : Config) (w : WorldState) (events : List Event) → WorldAt config w events
    → OnlyWhatWasOnAirIsShown config events w.receivers
