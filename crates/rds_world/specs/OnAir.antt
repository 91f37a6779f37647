-- What the station of a world has on air at the end of its slots. Lists have the newest first.
use Rattle.std.specs.Prelude.{ℕ, List, Option, option_map}
use Rattle.rds_fields.specs.Tag.{PairFields}
use Rattle.rds_encoder.specs.Entries.{name_moves, text_moves}
use Rattle.rds_encoder.specs.Plan.{bytes_of, on_air}
use Rattle.rds_encoder.specs.Tags.{pair_on_air}
use Rattle.rds_receiver.specs.Shown.{ShownView, view_with}
use Rattle.rds_world.specs.Event.{Event}
use Rattle.rds_world.specs.Slots.{entries}
use Rattle.rds_world.specs.State.{distance}
use Rattle.rds_world.specs.declared.world.Config.{Config}

abbrev pub text_on_air : Config → List Event → Option (List ℕ)
text_on_air config events = option_map bytes_of (on_air (distance config) (text_moves (entries events)))

abbrev pub name_on_air : Config → List Event → Option (List ℕ)
name_on_air config events = option_map bytes_of (on_air (distance config) (name_moves (entries events)))

-- the tags of the text, even if they have not been sent yet
abbrev pub tags_on_air : Config → List Event → Option PairFields
tags_on_air config events = pair_on_air (distance config) (entries events)

-- all of it, as a receiver would show it
abbrev pub air_of : Config → List Event → ShownView
air_of config events = view_with (text_on_air config events) (name_on_air config events) (tags_on_air config events)
