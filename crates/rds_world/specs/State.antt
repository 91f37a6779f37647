-- The state of a world: its configuration, its encoder, its receivers with their reaches and their last wrong messages,
-- a mark for each receiver whose view did not change in the newest slot, and the groups of the last slots, the newest
-- first.
use Rattle.std.specs.Prelude.{ℕ, ◌+◌, Bool, List, Option}
use Rattle.circular_buffer.specs.Buffer.{Buffer}
use Rattle.rds_block.specs.declared.group.Group.{Group}
use Rattle.rds_fields.specs.declared.message.Message.{Message}
use Rattle.rds_encoder.specs.declared.encoder.Encoder.{Encoder}
use Rattle.rds_world.specs.ReceiverKind.{lateness_in}
use Rattle.rds_receiver.specs.declared.receiver.Receiver.{Receiver}
use Rattle.rds_world.specs.declared.world.Config.{Config}

-- the spacing d of the station, in slots: the dwell M plus the lateness of what counts. It is M + K, and M + K + W - 1
-- with a window of W slots
abbrev pub distance : Config → ℕ
distance config = config.dwell + lateness_in config.kind.window config.late

pub record WorldState : Type 0 where
  pub config : Config
  pub encoder : Encoder
  pub receivers : List Receiver
  pub changed : List Bool
  pub reaches : List ℕ
  pub pasts : List (Buffer (Option Message))
  pub sent : List (Option Group)
