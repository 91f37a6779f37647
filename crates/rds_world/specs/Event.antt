-- What happens in a slot (this project's own rule), in this order: at most one command, then the encoder's part, then
-- what each receiver gets.
use Rattle.std.specs.Prelude.{Bool, List}
use Rattle.rds_world.specs.declared.event.Command.{Command}
use Rattle.rds_world.specs.declared.event.Reception.{Reception}

pub record Event : Type 0 where
  pub command : Command
  pub free : Bool
  pub receptions : List Reception
