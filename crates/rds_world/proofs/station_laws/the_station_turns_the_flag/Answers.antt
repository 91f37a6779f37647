use Rattle.rds_world.proofs.FlagStation.{empty_is_enough, keeps_each, one_life, turns}
use Rattle.rds_world.proofs.station_laws.the_station_turns_the_flag.Goals as goal

pub returns-clause-turns : goal.returns-clause-turns
returns-clause-turns c = turns

pub returns-clause-keeps : goal.returns-clause-keeps
returns-clause-keeps c = keeps_each

pub returns-clause-empty : goal.returns-clause-empty
returns-clause-empty c = empty_is_enough

pub returns-clause-one_life : goal.returns-clause-one_life
returns-clause-one_life c = one_life
