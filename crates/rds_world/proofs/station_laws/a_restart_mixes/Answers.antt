use Rattle.rds_world.proofs.FlagStation as flags
use Rattle.rds_world.proofs.station_laws.a_restart_mixes.Goals as goal

pub returns : goal.returns
returns c = flags.a_restart_mixes
