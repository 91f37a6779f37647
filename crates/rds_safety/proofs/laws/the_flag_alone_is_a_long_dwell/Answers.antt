use Rattle.rds_safety.proofs.FlagRuns.{long_dwell, while_heard}
use Rattle.rds_safety.proofs.laws.the_flag_alone_is_a_long_dwell.Goals as goal

pub returns : goal.returns
returns c = record { heard = while_heard; long = long_dwell }
