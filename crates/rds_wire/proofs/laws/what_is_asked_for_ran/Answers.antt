use Rattle.rds_wire.proofs.Runs.{asked_for_ran}
use Rattle.rds_wire.proofs.laws.what_is_asked_for_ran.Goals as goal

pub returns : goal.returns
returns g c = asked_for_ran _ _ _
