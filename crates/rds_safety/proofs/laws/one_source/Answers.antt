use Rattle.rds_safety.proofs.OneBroadcast.{one_source}
use Rattle.rds_safety.proofs.laws.one_source.Goals as goal

pub returns : goal.returns
returns c = one_source c.plan_laws.ensures
