use Rattle.rds_witness.proofs.Rulings.{got-all}
use Rattle.rds_witness.proofs.laws.who_loses_nothing_gets_the_log.Goals as goal

pub returns : goal.returns
returns c = got-all
