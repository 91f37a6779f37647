use Rattle.rds_wire.proofs.Twice.{mix_is_shown}
use Rattle.rds_wire.proofs.laws.what_a_mix_means.Goals as goal

pub returns : goal.returns
returns c = mix_is_shown
