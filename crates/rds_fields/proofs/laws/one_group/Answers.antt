use Rattle.rds_fields.proofs.OneGroup.{same_group}
use Rattle.rds_fields.proofs.laws.one_group.Goals as goal

pub returns : goal.returns
returns c = same_group
