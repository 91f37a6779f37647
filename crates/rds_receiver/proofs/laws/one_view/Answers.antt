use Rattle.rds_receiver.specs.OneView.{same_view}
use Rattle.rds_receiver.proofs.laws.one_view.Goals as goal

pub returns : goal.returns
returns c = same_view
