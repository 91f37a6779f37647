use Rattle.rds_receiver.proofs.Shows.{name_shown, what_it_heard}
use Rattle.rds_receiver.proofs.receiver.Receiver.name.Goals as goal

pub returns-clause-shown : goal.returns-clause-shown
returns-clause-shown c = what_it_heard _ _ (name_shown _ _ c.whole.ensures)
