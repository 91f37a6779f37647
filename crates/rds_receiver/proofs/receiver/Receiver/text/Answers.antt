use Rattle.rds_receiver.proofs.Shows.{text_shown, what_it_heard}
use Rattle.rds_receiver.proofs.receiver.Receiver.text.Goals as goal

pub returns-clause-shown : goal.returns-clause-shown
returns-clause-shown c = what_it_heard _ _ (text_shown _ _ c.whole.ensures)
