use Rattle.std.proofs.Common.{refl}
use Rattle.rds_receiver.proofs.ConfirmingSteps.{name_confirmed}
use Rattle.rds_receiver.proofs.receiver.Receiver.confirm_name.Goals as goal

pub returns-clause-confirms : goal.returns-clause-confirms
returns-clause-confirms c w m first heard st =
    name_confirmed w m first heard _ _ c.args.fragment c.take.result c.requires refl
    c.take.ensures.taken c.take.ensures.others
    c.take.ensures.again.0 c.take.ensures.again.1 st
