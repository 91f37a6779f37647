use Rattle.std.proofs.Common.{[], None, subst}
use Rattle.rds_receiver.specs.ReceiverAt.{ReceiverAt}
use Rattle.rds_ffi.proofs.receiver.rdsrt_receiver_init.Goals as goal

pub returns-clause-stands : goal.returns-clause-stands
returns-clause-stands c ok first =
    subst (λ m. ReceiverAt record { programme = c.args.pi; dwell = m; window = None; first = first } c.new-2.result [])
    c.in-Some.ensures.value (c.new-2.ensures.stands first)
