use Rattle.std.proofs.Common.{[], Some, subst}
use Rattle.rds_receiver.specs.ReceiverAt.{ReceiverAt}
use Rattle.rds_ffi.proofs.receiver.rdsrt_receiver_init_confirming.Goals as goal

pub returns-clause-stands : goal.returns-clause-stands
returns-clause-stands c ok first =
    subst (λ w. ReceiverAt record { programme = c.args.pi; dwell = c.args.dwell; window = Some w; first = first }
    c.tuned.result []) c.in-Some-new.ensures.value
    (subst (λ m. ReceiverAt record
    { programme = c.args.pi; dwell = m; window = Some c.in-Some-new.window; first = first }
    c.tuned.result []) c.in-Some.ensures.value (c.tuned.ensures.stands first))
