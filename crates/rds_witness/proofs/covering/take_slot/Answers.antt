use Rattle.std.proofs.Common.{arith}
use Rattle.rds_witness.proofs.Rulings.{only_stays}
use Rattle.rds_witness.proofs.covering.take_slot.Goals as goal

pub returns-in_default-clause-same : goal.returns-in_default-clause-same
returns-in_default-clause-same c t log k input stands only alike =
    search (arith, only_stays, c.slot_blocks-one.ensures.same, c.slot_blocks-one.ensures.stands)

pub returns-in-Some-clause-same : goal.returns-in-Some-clause-same
returns-in-Some-clause-same c t log k input stands only alike =
    search (arith, only_stays, c.slot_blocks-one.ensures.same, c.slot_blocks-one.ensures.stands)
