use Rattle.std.proofs.Common.{arith}
use Rattle.rds_arrivals.proofs.Fractions.{thirteen}
use Rattle.rds_arrivals.proofs.stamp.number_of.Goals as goal

pub overflow_mul-number : goal.overflow_mul-number
overflow_mul-number c = grind (arith, thirteen c.loop-place.number c.loop-place.place)

pub overflow_add-number : goal.overflow_add-number
overflow_add-number c =
    let small = thirteen c.loop-place.number c.loop-place.place c.loop-place.invariant.small (omega arith) in
    omega (arith, c.type_inv.text c.loop-place.place)

pub returns-clause-small : goal.returns-clause-small
returns-clause-small c = grind (arith, thirteen c.loop-place.number c.loop-place.place)
