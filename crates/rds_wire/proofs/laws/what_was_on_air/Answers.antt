use Rattle.std.proofs.Common.{arith}
use Rattle.rds_wire.proofs.laws.what_was_on_air.Goals as goal

pub returns : goal.returns
returns c d now plan content k was =
    let covers = was.covers in
    (was.broadcast, was.planned, was.says, omega (arith, covers.from, was.past), omega (arith, covers.to, was.recent))
