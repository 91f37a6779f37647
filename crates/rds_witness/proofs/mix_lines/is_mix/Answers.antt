use Rattle.std.proofs.Common.{arith, inr, length}
use Rattle.rds_receiver.specs.Receipts.{tuned}
use Rattle.rds_witness.proofs.mix_lines.is_mix.Goals as goal

pub returns-clause-never : goal.returns-clause-never
returns-clause-never c holds = grind (arith, tuned)

pub returns-clause-no : goal.returns-clause-no
returns-clause-no c isnt = grind (arith, tuned)
