use Rattle.std.proofs.Common.{arith}
use Rattle.std.proofs.lemmas.List.{get_or-set_other, get_or-set_same}
use Rattle.rds_witness.proofs.burst.lose.Goals as goal

pub loop-slot-init : goal.loop-slot-init
loop-slot-init c = grind (arith)

pub loop-slot-preserved : goal.loop-slot-preserved
loop-slot-preserved c = grind (arith, get_or-set_other, get_or-set_same)

pub returns-clause-lost : goal.returns-clause-lost
returns-clause-lost c = grind (arith)
