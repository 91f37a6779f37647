use Rattle.std.proofs.Common.{arith}
use Rattle.std.proofs.lemmas.Grind.{common_steps}
use Rattle.rds_io.proofs.fault.LogFaultFromWriteFault.from.Goals as goal

pub returns : goal.returns
returns c = grind (arith, common_steps)
