use Rattle.std.proofs.Common.{arith}
use Rattle.std.proofs.lemmas.Nat.Bits.{shr_and_one}
use Rattle.rds_assembly.proofs.HeldLemmas.{contains-held}
use Rattle.rds_assembly.proofs.assembly.Assembly.has.Goals as goal

pub returns : goal.returns
returns g c = grind (arith, contains-held, shr_and_one)
