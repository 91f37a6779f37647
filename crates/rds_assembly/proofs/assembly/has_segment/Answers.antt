use Rattle.std.proofs.Common.{◌-◌, arith}
use Rattle.std.proofs.lemmas.Nat.Bits.{shr_and_one}
use Rattle.rds_assembly.proofs.HeldLemmas.{contains-held, held_again}
use Rattle.rds_assembly.proofs.assembly.has_segment.Goals as goal

pub returns-then-mask-address-eq1 : goal.returns-then-mask-address-eq1
returns-then-mask-address-eq1 c same = grind (arith, contains-held, shr_and_one, held_again)
