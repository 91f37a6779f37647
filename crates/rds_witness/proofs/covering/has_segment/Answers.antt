use Rattle.std.proofs.Common.{arith}
use Rattle.std.proofs.lemmas.Nat.Bits.{bit_at-lt, shr_and_one}
use Rattle.rds_assembly.proofs.HeldLemmas.{get-set, get-unset}
use Rattle.rds_witness.proofs.covering.has_segment.Goals as goal

pub returns-then-not-is_held : goal.returns-then-not-is_held
returns-then-not-is_held c holds b held = grind (arith, bit_at-lt, shr_and_one, get-unset)

pub returns : goal.returns
returns c same b held = grind (arith, shr_and_one, get-set)
