use Rattle.std.proofs.Common.{ℕ, List, arith, nat_cmp}
use Rattle.std.specs.FinMap.{get-empty}
use Rattle.rds_assembly.proofs.HeldLemmas.{nothing_held, past_all}
use Rattle.rds_witness.proofs.covering.is_part.Goals as goal

pub returns-then-one-eq0-clause-cells : goal.returns-then-one-eq0-clause-cells
returns-then-one-eq0-clause-cells c holds a b held = grind (arith, nothing_held, get-empty, nat_cmp)

pub loop-address-init : goal.loop-address-init
loop-address-init c a b less held = absurd (omega arith)

pub loop-address-preserved : goal.loop-address-preserved
loop-address-preserved c a b less held = grind (arith)

pub returns-clause-cells : goal.returns-clause-cells
returns-clause-cells c holds a b held = grind (arith, past_all)
