use Rattle.std.proofs.Common.{arith}
use Rattle.clap.proofs.WalkLemmas.{first_value-rows}
use Rattle.rds_cli.proofs.request.pi_of.Goals as goal

pub returns-in-Some : goal.returns-in-Some
returns-in-Some c = grind (arith, first_value-rows)

pub returns-then-eq : goal.returns-then-eq
returns-then-eq c = grind (arith, first_value-rows)

pub returns-else-eq : goal.returns-else-eq
returns-else-eq c = grind (arith, first_value-rows)
