use Rattle.std.proofs.Common.{arith}
use Rattle.clap.proofs.WalkLemmas.{first_value-rows}
use Rattle.rds_cli.proofs.request.is_given.Goals as goal

pub returns-in-Some : goal.returns-in-Some
returns-in-Some c = grind (arith, first_value-rows)

pub returns-in-None : goal.returns-in-None
returns-in-None c = grind (arith, first_value-rows)
