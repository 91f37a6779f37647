use Rattle.std.proofs.Common.{arith}
use Rattle.clap.proofs.WalkLemmas.{first_value-rows}
use Rattle.rds_cli.proofs.request.file_of.Goals as goal

pub returns-in_err-file : goal.returns-in_err-file
returns-in_err-file c = grind (arith, first_value-rows)

pub returns-then-eq : goal.returns-then-eq
returns-then-eq c = grind (arith, first_value-rows)

pub returns-else-eq : goal.returns-else-eq
returns-else-eq c = grind (arith, first_value-rows)
