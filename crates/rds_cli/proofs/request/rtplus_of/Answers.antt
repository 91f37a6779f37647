use Rattle.std.proofs.Common.{arith, ℕ, Option, Some}
use Rattle.std.specs.Option.{option_map_or}
use Rattle.clap.specs.Words.{Text}
use Rattle.clap.proofs.WalkLemmas.{first_value-rows}
use Rattle.rds_cli.specs.CommandLine.{group_named}
use Rattle.rds_cli.proofs.request.rtplus_of.Goals as goal

-- the group type that is given, or 11A
abbrev given : Option Text → Option ℕ
given o = option_map_or group_named o (Some 11)

pub returns-in-Some : goal.returns-in-Some
returns-in-Some c = grind (arith, first_value-rows)

pub returns-in-None : goal.returns-in-None
returns-in-None c = grind (arith, first_value-rows)
