use Rattle.std.proofs.Common.{arith}
use Rattle.csv.specs.Reading.{Reached, strip_bom}
use Rattle.rds_script.proofs.records.Records.new.Goals as goal

pub returns : goal.returns
unfolding Reached
returns g c = grind (arith, strip_bom)
