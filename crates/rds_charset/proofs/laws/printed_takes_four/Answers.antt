use Rattle.rds_charset.proofs.PrintedText.{length-printed}
use Rattle.rds_charset.proofs.laws.printed_takes_four.Goals as goal

pub returns : goal.returns
returns c = length-printed
