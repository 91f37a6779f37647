use Rattle.rds_charset.proofs.PrintedText.{length-displayed}
use Rattle.rds_charset.proofs.laws.displayed_takes_three.Goals as goal

pub returns : goal.returns
returns c = length-displayed
