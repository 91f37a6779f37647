use Rattle.rds_charset.proofs.PrintedText.{IsReadAs-printed}
use Rattle.rds_charset.proofs.laws.printed_is_read_back.Goals as goal

pub returns : goal.returns
returns c = IsReadAs-printed
