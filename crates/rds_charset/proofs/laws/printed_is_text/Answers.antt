use Rattle.rds_charset.proofs.PrintedText.{IsUtf8-printed}
use Rattle.rds_charset.proofs.laws.printed_is_text.Goals as goal

pub returns : goal.returns
returns c = IsUtf8-printed
