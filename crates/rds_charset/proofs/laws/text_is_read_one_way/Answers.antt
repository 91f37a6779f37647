use Rattle.rds_charset.proofs.Symbols.{IsReadAs-same}
use Rattle.rds_charset.proofs.laws.text_is_read_one_way.Goals as goal

pub returns : goal.returns
returns c = IsReadAs-same
