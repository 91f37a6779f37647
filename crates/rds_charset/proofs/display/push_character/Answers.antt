use Rattle.std.proofs.Common.{arith}
use Rattle.rds_charset.proofs.PrintedText.{length-displayed_byte}
use Rattle.rds_charset.proofs.display.push_character.Goals as goal

pub push-requires : goal.push-requires
push-requires g c = grind (arith, length-displayed_byte)
