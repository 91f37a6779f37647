use Rattle.std.proofs.Common.{rules}
use Rattle.rds_charset.specs.Displays.{displayed_character}
use Rattle.rds_charset.proofs.table.displayed_character.Goals as goal

pub returns : goal.returns
unfolding displayed_character
returns c = search rules
