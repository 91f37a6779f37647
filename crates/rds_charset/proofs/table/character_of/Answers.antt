use Rattle.std.proofs.Common.{ap, ◌∙◌}
use Rattle.rds_charset.specs.Table.{character_in, character_of}
use Rattle.rds_charset.proofs.table.character_of.Goals as goal

pub returns : goal.returns
unfolding character_of
returns c = c.character_in.ensures ∙ ap (λ ranges. character_in ranges c.args.byte) c.table.ensures
