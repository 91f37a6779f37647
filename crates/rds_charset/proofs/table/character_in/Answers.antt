use Rattle.std.proofs.Common.{arith, sym, ◌∙◌, map}
use Rattle.std.proofs.lemmas.List.{at_drop_all}
use Rattle.rds_charset.proofs.Characters.{character_in-found, character_in-passed}
use Rattle.rds_charset.specs.Ranges.{range_of}
use Rattle.rds_charset.specs.Table.{character_in}
use Rattle.rds_charset.proofs.table.character_in.Goals as goal

pub returns-in-Some : goal.returns-in-Some
returns-in-Some c = grind (arith, character_in-found)

pub loop-range-preserved : goal.loop-range-preserved
loop-range-preserved c = grind (arith, character_in-passed)

pub returns : goal.returns
returns c = sym (at_drop_all (λ ranges. character_in (map range_of ranges) c.args.byte) c.args.ranges.now
    c.loop-range.range-index c.loop-range-test.false) ∙ c.loop-range.invariant
