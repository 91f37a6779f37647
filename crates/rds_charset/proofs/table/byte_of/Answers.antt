use Rattle.std.proofs.Common.{arith, ap, sym, ◌∙◌, map}
use Rattle.std.proofs.lemmas.List.{at_drop_all}
use Rattle.rds_charset.proofs.Characters.{byte_in-found, byte_in-passed, held-FitsInBytes}
use Rattle.rds_charset.specs.Ranges.{range_of}
use Rattle.rds_charset.specs.Table.{byte_in, byte_of}
use Rattle.rds_charset.proofs.table.byte_of.Goals as goal

pub loop-range-init : goal.loop-range-init
unfolding byte_of
loop-range-init c = ap (λ ranges. byte_in ranges c.args.character) c.table-range-items.ensures

pub returns-in-Some : goal.returns-in-Some
returns-in-Some c = grind (arith, byte_in-found)

pub loop-range-preserved : goal.loop-range-preserved
loop-range-preserved c = grind (arith, byte_in-passed)

pub returns : goal.returns
returns c = sym (at_drop_all (λ ranges. byte_in (map range_of ranges) c.args.character)
    c.table-range-items.result.now c.loop-range.range-index c.loop-range-test.false) ∙ c.loop-range.invariant

pub byte_of-requires : goal.byte_of-requires
byte_of-requires c = grind (arith, held-FitsInBytes)
