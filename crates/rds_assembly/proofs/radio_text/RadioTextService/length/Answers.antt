use Rattle.std.proofs.Common.{arith}
use Rattle.rds_assembly.proofs.TextLemmas.{found_none, found_whole}
use Rattle.rds_assembly.proofs.radio_text.RadioTextService.length.Goals as goal

pub returns-then-place-trailing_ones-clause-whole : goal.returns-then-place-trailing_ones-clause-whole
returns-then-place-trailing_ones-clause-whole c =
    found_whole c.args.mask c.args.bytes.now c.spread-held.result c.returns_in.result (grind arith)
    (rw (← c.trailing_ones.ensures) c.if-place-trailing_ones.true)

pub returns-else-place-trailing_ones-clause-none : goal.returns-else-place-trailing_ones-clause-none
returns-else-place-trailing_ones-clause-none c = grind (arith, found_none)
