use Rattle.std.proofs.Common.{ap, ◌∙◌, arith, sym, w32, ◌==◌}
use Rattle.std.proofs.lemmas.Nat.Bits.{bit_at_clear_other, bit_at_clear_same, bit_at_set_other, bit_at_set_same}
use Rattle.rds_receiver.proofs.last.with_bit.Goals as goal

pub returns-then-flag-clause-taken : goal.returns-then-flag-clause-taken
returns-then-flag-clause-taken c = ap (λ n. n == 1) (bit_at_set_same w32 c.args.flags c.args.cell
    (omega (arith, c.requires))) ∙ sym c.if-flag.true

pub returns-then-flag-clause-others : goal.returns-then-flag-clause-others
returns-then-flag-clause-others c i below apart = bit_at_set_other w32 c.args.flags c.args.cell
    (omega (arith, c.requires)) i apart

pub returns-else-flag-clause-taken : goal.returns-else-flag-clause-taken
returns-else-flag-clause-taken c = ap (λ n. n == 1) (bit_at_clear_same w32 c.args.flags c.args.cell
    (omega (arith, c.requires))) ∙ sym c.if-flag.false

pub returns-else-flag-clause-others : goal.returns-else-flag-clause-others
returns-else-flag-clause-others c i below apart = bit_at_clear_other w32 c.args.flags c.args.cell
    (omega (arith, c.requires)) i (omega (arith, below)) apart
