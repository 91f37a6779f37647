use Rattle.std.proofs.Common.{◌/◌, ◌%◌, arith}
use Rattle.std.proofs.lemmas.Nat.{and_mask}
use Rattle.rds_fields.proofs.message.Message.of_blocks.Goals as goal

pub returns-in-4-clause-only : goal.returns-in-4-clause-only
returns-in-4-clause-only c =
    let address = and_mask c.args.group.low 4 in
    λ m h. c.one_message.ensures m _ c.args.group h (grind arith)

pub returns-in-20-clause-spelled : goal.returns-in-20-clause-spelled
returns-in-20-clause-spelled c =
    let address = and_mask c.args.group.low 1 in
    (c.args.group.low / 2 % 8, grind arith)

pub returns-in-20-clause-only : goal.returns-in-20-clause-only
returns-in-20-clause-only c =
    let address = and_mask c.args.group.low 1 in
    λ m h. c.one_message.ensures m _ c.args.group h (c.args.group.low / 2 % 8, grind arith)

pub returns-in-22-clause-only : goal.returns-in-22-clause-only
returns-in-22-clause-only c =
    let (s, pair) = c.from_bits.ensures in
    λ m h. c.one_message.ensures m _ c.args.group h (s, grind arith)
