use Rattle.std.proofs.Common.{◌≡◌, arith, length, refl}
use Rattle.rds_witness.proofs.Mixes.{empty_list, no_loss_mix}
use Rattle.rds_witness.proofs.lose_log.answer_of.Goals as goal

pub returns-then-is_empty : goal.returns-then-is_empty
returns-then-is_empty c t ahead log lost are =
    let test = c.is_empty.ensures in
    let yes = c.if-is_empty.true in
    let none : length c.args.lines.now ≡ 0 = grind (arith) in
    (refl, no_loss_mix t ahead log lost c.args.lines.now (empty_list c.args.lines.now none) are)
