use Rattle.std.proofs.Common.{arith}
use Rattle.rds_encoder.proofs.Turns.{group_sent}
use Rattle.rds_encoder.proofs.encoder.Encoder.tick.Goals as goal

pub returns-in_err-message-clause-sent : goal.returns-in_err-message-clause-sent
returns-in_err-message-clause-sent c station m entries st =
    grind (arith, c.in_err-message.ensures.sent station m entries)

pub returns-clause-sent : goal.returns-clause-sent
returns-clause-sent c station m entries st =
    let head = c.head.ensures station m _ (c.end_slot.ensures station m entries st) in
    let sent = c.in_ok-message.ensures.sent station m entries st in
    grind (arith, group_sent)
