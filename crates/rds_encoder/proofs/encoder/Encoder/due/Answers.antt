use Rattle.std.proofs.Common.{arith}
use Rattle.rds_encoder.proofs.encoder.Encoder.due.Goals as goal

pub returns-in-Name-clause-sent : goal.returns-in-Name-clause-sent
returns-in-Name-clause-sent c station m entries st =
    let sent = c.name_segment.ensures.sent station m entries st in
    grind (arith, c.has_turn.ensures station m entries)

pub returns-in-Tags-clause-sent : goal.returns-in-Tags-clause-sent
returns-in-Tags-clause-sent c station m entries st =
    let sent = c.tags_due.ensures.sent station m entries st in
    grind (arith, c.has_turn.ensures station m entries)
