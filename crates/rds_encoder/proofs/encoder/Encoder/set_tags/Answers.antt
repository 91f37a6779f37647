use Rattle.std.proofs.Common.{arith}
use Rattle.rds_encoder.proofs.Turns.{passed_on}
use Rattle.rds_encoder.proofs.encoder.Encoder.set_tags.Goals as goal

pub returns-in_err-check_tags-clause-reply : goal.returns-in_err-check_tags-clause-reply
returns-in_err-check_tags-clause-reply c station m entries st =
    grind (arith, passed_on, c.in_err-check_tags.ensures.reply station m entries)

pub returns-in_err-check_tags-clause-stands : goal.returns-in_err-check_tags-clause-stands
returns-in_err-check_tags-clause-stands c station m entries stands =
    grind (arith, c.in_err-check_tags.ensures.reply station m entries)

pub returns-clause-reply : goal.returns-clause-reply
returns-clause-reply c station m entries st =
    grind (arith, c.in_ok-check_tags.ensures.reply station m entries)

pub returns-clause-stands : goal.returns-clause-stands
returns-clause-stands c station m entries st =
    let reply = returns-clause-reply c station m entries st in
    grind arith
