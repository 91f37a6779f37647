use Rattle.std.proofs.Common.{arith}
use Rattle.rds_encoder.specs.Entries.{text_moves}
use Rattle.rds_encoder.proofs.encoder.Encoder.check_tags.Goals as goal

pub returns-then-not-ends_in-clause-reply : goal.returns-then-not-ends_in-clause-reply
returns-then-not-ends_in-clause-reply c station m entries st =
    grind (arith, c.in-Some.ensures.on_air m (text_moves entries))

pub returns-then-not-ends_in-2-clause-reply : goal.returns-then-not-ends_in-2-clause-reply
returns-then-not-ends_in-2-clause-reply c station m entries st =
    grind (arith, c.in-Some.ensures.on_air m (text_moves entries))

pub returns-clause-reply : goal.returns-clause-reply
returns-clause-reply c station m entries st = grind (arith, c.in-Some.ensures.on_air m (text_moves entries))
