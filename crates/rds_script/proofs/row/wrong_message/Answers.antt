use Rattle.std.proofs.Common.{arith}
use Rattle.rds_script.proofs.row.wrong_message.Goals as goal

pub returns-in_err-second-clause-none : goal.returns-in_err-second-clause-none
returns-in_err-second-clause-none c = rw c.from_residual.ensures (λ message is. c.in_err-second.ensures.none is.b
    is.second)

pub returns-in_err-third-clause-none : goal.returns-in_err-third-clause-none
returns-in_err-third-clause-none c = grind arith

pub returns-in_err-fourth-clause-none : goal.returns-in_err-fourth-clause-none
returns-in_err-fourth-clause-none c = rw c.from_residual-in_err-fourth.ensures
    (λ message is. c.in_err-fourth.ensures.none is.d is.fourth)
