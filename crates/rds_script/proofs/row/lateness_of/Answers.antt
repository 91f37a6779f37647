use Rattle.rds_script.proofs.Receptions.{one_more_digit}
use Rattle.rds_script.proofs.row.lateness_of.Goals as goal

pub loop-digit-preserved : goal.loop-digit-preserved
loop-digit-preserved c =
    one_more_digit c.args.digits.now c.loop-digit.digit-index c.loop-digit.late c.from.result c.in_ok-value.value
    c.loop-digit.invariant.0 c.loop-digit-test.true c.loop-digit.invariant.1 c.from.ensures
    c.in_ok-value.ensures.value
