use Rattle.std.proofs.Common.{arith}
use Rattle.rds_script.proofs.Receptions.{digit_cut, no_other}
use Rattle.rds_script.proofs.row.next_reception.Goals as goal

pub returns-in_err-reception_of-clause-none : goal.returns-in_err-reception_of-clause-none
returns-in_err-reception_of-clause-none c =
    let count = c.digits_in_front.ensures in
    let cut = digit_cut c.args.after.now c.split_at.result.0.now c.split_at.result.1.now c.digits_in_front.result
    count.within count.digits count.ends c.split_at.ensures.front c.split_at.ensures.back in
    rw c.from_residual.ensures (no_other c.args.byte c.args.after.now c.split_at.result.0.now c.split_at.result.1.now
    cut c.in_err-reception_of.ensures.none)

pub returns-clause-some : goal.returns-clause-some
returns-clause-some c =
    search (arith, digit_cut, c.digits_in_front.ensures, c.split_at.ensures.front, c.split_at.ensures.back, c.in_ok-reception_of.ensures.some.0, c.in_ok-reception_of.ensures.some.1)
