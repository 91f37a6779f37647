use Rattle.std.proofs.Common.{arith, ◌≡◌, None, Some, Bool, cond}
use Rattle.std.specs.Bool.{then_some}
use Rattle.rds_arrivals.specs.declared.lost.Break.{Break}
use Rattle.rds_log.proofs.Filled.{gap_across, same_pushed}
use Rattle.rds_log.proofs.filler.Filler.push_gap.Goals as goal

chosen : (b : Bool) (why : Break) → then_some b why ≡ cond b (Some why) None
chosen b why = grind arith

pub returns-in-Err-clause-told : goal.returns-in-Err-clause-told
returns-in-Err-clause-told g c =
    let s = c.args.self.now in
    let (gap, is) = gap_across s.filling c.args.is_group c.in-Some.stretch.last s.told c.args.time c.in-Err.why
    c.in-Err.ensures.lost in
    grind arith

pub returns-in-Err-clause-pushed : goal.returns-in-Err-clause-pushed
returns-in-Err-clause-pushed g c start total has =
    let s = c.args.self.now in
    let (gap, is) = gap_across s.filling c.args.is_group c.in-Some.stretch.last s.told c.args.time c.in-Err.why
    c.in-Err.ensures.lost in
    let some = chosen c.args.is_group c.in-Err.why in
    grind (arith, same_pushed)
