use Rattle.std.proofs.Common.{inl, inr}
use Rattle.rds_script.proofs.Periods.{whys_heard}
use Rattle.rds_script.proofs.watched.whys_after.Goals as goal

pub returns-in-Got : goal.returns-in-Got
returns-in-Got c config input has =
    let heard = whys_heard config input c.args.receiver.now c.whys.result has c.whys.ensures in
    elim c.in-Got.is [
      | inl (back, got) ↦ rw got heard
      | inr (inl lost) ↦ rw lost heard
      | inr (inr (message, wrong)) ↦ rw
          wrong heard
    ]
