use Rattle.rds_receiver.specs.Confirmed.{counted}
use Rattle.rds_receiver.specs.Holds.{newest_slot}
use Rattle.rds_receiver.specs.Receipts.{heard_of, text_fragment}
use Rattle.rds_receiver.proofs.Runs.{run_at_newest}
use Rattle.rds_receiver.proofs.Shows.{shows_counted}
use Rattle.rds_receiver.proofs.receiver.Receiver.text_flag.Goals as goal

pub returns : goal.returns
returns c t input s =
    let heard = counted t (heard_of t.programme input) in
    rw (run_at_newest text_fragment t.dwell t.first heard)
    at (c.text_flag.ensures s.good.display t.dwell (newest_slot t.first heard) t.first heard (shows_counted t _ input s))
