use Rattle.std.proofs.Common.{◌∙◌}
use Rattle.rds_receiver.specs.Confirmed.{counted}
use Rattle.rds_receiver.specs.Receipts.{heard_of}
use Rattle.rds_receiver.proofs.Shows.{pair_is, shows_counted}
use Rattle.rds_receiver.proofs.receiver.Receiver.pair.Goals as goal

pub returns : goal.returns
returns c t input s =
    c.pair.ensures.value s.good.display.pair
    ∙ pair_is _ t.dwell t.first (counted t (heard_of t.programme input)) (shows_counted t _ input s)
