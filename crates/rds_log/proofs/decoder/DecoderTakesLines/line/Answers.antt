use Rattle.rds_log.proofs.Decodes.{takes_skip, takes_slot}
use Rattle.std.proofs.Common.{refl}
use Rattle.rds_log.proofs.decoder.DecoderTakesLines.line.Goals as goal

pub returns-in-Skip-clause-takes : goal.returns-in-Skip-clause-takes
returns-in-Skip-clause-takes g c how start lines line says starts has =
    takes_skip how c.args.self.now.views _ _ _ _ _ lines line (rw c.in-Skip.is at says) refl refl has

pub returns-in-Slot-clause-takes : goal.returns-in-Slot-clause-takes
returns-in-Slot-clause-takes g c how start lines line says starts has =
    takes_slot how c.args.self.now.views _ _ _ _ _ _ lines line c.in-Slot.group _ (rw c.in-Slot.is at says)
    c.exchange_read-read.ensures c.slot-in-Slot.ensures.change refl has
