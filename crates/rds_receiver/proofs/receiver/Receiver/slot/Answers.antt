use Rattle.rds_receiver.specs.ReceiverAt.{KeepsShowing, KeepsView, TakesSlot}
use Rattle.rds_receiver.proofs.receiver.Receiver.slot.Goals as goal

pub returns-clause-stands : goal.returns-clause-stands
returns-clause-stands c =
    let stands : TakesSlot c.args.self.now c.slot_blocks.new.self c.of_slot.result = c.slot_blocks.ensures.stands in
    rw c.of_slot.ensures at stands

pub returns-clause-same : goal.returns-clause-same
returns-clause-same c calm =
    let stays : KeepsView c.args.self.now c.of_slot.result = c.slot_blocks.ensures.same calm in
    rw c.of_slot.ensures at stays

pub returns-clause-goes_on : goal.returns-clause-goes_on
returns-clause-goes_on c calm =
    let stays : KeepsShowing c.args.self.now c.of_slot.result = c.slot_blocks.ensures.goes_on calm in
    rw c.of_slot.ensures at stays
