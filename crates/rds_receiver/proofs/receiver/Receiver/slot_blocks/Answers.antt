use Rattle.std.proofs.Common.{arith, ◌≡◌, ◌∙◌}
use Rattle.std.proofs.lemmas.Bool.{or_parts}
use Rattle.rds_receiver.specs.Receipts.{heard_of}
use Rattle.rds_receiver.specs.Stored.{IsStoredReceiver}
use Rattle.rds_receiver.proofs.Shows.{alike_by, showing_goes_on, stays_shown}
use Rattle.rds_receiver.proofs.ConfirmingSteps.{display_grown, slot_stands, with_display}
use Rattle.rds_receiver.proofs.receiver.Receiver.slot_blocks.Goals as goal

pub returns-clause-stands : goal.returns-clause-stands
returns-clause-stands c t input st =
    let grown = c.grow_older-aged in
    let heard = heard_of t.programme input in
    let here : grown.new.self.pi ≡ t.programme = grown.ensures.programme ∙ st.tuned in
    let good : IsStoredReceiver (record c.args.self.now { display = grown.new.self }) =
    record { display = grown.ensures.good st.good.display; pair = st.good.pair } in
    slot_stands t _ _ input c.args.group st (c.hear-is_new.ensures.good good)
    (c.hear-is_new.ensures.programme ∙ grown.ensures.programme)
    (rw here at (c.hear-is_new.ensures.holds good t.window t.dwell t.first heard record {
      display = display_grown t.window t.dwell t.first _ _ heard (grown.ensures.holds st.good.display)
          st.holds.display;
      lasts = search (arith, with_display);
    }))

pub returns-clause-same : goal.returns-clause-same
returns-clause-same c calm view t input st shown =
    let (heard, aged) = or_parts _ _ calm in
    let alike = alike_by _ _ _ (c.grow_older-aged.ensures.same aged) (c.hear-is_new.ensures.same heard) in
    stays_shown t _ _ input _ view st (returns-clause-stands c t input st) alike shown

pub returns-clause-goes_on : goal.returns-clause-goes_on
returns-clause-goes_on c calm t input st s now is then =
    let (heard, aged) = or_parts _ _ calm in
    let alike = alike_by _ _ _ (c.grow_older-aged.ensures.same aged) (c.hear-is_new.ensures.same heard) in
    showing_goes_on t _ _ input _ s now st (returns-clause-stands c t input st) alike is then
