use Rattle.std.proofs.Common.{ℕ, List, Option, ap, ◌∙◌}
use Rattle.rds_receiver.specs.OneView.{same_text_shown}
use Rattle.rds_receiver.specs.Confirmed.{counted}
use Rattle.rds_receiver.specs.Receipts.{heard_of}
use Rattle.rds_receiver.specs.Tags.{item_of}
use Rattle.rds_receiver.proofs.receiver.Receiver.item.Goals as goal

pub returns : goal.returns
returns c t input s text shown =
    let same = same_text_shown t.dwell t.first (counted t (heard_of t.programme input)) _ text
    (c.text.ensures.shown t input s) shown
    in
    c.shown_item.ensures ∙ ap (λ (o : Option (List ℕ)). item_of o c.pair.result) same
    ∙ ap (item_of text) (c.pair.ensures t input s)
