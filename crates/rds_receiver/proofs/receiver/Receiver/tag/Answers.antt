use Rattle.std.proofs.Common.{ℕ, List, Option, ap, ◌∙◌}
use Rattle.rds_receiver.specs.OneView.{same_text_shown}
use Rattle.rds_receiver.specs.Confirmed.{counted}
use Rattle.rds_receiver.specs.Receipts.{heard_of}
use Rattle.rds_receiver.specs.Tags.{tag_of}
use Rattle.rds_receiver.proofs.receiver.Receiver.tag.Goals as goal

pub returns-clause-shown : goal.returns-clause-shown
returns-clause-shown c t input s text shown =
    let same = same_text_shown t.dwell t.first (counted t (heard_of t.programme input)) _ text
    (c.text.ensures.shown t input s) shown
    in
    c.shown_tag.ensures.shown ∙ ap (λ (o : Option (List ℕ)). tag_of c.args.which o c.pair.result) same
    ∙ ap (tag_of c.args.which text) (c.pair.ensures t input s)
