use Rattle.std.proofs.Common.{◌∙◌, map, refl, sym}
use Rattle.rds_receiver.specs.Confirmed.{counted}
use Rattle.rds_receiver.specs.Kept.{last, name_moment, text_moment}
use Rattle.rds_receiver.specs.OneView.{same_name_shown, same_text_shown}
use Rattle.rds_receiver.specs.Receipts.{heard_of}
use Rattle.rds_receiver.proofs.Counting.{both_on, shown_same, shows_with, steps}
use Rattle.rds_receiver.proofs.keeping.Keeping.look.Goals as goal

pub returns-clause-counts : goal.returns-clause-counts
returns-clause-counts c t input s now before is counts =
    let heard = counted t (heard_of t.programme input) in
    let text = same_text_shown t.dwell t.first heard _ now.view.text (c.text.ensures.shown t input s) is.view.text in
    let name = same_name_shown t.dwell t.first heard _ now.view.name (c.name.ensures.shown t input s) is.view.name in
    both_on c.args.self.now _ _ t.dwell t.first heard now before is refl
    (steps _ _ _ _ _ (text_moment now) (map text_moment before)
    (c.is_some-shows_text.ensures ∙ shown_same _ _ text ∙ sym (shows_with now.view))
    (c.text_flag.ensures t input s ∙ sym is.text)
    (c.slot-text.ensures.counts (last (map text_moment before)) counts.text)
    (c.slot-text.ensures.keeps (last (map text_moment before)) counts.text))
    (steps _ _ _ _ _ (name_moment now) (map name_moment before)
    (c.is_some-shows_name.ensures ∙ shown_same _ _ name) (c.name_flag.ensures t input s ∙ sym is.name)
    (c.slot-name.ensures.counts (last (map name_moment before)) counts.name)
    (c.slot-name.ensures.keeps (last (map name_moment before)) counts.name))
