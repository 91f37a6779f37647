use Rattle.std.proofs.Common.{◌∙◌, ap, refl, sym, subst, option_copied}
use Rattle.rds_receiver.specs.Receipts.{heard_of}
use Rattle.rds_receiver.specs.Shown.{ShowsView, view_with}
use Rattle.rds_receiver.specs.Confirmed.{counted}
use Rattle.rds_receiver.proofs.receiver.Receiver.view.Goals as goal

pub returns : goal.returns
returns c t input s =
    let held = c.pair.ensures t input s in
    let same = c.of.ensures ∙ ap (view_with (option_copied c.text.result) (option_copied c.name.result)) held in
    subst (ShowsView t.dwell t.first (counted t (heard_of t.programme input))) (sym same) record {
      text = c.text.ensures.shown t input s;
      name = c.name.ensures.shown t input s;
      item = refl;
      one = refl;
      two = refl;
    }
