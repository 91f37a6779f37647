use Rattle.std.proofs.Common.{refl, subst, sym}
use Rattle.rds_receiver.specs.Shown.{IsView}
use Rattle.rds_ffi.proofs.receiver.rdsrt_receiver_view.Goals as goal

pub returns-clause-shown : goal.returns-clause-shown
returns-clause-shown c t input s =
    let (now, view, shown) = c.show.ensures.shown t input s in subst (IsView t input) (sym shown) view

pub returns-clause-tags : goal.returns-clause-tags
returns-clause-tags c t input s = c.show.ensures.tags refl t input s
