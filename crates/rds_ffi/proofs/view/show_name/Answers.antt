use Rattle.std.proofs.Common.{refl}
use Rattle.rds_ffi.proofs.view.show_name.Goals as goal

pub returns-then-is_kept-clause-shown : goal.returns-then-is_kept-clause-shown
returns-then-is_kept-clause-shown c t input s = (_, c.name-name.ensures.shown t input s, rw c.if-is_kept.true refl)

pub returns-clause-shown : goal.returns-clause-shown
returns-clause-shown c t input s =
    (_, c.name-name.ensures.shown t input s, rw c.if-is_kept.false c.plain_name-view.ensures.same)
