use Rattle.std.proofs.Common.{inl, refl}
use Rattle.std.proofs.lemmas.Result.{err_from_is_err_and}
use Rattle.rds_log.proofs.Filled.{adds_none, none_left_out, skipped}
use Rattle.rds_log.proofs.filler.FillerTakesLines.line.Goals as goal

pub returns-in_ok-slot-in-Slot-clause-takes : goal.returns-in_ok-slot-in-Slot-clause-takes
returns-in_ok-slot-in-Slot-clause-takes g c how start lines line says starts has =
    c.in_ok-slot-in-Slot.ensures how start lines line c.in-Slot.group (rw c.in-Slot.is at says) c.is_some.ensures starts
    has

pub returns-in_err-slot-in-Slot-clause-takes : goal.returns-in_err-slot-in-Slot-clause-takes
returns-in_err-slot-in-Slot-clause-takes g c how start lines line says starts has =
    let p = err_from_is_err_and c.from_residual.result c.from_residual.ensures.1 in
    rw p.1 (c.in_err-slot-in-Slot.ensures how start lines line c.in-Slot.group (rw c.in-Slot.is at says)
    c.is_some.ensures starts has)

pub returns-in-Skip-clause-takes : goal.returns-in-Skip-clause-takes
returns-in-Skip-clause-takes g c how start lines line says starts has =
    let skip = rw c.in-Skip.is at says in
    adds_none how c.args.self.now _ _ _ lines line (inl skip) refl refl refl
    (none_left_out _ line lines _ (skipped _ line skip) has.took.left_out) has
