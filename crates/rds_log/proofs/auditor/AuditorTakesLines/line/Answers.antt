use Rattle.std.proofs.Common.{ap, inl, inr, refl}
use Rattle.rds_log.proofs.Audited.{takes_good_slot, takes_skip, takes_slot}
use Rattle.rds_log.specs.declared.auditor.Auditor.{Auditor}
use Rattle.rds_log.proofs.auditor.AuditorTakesLines.line.Goals as goal

pub returns-in-Skip-clause-takes : goal.returns-in-Skip-clause-takes
returns-in-Skip-clause-takes g c how start lines line says starts has =
    takes_skip how c.args.self.now _ _ _ lines line (rw c.in-Skip.is at says) refl refl refl refl refl has

pub returns-then-is_empty-clause-takes : goal.returns-then-is_empty-clause-takes
returns-then-is_empty-clause-takes g c how start lines line says starts has =
    takes_good_slot how c.args.self.now _ _ _ lines line c.in-Slot.group c.exchange_read-read.result
    c.all_faults-found.result (rw c.in-Slot.is at says) c.exchange_read-read.ensures refl has c.requires.wants
    c.all_faults-found.ensures (c.is_empty.ensures.0 c.if-is_empty.true)
    refl refl refl

pub returns-else-is_empty-clause-takes : goal.returns-else-is_empty-clause-takes
returns-else-is_empty-clause-takes g c how start lines line says starts has =
    let kept = c.fail.ensures.kept in
    let done = c.fail.ensures.done in
    takes_slot how c.args.self.now c.fail.new.self _ _ _ lines line c.in-Slot.group c.exchange_read-read.result
    c.all_faults-found.result (rw c.in-Slot.is at says) c.exchange_read-read.ensures
    (ap (λ (a : Auditor). a.rtplus) kept) has c.requires.wants
    (rw (ap (λ (a : Auditor). a.audit) kept) c.all_faults-found.ensures) c.fail.ensures.lines
    (ap (λ (a : Auditor). a.slots) kept) (ap (λ (a : Auditor). a.stop) kept) (
      λ yes. elim (done.0 yes) [ inl before ↦ absurd (c.requires.wants before) | inr now ↦ now ],
      λ now. done.1
          (inr now),
    )
