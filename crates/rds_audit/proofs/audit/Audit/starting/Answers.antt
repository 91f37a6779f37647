use Rattle.std.proofs.Common.{◌∙◌, ◌+◌, arith, refl}
use Rattle.rds_audit.proofs.ListingSteps.{audit_starts}
use Rattle.rds_audit.proofs.audit.Audit.starting.Goals as goal

pub returns-clause-follows : goal.returns-clause-follows
returns-clause-follows c =
    let d = c.new-distance.ensures in
    audit_starts c.args.pi (c.args.dwell + c.args.late) _ refl (c.get.ensures.value ∙ d)
    record {
      some = omega (arith, c.get.ensures.some, c.get.ensures.value, d);
      most = omega (arith, c.get.ensures.most, c.get.ensures.value, d);
    } c.code.ensures.back (rw (c.stored.ensures, c.stored-2.ensures, ← d) c.of_texts.ensures)
    (rw (c.stored.ensures, ← d) c.new.ensures)

pub returns-clause-stands : goal.returns-clause-stands
returns-clause-stands c = (returns-clause-follows c).at
