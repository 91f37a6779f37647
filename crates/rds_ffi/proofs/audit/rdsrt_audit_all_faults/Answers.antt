use Rattle.std.proofs.Common.{◌∙◌}
use Rattle.rds_ffi.proofs.audit.rdsrt_audit_all_faults.Goals as goal

pub returns-clause-stands : goal.returns-clause-stands
returns-clause-stands c given pi d log s =
    (c.in-Ok.slot, c.in-Ok.ensures.value, c.all_faults.ensures.stands pi d log s)

pub returns-clause-follows : goal.returns-clause-follows
returns-clause-follows c given pi d log s =
    (c.in-Ok.slot, c.in-Ok.ensures.value, c.all_faults.ensures.follows pi d log s)

pub returns-clause-adds : goal.returns-clause-adds
returns-clause-adds c given =
    (c.in-Ok.slot, c.in-Ok.ensures.value, λ pi d log s. c.of.ensures.same ∙ c.all_faults.ensures.adds pi d log s)
