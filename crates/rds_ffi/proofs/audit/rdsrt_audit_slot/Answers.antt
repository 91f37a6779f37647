use Rattle.rds_ffi.proofs.audit.rdsrt_audit_slot.Goals as goal

pub returns-clause-stands : goal.returns-clause-stands
returns-clause-stands c given pi d log s =
    (c.in-Ok.slot, c.in-Ok.ensures.value, c.slot_blocks.ensures.stands pi d log s)

pub returns-clause-follows : goal.returns-clause-follows
returns-clause-follows c given none pi d log s =
    (c.in-Ok.slot, c.in-Ok.ensures.value, c.slot_blocks.ensures.follows none pi d log s)
