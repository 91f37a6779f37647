use Rattle.rds_ffi.proofs.Bits.{says, set}
use Rattle.rds_ffi.proofs.audit.rdsrt_audit_passed.Goals as goal

pub returns-clause-passes : goal.returns-clause-passes
returns-clause-passes c pi d log lies = says _ _ _ c.from.ensures (c.passed.ensures.passes pi d log lies)

pub returns-clause-plans : goal.returns-clause-plans
returns-clause-plans c pi d log lies = says _ _ _ c.from.ensures (c.passed.ensures.plans pi d log lies)

pub returns-clause-safe : goal.returns-clause-safe
returns-clause-safe c pi d log lies m k some sum e =
    c.passed.ensures.safe pi d log lies m k some sum (set _ _ c.from.ensures e)

pub returns-clause-recording : goal.returns-clause-recording
returns-clause-recording c pi m k log lies running some e =
    c.passed.ensures.recording pi m k log lies running some (set _ _ c.from.ensures e)
