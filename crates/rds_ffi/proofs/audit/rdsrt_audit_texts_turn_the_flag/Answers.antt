use Rattle.rds_ffi.proofs.Bits.{says, set}
use Rattle.rds_ffi.proofs.audit.rdsrt_audit_texts_turn_the_flag.Goals as goal

pub returns-clause-turns : goal.returns-clause-turns
returns-clause-turns c pi d log lies = says _ _ _ c.from.ensures (c.texts_turn_the_flag.ensures.turns pi d log lies)

pub returns-clause-safe : goal.returns-clause-safe
returns-clause-safe c pi d log lies plain e =
    c.texts_turn_the_flag.ensures.safe pi d log lies plain (set _ _ c.from.ensures e)
