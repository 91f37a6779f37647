use Rattle.std.proofs.Common.{arith}
use Rattle.rds_audit.proofs.audit.Audit.names_turn_the_flag.Goals as goal

pub returns-then-passed-clause-turns : goal.returns-then-passed-clause-turns
returns-then-passed-clause-turns c pi d log s = grind (arith)

pub returns-then-passed-clause-safe : goal.returns-then-passed-clause-safe
returns-then-passed-clause-safe c pi d log s plain turns =
    let both = (returns-then-passed-clause-turns c pi d log s).0 turns in
    let safe = c.what_passes_is_safe_by_the_flag.ensures.safe d _ s.lasts (rw plain at both.0) in
    record {
      plans = safe.plans;
      lawful = safe.lawful;
      dense = safe.dense;
      names = safe.names both.1;
    }

pub returns-else-passed-clause-turns : goal.returns-else-passed-clause-turns
returns-else-passed-clause-turns c pi d log s =
    (λ yes. absurd (let no = c.if-passed.false in cc), λ both. (c.passed.ensures.passes pi d log s).1 both.0)
