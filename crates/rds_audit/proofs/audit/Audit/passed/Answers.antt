use Rattle.std.proofs.Common.{arith, rules}
use Rattle.rds_audit.specs.Stored.{form_of}
use Rattle.rds_audit.proofs.ListingSteps.{passes_exactly}
use Rattle.rds_audit.proofs.audit.Audit.passed.Goals as goal

pub returns-clause-fault : goal.returns-clause-fault
returns-clause-fault c = search rules

pub returns-clause-passes : goal.returns-clause-passes
returns-clause-passes c pi d log s = grind (arith, passes_exactly)

pub returns-clause-plans : goal.returns-clause-plans
returns-clause-plans c pi d log s =
    let exactly = returns-clause-passes c pi d log s in
    let plans = c.passes_by_plans.ensures (form_of c.args.self.now) d _ s.lasts in
    (λ is_so. plans.0 (exactly.0 is_so), λ has. exactly.1 (plans.1 has))
