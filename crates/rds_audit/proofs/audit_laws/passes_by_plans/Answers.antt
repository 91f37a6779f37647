use Rattle.rds_audit.proofs.PassedLogs.{passes_by_plans}
use Rattle.rds_audit.proofs.audit_laws.passes_by_plans.Goals as goal

pub returns : goal.returns
returns c = passes_by_plans c.plan_laws.ensures
