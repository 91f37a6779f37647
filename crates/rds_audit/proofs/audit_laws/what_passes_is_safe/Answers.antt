use Rattle.rds_audit.proofs.PassedLogs.{by_form, safe_log}
use Rattle.rds_safety.specs.Laws.{LawfulPlansAreSafeAs, LawfulPlansAreSafeByOwnClocksAs}
use Rattle.rds_audit.proofs.audit_laws.what_passes_is_safe.Goals as goal

pub returns : goal.returns
returns c = safe_log c.passes_by_plans.ensures
    (by_form LawfulPlansAreSafeAs c.safe_by_plans.ensures.late c.safe_by_padded_plans.ensures.late)
    (by_form LawfulPlansAreSafeByOwnClocksAs c.safe_by_plans.ensures.own_clocks
    c.safe_by_padded_plans.ensures.own_clocks)
