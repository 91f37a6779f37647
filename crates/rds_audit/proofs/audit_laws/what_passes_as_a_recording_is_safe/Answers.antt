use Rattle.std.proofs.Common.{arith}
use Rattle.rds_audit.specs.AuditLaws.{PlansOfARecordingAreSafe}
use Rattle.rds_safety.specs.Laws.{LawfulPlansAreSafeByOwnClocksAs}
use Rattle.rds_audit.proofs.PassedLogs.{by_form}
use Rattle.rds_audit.proofs.SafeRecordings.{safe_by_own_clocks, safe_recording}
use Rattle.rds_audit.proofs.audit_laws.what_passes_as_a_recording_is_safe.Goals as goal

pub returns : goal.returns
returns c =
    let by_plans : PlansOfARecordingAreSafe = safe_by_own_clocks
    (by_form LawfulPlansAreSafeByOwnClocksAs c.safe_by_plans.ensures.own_clocks
    c.safe_by_padded_plans.ensures.own_clocks) in
    grind (arith, safe_by_own_clocks, by_form, safe_recording)
