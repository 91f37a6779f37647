use Rattle.rds_log.specs.Audit.{judged, spacing}
use Rattle.rds_log.proofs.laws.what_an_answer_means.Goals as goal

pub returns-clause-no_plans : goal.returns-clause-no_plans
returns-clause-no_plans c a t fault slots some fail = record {
  none = λ plans. c.passes_without_a_fault.ensures.fails a.form (spacing a) (judged a slots) fault some fail.fault_is
      ((c.passes_by_plans.ensures a.form (spacing a) (judged a slots) some).1 plans);
}
