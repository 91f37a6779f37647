use Rattle.rds_audit.specs.Lengths.{gauge_of}
use Rattle.rds_audit.proofs.OneValue.{gauge_is_exact}
use Rattle.rds_audit.proofs.SpanReigns.{are_reigns}
use Rattle.rds_audit.proofs.audit_laws.the_list_judges_the_reigns.Goals as goal

pub returns-clause-texts : goal.returns-clause-texts
returns-clause-texts c form d sent passes = (are_reigns (gauge_of form) (gauge_is_exact form) d sent passes).same
