use Rattle.rds_safety.specs.Lawful.{names}
use Rattle.rds_audit.specs.Forms.{text_kind}
use Rattle.rds_audit.proofs.PassedLogs.{the_reigns}
use Rattle.rds_audit.proofs.audit_laws.broadcasts_are_the_reigns.Goals as goal

pub returns-clause-texts : goal.returns-clause-texts
returns-clause-texts c form d plan sent law dense = the_reigns c.plan_laws.ensures d
    (text_kind form) plan sent law dense

pub returns-clause-names : goal.returns-clause-names
returns-clause-names c d plan sent law dense = the_reigns c.plan_laws.ensures d names plan sent law dense
