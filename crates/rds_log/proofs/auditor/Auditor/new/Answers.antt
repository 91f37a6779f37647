use Rattle.std.proofs.Common.{refl}
use Rattle.rds_log.proofs.Audited.{audited_none}
use Rattle.rds_log.proofs.auditor.Auditor.new.Goals as goal

pub returns-clause-audited : goal.returns-clause-audited
returns-clause-audited c =
    audited_none c.args.how _ c.starting.ensures.follows c.starting.ensures.start c.starting.ensures.form
    c.starting.ensures.passed refl refl refl refl
