use Rattle.rds_safety.proofs.Kept.{kept_was_safe}
use Rattle.rds_safety.specs.Lawful.{padded_texts, texts}
use Rattle.rds_safety.proofs.laws.what_is_kept_was_safe.Goals as goal

pub returns-clause-late : goal.returns-clause-late
returns-clause-late c = kept_was_safe texts c.safe_by_plans.ensures.late

pub returns-clause-padded : goal.returns-clause-padded
returns-clause-padded c = kept_was_safe padded_texts c.safe_by_padded_plans.ensures.late
