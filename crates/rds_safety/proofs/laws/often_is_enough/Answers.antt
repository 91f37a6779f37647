use Rattle.rds_safety.proofs.FlagRuns.{gets_some, hears_each, hears_one_in, hears_text_before_tags}
use Rattle.rds_safety.proofs.laws.often_is_enough.Goals as goal

pub returns-clause-each : goal.returns-clause-each
returns-clause-each c = hears_each

pub returns-clause-tags : goal.returns-clause-tags
returns-clause-tags c = hears_text_before_tags c.plan_laws.ensures

pub returns-clause-in_a_row : goal.returns-clause-in_a_row
returns-clause-in_a_row c = hears_one_in

pub returns-clause-losses : goal.returns-clause-losses
returns-clause-losses c = gets_some
