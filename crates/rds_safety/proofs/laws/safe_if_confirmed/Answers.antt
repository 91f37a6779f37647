use Rattle.rds_safety.proofs.Safety.{are_safe_confirmed, name_shown_twice, text_shown_twice}
use Rattle.rds_safety.proofs.Confirmed.{confirmed_listens}
use Rattle.rds_safety.specs.Lawful.{texts}
use Rattle.rds_safety.proofs.OneBroadcast.{text_service}
use Rattle.rds_safety.proofs.laws.safe_if_confirmed.Goals as goal

pub returns-clause-near : goal.returns-clause-near
returns-clause-near c = confirmed_listens

pub returns-clause-safe : goal.returns-clause-safe
returns-clause-safe c = are_safe_confirmed c.plan_laws.ensures texts text_service

pub returns-clause-text : goal.returns-clause-text
returns-clause-text c = text_shown_twice c.plan_laws.ensures

pub returns-clause-name : goal.returns-clause-name
returns-clause-name c = name_shown_twice c.plan_laws.ensures
