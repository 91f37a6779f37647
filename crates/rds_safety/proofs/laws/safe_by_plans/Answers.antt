use Rattle.rds_safety.proofs.Safety.{are_safe, are_safe_by_own_clocks, are_safe_by_slow_clocks, are_safe_late}
use Rattle.rds_safety.specs.Lawful.{texts}
use Rattle.rds_safety.proofs.OneBroadcast.{text_service}
use Rattle.rds_safety.proofs.laws.safe_by_plans.Goals as goal

pub returns-clause-near : goal.returns-clause-near
returns-clause-near c d m now plans log receivers lawful all = are_safe c.plan_laws.ensures texts text_service d m now
    plans log lawful
    receivers all

pub returns-clause-own_clocks : goal.returns-clause-own_clocks
returns-clause-own_clocks c = are_safe_by_own_clocks c.plan_laws.ensures texts text_service

pub returns-clause-slow_clocks : goal.returns-clause-slow_clocks
returns-clause-slow_clocks c = are_safe_by_slow_clocks c.plan_laws.ensures texts text_service

pub returns-clause-late : goal.returns-clause-late
returns-clause-late c = are_safe_late c.plan_laws.ensures texts text_service
