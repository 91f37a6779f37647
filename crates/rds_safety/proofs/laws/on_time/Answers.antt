use Rattle.rds_safety.proofs.Entries.{each_on_time, no_slot_late}
use Rattle.rds_safety.proofs.laws.on_time.Goals as goal

pub returns-clause-each : goal.returns-clause-each
returns-clause-each c = each_on_time

pub returns-clause-own : goal.returns-clause-own
returns-clause-own c = no_slot_late
