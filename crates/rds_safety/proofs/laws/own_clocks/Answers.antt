use Rattle.rds_safety.proofs.Entries.{late_is_slow, slow_is_own, true_clock}
use Rattle.rds_safety.proofs.laws.own_clocks.Goals as goal

pub returns-clause-slow : goal.returns-clause-slow
returns-clause-slow c = slow_is_own

pub returns-clause-late : goal.returns-clause-late
returns-clause-late c = late_is_slow

pub returns-clause-no_slot_late : goal.returns-clause-no_slot_late
returns-clause-no_slot_late c = true_clock
