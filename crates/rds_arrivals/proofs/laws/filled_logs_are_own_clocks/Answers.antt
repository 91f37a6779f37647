use Rattle.rds_arrivals.proofs.Filling.{keep_pace, own_clock}
use Rattle.rds_arrivals.proofs.laws.filled_logs_are_own_clocks.Goals as goal

pub returns-clause-pace : goal.returns-clause-pace
returns-clause-pace c = keep_pace

pub returns-clause-own_clock : goal.returns-clause-own_clock
returns-clause-own_clock c = own_clock
