use Rattle.rds_wire.proofs.Filling.{filled_is_received}
use Rattle.rds_wire.proofs.Twice.{lost_is_received, lost_is_received_for_two}
use Rattle.rds_wire.proofs.laws.what_is_received.Goals as goal

pub returns-clause-lost : goal.returns-clause-lost
returns-clause-lost c = lost_is_received

pub returns-clause-lost_for_two : goal.returns-clause-lost_for_two
returns-clause-lost_for_two c = lost_is_received_for_two

pub returns-clause-filled : goal.returns-clause-filled
returns-clause-filled c =
    filled_is_received c.filled_texts_are_logs.ensures c.filled_logs_are_own_clocks.ensures.own_clock
