use Rattle.rds_wire.proofs.Receiving.{late_groups, own_groups, own_heard, sent_heard}
use Rattle.rds_wire.proofs.laws.groups_are_heard_as_messages.Goals as goal

pub returns-clause-sent : goal.returns-clause-sent
returns-clause-sent c = sent_heard

pub returns-clause-others : goal.returns-clause-others
returns-clause-others c = own_heard

pub returns-clause-late : goal.returns-clause-late
returns-clause-late c = late_groups

pub returns-clause-own_clock : goal.returns-clause-own_clock
returns-clause-own_clock c = own_groups
