use Rattle.rds_world.proofs.receivers.new_receiver.Goals as goal

pub returns-clause-new : goal.returns-clause-new
returns-clause-new c first = rw (c.dwell-dwell.ensures.same, c.own_window.ensures) at (c.tuned.ensures.stands first)
