use Rattle.rds_world.proofs.Received.{shows_what_it_heard}
use Rattle.rds_world.proofs.world.World.receiver.Goals as goal

pub returns-clause-shows : goal.returns-clause-shows
returns-clause-shows c config events st =
    let at = c.get.ensures.lookup in
    shows_what_it_heard config _ c.args.i events (rw (← c.self.view_is) at st) c.get.result at.0 at.1
