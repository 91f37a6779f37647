use Rattle.rds_world.proofs.world.World.tags_on_air.Goals as goal

pub returns : goal.returns
returns c config events st = c.tags.ensures _ _ _ (rw (← c.self.view_is) at st).encoder
