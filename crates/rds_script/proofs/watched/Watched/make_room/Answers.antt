use Rattle.std.proofs.Common.{refl}
use Rattle.rds_script.specs.Inside.Watched.{views_kept}
use Rattle.rds_script.proofs.watched.Watched.make_room.Goals as goal

pub returns-in-Ok-clause-stands : goal.returns-in-Ok-clause-stands
returns-in-Ok-clause-stands c config receivers events s = record {
  world = s.world;
  count = s.count;
  kept = s.kept;
  plain = s.plain;
  shown = s.shown;
  compared = c.in-Ok.ensures.stands config receivers events (views_kept c.args.self.now) s.compared;
}

pub returns-in-Err-clause-stands : goal.returns-in-Err-clause-stands
returns-in-Err-clause-stands c config receivers events s = record {
  world = s.world;
  count = s.count;
  kept = s.kept;
  plain = s.plain;
  shown = s.shown;
  compared = c.in-Err.ensures.stands config receivers events (views_kept c.args.self.now) s.compared;
}

pub returns-in-Err-clause-memory : goal.returns-in-Err-clause-memory
returns-in-Err-clause-memory c = (
  refl,
  λ config receivers events s. c.in-Err.ensures.alone config receivers events
      (views_kept c.args.self.now) s.compared,
)
