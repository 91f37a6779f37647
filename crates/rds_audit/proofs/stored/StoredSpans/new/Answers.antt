use Rattle.std.proofs.Common.{refl}
use Rattle.rds_audit.proofs.SpanSteps.{silent_follows}
use Rattle.rds_audit.proofs.stored.StoredSpans.new.Goals as goal

pub returns : goal.returns
returns g c = silent_follows g.S.Audited.gauge c.args.start c.args.distance _ c.new.ensures refl c.none.ensures
