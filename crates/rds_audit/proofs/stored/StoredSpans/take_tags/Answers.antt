use Rattle.rds_audit.specs.Stored.{spans_stored}
use Rattle.rds_safety.specs.Marks.{Tagged}
use Rattle.rds_audit.proofs.SpanSteps.{tags_follow, takes_more}
use Rattle.rds_audit.proofs.stored.StoredSpans.take_tags.Goals as goal

pub returns : goal.returns
returns g c pos sent h =
    takes_more g.S.Audited.gauge c.args.distance (Tagged c.args.pair) sent (spans_stored c.args.self.now) _ _
    c.not_in.result c.add_tags.ensures (rw (c.get-before.ensures, c.get.ensures) at c.not_in.ensures)
    (tags_follow g.S.Audited.gauge g.met.S.Audited.few g.met.S.Audited.some c.args.distance pos sent c.args.pair
    _ (spans_stored c.args.self.now) h) h
