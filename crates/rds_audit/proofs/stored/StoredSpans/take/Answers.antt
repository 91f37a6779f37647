use Rattle.std.proofs.Common.{ap, rules}
use Rattle.rds_audit.specs.declared.stored.StoredReigns.{StoredReigns}
use Rattle.rds_audit.specs.Listing.{none_broken}
use Rattle.rds_audit.specs.Stored.{spans_stored}
use Rattle.rds_safety.specs.Marks.{Sends}
use Rattle.rds_audit.proofs.SpanSteps.{none_new, repeated_follows, takes_more}
use Rattle.rds_audit.proofs.stored.StoredSpans.take.Goals as goal

pub returns-then-has : goal.returns-then-has
returns-then-has g c pos sent h =
    let s = spans_stored c.args.self.now in
    takes_more g.S.Audited.gauge c.args.distance (Sends c.args.fragment) sent s _ _ none_broken
    (ap (λ (r : StoredReigns). spans_stored record c.args.self.now { reigns = r }) c.renew.ensures)
    (none_new s.broken)
    (repeated_follows g.S.Audited.gauge g.met.S.Audited.few g.met.S.Audited.some c.args.distance pos sent c.args.fragment
    _ s record { address = c.requires; four = search rules; fits = search rules } h
    (c.joins.ensures.0 c.if-joins.true) (c.has.ensures.0 c.if-has.true)) h
