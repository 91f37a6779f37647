use Rattle.std.proofs.Common.{sym, ◌∙◌, rules}
use Rattle.rds_audit.specs.Stored.{spans_stored}
use Rattle.rds_safety.specs.Marks.{Sends}
use Rattle.rds_audit.proofs.SpanOrder.{in_order}
use Rattle.rds_audit.proofs.SpanSteps.{changed_follows, joined_follows, opened_follows, takes_first, takes_more}
use Rattle.rds_audit.proofs.stored.StoredSpans.take_new.Goals as goal

pub returns-then-not-joins : goal.returns-then-not-joins
returns-then-not-joins g c pos sent h =
    takes_first g.S.Audited.gauge c.args.distance (Sends c.args.fragment) sent _ _ c.begin.result c.begin.ensures.begun
    c.begin.ensures.faults
    (opened_follows g.S.Audited.gauge g.met.S.Audited.few g.met.S.Audited.some c.args.distance pos sent c.args.fragment
    _ (spans_stored c.args.self.now) record { address = c.requires; four = search rules; fits = search rules }
    (in_order g.S.Audited.gauge c.args.distance sent pos) h (λ on. cc (c.joins.ensures.1 on)))

pub returns-then-is_changed_by : goal.returns-then-is_changed_by
returns-then-is_changed_by g c pos sent h =
    let begin = c.begin-then-is_changed_by.ensures in
    takes_first g.S.Audited.gauge c.args.distance (Sends c.args.fragment) sent _ _ c.begin-then-is_changed_by.result
    begin.begun begin.faults
    (changed_follows g.S.Audited.gauge g.met.S.Audited.few g.met.S.Audited.some c.args.distance pos sent c.args.fragment
    _ (spans_stored c.args.self.now) record { address = c.requires; four = search rules; fits = search rules }
    (in_order g.S.Audited.gauge c.args.distance sent pos) h (c.joins.ensures.0 c.if-not-joins.false)
    (sym c.is_changed_by.ensures ∙ c.if-is_changed_by.true))

pub returns : goal.returns
returns g c pos sent h =
    takes_more g.S.Audited.gauge c.args.distance (Sends c.args.fragment) sent (spans_stored c.args.self.now) _ _
    c.not_in.result c.put.ensures (rw (c.get-before.ensures, c.get.ensures) at c.not_in.ensures)
    (joined_follows g.S.Audited.gauge g.met.S.Audited.few g.met.S.Audited.some c.args.distance pos sent c.args.fragment
    _ (spans_stored c.args.self.now) record { address = c.requires; four = search rules; fits = search rules } h
    (c.joins.ensures.0 c.if-not-joins.false) (sym c.is_changed_by.ensures ∙ c.if-is_changed_by.false)) h
