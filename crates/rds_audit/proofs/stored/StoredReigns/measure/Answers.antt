use Rattle.std.proofs.Common.{◌≡◌, Some, arith, rules}
use Rattle.rds_audit.specs.Stored.{content_stored}
use Rattle.rds_audit.proofs.LengthSets.{measures_held, measures_other}
use Rattle.rds_audit.proofs.stored.StoredReigns.measure.Goals as goal

pub returns-then-eq : goal.returns-then-eq
returns-then-eq g c =
    let is : c.sent_at-held.result ≡ Some c.args.bytes = search rules in
    rw c.lengths-before.ensures
    (measures_held g.S.Audited.gauge c.args.address c.args.bytes (content_stored c.args.self.now)
    (rw c.sent_at-held.ensures at is))

pub returns-then-left-eq0 : goal.returns-then-left-eq0
returns-then-left-eq0 g c =
    let other : c.sent_at-held.result ≡ Some c.args.bytes → ⊥ = search rules in
    let m = measures_other g.S.Audited.gauge c.args.address c.args.bytes (content_stored c.args.self.now)
    c.lengths_at.result c.lengths_beside.result (rw c.sent_at-held.ensures at other) c.lengths_at.ensures
    (rw c.sent_at-held.ensures at c.lengths_beside.ensures) in
    grind (arith)

pub returns : goal.returns
returns g c =
    let other : c.sent_at-held.result ≡ Some c.args.bytes → ⊥ = search rules in
    let m = measures_other g.S.Audited.gauge c.args.address c.args.bytes (content_stored c.args.self.now)
    c.lengths_at.result c.lengths_beside.result (rw c.sent_at-held.ensures at other) c.lengths_at.ensures
    (rw c.sent_at-held.ensures at c.lengths_beside.ensures) in
    grind (arith)
