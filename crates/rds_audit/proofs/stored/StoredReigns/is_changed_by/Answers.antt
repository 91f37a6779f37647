use Rattle.std.proofs.Common.{◌≡◌, ◌∙◌, ap, not, rules, sym}
use Rattle.rds_audit.specs.declared.audited.Measured.{Measured}
use Rattle.rds_audit.specs.Stored.{content_stored}
use Rattle.rds_audit.proofs.LengthSets.{other_changes, same_changes}
use Rattle.rds_audit.proofs.stored.StoredReigns.is_changed_by.Goals as goal

pub returns-then-eq : goal.returns-then-eq
returns-then-eq g c =
    let same : c.in-Some.held ≡ c.args.bytes = search rules in
    same_changes g.S.Audited.gauge c.args.address c.args.bytes c.in-Some.held (content_stored c.args.self.now)
    (sym c.sent_at.ensures ∙ c.in-Some.is) same

pub returns : goal.returns
returns g c =
    let other : c.in-Some.held ≡ c.args.bytes → ⊥ = search rules in
    ap (λ (m : Measured). not m.fits) c.measure.ensures
    ∙ other_changes g.S.Audited.gauge c.args.address c.args.bytes c.in-Some.held (content_stored c.args.self.now)
    (sym c.sent_at.ensures ∙ c.in-Some.is) other
