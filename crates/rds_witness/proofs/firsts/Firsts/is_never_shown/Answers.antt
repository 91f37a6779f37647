use Rattle.std.proofs.Common.{◌≡◌, ◌∙◌, None, Some, ap, refl, subst, sym}
use Rattle.rds_witness.specs.Borrowed.{thing_of}
use Rattle.rds_witness.specs.Firsts.{IsFirst, key_of, slot_at}
use Rattle.rds_witness.proofs.Mixes.{is_not_before, never_before}
use Rattle.rds_witness.proofs.firsts.Firsts.is_never_shown.Goals as goal

pub returns-in-Some : goal.returns-in-Some
returns-in-Some c t log n within all =
    let thing = thing_of c.args.thing in
    let at : slot_at c.args.self.now (key_of thing) ≡ Some c.in-Some.first.now =
    ap (slot_at c.args.self.now) (sym (c.key_of.ensures c.requires)) ∙ sym c.in-Some.ensures.value in
    is_not_before t log n c.args.slots c.in-Some.first.now thing (subst (IsFirst t log n thing) at (all thing))

pub returns-in-None : goal.returns-in-None
returns-in-None c t log n within all =
    let thing = thing_of c.args.thing in
    let at : slot_at c.args.self.now (key_of thing) ≡ None =
    ap (slot_at c.args.self.now) (sym (c.key_of.ensures c.requires)) ∙ sym c.in-None.ensures.value in
    (λ yes. never_before t log n c.args.slots thing within (subst (IsFirst t log n thing) at (all thing)), λ never. refl)
