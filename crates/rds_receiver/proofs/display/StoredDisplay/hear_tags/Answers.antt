use Rattle.std.proofs.Common.{◌≡◌, ◌<◌, ◌+◌, ◌∷◌, Option, Some, true, length, sym, subst, arith}
use Rattle.rds_fields.specs.declared.message.Message.TheVariants.{Tags}
use Rattle.rds_fields.specs.Tag.{PairFields}
use Rattle.rds_receiver.specs.Holds.{HoldsAt}
use Rattle.rds_receiver.specs.Stored.{display_stored}
use Rattle.rds_receiver.proofs.Ages.{young}
use Rattle.rds_receiver.proofs.Runs.{is_held_pair, tags_heard}
use Rattle.rds_receiver.proofs.display.StoredDisplay.hear_tags.Goals as goal

pub returns-then-eq-clause-holds : goal.returns-then-eq-clause-holds
returns-then-eq-clause-holds c stored m first heard st =
    let r = display_stored c.args.self.now in
    let known : r.is_known ≡ true = grind (arith, c.if-self-ne0.true) in
    let held = young r.dwell c.args.self.now.rest c.args.self.now.text stored.rests stored.soon
    (c.is_held.ensures.0 c.if-is_held.true) in
    let is_young : r.text.age < m = omega (arith, held, st.dwell) in
    let e : r.pair ≡ Some c.args.pair = search (arith, is_held_pair) in
    subst (λ (p : Option PairFields). HoldsAt m (first + length heard) first (record r { pair = p })
    (Some (Tags c.args.pair) ∷ heard)) (sym e)
    (tags_heard m first r heard c.args.pair known is_young st)

pub returns-then-is_held-clause-holds : goal.returns-then-is_held-clause-holds
returns-then-is_held-clause-holds c stored m first heard st =
    let r = display_stored c.args.self.now in
    let known : r.is_known ≡ true = grind (arith, c.if-self-ne0.true) in
    let held = young r.dwell c.args.self.now.rest c.args.self.now.text stored.rests stored.soon
    (c.is_held.ensures.0 c.if-is_held.true) in
    let is_young : r.text.age < m = omega (arith, held, st.dwell) in
    subst (λ (p : Option PairFields). HoldsAt m (first + length heard) first (record r { pair = p })
    (Some (Tags c.args.pair) ∷ heard)) (sym c.of-self.ensures.same)
    (tags_heard m first r heard c.args.pair known is_young st)
