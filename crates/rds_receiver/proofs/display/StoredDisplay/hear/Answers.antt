use Rattle.std.proofs.Common.{◌∙◌, ◌+◌, ◌∷◌, Some, ap, length, subst, sym}
use Rattle.rds_fields.specs.declared.message.Message.{Message}
use Rattle.rds_receiver.specs.Receipts.{name_of}
use Rattle.rds_receiver.specs.Holds.{HoldsAt}
use Rattle.rds_receiver.specs.Stored.{display_stored}
use Rattle.rds_receiver.proofs.Ages.{name_taken}
use Rattle.rds_receiver.proofs.display.StoredDisplay.hear.Goals as goal

pub returns-in-Name-clause-holds : goal.returns-in-Name-clause-holds
returns-in-Name-clause-holds c stored m first heard st =
    subst (λ (x : Message). HoldsAt m (first + length heard) first
    (display_stored (record c.args.self.now { name = c.take.new.self })) (Some x ∷ heard))
    (ap name_of c.new-in-Name.ensures.place ∙ sym c.in-Name.is)
    (name_taken m first c.args.self.now c.take.new.self heard _ c.take.ensures.same c.take.ensures.other
    c.take.ensures.flag
    (c.take.ensures.later ∙ c.later-later.ensures) st)

pub returns-in-Tags-clause-holds : goal.returns-in-Tags-clause-holds
returns-in-Tags-clause-holds c stored m first heard st =
    subst (λ (x : Message). HoldsAt m (first + length heard) first (display_stored c.hear_tags.new.self)
    (Some x ∷ heard)) (sym c.in-Tags.is) (c.hear_tags.ensures.holds stored m first heard st)
