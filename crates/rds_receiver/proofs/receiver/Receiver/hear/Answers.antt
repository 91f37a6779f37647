use Rattle.std.proofs.Common.{◌+◌, ◌∙◌, ◌∷◌, ℕ, List, None, Option, Some, arith, length, sym}
use Rattle.rds_fields.specs.declared.message.Message.{Message}
use Rattle.rds_receiver.specs.Confirming.{HasAged, HoldsBy}
use Rattle.rds_receiver.specs.Stored.{receiver_stored}
use Rattle.rds_receiver.proofs.ConfirmingSteps.{nothing_taken}
use Rattle.rds_receiver.proofs.receiver.Receiver.hear.Goals as goal

pub returns-in_default-clause-holds : goal.returns-in_default-clause-holds
returns-in_default-clause-holds c stored = rw (sym c.heard_blocks.ensures ∙ c.in_default.is) by
  where
    by : (window : Option ℕ) (m first : ℕ) (heard : List (Option Message))
        → HasAged window m first (receiver_stored c.args.self.now) heard
        → HoldsBy window m (first + length heard) first (receiver_stored c.args.self.now) (None ∷ heard)
    by None m first heard aged = search (arith, nothing_taken)
    by (Some w) m first heard aged = absurd (omega (arith, c.if-self-gt0.false, aged.lasts.window, aged.lasts.two))

pub returns-clause-holds : goal.returns-clause-holds
returns-clause-holds c stored = rw (sym c.heard_blocks.ensures ∙ c.in-Some.is) by
  where
    by : (window : Option ℕ) (m first : ℕ) (heard : List (Option Message))
        → HasAged window m first (receiver_stored c.args.self.now) heard
        → HoldsBy window m (first + length heard) first (receiver_stored record c.args.self.now
        { display = c.hear.new.self }) (Some c.in-Some.message ∷ heard)
    by None m first heard aged = grind (arith)
    by (Some w) m first heard aged = absurd (omega (arith, c.if-self-gt0.false, aged.lasts.window, aged.lasts.two))
