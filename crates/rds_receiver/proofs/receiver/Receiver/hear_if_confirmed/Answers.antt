use Rattle.std.proofs.Common.{◌+◌, ◌∷◌, ℕ, Bool, List, None, Option, Some, ap, arith, length, refl, subst}
use Rattle.rds_fields.specs.declared.message.Message.{Message}
use Rattle.rds_receiver.specs.Confirming.{Counts, HasAged, HoldsBy}
use Rattle.rds_receiver.specs.Stored.{display_stored, receiver_stored}
use Rattle.rds_receiver.proofs.Shows.{alike_itself}
use Rattle.rds_receiver.proofs.ConfirmingSteps.{lasts_aged, message_counted, message_not_counted, nothing_taken}
use Rattle.rds_receiver.proofs.receiver.Receiver.hear_if_confirmed.Goals as goal

pub returns-in_default-clause-holds : goal.returns-in_default-clause-holds
returns-in_default-clause-holds c stored = search (arith, by)
  where
    by : (window : Option ℕ) (m first : ℕ) (heard : List (Option Message))
        → HasAged window m first (receiver_stored c.args.self.now) heard
        → HoldsBy window m (first + length heard) first (receiver_stored c.age_lasts.new.self) (None ∷ heard)
    by None m first heard aged = absurd (omega (arith, c.requires, aged.lasts))
    by (Some w) m first heard aged = nothing_taken (Some w) m first heard _ (lasts_aged w m first heard _ _
        (ap display_stored c.age_lasts.ensures.display) (c.age_lasts.ensures.lasts stored w m first heard) aged)

pub returns-then-not-confirm-clause-holds : goal.returns-then-not-confirm-clause-holds
returns-then-not-confirm-clause-holds c stored = grind (arith, by)
  where
    by : (window : Option ℕ) (m first : ℕ) (heard : List (Option Message))
        → HasAged window m first (receiver_stored c.args.self.now) heard
        → HoldsBy window m (first + length heard) first (receiver_stored c.confirm.new.self) (Some c.in-Some.message
        ∷ heard)
    by None m first heard aged = absurd (omega (arith, c.requires, aged.lasts))
    by (Some w) m first heard aged =
        let before = lasts_aged w m first heard (receiver_stored c.args.self.now) (receiver_stored c.age_lasts.new.self)
        (ap display_stored c.age_lasts.ensures.display) (c.age_lasts.ensures.lasts stored w m first heard) aged in
        message_not_counted (Some w) m first heard _ c.in-Some.message
        (subst (λ (b : Bool). Counts (Some w) m first (receiver_stored c.confirm.new.self) heard c.in-Some.message b)
        c.if-not-confirm.true
        (c.confirm.ensures.confirms (c.age_lasts.ensures.good stored) w m first heard before))

pub returns-then-not-confirm-clause-same : goal.returns-then-not-confirm-clause-same
returns-then-not-confirm-clause-same c calm =
    grind (arith, alike_itself, c.confirm.ensures.display, c.age_lasts.ensures.display)

pub returns-clause-holds : goal.returns-clause-holds
returns-clause-holds c stored = grind (arith, by)
  where
    by : (window : Option ℕ) (m first : ℕ) (heard : List (Option Message))
        → HasAged window m first (receiver_stored c.args.self.now) heard
        → HoldsBy window m (first + length heard) first (receiver_stored record c.confirm.new.self
        { display = c.hear.new.self }) (Some c.in-Some.message ∷ heard)
    by None m first heard aged = absurd (omega (arith, c.requires, aged.lasts))
    by (Some w) m first heard aged =
        let before = lasts_aged w m first heard (receiver_stored c.args.self.now) (receiver_stored c.age_lasts.new.self)
        (ap display_stored c.age_lasts.ensures.display) (c.age_lasts.ensures.lasts stored w m first heard) aged in
        message_counted (Some w) m first heard _ _ c.in-Some.message refl
        (c.hear.ensures.holds (c.confirm.ensures.good (c.age_lasts.ensures.good stored)).display)
        (subst (λ (b : Bool). Counts (Some w) m first (receiver_stored c.confirm.new.self) heard c.in-Some.message b)
        c.if-not-confirm.false
        (c.confirm.ensures.confirms (c.age_lasts.ensures.good stored) w m first heard before))
