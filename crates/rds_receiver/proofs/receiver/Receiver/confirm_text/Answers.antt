use Rattle.std.proofs.Common.{refl, sym}
use Rattle.rds_receiver.proofs.ConfirmingSteps.{not_true, text_confirmed}
use Rattle.rds_receiver.proofs.receiver.Receiver.confirm_text.Goals as goal
use Rattle.rds_receiver.proofs.receiver.Receiver.confirm_text.Goals.{else-again-via-else-again}
use Rattle.rds_receiver.proofs.receiver.Receiver.confirm_text.Goals.{else-again-via-then-again+else-not-has_flag}

pub returns-then-not-has_flag-clause-confirms : goal.returns-then-not-has_flag-clause-confirms
returns-then-not-has_flag-clause-confirms c w m first heard st =
    text_confirmed w m first heard _ _ c.args.fragment c.take-again.result c.requires refl refl
    refl c.take-again.ensures.taken c.take-again.ensures.others
    c.take-again.ensures.again.0 c.take-again.ensures.again.1
    (λ e. absurd (not_true _ e c.if-again.true))
    (λ e same. absurd (not_true _ c.if-not-has_flag.true (c.has_flag.ensures.1 (sym same))))
    (λ e other. refl) st

pub returns-else-again-clause-confirms : goal.returns-else-again-clause-confirms
returns-else-again-clause-confirms c w m first heard st =
    text_confirmed w m first heard _ _ c.args.fragment c.take-again.result c.requires refl refl
    refl c.take-again.ensures.taken c.take-again.ensures.others
    c.take-again.ensures.again.0 c.take-again.ensures.again.1
    (λ e. refl)
    (λ e same. refl)
    (λ e other. absurd (elim c.else-again.branch [
      | else-again-via-then-again+else-not-has_flag x ↦ other (sym (x.has_flag.ensures.0 x.if-not-has_flag.false))
      | else-again-via-else-again x ↦ not_true _ x.if-again.false e
    ]))
    st
