use Rattle.std.proofs.Common.{refl, ◌∙◌}
use Rattle.rds_receiver.proofs.Ages.{none_held, some_held}
use Rattle.rds_receiver.proofs.ConfirmingSteps.{grown}
use Rattle.rds_receiver.proofs.receiver.Receiver.age_lasts.Goals as goal

pub returns-clause-lasts : goal.returns-clause-lasts
returns-clause-lasts c stored w m first heard shows st =
    grown w m first _ _ heard refl refl c.grow_older.ensures
    (λ young. c.while_text_is_held-self.ensures.held (some_held _ _ c.args.self.now.display.text young)
    ∙ c.saturating_sub.ensures)
    (λ old. c.while_text_is_held-self.ensures.none (none_held _ _ c.args.self.now.display.text stored.display.rests
    stored.display.soon old)) shows st
