use Rattle.std.proofs.Common.{◌≡◌, ◌<◌, Some, true, false, refl, arith}
use Rattle.rds_fields.specs.Stored.{pair_stored}
use Rattle.rds_receiver.proofs.Ages.{none_held, some_held}
use Rattle.rds_receiver.proofs.Runs.{held_pair_is, is_held_pair}
use Rattle.rds_receiver.proofs.ConfirmingSteps.{not_true, tags_confirmed}
use Rattle.rds_receiver.proofs.receiver.Receiver.confirm_tags.Goals as goal

pub returns-clause-confirms : goal.returns-clause-confirms
returns-clause-confirms c stored w m first heard st =
    tags_confirmed w m first heard _ _ c.args.pair _ refl c.of-self.ensures.same
    (λ young. c.while_text_is_held-self.ensures.held (some_held _ _ c.args.self.now.display.text young))
    (λ old. c.while_text_is_held-self.ensures.none (none_held _ _ c.args.self.now.display.text stored.display.rests
    stored.display.soon old)) if_again if_not st
  where
    if_again : c.if-self-gt0.again ≡ true
        → (0 < c.args.self.now.pair_left) × (pair_stored c.args.self.now.pair ≡ Some c.args.pair)
    if_again e = search (arith, is_held_pair)

    if_not : c.if-self-gt0.again ≡ false → 0 < c.args.self.now.pair_left
        → pair_stored c.args.self.now.pair ≡ Some c.args.pair → ⊥
    if_not e some is = search (arith, not_true, held_pair_is)
