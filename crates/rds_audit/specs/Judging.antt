-- Lemmas: what is judged of a log, slot by slot.
use Rattle.std.proofs.Common.{◌≡◌, ◌++◌, ℕ, List, [], ◌∷◌, Option, refl, ap, ◌∙◌}
use Rattle.rds_fields.specs.declared.message.Message.{Message}
use Rattle.rds_audit.specs.declared.log_start.LogStart.{LogStart}
use Rattle.rds_audit.specs.declared.log_start.LogStart.TheVariants.{Complete, Running}
use Rattle.rds_audit.specs.Recording.{counted_as, judged_as}

-- one more slot of a log is one more slot of what is judged
pub judged_step : (start : LogStart) (d : ℕ) (message : Option Message) (log : List (Option Message))
    → judged_as start d (message ∷ log) ≡ counted_as start (judged_as start d log) message ∷ judged_as start d log
judged_step Complete d message log = refl
judged_step Running d message log = refl

-- what is judged of a log that goes on goes on
pub judged_more : (start : LogStart) (d : ℕ) (newer log : List (Option Message))
    → (more : List (Option Message)) × (judged_as start d (newer ++ log) ≡ more ++ judged_as start d log)
judged_more start d [] log = ([], refl)
judged_more start d (message ∷ newer) log =
    let (more, e) = judged_more start d newer log in (
      counted_as start (judged_as start d (newer ++ log)) message ∷ more,
      judged_step start d message (newer ++ log)
          ∙ ap (λ (x : List (Option Message)). counted_as start (judged_as start d (newer ++ log)) message ∷ x) e,
    )
