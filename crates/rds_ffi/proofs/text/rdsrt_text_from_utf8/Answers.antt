use Rattle.std.proofs.Common.{Err, ap, refl, subst, ℕ, List}
use Rattle.rds_charset.specs.ReadAs.{HasBadEscape, HasUnknownCharacter}
use Rattle.rds_ffi.proofs.text.rdsrt_text_from_utf8.Goals as goal

pub returns-in-Err-BadEscape-clause-bad_escape : goal.returns-in-Err-BadEscape-clause-bad_escape
returns-in-Err-BadEscape-clause-bad_escape c =
    let place = c.in-Err-BadEscape.place in (
      (λ e. subst (λ (x : List ℕ). HasBadEscape x place) c.in-Ok.ensures.cases.0
          ((c.in-Err-BadEscape.ensures.bad_escape place).0 (ap Err c.in-Err-BadEscape.field-0-is))),
      (λ good at found. refl),
    )

pub returns-in-Err-NoSuchCharacter-clause-no_character : goal.returns-in-Err-NoSuchCharacter-clause-no_character
returns-in-Err-NoSuchCharacter-clause-no_character c =
    let place = c.in-Err-NoSuchCharacter.place in (
      (λ e. subst (λ (x : List ℕ). HasUnknownCharacter x place) c.in-Ok.ensures.cases.0
          ((c.in-Err-NoSuchCharacter.ensures.no_such_character place).0 (ap Err c.in-Err-NoSuchCharacter.field-0-is))),
      (λ good at found. refl),
    )
