-- A word and an argument say no command where the word is no verb, or the argument says nothing.
use Rattle.std.proofs.Common.{◌≡◌, ◌<◌, ◌∙◌, ℕ, Bor, List, [], ◌∷◌, Option, Some, None, ap, arith, length, sym}
use Rattle.std.specs.Prelude.{option_map}
use Rattle.csv.specs.Records.{field_at}
use Rattle.rds_world.specs.declared.event.Command.{Command}
use Rattle.rds_world.specs.declared.event.Command.TheVariants.{Quiet, Restart, SetText, SetName, SetTags}
use Rattle.rds_script.specs.Rows.{IsNameArgument, SaysCommand}
use Rattle.rds_script.specs.Verbs.{verb_word}
use Rattle.rds_script.specs.declared.row.Verb.{Verb}
use Rattle.rds_script.specs.declared.row.Verb.TheVariants as verb

-- a word that is no verb says no command
pub no_verb : (word argument : List ℕ) → ((v : Verb) → word ≡ verb_word v → ⊥) → (command : Command)
    → SaysCommand word argument command → ⊥
no_verb word argument none Quiet says = none verb.Nothing says.0
no_verb word argument none Restart says = none verb.Restart says.0
no_verb word argument none (SetText x) says = none verb.Text says.0
no_verb word argument none (SetName x) says = none verb.Name says.0
no_verb word argument none (SetTags pair) says = none verb.Tags says.0

-- an argument that is no name says no command
pub no_name : (word argument : List ℕ) → word ≡ verb_word verb.Name → ((x : List ℕ) → IsNameArgument argument x → ⊥)
    → (command : Command) → SaysCommand word argument command → ⊥
no_name word argument is none (SetName x) says = none x says.1
no_name word argument is none _ says = grind arith

-- a field that is there is found
pub no_field : (fields : List (List ℕ)) (i : ℕ) (found : Option (Bor (List ℕ)))
    → option_map (λ s. s.now) found ≡ field_at fields i → i < length fields → found ≡ None → ⊥
unfolding field_at
no_field fields i found e within none = missing fields i (sym e ∙ ap (option_map (λ s. s.now)) none) within
  where
    missing : (fields : List (List ℕ)) (i : ℕ) → field_at fields i ≡ None → i < length fields → ⊥
    missing [] i e within = omega arith
    missing (f ∷ fields) i e within = grind (arith, missing fields)

-- a record of four fields is these four
pub four : (fields : List (List ℕ)) (a b c d : List ℕ) → length fields ≡ 4 → Some a ≡ field_at fields 0
    → Some b ≡ field_at fields 1 → Some c ≡ field_at fields 2 → Some d ≡ field_at fields 3
    → fields ≡ a ∷ b ∷ c ∷ d ∷ []
unfolding field_at
four (f ∷ g ∷ h ∷ k ∷ []) a b c d size p q r s = (cc)
four _ a b c d size p q r s = absurd (omega arith)
