use Rattle.std.proofs.Common.{◌≡◌, ℕ, List, [], ◌∷◌, arith, length, refl, rules}
use Rattle.std.proofs.lemmas.Grind.{common_steps}
use Rattle.rds_script.proofs.row.read_command.Goals as goal

empty : (text : List ℕ) → length text ≡ 0 → text ≡ []
empty [] e = refl
empty (byte ∷ text) e = absurd (omega arith)

pub returns-then-is_empty-clause-says : goal.returns-then-is_empty-clause-says
returns-then-is_empty-clause-says c =
    let word : c.args.word.now ≡ 45 ∷ [] = search rules in
    let argument : c.args.argument.now ≡ [] = empty c.args.argument.now (grind (arith, common_steps)) in
    rw c.requires (word, argument)
