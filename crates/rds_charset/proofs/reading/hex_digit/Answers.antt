use Rattle.std.proofs.Common.{arith, ℕ, List, ◌≡◌, ◌∷◌, ◌<◌}
use Rattle.std.specs.Char.{digit_value}
use Rattle.rds_charset.proofs.Symbols.{first-digit}
use Rattle.rds_charset.proofs.reading.hex_digit.Goals as goal

pub returns-in_err-digit-clause-none : goal.returns-in_err-digit-clause-none
returns-in_err-digit-clause-none c =
    let none = λ (digit : ℕ) (rest : List ℕ) (is : c.args.text.now ≡ digit ∷ rest) (small : digit_value digit < 16).
    c.in_err-digit.ensures.value (rw (first-digit c.args.text.now c.in_ok-first.first c.in_ok-first.rest.now digit rest
    c.in_ok-first.ensures.some is small) small) in
    grind (arith)
