use Rattle.std.proofs.Common.{◌≡◌, ◌+◌, ◌*◌, ℕ, arith}
use Rattle.rds_io.proofs.Digits.{has_no_word, has_word}
use Rattle.rds_io.proofs.hexadecimal.reading_at.Goals as goal

sum_of : (a b c d a' b' c' d' : ℕ) → a ≡ a' → b ≡ b' → c ≡ c' → d ≡ d'
    → a * 4096 + b * 256 + c * 16 + d ≡ a' * 4096 + b' * 256 + c' * 16 + d'
sum_of a b c d a' b' c' d' p q r s = omega (arith, p, q, r, s)

pub overflow_add-result : goal.overflow_add-result
overflow_add-result c = omega (arith, c.value_of-first.ensures.small, c.value_of-second.ensures.small)

pub overflow_add-result-2 : goal.overflow_add-result-2
overflow_add-result-2 c = grind (arith)

pub overflow_add-result-3 : goal.overflow_add-result-3
overflow_add-result-3 c = grind (arith)

pub returns-clause-word : goal.returns-clause-word
returns-clause-word c small = search (arith, sum_of, has_word)

pub returns-clause-none : goal.returns-clause-none
returns-clause-none c large w has =
    let e = sum_of _ _ _ _ _ _ _ _ c.value_of-first.ensures.value c.value_of-second.ensures.value
    c.value_of-third.ensures.value c.value_of-fourth.ensures.value in
    has_no_word c.args.text.now c.args.place w (omega (arith, e, large)) has
