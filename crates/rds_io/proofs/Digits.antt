-- Lemmas: the word that digits spell.
use Rattle.std.proofs.Common.{◌≡◌, ◌⊎◌, ◌+◌, ◌*◌, ◌<◌, ◌≤◌, ℕ, List, arith, slice_index}
use Rattle.std.specs.Char.{digit_value}
use Rattle.rds_io.specs.Digits.{HasWord, marked_value}

-- the value is that of a digit, or 65536
abbrev Cases : ℕ → Type 0
Cases byte = ((digit_value byte < 16) × (marked_value byte ≡ digit_value byte))
    ⊎ ((16 ≤ digit_value byte) × (marked_value byte ≡ 65536))

marked_or_not : (byte : ℕ) → Cases byte
marked_or_not byte = grind (arith)

-- the sum of the four values, each times its power
abbrev pub spelled : List ℕ → ℕ → ℕ
spelled text at =
    marked_value (slice_index text at) * 4096 + marked_value (slice_index text (at + 1)) * 256
    + marked_value (slice_index text (at + 2)) * 16
    + marked_value (slice_index text (at + 3))

-- four hexadecimal digits spell a word
pub has_word : (text : List ℕ) (at : ℕ) → spelled text at < 65536 → HasWord text at (spelled text at)
has_word text at small = search (arith, marked_or_not)

-- other bytes spell none
pub has_no_word : (text : List ℕ) (at w : ℕ) → 65536 ≤ spelled text at → HasWord text at w → ⊥
has_no_word text at w large has = search (arith, marked_or_not)
