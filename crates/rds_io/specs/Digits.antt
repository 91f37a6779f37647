-- Hexadecimal digits of either case, and the word of four digits.
use Rattle.std.specs.Prelude.{◌≡◌, ◌<◌, ◌+◌, ◌*◌, ◌/◌, ◌%◌, ℕ, List, [], ◌∷◌, if◌then◌else◌, nat_lt, slice_index}
use Rattle.std.specs.Char.{digit_value}

-- the digit of a number below 16, with A to F for 10 to 15
abbrev pub upper_digit : ℕ → ℕ
upper_digit n = if nat_lt n 10 then 0x30 + n else 0x37 + n

-- the value of a byte as a hexadecimal digit; 65536, which is more than any word, if it is not a digit
abbrev pub marked_value : ℕ → ℕ
marked_value byte = if nat_lt (digit_value byte) 16 then digit_value byte else 65536

-- the text has four hexadecimal digits from this place on, and they are the word w
pub record HasWord (text : List ℕ) (at w : ℕ) : Type 0 where
  pub first : digit_value (slice_index text at) < 16
  pub second : digit_value (slice_index text (at + 1)) < 16
  pub third : digit_value (slice_index text (at + 2)) < 16
  pub fourth : digit_value (slice_index text (at + 3)) < 16
  pub word : w ≡ 4096 * digit_value (slice_index text at) + 256 * digit_value (slice_index text (at + 1))
      + 16 * digit_value (slice_index text (at + 2)) + digit_value (slice_index text (at + 3))

-- the four digits of a word, with A to F for 10 to 15
abbrev pub word_digits : ℕ → List ℕ
word_digits w = upper_digit (w / 4096) ∷ upper_digit (w / 256 % 16) ∷ upper_digit (w / 16 % 16) ∷ upper_digit
    (w % 16) ∷ []
