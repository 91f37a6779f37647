-- The first character of a text that cannot be read, with its place, counted in characters from 1.
use Rattle.std.specs.Prelude.{◌≡◌, ◌+◌, ◌++◌, ℕ, List, drop, encode_utf8, length, take, chars}
use Rattle.rds_charset.specs.ReadAs.{StopsAt}
use Rattle.rds_charset.specs.declared.reading.BadCharacter.{BadCharacter}

-- the text can be read up to this character and no further; `at` is its place in bytes, from 0
pub record IsBadCharacter (text : List ℕ) (bad : BadCharacter) : Type 0 where
  pub at : ℕ
  pub stops : StopsAt text at
  pub rest : List ℕ
  pub character : drop at text ≡ encode_utf8 bad.character ++ rest
  pub place : bad.place ≡ length (chars (take at text)) + 1
