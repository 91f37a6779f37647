-- A printed text is read symbol by symbol. A symbol is a character of the table or an escape, and gives one byte. This
-- is the project's own form.
-- A quotation mark is read as a character too, although it is printed as an escape. The digits of an escape may be of
-- either case.
use Rattle.std.specs.Prelude.{◌≡◌, ◌≢◌, ◌⊎◌, ◌<◌, ◌+◌, ◌*◌, ◌++◌, [], ◌∷◌}
use Rattle.std.specs.Prelude.{ℕ, List, Some, codes, encode_utf8, length, drop, slice_index}
use Rattle.std.specs.Char.{digit_value}
use Rattle.rds_charset.specs.Table.{character_of}

-- a character of the table, in UTF-8, and its byte
pub record IsCharacter (symbol : List ℕ) (byte : ℕ) : Type 0 where
  pub character : ℕ
  pub in_table : character_of byte ≡ Some character
  pub spelled : symbol ≡ encode_utf8 character

-- a backslash, an x and two hexadecimal digits, and the byte with this number
pub record IsEscape (symbol : List ℕ) (byte : ℕ) : Type 0 where
  pub high : ℕ
  pub low : ℕ
  pub high_digit : digit_value high < 16
  pub low_digit : digit_value low < 16
  pub spelled : symbol ≡ codes "\\x" ++ high ∷ low ∷ []
  pub value : byte ≡ 16 * digit_value high + digit_value low

-- a symbol of a printed text, and the byte as which it is read
abbrev pub IsSymbol : List ℕ → ℕ → Type 0
IsSymbol symbol byte = IsCharacter symbol byte ⊎ IsEscape symbol byte

-- the text begins with a symbol of this byte, and the rest follows
pub record Begins (text : List ℕ) (byte : ℕ) (rest : List ℕ) : Type 0 where
  pub symbol : List ℕ
  pub cut : text ≡ symbol ++ rest
  pub is_symbol : IsSymbol symbol byte

-- the text begins with one symbol for each of the bytes, in order, and the rest follows
abbrev pub IsReadUpTo : List ℕ → List ℕ → List ℕ → Type 0
IsReadUpTo text [] rest = text ≡ rest
IsReadUpTo text (byte ∷ bytes) rest = (after : List ℕ) × Begins text byte after × IsReadUpTo after bytes rest

-- the text is read as the bytes: it has one symbol for each of them, in order, and nothing else
abbrev pub IsReadAs : List ℕ → List ℕ → Type 0
IsReadAs text bytes = IsReadUpTo text bytes []

-- no symbol begins the text
abbrev pub BeginsNoSymbol : List ℕ → Type 0
BeginsNoSymbol text = (byte : ℕ) (rest : List ℕ) → Begins text byte rest → ⊥

-- the text can be read up to this place, counted in bytes, and no further, and does not end there
pub record StopsAt (text : List ℕ) (place : ℕ) : Type 0 where
  pub within : place < length text
  pub bytes : List ℕ
  pub read : IsReadUpTo text bytes (drop place text)
  pub stuck : BeginsNoSymbol (drop place text)

-- the first place that cannot be read has a backslash
abbrev pub HasBadEscape : List ℕ → ℕ → Type 0
HasBadEscape text place = StopsAt text place × (slice_index text place ≡ 0x5C)

-- the first place that cannot be read has another byte
abbrev pub HasUnknownCharacter : List ℕ → ℕ → Type 0
HasUnknownCharacter text place = StopsAt text place × (slice_index text place ≢ 0x5C)

-- the text can be read, and gives more bytes than there is room
abbrev pub HasNoRoom : List ℕ → ℕ → Type 0
HasNoRoom text room = (bytes : List ℕ) × IsReadAs text bytes × (room < length bytes)

-- the text begins with a hexadecimal digit of this value, and the rest follows
abbrev pub BeginsDigit : List ℕ → ℕ → List ℕ → Type 0
BeginsDigit text value rest =
    (digit : ℕ) × (text ≡ digit ∷ rest) × (digit_value digit < 16) × (value ≡ digit_value digit)

-- no hexadecimal digit begins the text
abbrev pub BeginsNoDigit : List ℕ → Type 0
BeginsNoDigit text = (digit : ℕ) (rest : List ℕ) → text ≡ digit ∷ rest → digit_value digit < 16 → ⊥
