-- A byte of a text has one character or none. The table is this project's own. It follows the basic table of IEC 62106;
-- nothing depends on the likeness.
use Rattle.std.specs.Prelude.{◌+◌, ◌-◌, ◌==◌, ◌≤◌, [], ◌∷◌}
use Rattle.std.specs.Prelude.{ℕ, List, length, slice_get, position, Option, None, option_map, nat_le, if◌then◌else◌}
use Rattle.std.specs.List.{range_with_len}
use Rattle.std.specs.Option.{option_or}

-- bytes that follow each other: the first of them, and their characters as code points
abbrev pub CodeRange : Type 0
CodeRange = ℕ × List ℕ

-- all bytes that have a character; those up to 0x7D have their ASCII character
abbrev pub table : List CodeRange
table = (0x20, range_with_len 0x20 4)
    ∷ (0x25, range_with_len 0x25 55)
    ∷ (0x5D, range_with_len 0x5D 1)
    ∷ (0x5F, range_with_len 0x5F 1)
    ∷ (0x61, range_with_len 0x61 29)
    -- á à é è í ì ó ò ú ù Ñ Ç
    ∷ (0x80, 0xE1 ∷ 0xE0 ∷ 0xE9 ∷ 0xE8 ∷ 0xED ∷ 0xEC ∷ 0xF3 ∷ 0xF2 ∷ 0xFA ∷ 0xF9 ∷ 0xD1 ∷ 0xC7 ∷ [])
    -- â ä ê ë î ï ô ö û ü ñ ç
    ∷ (0x90, 0xE2 ∷ 0xE4 ∷ 0xEA ∷ 0xEB ∷ 0xEE ∷ 0xEF ∷ 0xF4 ∷ 0xF6 ∷ 0xFB ∷ 0xFC ∷ 0xF1 ∷ 0xE7 ∷ [])
    -- € £ $
    ∷ (0xA9, 0x20AC ∷ 0xA3 ∷ 0x24 ∷ [])
    -- Á À É È Í Ì Ó Ò Ú Ù
    ∷ (0xC0, 0xC1 ∷ 0xC0 ∷ 0xC9 ∷ 0xC8 ∷ 0xCD ∷ 0xCC ∷ 0xD3 ∷ 0xD2 ∷ 0xDA ∷ 0xD9 ∷ [])
    -- Â Ä Ê Ë Î Ï Ô Ö Û Ü
    ∷ (0xD0, 0xC2 ∷ 0xC4 ∷ 0xCA ∷ 0xCB ∷ 0xCE ∷ 0xCF ∷ 0xD4 ∷ 0xD6 ∷ 0xDB ∷ 0xDC ∷ [])
    ∷ []

-- the range has only bytes up to 255
abbrev pub FitsInBytes : CodeRange → Type 0
FitsInBytes range = range.0 + length range.1 ≤ 256

-- the character of a byte in a range
abbrev pub character_at : CodeRange → ℕ → Option ℕ
character_at range byte = if nat_le range.0 byte then slice_get range.1 (byte - range.0) else None

-- the character of a byte in the first range that has the byte
abbrev pub character_in : List CodeRange → ℕ → Option ℕ
character_in [] byte = None
character_in (range ∷ ranges) byte = option_or (character_at range byte) (character_in ranges byte)

-- the character of a byte
unfoldable pub character_of : ℕ → Option ℕ
character_of byte = character_in table byte

-- the byte of a character in a range
abbrev pub byte_at : CodeRange → ℕ → Option ℕ
byte_at range character = option_map (λ place. range.0 + place) (position (λ known. known == character) range.1)

-- the byte of a character in the first range that has the character
abbrev pub byte_in : List CodeRange → ℕ → Option ℕ
byte_in [] character = None
byte_in (range ∷ ranges) character = option_or (byte_at range character) (byte_in ranges character)

-- the byte of a character
unfoldable pub byte_of : ℕ → Option ℕ
byte_of character = byte_in table character
