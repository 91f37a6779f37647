-- The printed form of a text: characters in UTF-8, and an escape with its number for a byte that has no character. This
-- is the project's own form.
-- A backslash is not in the table, so it only begins an escape. A quotation mark is escaped, so that a printed text can
-- be shown between two of them.
use Rattle.std.specs.Prelude.{◌++◌, ◌/◌, ◌%◌, ◌==◌, [], ◌∷◌}
use Rattle.std.specs.Prelude.{ℕ, List, Option, None, codes, encode_utf8, flat_map, if◌then◌else◌}
use Rattle.std.specs.Option.{option_map_or}
use Rattle.rds_io.specs.Digits.{upper_digit}
use Rattle.rds_charset.specs.Table.{character_of}

-- the escape of a byte: a backslash, an x and two digits
abbrev pub escaped : ℕ → List ℕ
escaped byte = codes "\\x" ++ upper_digit (byte / 16) ∷ upper_digit (byte % 16) ∷ []

-- the character as which a byte is printed; none for the quotation mark
abbrev pub shown_character : ℕ → Option ℕ
shown_character byte = if byte == 0x22 then None else character_of byte

-- the printed form of a byte
unfoldable pub printed_byte : ℕ → List ℕ
printed_byte byte = option_map_or encode_utf8 (shown_character byte) (escaped byte)

-- the printed form of a text
abbrev pub printed : List ℕ → List ℕ
printed bytes = flat_map printed_byte bytes
