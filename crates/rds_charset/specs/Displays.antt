-- A text as a display shows it, in UTF-8. The characters are this project's own. They follow the basic table of IEC
-- 62106; nothing depends on the likeness.
use Rattle.std.specs.Prelude.{◌≤◌, ◌*◌, [], ◌∷◌, ℕ, List, encode_utf8, flat_map, length}
use Rattle.std.specs.Option.{option_or, unwrap_or}
use Rattle.rds_charset.specs.Table.{CodeRange, character_in, character_of}

-- more bytes that a display has a character for
abbrev pub more : List CodeRange
more =
    -- ¤
    (0x24, 0xA4 ∷ [])
    ∷ (0x5C, 0x5C ∷ [])
    -- Ş ß ¡ Ĳ
    ∷ (0x8C, 0x15E ∷ 0xDF ∷ 0xA1 ∷ 0x132 ∷ [])
    -- ş
    ∷ (0x9C, 0x15F ∷ [])
    -- ı ĳ
    ∷ (0x9E, 0x131 ∷ 0x133 ∷ [])
    -- ª α © ‰
    ∷ (0xA0, 0xAA ∷ 0x3B1 ∷ 0xA9 ∷ 0x2030 ∷ [])
    -- ě ň ő π
    ∷ (0xA5, 0x11B ∷ 0x148 ∷ 0x151 ∷ 0x3C0 ∷ [])
    -- ← ↑ → ↓
    ∷ (0xAC, 0x2190 ∷ 0x2191 ∷ 0x2192 ∷ 0x2193 ∷ [])
    -- º ¹ ² ³ ± İ ń ű µ ¿ ÷ ° ¼ ½ ¾ §
    ∷ (
      0xB0,
      0xBA ∷ 0xB9 ∷ 0xB2 ∷ 0xB3 ∷ 0xB1 ∷ 0x130 ∷ 0x144 ∷ 0x171 ∷ 0xB5 ∷ 0xBF ∷ 0xF7 ∷ 0xB0 ∷ 0xBC ∷ 0xBD
          ∷ 0xBE ∷ 0xA7 ∷ [],
    )
    -- Ř Č Š Ž
    ∷ (0xCA, 0x158 ∷ 0x10C ∷ 0x160 ∷ 0x17D ∷ [])
    -- Ŀ
    ∷ (0xCF, 0x13F ∷ [])
    -- ř č š ž đ ŀ
    ∷ (0xDA, 0x159 ∷ 0x10D ∷ 0x161 ∷ 0x17E ∷ 0x111 ∷ 0x140 ∷ [])
    -- Ã Å Æ Œ ŷ Ý Õ Ø Þ Ŋ Ŕ Ć Ś Ź
    ∷ (
      0xE0,
      0xC3 ∷ 0xC5 ∷ 0xC6 ∷ 0x152 ∷ 0x177 ∷ 0xDD ∷ 0xD5 ∷ 0xD8 ∷ 0xDE ∷ 0x14A ∷ 0x154 ∷ 0x106 ∷ 0x15A
          ∷ 0x179 ∷ [],
    )
    -- ð
    ∷ (0xEF, 0xF0 ∷ [])
    -- ã å æ œ ŵ ý õ ø þ ŋ ŕ ć ś ź
    ∷ (
      0xF0,
      0xE3 ∷ 0xE5 ∷ 0xE6 ∷ 0x153 ∷ 0x175 ∷ 0xFD ∷ 0xF5 ∷ 0xF8 ∷ 0xFE ∷ 0x14B ∷ 0x155 ∷ 0x107 ∷ 0x15B
          ∷ 0x17A ∷ [],
    )
    ∷ []

-- what a display shows for a byte without a character: the replacement character of Unicode
abbrev pub replacement : ℕ
replacement = 0xFFFD

-- the character that a display shows for a byte
unfoldable pub displayed_character : ℕ → ℕ
displayed_character byte = unwrap_or (option_or (character_of byte) (character_in more byte)) replacement

-- a text on a display
abbrev pub displayed : List ℕ → List ℕ
displayed bytes = flat_map (λ byte. encode_utf8 (displayed_character byte)) bytes

-- it has at most three bytes for each byte of the text
abbrev pub DisplayedTakesThree : Type 0
DisplayedTakesThree = (bytes : List ℕ) → length (displayed bytes) ≤ 3 * length bytes
