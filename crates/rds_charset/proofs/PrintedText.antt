-- Lemmas about the printed form of a text: its length, and that it is read as the text.
use Rattle.std.proofs.KnownBytes.{Appends-trans}
use Rattle.rds_io.specs.Puts.{AppendsPrefix-append, AppendsPrefix-longer}
use Rattle.std.specs.Io.KnownBytes.{Appends}
use Rattle.rds_io.specs.Told.{AppendsPrefix}
use Rattle.std.proofs.Common.{◌≡◌, ◌*◌, ◌/◌, ◌%◌, ◌<◌, ◌≤◌, ℕ, Bool, List, [], ◌∷◌, ◌++◌, length, length-append, refl}
use Rattle.std.proofs.Common.{sym, ap, ◌∙◌, arith, Option, Some, None, encode_utf8, if◌then◌else◌, append_assoc, All}
use Rattle.std.proofs.Common.{IsUtf8, true, nat_lt}
use Rattle.std.proofs.lemmas.Grind.{flat_map-append}
use Rattle.std.proofs.lemmas.List.Elements.{All-head, All-tail}
use Rattle.std.proofs.lemmas.Str.{length-encode, len_utf8_bounds, encode_ascii, IsUtf8-append, IsUtf8-encode}
use Rattle.std.proofs.lemmas.Str.{IsUtf8-nil}
use Rattle.std.specs.Char.{digit_value, len_utf8}
use Rattle.std.specs.Option.{option_map_or, option_or, unwrap_or}
use Rattle.rds_charset.proofs.Characters.{IsLawful-from_byte, entries_in, holds_at_byte}
use Rattle.rds_io.specs.Digits.{upper_digit}
use Rattle.rds_charset.specs.Printed.{escaped, printed, printed_byte, shown_character}
use Rattle.rds_charset.specs.ReadAs.{IsSymbol, IsReadAs}
use Rattle.rds_charset.specs.Table.{character_of, character_in}
use Rattle.std.specs.List.{list_all}
use Rattle.rds_charset.specs.Displays.{displayed, displayed_character, more, replacement}

-- ---- the printed form of a text: its length, and that it is read as the text

-- the printed form of a byte has at most four bytes
shown-length : (byte : ℕ) (shown : Option ℕ) → length (option_map_or encode_utf8 shown (escaped byte)) ≤ 4
shown-length byte shown = grind (arith, length-encode, len_utf8_bounds)

pub length-printed_byte : (byte : ℕ) → length (printed_byte byte) ≤ 4
unfolding printed_byte
length-printed_byte byte = shown-length byte (shown_character byte)

-- a printed byte has at most four bytes
pub length-printed : (bytes : List ℕ) → length (printed bytes) ≤ 4 * length bytes
length-printed [] = omega arith
length-printed (byte ∷ bytes) =
    let one = length-printed_byte byte in
    omega (arith, length-printed bytes, length-append (printed_byte byte) (printed bytes))

-- the digits that are printed are the digits that are read
pub upper_digit-value : (n : ℕ) → n < 16 → digit_value (upper_digit n) ≡ n
upper_digit-value n small = grind (arith)

upper_digit-ascii : (n : ℕ) → n < 16 → upper_digit n < 128
upper_digit-ascii n small = grind (arith)

escaped-IsSymbol : (byte : ℕ) → byte < 256 → IsSymbol (escaped byte) byte
escaped-IsSymbol byte small = grind (arith, upper_digit-value)

shown-IsSymbol : (byte : ℕ) (shown : Option ℕ) → byte < 256
    → ((character : ℕ) → shown ≡ Some character → character_of byte ≡ Some character)
    → IsSymbol (option_map_or encode_utf8 shown (escaped byte)) byte
shown-IsSymbol byte None small own = escaped-IsSymbol byte small
shown-IsSymbol byte (Some character) small own = grind (arith)

shown-own : (byte character : ℕ) (b : Bool) → (if b then None else character_of byte) ≡ Some character
    → character_of byte ≡ Some character
shown-own byte character b is = grind (arith)

printed_byte-IsSymbol : (byte : ℕ) → byte < 256 → IsSymbol (printed_byte byte) byte
unfolding printed_byte
printed_byte-IsSymbol byte small = search (arith, shown-IsSymbol, shown-own)

-- what is printed is read back
pub IsReadAs-printed : (bytes : List ℕ) → All (λ byte. byte < 256) bytes → IsReadAs (printed bytes) bytes
IsReadAs-printed [] small = refl
IsReadAs-printed (byte ∷ bytes) small =
    let one = printed_byte-IsSymbol byte (All-head (λ b. b < 256) byte bytes small) in (
      printed bytes,
      record { symbol = printed_byte byte; cut = refl; is_symbol = one },
      IsReadAs-printed bytes (All-tail (λ b. b < 256) byte bytes small),
    )

-- the printed form is UTF-8
ascii-IsUtf8 : (character : ℕ) → character < 128 → IsUtf8 (character ∷ [])
ascii-IsUtf8 character small = rw (encode_ascii character small) at (IsUtf8-encode character (grind (arith)))

escaped-IsUtf8 : (byte : ℕ) → byte < 256 → IsUtf8 (escaped byte)
escaped-IsUtf8 byte small =
    let high = upper_digit-ascii (byte / 16) (omega arith) in
    let low = upper_digit-ascii (byte % 16) (omega arith) in
    IsUtf8-append (0x5C ∷ []) _ (ascii-IsUtf8 0x5C (omega arith))
    (IsUtf8-append (0x78 ∷ []) _ (ascii-IsUtf8 0x78 (omega arith))
    (IsUtf8-append (_ ∷ []) (_ ∷ []) (ascii-IsUtf8 _ high) (ascii-IsUtf8 _ low)))

shown-IsUtf8 : (byte : ℕ) (shown : Option ℕ) → byte < 256
    → ((character : ℕ) → shown ≡ Some character → character_of byte ≡ Some character)
    → IsUtf8 (option_map_or encode_utf8 shown (escaped byte))
shown-IsUtf8 byte None small own = escaped-IsUtf8 byte small
shown-IsUtf8 byte (Some character) small own =
    let low : character < 0xD800 = (IsLawful-from_byte byte character (own character refl)).in_low_plane in
    IsUtf8-encode character (grind (arith))

printed_byte-IsUtf8 : (byte : ℕ) → byte < 256 → IsUtf8 (printed_byte byte)
unfolding printed_byte
printed_byte-IsUtf8 byte small = grind (arith, shown-IsUtf8, shown-own)

-- what is printed is UTF-8
pub IsUtf8-printed : (bytes : List ℕ) → All (λ byte. byte < 256) bytes → IsUtf8 (printed bytes)
IsUtf8-printed [] small = IsUtf8-nil
IsUtf8-printed (byte ∷ bytes) small =
    let one = printed_byte-IsUtf8 byte (All-head (λ b. b < 256) byte bytes small) in
    let others = IsUtf8-printed bytes (All-tail (λ b. b < 256) byte bytes small) in
    IsUtf8-append (printed_byte byte) (printed bytes) one others

-- a text in two parts
pub printed-append : (xs ys : List ℕ) → printed (xs ++ ys) ≡ printed xs ++ printed ys
printed-append xs ys = flat_map-append printed_byte xs ys

-- one more part of a text goes out, whole or up to a fault
pub Appends-printed : (a b c : Option (List ℕ)) (done symbol line : List ℕ) → line ≡ printed symbol
    → Appends a b (printed done) → Appends b c line → Appends a c (printed (done ++ symbol))
Appends-printed a b c done symbol line is first later = rw (printed-append done symbol)
    (Appends-trans a b c (printed done) (printed symbol) first (rw is at later))

-- a first part of what is printed, if the room ends within a symbol
pub AppendsPrefix-printed : (a b c : Option (List ℕ)) (bytes done symbol rest line : List ℕ)
    → bytes ≡ (done ++ symbol) ++ rest → line ≡ printed symbol → Appends a b (printed done) → AppendsPrefix b c line
    → AppendsPrefix a c (printed bytes)
AppendsPrefix-printed a b c bytes done symbol rest line whole is first part =
    let sent = AppendsPrefix-append a b c (printed done) (printed symbol) first (rw is at part) in
    rw (whole, printed-append (done ++ symbol) rest, printed-append done symbol)
    (AppendsPrefix-longer a c (printed done ++ printed symbol) (printed rest) sent)

-- the contents of a fresh line after a symbol was pushed
pub pushed-printed : (pushed fresh symbol : List ℕ) → pushed ≡ fresh ++ printed symbol → fresh ≡ []
    → pushed ≡ printed symbol
pushed-printed pushed fresh symbol one two = one ∙ ap (λ items. items ++ printed symbol) two

-- a symbol taken from the rest of a text
pub append-chunk : (bytes done left symbol rest : List ℕ) → bytes ≡ done ++ left → left ≡ symbol ++ rest
    → bytes ≡ (done ++ symbol) ++ rest
append-chunk bytes done left symbol rest one two = one ∙ ap (λ l. done ++ l) two ∙ sym (append_assoc done symbol rest)

-- ---- how many bytes a text has on a display

-- a character that has at most three bytes
abbrev is_low : ℕ → ℕ → Bool
is_low byte character = nat_lt character 0x10000

all_low : list_all (λ e. is_low e.0 e.1) (entries_in more) ≡ true
all_low = refl

width-from_low : (character : ℕ) → nat_lt character 0x10000 ≡ true → len_utf8 character ≤ 3
width-from_low character low = grind (arith, low)

length-from_low : (character : ℕ) → nat_lt character 0x10000 ≡ true → length (encode_utf8 character) ≤ 3
length-from_low character low = rw (length-encode character) (width-from_low character low)

by_more : (byte : ℕ) (found : Option ℕ) → character_in more byte ≡ found
    → length (encode_utf8 (unwrap_or found replacement)) ≤ 3
by_more byte None is = length-from_low replacement refl
by_more byte (Some character) is = length-from_low character (holds_at_byte is_low more byte character all_low is)

by_table : (byte : ℕ) (found : Option ℕ) → character_of byte ≡ found
    → length (encode_utf8 (unwrap_or (option_or found (character_in more byte)) replacement)) ≤ 3
by_table byte None is = by_more byte (character_in more byte) refl
by_table byte (Some character) is = rw (length-encode character) (IsLawful-from_byte byte character is).width

-- a displayed byte has at most three bytes
pub length-displayed_byte : (byte : ℕ) → length (encode_utf8 (displayed_character byte)) ≤ 3
unfolding displayed_character
length-displayed_byte byte = by_table byte (character_of byte) refl

-- displayed bytes have at most three bytes each
pub length-displayed : (bytes : List ℕ) → length (displayed bytes) ≤ 3 * length bytes
length-displayed [] = omega arith
length-displayed (byte ∷ bytes) =
    let one = length-displayed_byte byte in
    omega (arith, length-displayed bytes, length-append (encode_utf8 (displayed_character byte)) (displayed bytes))
