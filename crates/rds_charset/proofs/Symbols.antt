-- Lemmas: a text has one list of symbols only, so it is read as at most one list of bytes, and stops at one place at
-- most.
use Rattle.std.proofs.Common.{◌≡◌, inl, inr, ◌+◌, ◌-◌, ◌*◌, ◌≤◌, ◌<◌, ℕ, List, [], ◌∷◌, ◌++◌, length, drop, refl, sym}
use Rattle.std.proofs.Common.{ap, ◌∙◌, arith, Some, None, encode_utf8, append_assoc, length-append, length-drop, IsUtf8}
use Rattle.std.proofs.Common.{◌↔◌, slice_index, take, Ok, Err, Result, chars}
use Rattle.std.proofs.lemmas.List.{drop_at, length-take, take-append-drop}
use Rattle.std.proofs.lemmas.Str.{encode_same, encode_ascii, length-encode, len_utf8_bounds, IsUtf8-past_char}
use Rattle.std.proofs.lemmas.Str.{IsCharBoundary-from_drop, IsUtf8-take, chars-append, chars_past_char, encodes-chars}
use Rattle.std.proofs.lemmas.Str.{length-le-encodes}
use Rattle.std.specs.Char.{digit_value}
use Rattle.rds_charset.proofs.Characters.{IsLawful-from_byte, IsLawful-from_character}
use Rattle.rds_charset.specs.ReadAs.{IsCharacter, IsEscape, IsSymbol, Begins, IsReadUpTo, IsReadAs, BeginsNoSymbol}
use Rattle.rds_charset.specs.ReadAs.{StopsAt, HasBadEscape, HasNoRoom, HasUnknownCharacter}
use Rattle.rds_charset.specs.Table.{character_of, byte_of}
use Rattle.rds_charset.specs.declared.reading.TextFault.{TextFault}
use Rattle.rds_charset.specs.declared.reading.TextFault.TheVariants.{BadEscape, NoSuchCharacter, NoRoom}
use Rattle.rds_charset.specs.Faults.{TextStopsBy}

-- ---- a text has one list of symbols only, so it is read as at most one list of bytes, and stops at one place at most

-- the backslash and the x as characters
backslash-first : (bs : List ℕ) → 0x5C ∷ bs ≡ encode_utf8 0x5C ++ bs
backslash-first bs = sym (ap (λ cs. cs ++ bs) (encode_ascii 0x5C (omega arith)))

x-first : (bs : List ℕ) → 0x78 ∷ bs ≡ encode_utf8 0x78 ++ bs
x-first bs = sym (ap (λ cs. cs ++ bs) (encode_ascii 0x78 (omega arith)))

-- no character of the table begins as an escape does
character_no_escape : (byte character : ℕ) (r s : List ℕ) → character_of byte ≡ Some character
    → encode_utf8 character ++ r ≡ 0x5C ∷ s → ⊥
character_no_escape byte character r s in_table same = (IsLawful-from_byte byte character in_table).no_backslash
    (encode_same character 0x5C r s (same ∙ backslash-first s)).0

pub record SameStart (a b : ℕ) (r s : List ℕ) : Type 0 where
  pub byte : a ≡ b
  pub rest : r ≡ s

-- two characters of the table
characters_same : (p q : List ℕ) (a b : ℕ) (r s : List ℕ) → IsCharacter p a → IsCharacter q b → p ++ r ≡ q ++ s
    → SameStart a b r s
characters_same p q a b r s one two same =
    let whole : encode_utf8 one.character ++ r ≡ encode_utf8 two.character ++ s = cc in
    let split = encode_same one.character two.character r s whole in
    let left = (IsLawful-from_byte a one.character one.in_table).of_character in
    let right = (IsLawful-from_byte b two.character two.in_table).of_character in
    record { byte = cc; rest = split.1 }

-- two escapes
escapes_same : (p q : List ℕ) (a b : ℕ) (r s : List ℕ) → IsEscape p a → IsEscape q b → p ++ r ≡ q ++ s
    → SameStart a b r s
escapes_same p q a b r s one two same = grind (arith)

-- one of each
character_and_escape : (p q : List ℕ) (a b : ℕ) (r s : List ℕ) → IsCharacter p a → IsEscape q b → p ++ r ≡ q ++ s → ⊥
character_and_escape p q a b r s one two same = grind (arith, character_no_escape)

symbols_same : (p q : List ℕ) (a b : ℕ) (r s : List ℕ) → IsSymbol p a → IsSymbol q b → p ++ r ≡ q ++ s
    → SameStart a b r s
symbols_same p q a b r s (inl one) (inl two) same = characters_same p q a b r s one two same
symbols_same p q a b r s (inr one) (inr two) same = escapes_same p q a b r s one two same
symbols_same p q a b r s (inl one) (inr two) same = absurd (character_and_escape p q a b r s one two same)
symbols_same p q a b r s (inr one) (inl two) same = absurd (character_and_escape q p b a s r two one (sym same))

-- a text begins with one symbol at most
pub Begins-same : (text : List ℕ) (a b : ℕ) (r s : List ℕ) → Begins text a r → Begins text b s → SameStart a b r s
Begins-same text a b r s one two = symbols_same one.symbol two.symbol a b r s one.is_symbol two.is_symbol (sym one.cut
    ∙ two.cut)

-- a symbol has a byte at least
IsSymbol-length : (p : List ℕ) (a : ℕ) → IsSymbol p a → 0 < length p
IsSymbol-length p a is = grind (arith, length-encode, len_utf8_bounds)

-- a text is shorter behind its first symbol
pub Begins-length : (text : List ℕ) (a : ℕ) (r : List ℕ) → Begins text a r → length r < length text
Begins-length text a r one =
    let some = IsSymbol-length one.symbol a one.is_symbol in
    omega (arith, ap length one.cut, length-append one.symbol r)

-- an empty text begins with no symbol
pub BeginsNoSymbol-nil : BeginsNoSymbol []
BeginsNoSymbol-nil byte rest one = (let some = Begins-length [] byte rest one in omega arith)

pub record SameReading (bs cs : List ℕ) (r s : List ℕ) : Type 0 where
  pub bytes : bs ≡ cs
  pub rest : r ≡ s

-- a text is read in one way as far as it can be read
pub IsReadUpTo-same : (text bs cs r s : List ℕ) → IsReadUpTo text bs r → IsReadUpTo text cs s → BeginsNoSymbol r
    → BeginsNoSymbol s → SameReading bs cs r s
IsReadUpTo-same text [] [] r s one two end_one end_two = record { bytes = refl; rest = sym one ∙ two }
IsReadUpTo-same text [] (c ∷ cs) r s one (after, begins, two) end_one end_two =
    absurd (end_one c after (rw one at begins))
IsReadUpTo-same text (b ∷ bs) [] r s (after, begins, one) two end_one end_two =
    absurd (end_two b after (rw two at begins))
IsReadUpTo-same text (b ∷ bs) (c ∷ cs) r s (first, begins, one) (second, also, two) end_one end_two =
    let start = Begins-same text b c first second begins also in
    search (arith, IsReadUpTo-same second bs cs r s (rw start.rest at one) two end_one end_two)

-- a text is read as at most one list of bytes
pub IsReadAs-same : (text bs cs : List ℕ) → IsReadAs text bs → IsReadAs text cs → bs ≡ cs
IsReadAs-same text bs cs one two = (IsReadUpTo-same text bs cs [] [] one two BeginsNoSymbol-nil
    BeginsNoSymbol-nil).bytes

-- one reading, and another of the rest
pub IsReadUpTo-append : (text bs mid cs rest : List ℕ) → IsReadUpTo text bs mid → IsReadUpTo mid cs rest
    → IsReadUpTo text (bs ++ cs) rest
IsReadUpTo-append text [] mid cs rest one two = (rw one two)
IsReadUpTo-append text (b ∷ bs) mid cs rest (after, begins, one) two =
    grind (arith, IsReadUpTo-append after bs mid cs rest one two)

-- and one symbol of the rest
pub IsReadUpTo-push : (text bs mid : List ℕ) (byte : ℕ) (rest : List ℕ) → IsReadUpTo text bs mid → Begins mid byte rest
    → IsReadUpTo text (bs ++ byte ∷ []) rest
IsReadUpTo-push text bs mid byte rest one begins = grind (arith, IsReadUpTo-append)

-- the rest is the end of the text
pub IsReadUpTo-length : (text bs rest : List ℕ) → IsReadUpTo text bs rest → length bs + length rest ≤ length text
IsReadUpTo-length text [] rest one = omega (arith, ap length one)
IsReadUpTo-length text (b ∷ bs) rest (after, begins, one) =
    omega (arith, Begins-length text b after begins, IsReadUpTo-length after bs rest one)

IsReadUpTo-cut : (text bs rest : List ℕ) → IsReadUpTo text bs rest → (read : List ℕ) × (text ≡ read ++ rest)
IsReadUpTo-cut text [] rest one = ([], one)
IsReadUpTo-cut text (b ∷ bs) rest (after, begins, one) =
    let later = IsReadUpTo-cut after bs rest one in
    (begins.symbol ++ later.0, rw append_assoc (begins.cut ∙ ap (λ t. begins.symbol ++ t) later.1))

-- the rest of a text is what stands behind the part that was read
pub IsReadUpTo-drop : (text bs rest : List ℕ) → IsReadUpTo text bs rest → drop (length text - length rest) text ≡ rest
IsReadUpTo-drop text bs rest one =
    let cut = IsReadUpTo-cut text bs rest one in
    let sum : length text ≡ length cut.0 + length rest = ap length cut.1 ∙ length-append cut.0 rest in
    search (arith, drop_at)

-- if the rest is not empty and begins with no symbol, the text stops there
pub StopsAt-rest : (text bs rest : List ℕ) → IsReadUpTo text bs rest → BeginsNoSymbol rest → 0 < length rest
    → StopsAt text (length text - length rest)
StopsAt-rest text bs rest one stuck some =
    let there = IsReadUpTo-drop text bs rest one in
    let room = IsReadUpTo-length text bs rest one in
    record { within = omega arith; bytes = bs; read = rw there one; stuck = rw there stuck }

-- reading stops at one place
pub StopsAt-same : (text : List ℕ) (p q : ℕ) → StopsAt text p → StopsAt text q → p ≡ q
StopsAt-same text p q one two =
    let same = IsReadUpTo-same text one.bytes two.bytes (drop p text) (drop q text) one.read two.read one.stuck
    two.stuck in
    omega (arith, ap length same.rest, length-drop p text, length-drop q text)

-- a text at which reading stops is not read
pub StopsAt-unread : (text : List ℕ) (p : ℕ) (bs : List ℕ) → StopsAt text p → IsReadAs text bs → ⊥
StopsAt-unread text p bs one two =
    let same = IsReadUpTo-same text one.bytes bs (drop p text) [] one.read two one.stuck BeginsNoSymbol-nil in
    omega (arith, ap length same.rest, length-drop p text)

-- what the code knows of the first character of a text, and the symbols that can begin there
digit_ascii : (digit : ℕ) → digit_value digit < 16 → digit < 128
digit_ascii digit small = grind (arith)

digit-first : (digit : ℕ) (rest : List ℕ) → digit_value digit < 16 → digit ∷ rest ≡ encode_utf8 digit ++ rest
digit-first digit rest small = sym (ap (λ cs. cs ++ rest) (encode_ascii digit (digit_ascii digit small)))

-- a first character that is a hexadecimal digit is its byte
pub first-digit : (text : List ℕ) (first : ℕ) (after : List ℕ) (digit : ℕ) (rest : List ℕ)
    → text ≡ encode_utf8 first ++ after → text ≡ digit ∷ rest → digit_value digit < 16 → first ≡ digit
first-digit text first after digit rest one two small = (encode_same first digit after rest (sym one ∙ two
    ∙ digit-first digit rest small)).0

-- a first character that is an x is its byte
pub first-x : (text : List ℕ) (first : ℕ) (after rest : List ℕ) → text ≡ encode_utf8 first ++ after → text ≡ 0x78 ∷ rest
    → first ≡ 0x78
first-x text first after rest one two = (encode_same first 0x78 after rest (sym one ∙ two ∙ x-first rest)).0

-- a text whose first character is an x begins with its byte
pub text-x : (text : List ℕ) (first : ℕ) (after : List ℕ) → text ≡ encode_utf8 first ++ after → first ≡ 0x78
    → text ≡ 0x78 ∷ after
text-x text first after one is = one ∙ ap (λ c. encode_utf8 c ++ after) is ∙ sym (x-first after)

-- a text whose first character is a backslash begins with its byte
pub text-backslash : (text : List ℕ) (first : ℕ) (after : List ℕ) → text ≡ encode_utf8 first ++ after → first ≡ 0x5C
    → text ≡ 0x5C ∷ after
text-backslash text first after one is = one ∙ ap (λ c. encode_utf8 c ++ after) is ∙ sym (backslash-first after)

-- a backslash without an x and two digits begins no symbol
pub BeginsNoSymbol-escape : (text : List ℕ)
    → ((high low : ℕ) (rest : List ℕ) → text ≡ 0x78 ∷ high ∷ low ∷ rest → digit_value high < 16 → digit_value low < 16
    → ⊥) → BeginsNoSymbol (0x5C ∷ text)
BeginsNoSymbol-escape text none byte rest one = elim one.is_symbol [
  | inl is ↦ character_no_escape byte is.character rest text is.in_table (cc)
  | inr is ↦ (
      let whole : 0x5C ∷ text ≡ 0x5C ∷ 0x78 ∷ is.high ∷ is.low ∷ rest = one.cut ∙ ap (λ t. t ++ rest) is.spelled in
      none is.high is.low rest (cc) is.high_digit is.low_digit)
]

-- a backslash with an x and two digits begins with the byte that they write
pub Begins-escape : (text rest : List ℕ) (high low : ℕ) → text ≡ 0x78 ∷ high ∷ low ∷ rest → digit_value high < 16
    → digit_value low < 16 → Begins (0x5C ∷ text) (16 * digit_value high + digit_value low) rest
Begins-escape text rest high low is first second =
    let known : IsSymbol (0x5C ∷ 0x78 ∷ high ∷ low ∷ []) (16 * digit_value high + digit_value low) = grind arith in
    record { symbol = 0x5C ∷ 0x78 ∷ high ∷ low ∷ []; cut = ap (λ t. 0x5C ∷ t) is; is_symbol = known }

-- a character that the table does not have begins no symbol
pub BeginsNoSymbol-character : (text : List ℕ) (first : ℕ) (after : List ℕ) → text ≡ encode_utf8 first ++ after
    → (first ≡ 0x5C → ⊥) → None ≡ byte_of first → BeginsNoSymbol text
BeginsNoSymbol-character text first after is other unknown byte rest one = elim one.is_symbol [
  | inl character ↦ (
      let split = encode_same first character.character after rest (cc) in
      let known = (IsLawful-from_byte byte character.character character.in_table).of_character in
      cc split.0)
  | inr escape ↦ (
      let tail = 0x78 ∷ escape.high ∷ escape.low ∷ rest in
      let whole = sym is ∙ one.cut ∙ ap (λ t. t ++ rest) escape.spelled in
      other (encode_same first 0x5C after tail (whole ∙ backslash-first tail)).0)
]

-- a character of the table begins with its byte
pub Begins-character : (text : List ℕ) (first : ℕ) (after : List ℕ) (byte : ℕ) → text ≡ encode_utf8 first ++ after
    → Some byte ≡ byte_of first → Begins text byte after
Begins-character text first after byte is known =
    let in_table = (IsLawful-from_character byte first (sym known)).of_byte in
    search arith

-- the rest after a symbol of a text is a text
pub Begins-IsUtf8 : (text : List ℕ) (byte : ℕ) (rest : List ℕ) → IsUtf8 text → Begins text byte rest → IsUtf8 rest
Begins-IsUtf8 text byte rest is one = elim one.is_symbol [
  | inl character ↦ IsUtf8-past_char text rest character.character is (one.cut ∙ ap (λ t. t ++ rest) character.spelled)
  | inr escape ↦ (
      let low = escape.low ∷ rest in
      let high = escape.high ∷ low in
      let whole = one.cut ∙ ap (λ t. t ++ rest) escape.spelled in
      let one_on = IsUtf8-past_char text (0x78 ∷ high) 0x5C is (whole ∙ backslash-first (0x78 ∷ high)) in
      let two_on = IsUtf8-past_char (0x78 ∷ high) high 0x78 one_on (x-first high) in
      let three_on = IsUtf8-past_char high low escape.high two_on (digit-first escape.high low escape.high_digit) in
      IsUtf8-past_char low rest escape.low three_on (digit-first escape.low rest escape.low_digit))
]

-- reading a text after its first symbol
pub IsReadAs-step : (text : List ℕ) (byte : ℕ) (rest bytes : List ℕ) → IsReadAs text bytes → Begins text byte rest
    → (later : List ℕ) × IsReadAs rest later × (length bytes ≡ 1 + length later)
IsReadAs-step text byte rest [] one begins = absurd (BeginsNoSymbol-nil byte rest (rw one at begins))
IsReadAs-step text byte rest (b ∷ bytes) (after, also, one) begins =
    (bytes, rw (Begins-same text b byte after rest also begins).rest at one, omega arith)

-- if no symbol begins it, the text is at its end
pub IsReadAs-end : (text bytes : List ℕ) → IsReadAs text bytes → BeginsNoSymbol text → text ≡ []
IsReadAs-end text [] one stuck = one
IsReadAs-end text (b ∷ bytes) (after, begins, one) stuck = absurd (stuck b after begins)

-- ---- reading a text ends in one way only, with its bytes or with its one fault

-- what a result means for the text
abbrev pub Outcome : List ℕ → ℕ → Result ℕ TextFault → Type 0
Outcome text room (Ok count) = (bytes : List ℕ) × IsReadAs text bytes × (length bytes ≤ room) × (length bytes ≡ count)
Outcome text room (Err (BadEscape place)) = HasBadEscape text place
Outcome text room (Err (NoSuchCharacter place)) = HasUnknownCharacter text place
Outcome text room (Err NoRoom) = HasNoRoom text room

-- reading ends with a bad escape exactly if the text has one
pub Outcome-bad_escape : (text : List ℕ) (room : ℕ) (r : Result ℕ TextFault) → Outcome text room r → (place : ℕ)
    → (r ≡ Err (BadEscape place)) ↔ HasBadEscape text place
Outcome-bad_escape text room (Ok count) o place = (λ e. cc, λ h. absurd (StopsAt-unread text place o.0 h.0 o.1))
Outcome-bad_escape text room (Err (BadEscape at)) o place = (
  λ e. (let same : at ≡ place = cc in rw same at o),
  λ h. ap (λ p. Err (BadEscape p)) (StopsAt-same text at place o.0 h.0),
)
Outcome-bad_escape text room (Err (NoSuchCharacter at)) o place =
    (λ e. cc, λ h. absurd (o.1 (ap (slice_index text) (StopsAt-same text at place o.0 h.0) ∙ h.1)))
Outcome-bad_escape text room (Err NoRoom) o place = (λ e. cc, λ h. absurd (StopsAt-unread text place o.0 h.0 o.1))

-- reading ends with an unknown character exactly if the text has one
pub Outcome-no_such_character : (text : List ℕ) (room : ℕ) (r : Result ℕ TextFault) → Outcome text room r → (place : ℕ)
    → (r ≡ Err (NoSuchCharacter place)) ↔ HasUnknownCharacter text place
Outcome-no_such_character text room (Ok count) o place = (λ e. cc, λ h. absurd (StopsAt-unread text place o.0 h.0 o.1))
Outcome-no_such_character text room (Err (BadEscape at)) o place =
    (λ e. cc, λ h. absurd (h.1 (ap (slice_index text) (sym (StopsAt-same text at place o.0 h.0)) ∙ o.1)))
Outcome-no_such_character text room (Err (NoSuchCharacter at)) o place = (
  λ e. (let same : at ≡ place = cc in rw same at o),
  λ h. ap (λ p. Err (NoSuchCharacter p)) (StopsAt-same text at place o.0 h.0),
)
Outcome-no_such_character text room (Err NoRoom) o place =
    (λ e. cc, λ h. absurd (StopsAt-unread text place o.0 h.0 o.1))

-- reading ends without room exactly if there is none
pub Outcome-no_room : (text : List ℕ) (room : ℕ) (r : Result ℕ TextFault) → Outcome text room r
    → (r ≡ Err NoRoom) ↔ HasNoRoom text room
Outcome-no_room text room (Ok count) o =
    (λ e. cc, λ h. absurd (omega (arith, o.2, h.2, ap length (IsReadAs-same text o.0 h.0 o.1 h.1))))
Outcome-no_room text room (Err (BadEscape at)) o = (λ e. cc, λ h. absurd (StopsAt-unread text at h.0 o.0 h.1))
Outcome-no_room text room (Err (NoSuchCharacter at)) o = (λ e. cc, λ h. absurd (StopsAt-unread text at h.0 o.0 h.1))
Outcome-no_room text room (Err NoRoom) o = (λ e. o, λ h. refl)

-- a text that fits is read
pub Outcome-read : (text : List ℕ) (room : ℕ) (r : Result ℕ TextFault) → Outcome text room r → (bytes : List ℕ)
    → IsReadAs text bytes → length bytes ≤ room → r ≡ Ok (length bytes)
Outcome-read text room (Ok count) o bytes is fits = ap Ok (sym o.3 ∙ ap length (IsReadAs-same text o.0 bytes o.1 is))
Outcome-read text room (Err (BadEscape at)) o bytes is fits = absurd (StopsAt-unread text at bytes o.0 is)
Outcome-read text room (Err (NoSuchCharacter at)) o bytes is fits = absurd (StopsAt-unread text at bytes o.0 is)
Outcome-read text room (Err NoRoom) o bytes is fits =
    absurd (omega (arith, o.2, ap length (IsReadAs-same text o.0 bytes o.1 is)))

-- the three ways in which the code comes to a result
pub Outcome-stopped : (text : List ℕ) (room : ℕ) (r : Result ℕ TextFault) (fault : TextFault) → r ≡ Err fault
    → TextStopsBy text fault → Outcome text room r
Outcome-stopped text room r fault is stops = grind (arith)

-- a text that is longer than the room is not read
pub Outcome-short : (text bytes : List ℕ) (room count : ℕ) → IsReadAs text bytes → length bytes ≡ count → room < count
    → Outcome text room (Err NoRoom)
Outcome-short text bytes room count is long short = (bytes, is, omega arith)

-- a text that was read fills the bytes
pub Outcome-filled : (text into : List ℕ) (room count : ℕ) → IsReadAs text (take count into) → count ≤ length into
    → length into ≡ room → Outcome text room (Ok count)
Outcome-filled text into room count is within same = grind (arith, length-take)

-- ---- how many characters come before the place at which reading a text stops

-- the characters before a place and those from there on are all of them
pub before_and_after : (text bs rest : List ℕ) → IsUtf8 text → IsUtf8 rest → IsReadUpTo text bs rest
    → length (chars text) ≡ length (chars (take (length text - length rest) text)) + length (chars rest)
before_and_after text bs rest whole left read =
    let n = length text - length rest in
    let there : drop n text ≡ rest = IsReadUpTo-drop text bs rest read in
    let boundary = IsCharBoundary-from_drop text n (omega arith) (rw there left) in
    let parts = chars-append (take n text) (drop n text) (IsUtf8-take text n whole boundary) in
    let all : chars text ≡ chars (take n text) ++ chars rest = rw (take-append-drop n text, there) at parts in
    ap length all ∙ length-append (chars (take n text)) (chars rest)

-- a text that begins with a character has at least one
pub some_character : (rest after : List ℕ) (c : ℕ) → IsUtf8 rest → rest ≡ encode_utf8 c ++ after
    → 0 < length (chars rest)
some_character rest after c utf8 begins = (let e = ap length (chars_past_char rest after c utf8 begins)
    in omega (arith, e))

-- and at least one byte
pub some_bytes : (rest : List ℕ) → IsUtf8 rest → 0 < length (chars rest) → 0 < length rest
some_bytes rest utf8 some = grind (arith, length-le-encodes, encodes-chars)
