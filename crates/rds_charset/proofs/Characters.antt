-- Lemmas: the rules of the table, computed over all of it, and what each says of one entry.
use Rattle.std.proofs.Common.{◌≡◌, ◌+◌, ◌-◌, ◌≤◌, ◌<◌, ◌==◌, ℕ, zero, suc, Bool, true, false, not, ◌&&◌, List, [], ◌∷◌}
use Rattle.std.proofs.Common.{◌++◌, length, get_or, drop, map, refl, sym, ap, ◌∙◌, nat_le, nat_lt, arith, Option, Some}
use Rattle.std.proofs.Common.{None, slice_get, if◌then◌else◌, position, option_map}
use Rattle.std.proofs.lemmas.Bool.Decides.{nat_tests}
use Rattle.std.proofs.lemmas.List.{at_drop_more}
use Rattle.std.proofs.lemmas.List.Folds.{list_all-append, list_all-map, list_all_at}
use Rattle.std.proofs.lemmas.Bool.{and_parts}
use Rattle.std.proofs.lemmas.List.Quantifiers.{position-Some}
use Rattle.std.specs.Char.{len_utf8}
use Rattle.std.specs.List.{list_all, enumerate_from}
use Rattle.std.proofs.lemmas.Option.{slice_get-get_or}
use Rattle.rds_charset.specs.declared.table.CodeRange.{CodeRange as HeldRange}
use Rattle.rds_charset.specs.Ranges.{range_of}
use Rattle.rds_charset.specs.Table.{CodeRange, FitsInBytes, table, character_in, character_at, character_of}
use Rattle.rds_charset.specs.Table.{byte_in, byte_at, byte_of}

-- the range at hand has the byte, or the search goes on in the ones after it
pub character_in-found : (ranges : List HeldRange) (i : ℕ) (d : HeldRange) (byte character : ℕ)
    → i < length ranges → character_at (range_of (get_or ranges i d)) byte ≡ Some character
    → character_in (map range_of (drop i ranges)) byte ≡ Some character
character_in-found ranges i d byte character within here =
    rw (at_drop_more (λ rest. character_in (map range_of rest) byte) ranges i d within, here)

-- a range without the byte is passed
pub character_in-passed : (ranges : List HeldRange) (i : ℕ) (d : HeldRange) (byte : ℕ) → i < length ranges
    → character_at (range_of (get_or ranges i d)) byte ≡ None
    → character_in (map range_of (drop i ranges)) byte ≡ character_in (map range_of (drop (i + 1) ranges))
    byte
character_in-passed ranges i d byte within here =
    rw (at_drop_more (λ rest. character_in (map range_of rest) byte) ranges i d within, here)

-- the same for a character
pub byte_in-found : (ranges : List HeldRange) (i : ℕ) (d : HeldRange) (character byte : ℕ) → i < length ranges
    → byte_at (range_of (get_or ranges i d)) character ≡ Some byte
    → byte_in (map range_of (drop i ranges)) character ≡ Some byte
byte_in-found ranges i d character byte within here =
    rw (at_drop_more (λ rest. byte_in (map range_of rest) character) ranges i d within, here)

-- a range without the character is passed
pub byte_in-passed : (ranges : List HeldRange) (i : ℕ) (d : HeldRange) (character : ℕ) → i < length ranges
    → byte_at (range_of (get_or ranges i d)) character ≡ None
    → byte_in (map range_of (drop i ranges)) character ≡ byte_in (map range_of (drop (i + 1) ranges))
    character
byte_in-passed ranges i d character within here =
    rw (at_drop_more (λ rest. byte_in (map range_of rest) character) ranges i d within, here)

-- whether the range has only bytes up to 255
abbrev fits : CodeRange → Bool
fits range = nat_le (range.0 + length range.1) 256

FitsInBytes-from_fits : (range : CodeRange) (b : Bool) → fits range ≡ b → (b ≡ false → list_all fits table ≡ false)
    → FitsInBytes range
FitsInBytes-from_fits range b is unfit = grind (arith)

-- each range of the table fits in bytes
pub held-FitsInBytes : (ranges : List HeldRange) (i : ℕ) (d : HeldRange) → map range_of ranges ≡ table
    → i < length ranges → FitsInBytes (range_of (get_or ranges i d))
held-FitsInBytes ranges i d are within = FitsInBytes-from_fits (range_of (get_or ranges i d))
    (fits (range_of (get_or ranges i d))) refl
    (λ unfit. ap (list_all fits) (sym are) ∙ list_all-map fits range_of ranges
    ∙ list_all_at (λ range. fits (range_of range)) ranges i d within unfit)

-- all bytes that have a character, with that character
abbrev pub entries_in : List CodeRange → List (ℕ × ℕ)
entries_in [] = []
entries_in (range ∷ ranges) = enumerate_from range.0 range.1 ++ entries_in ranges

-- if a test holds for all entries, it holds for one
holds_in_range : (test : ℕ → ℕ → Bool) (first : ℕ) (characters : List ℕ) (place character : ℕ)
    → list_all (λ e. test e.0 e.1) (enumerate_from first characters) ≡ true
    → slice_get characters place ≡ Some character → test (first + place) character ≡ true
holds_in_range test first [] place character all here = absurd (cc)
holds_in_range test first (known ∷ characters) zero character all here = grind (arith)
holds_in_range test first (known ∷ characters) (suc place) character all here =
    let sum : first + suc place ≡ first + 1 + place = omega arith in
    rw sum (holds_in_range test (first + 1) characters place character (and_parts _ _ all).1 here)

holds_at_range : (test : ℕ → ℕ → Bool) (range : CodeRange) (ranges : List CodeRange) (place character : ℕ)
    → list_all (λ e. test e.0 e.1) (entries_in (range ∷ ranges)) ≡ true
    → slice_get range.1 place ≡ Some character → test (range.0 + place) character ≡ true
holds_at_range test range ranges place character all here = grind (arith, holds_in_range, list_all-append)

holds_at_rest : (test : ℕ → ℕ → Bool) (range : CodeRange) (ranges : List CodeRange)
    → list_all (λ e. test e.0 e.1) (entries_in (range ∷ ranges)) ≡ true
    → list_all (λ e. test e.0 e.1) (entries_in ranges) ≡ true
holds_at_rest test range ranges all = grind (arith, list_all-append)

found_at : (test : ℕ → ℕ → Bool) (range : CodeRange) (ranges : List CodeRange) (byte character : ℕ)
    → list_all (λ e. test e.0 e.1) (entries_in (range ∷ ranges)) ≡ true → (b : Bool) → nat_le range.0 byte ≡ b
    → (if b then slice_get range.1 (byte - range.0) else None) ≡ Some character → test byte character ≡ true
found_at test range ranges byte character all b is here = grind (arith, holds_at_range)

-- a test that all entries pass is passed at each byte
pub holds_at_byte : (test : ℕ → ℕ → Bool) (ranges : List CodeRange) (byte character : ℕ)
    → list_all (λ e. test e.0 e.1) (entries_in ranges) ≡ true → character_in ranges byte ≡ Some character
    → test byte character ≡ true
holds_at_byte test [] byte character all here = absurd (cc)
holds_at_byte test (range ∷ ranges) byte character all here =
    let rest = holds_at_rest test range ranges all in
    grind (arith, holds_at_byte test ranges byte character rest, found_at)

placed_at : (test : ℕ → ℕ → Bool) (range : CodeRange) (ranges : List CodeRange) (character byte : ℕ)
    → list_all (λ e. test e.0 e.1) (entries_in (range ∷ ranges)) ≡ true → byte_at range character ≡ Some byte
    → test byte character ≡ true
placed_at test range ranges character byte all here = by (position (λ known. known == character) range.1) refl here
  where
    by : (found : Option ℕ) → position (λ known. known == character) range.1 ≡ found
        → option_map (λ place. range.0 + place) found ≡ Some byte → test byte character ≡ true
    by None none here = absurd (cc)
    by (Some place) some here =
        let at_place = position-Some (λ known. known == character) range.1 place 0 some in
        search (arith, slice_get-get_or, holds_at_range)

holds_at_character : (test : ℕ → ℕ → Bool) (ranges : List CodeRange) (character byte : ℕ)
    → list_all (λ e. test e.0 e.1) (entries_in ranges) ≡ true → byte_in ranges character ≡ Some byte
    → test byte character ≡ true
holds_at_character test [] character byte all here = absurd (cc)
holds_at_character test (range ∷ ranges) character byte all here =
    let rest = holds_at_rest test range ranges all in
    grind (arith, holds_at_character test ranges character byte rest, placed_at)

abbrev is_number : Option ℕ → ℕ → Bool
is_number None n = false
is_number (Some m) n = m == n

is_number-Some : (found : Option ℕ) (n : ℕ) → is_number found n ≡ true → found ≡ Some n
is_number-Some found n is = grind (arith)

-- the rules: the byte of an entry is below 256; its character is not a backslash, has at most three bytes and is not
-- half of a pair; and neither is in another entry
abbrev is_lawful : ℕ → ℕ → Bool
is_lawful byte character = (nat_lt byte 256 && not (character == 0x5C))
    && (nat_lt character 0xD800 && (is_number (character_in table byte) character && is_number (byte_in table character)
    byte))

all_lawful : list_all (λ e. is_lawful e.0 e.1) (entries_in table) ≡ true
all_lawful = refl

-- the rules for a byte and its character
pub record IsLawful (byte character : ℕ) : Type 0 where
  pub in_range : byte < 256
  pub no_backslash : character ≡ 0x5C → ⊥
  pub in_low_plane : character < 0xD800
  pub width : len_utf8 character ≤ 3
  pub of_byte : character_of byte ≡ Some character
  pub of_character : byte_of character ≡ Some byte

IsLawful-from_test : (byte character : ℕ) → is_lawful byte character ≡ true → IsLawful byte character
unfolding character_of byte_of
IsLawful-from_test byte character holds =
    let (first, second) = and_parts (nat_lt byte 256 && not (character == 0x5C)) _ holds in
    let (low_test, numbers) = and_parts (nat_lt character 0xD800) _ second in
    let (of_byte, of_character) = and_parts (is_number (character_in table byte) character) _ numbers in
    let low : character < 0xD800 = grind (arith, nat_tests, low_test) in
    record {
      in_range = grind (arith, nat_tests, first);
      no_backslash = λ same. grind (arith, nat_tests, first, same);
      in_low_plane = low;
      width = grind (arith, nat_tests, low);
      of_byte = is_number-Some _ _ of_byte;
      of_character = is_number-Some _ _ of_character;
    }

-- the character of a byte is lawful
pub IsLawful-from_byte : (byte character : ℕ) → character_of byte ≡ Some character → IsLawful byte character
unfolding character_of
IsLawful-from_byte byte character here = IsLawful-from_test byte character (holds_at_byte is_lawful table byte character
    all_lawful here)

-- the byte of a character is lawful
pub IsLawful-from_character : (byte character : ℕ) → byte_of character ≡ Some byte → IsLawful byte character
unfolding byte_of
IsLawful-from_character byte character here = IsLawful-from_test byte character (holds_at_character is_lawful table
    character byte all_lawful here)
