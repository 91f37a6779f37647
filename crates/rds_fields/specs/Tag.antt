-- A tag marks a piece of the text. It has a class, a start (the place of the first character, from 0) and a length
-- marker (the number of characters less one) (IEC 62106-6, RadioText Plus).
use Rattle.std.specs.Prelude.{◌≡◌, ◌+◌, ◌<◌, ◌==◌, ◌||◌, ◌&&◌, ℕ, List, Bool, true, Option, Some, None, length, take}
use Rattle.std.specs.Prelude.{drop, nat_le, nat_lt, if◌then◌else◌}
use Rattle.rds_fields.specs.declared.pair.Which.{Which}
use Rattle.rds_fields.specs.declared.pair.Which.TheVariants.{One, Two}

-- the three numbers of a tag
pub record TagFields : Type 0 where
  pub class : ℕ
  pub start : ℕ
  pub extra : ℕ

-- the two item bits and the two tags
pub record PairFields : Type 0 where
  pub toggle : Bool
  pub running : Bool
  pub one : TagFields
  pub two : TagFields

-- each number has six bits, and a tag of class 0 (the dummy) is all zeros
pub record IsTag (t : TagFields) : Type 0 where
  pub class : t.class < 64
  pub start : t.start < 64
  pub extra : t.extra < 64
  pub dummy_start : t.class ≡ 0 → t.start ≡ 0
  pub dummy_extra : t.class ≡ 0 → t.extra ≡ 0

-- both tags are valid, and the length marker of the second one has five bits
pub record IsPair (p : PairFields) : Type 0 where
  pub one : IsTag p.one
  pub two : IsTag p.two
  pub short : p.two.extra < 32

-- this tag of the two
abbrev pub tag_in : Which → PairFields → TagFields
tag_in One pair = pair.one
tag_in Two pair = pair.two

-- the place after the last character of the piece
abbrev pub end_of : TagFields → ℕ
end_of tag = tag.start + tag.extra + 1

-- whether the tag ends in a text of n characters; the dummy ends in every text
abbrev pub ends_in : ℕ → TagFields → Bool
ends_in n tag = tag.class == 0 || nat_le (end_of tag) n

-- both tags of a pair end in a text of n characters
pub record BothEndIn (n : ℕ) (pair : PairFields) : Type 0 where
  pub one : ends_in n pair.one ≡ true
  pub two : ends_in n pair.two ≡ true

-- the piece of the text that a tag marks; none for the dummy, or if the tag does not end in the text
abbrev pub piece_in : List ℕ → TagFields → Option (List ℕ)
piece_in text tag =
    if nat_lt 0 tag.class && ends_in (length text) tag
    then Some (take (tag.extra + 1) (drop tag.start text))
    else None
