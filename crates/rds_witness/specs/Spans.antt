-- How a command line writes slots to lose, as in `3-7,12`: spans with a comma between them, each its first and its last
-- slot, or its only one. Each span begins after the one before. This is the project's own format.
use Rattle.std.proofs.Common.{add-one, ap, refl}
use Rattle.std.specs.Prelude.{◌≡◌, ◌&&◌, ◌==◌, ◌++◌, ◌∷◌, ◌+◌, ◌-◌, ◌*◌, [], ℕ, Bool, List, Option, None, Some}
use Rattle.std.specs.Prelude.{if◌then◌else◌, length, nat_le, option_and_then, option_map, slice_index, suc, zero}
use Rattle.std.specs.Option.{option_map_or}
use Rattle.rds_witness.specs.declared.burst.Burst.{Burst}
use Rattle.rds_witness.specs.declared.spans.SpanReader.{SpanReader}

-- what is read of a text: the spans that ended, the slot after the last of them, the first slot of a span that goes on
-- after its `-`, and the number so far
pub record SpanReading : Type 0 where
  pub spans : List Burst
  pub next : ℕ
  pub first : Option ℕ
  pub number : Option ℕ

abbrev pub begun : SpanReading
begun = record { spans = []; next = 0; first = None; number = None }

-- the number if it is given, and else this one
abbrev pub given_or : Option ℕ → ℕ → ℕ
given_or given other = option_map_or (λ (n : ℕ). n) given other

-- one more digit of a number, which is below 2 ^ 32
abbrev pub with_digit : ℕ → SpanReading → Option SpanReading
with_digit digit r =
    let n = 10 * given_or r.number 0 + digit in
    if nat_le n 4294967295 then Some (record r { number = Some n }) else None

-- a `-` after the first slot of a span
abbrev pub with_first : Option ℕ → Option ℕ → SpanReading → Option SpanReading
with_first None (Some n) r = Some (record r { first = Some n; number = None })
with_first None None r = None
with_first (Some first) number r = None

-- one more span, which has a slot and begins after the one before
abbrev pub with_span : ℕ → ℕ → SpanReading → Option SpanReading
with_span first last r =
    if nat_le r.next first && nat_le first last
    then Some (record {
      spans = r.spans ++ record { first = first; last = last } ∷ [];
      next = last + 1;
      first = None;
      number = None;
    })
    else None

-- the end of a span
abbrev pub span_ended : SpanReading → Option SpanReading
span_ended r = option_and_then (λ (last : ℕ). with_span (given_or r.first last) last r) r.number

abbrev pub is_decimal : ℕ → Bool
is_decimal byte = nat_le 48 byte && nat_le byte 57

-- one more byte: a digit, `,` or `-`
abbrev pub with_byte : ℕ → SpanReading → Option SpanReading
with_byte byte r =
    if is_decimal byte then with_digit (byte - 48) r
    else if byte == 44 then span_ended r
    else if byte == 45 then with_first r.first r.number r
    else None

-- the first n bytes of a text
unfoldable pub read : List ℕ → ℕ → Option SpanReading
read text zero = Some begun
read text (suc n) = option_and_then (with_byte (slice_index text n)) (read text n)

pub read-none : (text : List ℕ) → read text 0 ≡ Some begun
unfolding read
read-none text = refl

pub read-more : (text : List ℕ) (n : ℕ)
    → read text (n + 1) ≡ option_and_then (with_byte (slice_index text n)) (read text n)
unfolding read
read-more text n = ap (read text) (add-one n)

-- the spans of a whole text
abbrev pub bursts_in : List ℕ → Option (List Burst)
bursts_in text = option_map (λ (r : SpanReading). r.spans) (option_and_then span_ended (read text (length text)))

-- what a reader has read
abbrev pub reading_of : SpanReader → SpanReading
reading_of r = record { spans = r.spans.items; next = r.next; first = r.first; number = r.number }

-- a reader read on, or could not
abbrev pub ReadsOn : Option SpanReading → Bool → SpanReader → Type 0
ReadsOn next good r = next ≡ (if good then Some (reading_of r) else None)
