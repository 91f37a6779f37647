-- Lemmas: digits are read one byte in a lane. A lane passes the tests only if its byte is a digit, and then has the
-- digit's value.
use Rattle.std.proofs.Common.{◌≡◌, ◌+◌, ◌*◌, ◌%◌, ◌^◌, ◌<◌, ◌∙◌, sym, Bool, ℕ, List, [], ◌∷◌, zero, suc, cond, ◌&&◌}
use Rattle.std.proofs.Common.{true, false, arith, refl, subst, bit_or, nat_eq, nat_lt, slice_index, inl, inr, Fits, w8}
use Rattle.std.proofs.Common.{get_or}
use Rattle.std.specs.Char.{digit_value}
use Rattle.std.proofs.lemmas.Bool.{cases_lt}
use Rattle.std.proofs.lemmas.Simd.{mask_l-mod}
use lib.Dec.{leb}
use lib.Lanes.{Each1, mask_l, top}
use Rattle.rds_io.specs.Digits.{HasWord}

abbrev digit_lane : ℕ → ℕ
digit_lane b = (b + 208) % 256

abbrev letter_lane : ℕ → ℕ
letter_lane b = (bit_or b 32 + 159) % 256

-- the test of a byte in the code, and the value that the code makes of it
abbrev pub passes : ℕ → Bool
passes b = top 7 (bit_or (cond (leb (digit_lane b) 9) 255 0) (cond (leb (letter_lane b) 5) 255 0))

abbrev pub lane : ℕ → ℕ
lane b = cond (top 7 (cond (leb (digit_lane b) 9) 255 0)) (digit_lane b) ((letter_lane b + 10) % 256)

-- the mask with each bit set
abbrev pub ones : List Bool → ℕ
ones [] = 0
ones (b ∷ bs) = 1 + 2 * ones bs

pub all_pass : (bs : List Bool) → mask_l bs ≡ ones bs → Each1 (λ b. b ≡ true) bs
all_pass [] e = tt
all_pass (true ∷ bs) e = (refl, all_pass bs (omega (arith, e)))
all_pass (false ∷ bs) e = absurd (omega (arith, e))

-- whether the code agrees with the definition at a byte; tried for each byte
abbrev agrees : ℕ → Bool
agrees b = cond (passes b) (nat_lt (digit_value b) 16 && nat_eq (lane b) (digit_value b)) true

abbrev agree_below : ℕ → Bool
agree_below zero = true
agree_below (suc n) = agrees n && agree_below n

bytes_agree : agree_below 256 ≡ true
bytes_agree = refl

both : (a b : Bool) → (a && b) ≡ true → (a ≡ true) × (b ≡ true)
both a b e = grind (arith)

agrees_at : (n b : ℕ) → agree_below n ≡ true → b < n → agrees b ≡ true
agrees_at zero b t h = absurd (omega arith)
agrees_at (suc n) b t h =
    let tests = both (agrees n) (agree_below n) t in
    elim (cases_lt b n) [
      | inl less ↦ agrees_at n b tests.1 less
      | inr last ↦ (let at : b ≡ n = omega arith in rw at tests.0)
    ]

abbrev IsDigitOf : ℕ → Type 0
IsDigitOf b = (digit_value b < 16) × (lane b ≡ digit_value b)

is_digit : (b : ℕ) → b < 256 → passes b ≡ true → IsDigitOf b
is_digit b small pass =
    let tests = both (nat_lt (digit_value b) 16) (nat_eq (lane b) (digit_value b))
    (subst (λ t. cond t (nat_lt (digit_value b) 16 && nat_eq (lane b) (digit_value b)) true ≡ true) pass
    (agrees_at 256 b bytes_agree small)) in
    (below _ _ tests.0, same _ _ tests.1)
  where
    below : (a c : ℕ) → nat_lt a c ≡ true → a < c
    below a c e = grind (arith)

    same : (a c : ℕ) → nat_eq a c ≡ true → a ≡ c
    same a c e = grind (arith)

-- the word of four lanes, as their weighed sums give it
abbrev pub weighed : ℕ → ℕ → ℕ → ℕ → ℕ
weighed a b c d = ((a * 16 + b * 1 + (c * 0 + d * 0)) * 256 % 4294967296 + (a * 0 + b * 0 + (c * 16 + d * 1))) %
    4294967296

weighed_is : (a b c d : ℕ) → a < 16 → b < 16 → c < 16 → d < 16 → weighed a b c d ≡ 4096 * a + 256 * b + 16 * c + d
weighed_is a b c d p q r s = omega (arith, p, q, r, s)

abbrev pub word_of : List ℕ → ℕ → ℕ
word_of text at = weighed (lane (slice_index text at)) (lane (slice_index text (at + 1)))
    (lane (slice_index text (at + 2))) (lane (slice_index text (at + 3)))

abbrev pub Passes : List ℕ → ℕ → Type 0
Passes text at = (slice_index text at < 256) × (passes (slice_index text at) ≡ true)

pub has_word : (text : List ℕ) (at : ℕ) → Passes text at → Passes text (at + 1) → Passes text (at + 2)
    → Passes text (at + 3) → HasWord text at (word_of text at)
has_word text at a b c d = grind (arith, is_digit, weighed_is)

-- a word that is read fits sixteen bits
pub word_fits : (text : List ℕ) (at : ℕ) → HasWord text at (word_of text at) → word_of text at < 65536
word_fits text at has = omega (arith, has.first, has.second, has.third, has.fourth, has.word)

-- the bytes of a line whose sixteen lanes all pass
abbrev pub AllPass : List ℕ → Type 0
AllPass text = mask_l (passes (slice_index text 0) ∷ passes (slice_index text 1) ∷ passes (slice_index text 2)
    ∷ passes (slice_index text 3) ∷ passes (slice_index text 5) ∷ passes (slice_index text 6)
    ∷ passes (slice_index text 7) ∷ passes (slice_index text 8) ∷ passes (slice_index text 10)
    ∷ passes (slice_index text 11) ∷ passes (slice_index text 12) ∷ passes (slice_index text 13)
    ∷ passes (slice_index text 15) ∷ passes (slice_index text 16) ∷ passes (slice_index text 17)
    ∷ passes (slice_index text 18) ∷ []) % 2 ^ 64 ≡ 65535

abbrev pub AreBytes : List ℕ → Type 0
AreBytes text = (i : ℕ) → Fits w8 (get_or text i 0)

abbrev pub HasFour : List ℕ → Type 0
HasFour text = HasWord text 0 (word_of text 0) × HasWord text 5 (word_of text 5) × HasWord text 10 (word_of text 10)
    × HasWord text 15 (word_of text 15)

-- four bytes that all pass are four digits
pub has_four : (text : List ℕ) → AreBytes text → AllPass text → HasFour text
has_four text bytes mask =
    let lanes = passes (slice_index text 0) ∷ passes (slice_index text 1) ∷ passes (slice_index text 2)
    ∷ passes (slice_index text 3) ∷ passes (slice_index text 5) ∷ passes (slice_index text 6)
    ∷ passes (slice_index text 7) ∷ passes (slice_index text 8) ∷ passes (slice_index text 10)
    ∷ passes (slice_index text 11) ∷ passes (slice_index text 12) ∷ passes (slice_index text 13)
    ∷ passes (slice_index text 15) ∷ passes (slice_index text 16) ∷ passes (slice_index text 17)
    ∷ passes (slice_index text 18) ∷ [] in
    let all = all_pass lanes (sym (mask_l-mod lanes 64 (omega arith)) ∙ mask) in (
      has_word text 0 ((bytes 0).fits, all.0) ((bytes 1).fits, all.1.0) ((bytes 2).fits, all.1.1.0)
          ((bytes 3).fits, all.1.1.1.0),
      has_word text 5 ((bytes 5).fits, all.1.1.1.1.0) ((bytes 6).fits, all.1.1.1.1.1.0)
          ((bytes 7).fits, all.1.1.1.1.1.1.0) ((bytes 8).fits, all.1.1.1.1.1.1.1.0),
      has_word text 10
          ((bytes 10).fits, all.1.1.1.1.1.1.1.1.0) ((bytes 11).fits, all.1.1.1.1.1.1.1.1.1.0)
          ((bytes 12).fits, all.1.1.1.1.1.1.1.1.1.1.0) ((bytes 13).fits, all.1.1.1.1.1.1.1.1.1.1.1.0),
      has_word text 15
          ((bytes 15).fits, all.1.1.1.1.1.1.1.1.1.1.1.1.0) ((bytes 16).fits, all.1.1.1.1.1.1.1.1.1.1.1.1.1.0)
          ((bytes 17).fits, all.1.1.1.1.1.1.1.1.1.1.1.1.1.1.0) ((bytes 18).fits, all.1.1.1.1.1.1.1.1.1.1.1.1.1.1.1.0),
    )
