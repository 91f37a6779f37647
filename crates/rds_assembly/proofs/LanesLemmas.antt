-- Lemmas about one bit of a mask of lanes, and of one that is spread over four places each.
use Rattle.std.proofs.Common.{◌≡◌, ℕ, zero, suc, ◌+◌, ◌-◌, ◌*◌, ◌/◌, ◌%◌, ◌^◌, ◌<◌, ◌≤◌, List, Bool, true, cond, map}
use Rattle.std.proofs.Common.{eqb, nat_eq, nat_lt, ◌&&◌, get_or, refl, sym, ap, ◌∙◌, inl, inr, bit_and, bit_or, arith}
use Rattle.std.specs.Int.{bit_at, from_bool}
use Rattle.std.proofs.Math.ListN.{get_or-map}
use Rattle.std.proofs.Math.Nat.{pow-suc}
use Rattle.std.proofs.lemmas.Bool.{cases_lt}
use Rattle.std.proofs.lemmas.Nat.{or_mod, or_shifted, pow_pos}
use Rattle.std.proofs.lemmas.Nat.Bits.{bit_at-zero, bit_at_above, bit_at_and, bit_at_cat_high, bit_at_cat_low}
use Rattle.std.proofs.lemmas.Nat.Bits.{bit_at_or, same_from_bits}
use Rattle.std.proofs.lemmas.Simd.{bit_mask_l}
use lib.Lanes.{mask_l}

one_or_zero : (b : Bool) → cond b 1 0 ≡ from_bool b
one_or_zero b = grind (arith)

-- a bit of the mask tells whether its byte is a carriage return
pub bit_at-mask : (bytes : List ℕ) (i : ℕ)
    → bit_at (mask_l (map (λ b. eqb b 13) bytes)) i ≡ from_bool (eqb (get_or bytes i 0) 13)
bit_at-mask bytes i =
    bit_mask_l (map (λ b. eqb b 13) bytes) i ∙ one_or_zero _ ∙ ap from_bool (get_or-map (λ b. eqb b 13) bytes i 0)

-- one step of the code on a mask
abbrev twice : ℕ → ℕ → ℕ
twice x s = bit_or x (x * 2 ^ s % 2 ^ 64)

abbrev half : ℕ → ℕ → ℕ → ℕ
half x s comb = bit_and (twice x s) comb

abbrev eights : ℕ → ℕ
eights x = half x 24 0x000000FF000000FF

abbrev fours : ℕ → ℕ
fours x = half x 12 0x000F000F000F000F

abbrev twos : ℕ → ℕ
twos x = half x 6 0x0303030303030303

abbrev ones : ℕ → ℕ
ones x = half x 3 0x1111111111111111

abbrev filled : ℕ → ℕ
filled x = twice (twice x 1) 2

abbrev pub wide : ℕ → ℕ
wide mask = filled (ones (twos (fours (eights mask))))

-- the step works on each bit alone
shift_low : (x s i : ℕ) → i < s → bit_at (x * 2 ^ s) i ≡ 0
shift_low x s i h = (let z : x * 2 ^ s ≡ x * 2 ^ s + 0 = omega arith in ap (λ n. bit_at n i) z ∙ bit_at_cat_low x s 0 i
    h ∙ bit_at-zero i)

shift_high : (x s i : ℕ) → s ≤ i → bit_at (x * 2 ^ s) i ≡ bit_at x (i - s)
shift_high x s i h = (let z : x * 2 ^ s ≡ x * 2 ^ s + 0 = omega arith in ap (λ n. bit_at n i) z ∙ bit_at_cat_high x s 0
    i (pow_pos s) h)

shift-or : (a b s : ℕ) → bit_or a b * 2 ^ s ≡ bit_or (a * 2 ^ s) (b * 2 ^ s)
shift-or a b s =
    same_from_bits _ _ (λ i. elim (cases_lt i s) [
      | inl l ↦ search (arith, shift_low, bit_at_or)
      | inr h ↦ search (arith, shift_high, bit_at_or)
    ])

or_crossed : (a b c d : ℕ) → bit_or (bit_or a b) (bit_or c d) ≡ bit_or (bit_or a c) (bit_or b d)
or_crossed a b c d = same_from_bits _ _ (λ i. grind (arith, bit_at_or))

twice-or : (a b s : ℕ) → twice (bit_or a b) s ≡ bit_or (twice a s) (twice b s)
twice-or a b s = search (arith, shift-or, or_mod, or_crossed)

and-or : (a b c : ℕ) → bit_and (bit_or a b) c ≡ bit_or (bit_and a c) (bit_and b c)
and-or a b c = same_from_bits _ _ (λ i. grind (arith, bit_at_or, bit_at_and))

half-or : (a b s comb : ℕ) → half (bit_or a b) s comb ≡ bit_or (half a s comb) (half b s comb)
half-or a b s comb = rw (twice-or a b s) (and-or (twice a s) (twice b s) comb)

wide-or : (a b : ℕ) → wide (bit_or a b) ≡ bit_or (wide a) (wide b)
wide-or a b =
    ap (λ x. filled (ones (twos (fours x)))) (half-or a b 24 0x000000FF000000FF)
    ∙ ap (λ x. filled (ones (twos x))) (half-or (eights a) (eights b) 12 0x000F000F000F000F)
    ∙ ap (λ x. filled (ones x)) (half-or (fours (eights a)) (fours (eights b)) 6 0x0303030303030303)
    ∙ ap filled (half-or (twos (fours (eights a))) (twos (fours (eights b))) 3 0x1111111111111111)
    ∙ ap (λ x. twice x 2) (twice-or (ones (twos (fours (eights a)))) (ones (twos (fours (eights b)))) 1)
    ∙ twice-or (twice (ones (twos (fours (eights a)))) 1) (twice (ones (twos (fours (eights b)))) 1) 2

-- each bit of the mask has four places
abbrev IsWide : ℕ → Type 0
IsWide mask = (i : ℕ) → bit_at (wide mask) i ≡ bit_at mask (i / 4)

wide_both : (a b : ℕ) → IsWide a → IsWide b → IsWide (bit_or a b)
wide_both a b p q i = grind (arith, wide-or, bit_at_or)

smaller : (a b : ℕ) → nat_lt a b ≡ true → a < b
smaller a b e = grind (arith)

both : (a b : Bool) → (a && b) ≡ true → (a ≡ true) × (b ≡ true)
both a b e = grind (arith)

abbrev agree : ℕ → ℕ → ℕ → Bool
agree mask spread zero = true
agree mask spread (suc i) = nat_eq (bit_at spread i) (bit_at mask (i / 4)) && agree mask spread i

agree_at : (mask spread n : ℕ) → agree mask spread n ≡ true → (i : ℕ) → i < n → bit_at spread i ≡ bit_at mask (i / 4)
agree_at mask spread zero t i h = absurd (omega arith)
agree_at mask spread (suc n) t i h = grind (arith, agree_at mask spread n)

abbrev is_wide : ℕ → ℕ → Bool
is_wide mask spread = nat_lt mask 65536 && (nat_lt spread 18446744073709551616 && agree mask spread 64)

abbrev are_wide : ℕ → Bool
are_wide zero = true
are_wide (suc a) = is_wide (2 ^ a) (wide (2 ^ a)) && are_wide a

sixteen_are_wide : are_wide 16 ≡ true
sixteen_are_wide = refl

tried : (mask spread : ℕ) → is_wide mask spread ≡ true → (i : ℕ) → bit_at spread i ≡ bit_at mask (i / 4)
tried mask spread t i =
    let tests = both (nat_lt mask 65536) (nat_lt spread 18446744073709551616 && agree mask spread 64) t in
    let others = both (nat_lt spread 18446744073709551616) (agree mask spread 64) tests.1 in
    elim (cases_lt i 64) [
      | inl l ↦ agree_at mask spread 64 others.1 i l
      | inr h ↦ bit_at_above spread 64 i (smaller _ _ others.0) h
          ∙ sym (bit_at_above mask 16 (i / 4) (smaller _ _ tests.0) (omega arith))
    ]

wide_alone : (a n : ℕ) → are_wide n ≡ true → a < n → IsWide (2 ^ a)
wide_alone a zero t h = absurd (omega arith)
wide_alone a (suc n) t h =
    let tests = both (is_wide (2 ^ n) (wide (2 ^ n))) (are_wide n) t in
    elim (cases_lt a n) [
      | inl less ↦ wide_alone a n tests.1 less
      | inr last ↦ (let at : a ≡ n = omega arith in rw at (tried (2 ^ n) (wide (2 ^ n)) tests.0))
    ]

-- any mask of sixteen bits is one bit and a shorter mask, or none
wide_below : (n mask : ℕ) → n ≤ 16 → mask < 2 ^ n → IsWide mask
wide_below zero mask h l = (let none : mask ≡ 0 = omega arith in rw none (λ i. bit_at-zero i
    ∙ sym (bit_at-zero (i / 4))))
wide_below (suc n) mask h l =
    elim (cases_lt mask (2 ^ n)) [
      | inl less ↦ wide_below n mask (omega arith) less
      | inr more ↦
          (let twice : 2 ^ suc n ≡ 2 ^ n * 2 = pow-suc 2 n in
          let rest : mask - 2 ^ n < 2 ^ n = omega arith in
          let sum : mask ≡ 1 * 2 ^ n + (mask - 2 ^ n) = omega arith in
          let one : 1 * 2 ^ n ≡ 2 ^ n = omega arith in
          let split : mask ≡ bit_or (2 ^ n) (mask - 2 ^ n) = search (arith, or_shifted) in
          rw split (wide_both (2 ^ n) (mask - 2 ^ n) (wide_alone n 16 sixteen_are_wide (omega arith))
          (wide_below n (mask - 2 ^ n) (omega arith) rest)))
    ]

-- a bit of the wide mask is that of its segment
pub spread_all : (mask : ℕ) → mask < 65536 → (i : ℕ) → bit_at (wide mask) i ≡ bit_at mask (i / 4)
spread_all mask fits = wide_below 16 mask (omega arith) fits
