-- Lemmas about reading and writing by shifts and masks.
use Rattle.std.proofs.Common.{◌≡◌, ℕ, ◌+◌, ◌*◌, ◌<◌, ◌%◌, ◌^◌, nat_eq, bit_and, bit_or, refl, arith}
use Rattle.std.specs.Int.{from_bool}
use Rattle.std.proofs.lemmas.Nat.{and_mask}
use mathlib.Core.Bool.{not}
use Rattle.rds_block.specs.SecondWord.{or_above}
use Rattle.rds_fields.specs.Bits.{Sent, FitsBits, field_bits}
use Rattle.rds_fields.specs.Meaning.{sent_in}

-- the fields of a number fit their bits
pub fields-fit : (n : ℕ) → FitsBits (sent_in n)
fields-fit n = grind (arith)

-- the bits of the fields of a number are the number
pub bits_of-fields : (n : ℕ) → n < 2 ^ 37 → n ≡ field_bits (sent_in n)
bits_of-fields n h = omega arith

-- for a bit b: whether b is not 0, as a number, is b
from_bool-not_zero : (b : ℕ) → b < 2 → from_bool (not (nat_eq b 0)) ≡ b
from_bool-not_zero b h = grind (arith)

-- a test of the lowest bit gives that bit
pub low_bit : (n : ℕ) → from_bool (not (nat_eq (bit_and n 1) 0)) ≡ n % 2
low_bit n = rw (and_mask n 1) (from_bool-not_zero (n % 2) (omega arith))

-- joining the eight fields gives their number
pub fields_joined : (s : Sent) → FitsBits s →
    bit_or (bit_or (bit_or (bit_or (bit_or (bit_or (bit_or (s.toggle * 2 ^ 36 % 2 ^ 64) (s.running * 2 ^ 35 % 2 ^ 64))
    (s.class_one * 2 ^ 29 % 2 ^ 64)) (s.start_one * 2 ^ 23 % 2 ^ 64)) (s.extra_one * 2 ^ 17 % 2 ^ 64))
    (s.class_two * 2 ^ 11 % 2 ^ 64)) (s.start_two * 2 ^ 5 % 2 ^ 64)) s.extra_two
    ≡ field_bits s
fields_joined s h =
    let t : s.toggle * 2 ^ 36 % 2 ^ 64 ≡ s.toggle * 2 ^ 36 = omega arith in
    let r : s.running * 2 ^ 35 % 2 ^ 64 ≡ s.running * 2 ^ 35 = omega arith in
    let k1 : s.class_one * 2 ^ 29 % 2 ^ 64 ≡ s.class_one * 2 ^ 29 = omega arith in
    let s1 : s.start_one * 2 ^ 23 % 2 ^ 64 ≡ s.start_one * 2 ^ 23 = omega arith in
    let x1 : s.extra_one * 2 ^ 17 % 2 ^ 64 ≡ s.extra_one * 2 ^ 17 = omega arith in
    let k2 : s.class_two * 2 ^ 11 % 2 ^ 64 ≡ s.class_two * 2 ^ 11 = omega arith in
    let s2 : s.start_two * 2 ^ 5 % 2 ^ 64 ≡ s.start_two * 2 ^ 5 = omega arith in
    let a1 = s.toggle * 2 ^ 36 in
    let a2 = a1 + s.running * 2 ^ 35 in
    let a3 = a2 + s.class_one * 2 ^ 29 in
    let a4 = a3 + s.start_one * 2 ^ 23 in
    let a5 = a4 + s.extra_one * 2 ^ 17 in
    let a6 = a5 + s.class_two * 2 ^ 11 in
    let a7 = a6 + s.start_two * 2 ^ 5 in
    let n2 = 2 * s.toggle + s.running in
    let n3 = 64 * n2 + s.class_one in
    let n4 = 64 * n3 + s.start_one in
    let n5 = 64 * n4 + s.extra_one in
    let n6 = 64 * n5 + s.class_two in
    let n7 = 64 * n6 + s.start_two in
    let e1 : bit_or a1 (s.running * 2 ^ 35) ≡ a2 = or_above 36 s.toggle _ a1 refl (omega arith) in
    let e2 : bit_or a2 (s.class_one * 2 ^ 29) ≡ a3 = or_above 35 n2 _ a2 (omega arith) (omega arith) in
    let e3 : bit_or a3 (s.start_one * 2 ^ 23) ≡ a4 = or_above 29 n3 _ a3 (omega arith) (omega arith) in
    let e4 : bit_or a4 (s.extra_one * 2 ^ 17) ≡ a5 = or_above 23 n4 _ a4 (omega arith) (omega arith) in
    let e5 : bit_or a5 (s.class_two * 2 ^ 11) ≡ a6 = or_above 17 n5 _ a5 (omega arith) (omega arith) in
    let e6 : bit_or a6 (s.start_two * 2 ^ 5) ≡ a7 = or_above 11 n6 _ a6 (omega arith) (omega arith) in
    let e7 : bit_or a7 s.extra_two ≡ a7 + s.extra_two = or_above 5 n7 _ a7 (omega arith) (omega arith) in
    rw (t, r, k1, s1, x1, k2, s2, e1, e2, e3, e4, e5, e6, e7) (omega arith)
