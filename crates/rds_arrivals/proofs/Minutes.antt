-- Lemmas: a minute depends on its sixteen bytes alone.
use Rattle.std.proofs.Common.{◌≡◌, ◌+◌, ◌*◌, ◌%◌, ◌^◌, ◌<◌, ◌≤◌, ◌∙◌, ℕ, zero, suc, true, List, [], ◌∷◌}
use Rattle.std.proofs.Common.{refl, sym, ap, arith, cond, length, map, nat_eq, nat_lt, slice_index, take, drop, w8}
use Rattle.std.proofs.lemmas.Simd.{mask_l-mod, tops_compared}
use Rattle.std.proofs.lemmas.List.{get_or-drop, get_or-take, length-drop, length-take-le}
use lib.Lanes.{mask_l, top, zip2}
use Rattle.rds_arrivals.specs.Stamps.{date_at, day_minute_at, digit_at, has, minute_at, two_at}

-- the sixteen bytes at a place
abbrev pub sixteen : List ℕ → ℕ → List ℕ
sixteen t p = take 16 (drop p t)

sixteen_long : (t : List ℕ) (p : ℕ) → p + 16 ≤ length t → length (sixteen t p) ≡ 16
sixteen_long t p h = length-take-le 16 (drop p t) (let left = length-drop p t in omega (arith, left, h))

byte_same : (t : List ℕ) (p i k : ℕ) → i ≡ p + k → k < 16 → slice_index t i ≡ slice_index (sixteen t p) k
byte_same t p i k at h = ap (slice_index t) at ∙ sym (get_or-take 16 (drop p t) k 0 h ∙ get_or-drop p t k 0)

here : (t : List ℕ) (i : ℕ) → i < length t → nat_lt i (length t) ≡ true
here t i h = grind (arith)

digit_same : (t : List ℕ) (p i k : ℕ) → i ≡ p + k → k < 16 → p + 16 ≤ length t → digit_at t i ≡ digit_at (sixteen t p) k
digit_same t p i k at h long =
    let one = here t i (omega arith) in
    let other = here (sixteen t p) k (omega (arith, sixteen_long t p long)) in
    rw (one, other, byte_same t p i k at h)

two_same : (t : List ℕ) (p i k : ℕ) → i ≡ p + k → k + 1 < 16 → p + 16 ≤ length t → two_at t i ≡ two_at (sixteen t p) k
two_same t p i k at h long =
    rw (digit_same t p i k at (omega (arith, h)) long, digit_same t p (i + 1) (k + 1) (omega (arith, at)) h long) refl

has_same : (t : List ℕ) (p i k byte : ℕ) → i ≡ p + k → k < 16 → p + 16 ≤ length t
    → has t i byte ≡ has (sixteen t p) k byte
has_same t p i k byte at h long =
    let one = here t i (omega arith) in
    let other = here (sixteen t p) k (omega (arith, sixteen_long t p long)) in
    rw (one, other, byte_same t p i k at h)

date_same : (t : List ℕ) (p : ℕ) → p + 16 ≤ length t → date_at t p ≡ date_at (sixteen t p) 0
date_same t p long =
    rw (
      two_same t p p 0 (omega arith) (omega arith) long,
      two_same t p (p + 2) 2 refl (omega arith) long,
      two_same t p (p + 5) 5 refl (omega arith) long,
      two_same t p (p + 8) 8 refl (omega arith) long,
      has_same t p (p + 4) 4 47 refl (omega arith) long,
      has_same t p (p + 4) 4 45 refl (omega arith) long,
      has_same t p (p + 7) 7 47 refl (omega arith) long,
      has_same t p (p + 7) 7 45 refl (omega arith) long,
    ) refl

day_minute_same : (t : List ℕ) (p i k : ℕ) → i ≡ p + k → k + 4 < 16 → p + 16 ≤ length t
    → day_minute_at t i ≡ day_minute_at (sixteen t p) k
day_minute_same t p i k at h long =
    rw (
      two_same t p i k at (omega (arith, h)) long,
      two_same t p (i + 3) (k + 3) (omega (arith, at)) (omega (arith, h)) long,
      has_same t p (i + 2) (k + 2) 58 (omega (arith, at)) (omega (arith, h)) long,
    ) refl

-- the minute of a text is that of its sixteen bytes at the place
pub minute_same : (t : List ℕ) (p : ℕ) → p + 16 ≤ length t → minute_at t p ≡ minute_at (sixteen t p) 0
minute_same t p long =
    rw (
      date_same t p long,
      day_minute_same t p (p + 11) 11 refl (omega arith) long,
      has_same t p (p + 10) 10 32 refl (omega arith) long,
      has_same t p (p + 10) 10 84 refl (omega arith) long,
    ) refl

-- ---- sixteen bytes compared at once, each in a lane

-- n bits that are all set
abbrev pub ones : ℕ → ℕ
ones zero = 0
ones (suc n) = 1 + 2 * ones n

-- if all lanes are equal, the other list begins with these bytes
begins_with : (n : ℕ) (xs ys : List ℕ) → length xs ≡ n → mask_l (zip2 nat_eq xs ys) ≡ ones n
    → (take n ys ≡ xs) × (n ≤ length ys)
begins_with zero [] ys long e = (refl, omega arith)
begins_with (suc n) (x ∷ xs) (y ∷ ys) long e = grind (arith, begins_with n xs ys (omega arith))
begins_with n xs ys long e = absurd (omega arith)

no_longer : (xs ys : List ℕ) → length (zip2 nat_eq xs ys) ≤ length xs
no_longer [] ys = omega arith
no_longer (x ∷ xs) [] = omega arith
no_longer (x ∷ xs) (y ∷ ys) = omega (arith, no_longer xs ys)

-- a text that has the kept bytes at this place has the same minute there
pub minute_of_same : (t : List ℕ) (p : ℕ) (kept : List ℕ) → p + 16 ≤ length t
    → mask_l (map (top 7) (zip2 (λ a b. cond (nat_eq a b) 255 0) (sixteen t p) kept)) % 2 ^ 64 ≡ 65535
    → minute_at t p ≡ minute_at kept 0
minute_of_same t p kept room e =
    let lanes = tops_compared w8 nat_eq (sixteen t p) kept in
    let all = sixteen_long t p room in
    let few : length (zip2 nat_eq (sixteen t p) kept) ≤ 64 = omega (arith, no_longer (sixteen t p) kept) in
    let set = sym (ap (λ m. mask_l m % 2 ^ 64) lanes ∙ mask_l-mod (zip2 nat_eq (sixteen t p) kept) 64 few) ∙ e in
    let (same, long) = begins_with 16 (sixteen t p) kept all set in
    rw (minute_same t p room, minute_same kept 0 long, same)
