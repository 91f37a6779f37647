-- Lemmas: a fraction with one digit more.
use Rattle.std.proofs.Common.{◌≡◌, ℕ, arith, ◌<◌, ◌≤◌, ◌^◌, List, [], ◌∷◌, IsTrue, slice_index, ◌≢◌, ◌+◌, ◌-◌, ◌*◌, ◌/◌}
use Rattle.std.proofs.Common.{zero, suc, Bool, true, false, Option, Some, None, ap, cond, drop, length, nat_lt, refl}
use Rattle.std.proofs.Common.{option_and_then, if◌then◌else◌}
use Rattle.rds_arrivals.specs.Arrivals.{AreLost, lost_within}
use Rattle.std.proofs.Math.Nat.{pow-le-pow_right}
use Rattle.rds_arrivals.specs.Stamps.{is_digit, leading_digits, digit_at, digit_before, fraction, dated, has, minute_at}
use Rattle.rds_arrivals.specs.Stamps.{second_at, two_at}
use Rattle.std.specs.Option.{option_map_or}

-- ---- how many slots are lost between two times

-- the number of lost slots is the one of the definition
pub are_lost : (grain apart : ℕ) → AreLost grain apart (lost_within grain apart)
are_lost grain apart = grind (arith)

-- the definition has one number
pub one_count : (grain apart n k : ℕ) → AreLost grain apart n → AreLost grain apart k → n ≡ k
one_count grain apart n k p q = omega (arith, p.passed, p.no_more, q.passed, q.no_more)

-- ---- digits at the beginning of a text, and about their number

-- the leading digits are digits
pub all_lead : (text : List ℕ) (k : ℕ) → k < leading_digits text → IsTrue (is_digit (slice_index text k))
all_lead [] k h = absurd (omega (arith, h))
all_lead (b ∷ rest) k h = grind (arith, all_lead rest)

-- a number of at most thirteen digits
pub thirteen : (n place : ℕ) → n < 10 ^ place → place ≤ 13 → n < 10000000000000
thirteen n place small few = grind (arith, pow-le-pow_right)

-- ---- the digits that a text begins with

abbrev value : Option ℕ → ℕ
value digit = option_map_or (λ d. d) digit 0

at_front : (t : Bool) (d n : ℕ) → cond t (suc n) 0 ≡ option_map_or (λ _. suc n) (cond t (Some d) None) 0
at_front t d n = grind (arith)

not_empty : (n : ℕ) → nat_lt (suc n) 0 ≡ false
not_empty n = grind (arith)

has_one : (m : ℕ) → nat_lt 0 (suc m) ≡ true
has_one m = grind (arith)

same_test : (n m : ℕ) → nat_lt (suc n) (suc m) ≡ nat_lt n m
same_test n m = grind (arith)

leads : (text : List ℕ) (n : ℕ)
    → leading_digits (drop n text) ≡ option_map_or (λ _. suc (leading_digits (drop (suc n) text))) (digit_at text n) 0
leads [] zero = refl
leads [] (suc n) = rw (not_empty n) refl
leads (b ∷ rest) zero = rw (has_one (length rest)) (at_front (is_digit b) (b - 48) (leading_digits rest))
leads (b ∷ rest) (suc n) = rw (same_test n (length rest)) (leads rest n)

-- a digit leads one digit more than what follows it
pub digit_leads : (text : List ℕ) (n digit : ℕ) → digit_at text n ≡ Some digit
    → leading_digits (drop n text) ≡ suc (leading_digits (drop (n + 1) text))
digit_leads text n digit is =
    let next : suc n ≡ n + 1 = omega arith in
    grind (arith, leads)

-- where no digit stands, none leads
pub none_leads : (text : List ℕ) (n : ℕ) → digit_at text n ≡ None → leading_digits (drop n text) ≡ 0
none_leads text n is = grind (arith, leads)

-- ---- the weight of digit i, in microseconds

abbrev pub weight : ℕ → ℕ
weight zero = 100000
weight (suc zero) = 10000
weight (suc (suc zero)) = 1000
weight (suc (suc (suc zero))) = 100
weight (suc (suc (suc (suc zero)))) = 10
weight (suc (suc (suc (suc (suc zero))))) = 1
weight (suc (suc (suc (suc (suc (suc i)))))) = 0

-- each place weighs a tenth of the one before
pub next_weight : (i : ℕ) → weight i / 10 ≡ weight (suc i)
next_weight i = grind (arith)

-- a digit weighs at most 900,000 microseconds
pub light : (i digit : ℕ) → digit ≤ 9 → weight i * digit ≤ 900000
light i digit h = grind (arith)

-- ---- one digit more

-- the digit at its own place
abbrev at : ℕ → ℕ → ℕ → ℕ
at zero zero d = d
at zero (suc i) d = 0
at (suc k) zero d = 0
at (suc k) (suc i) d = at k i d

at_own : (i d : ℕ) → at i i d ≡ d
at_own zero d = refl
at_own (suc i) d = at_own i d

at_other : (k i d : ℕ) → k ≢ i → at k i d ≡ 0
at_other zero zero d ne = absurd (ne refl)
at_other zero (suc i) d ne = refl
at_other (suc k) zero d ne = refl
at_other (suc k) (suc i) d ne = at_other k i d (λ e. ne (ap suc e))

before : (text : List ℕ) (p end : ℕ) → p < end → digit_before text p end ≡ value (digit_at text p)
before text p end h = (let test : nat_lt p end ≡ true = grind (arith) in rw test refl)

behind : (text : List ℕ) (p end : ℕ) → end ≤ p → digit_before text p end ≡ 0
behind text p end h = (let test : nat_lt p end ≡ false = grind (arith) in rw test refl)

one_digit : (text : List ℕ) (p first i k digit : ℕ) → p ≡ first + k → digit_at text (first + i) ≡ Some digit
    → digit_before text p (first + suc i) ≡ digit_before text p (first + i) + at k i digit
one_digit text p first i k digit here is = grind (arith, before, at_other, behind, at_own)

-- a fraction with one digit more
pub more_fraction : (text : List ℕ) (first i digit : ℕ) → digit_at text (first + i) ≡ Some digit
    → fraction text first (first + suc i) ≡ fraction text first (first + i) + weight i * digit
more_fraction text first i digit is =
    let a = one_digit text first first i 0 digit (omega arith) is in
    let b = one_digit text (first + 1) first i 1 digit refl is in
    let c = one_digit text (first + 2) first i 2 digit refl is in
    let d = one_digit text (first + 3) first i 3 digit refl is in
    let e = one_digit text (first + 4) first i 4 digit refl is in
    let f = one_digit text (first + 5) first i 5 digit refl is in
    grind arith

-- no digit yet
pub no_fraction : (text : List ℕ) (first : ℕ) → fraction text first first ≡ 0
no_fraction text first = grind (arith, behind)

-- ---- a fraction is less than a second

small : (text : List ℕ) (p end : ℕ) → digit_before text p end ≤ 9
small text p end = grind (arith)

-- a fraction is below a second
pub below_a_second : (text : List ℕ) (first end : ℕ) → fraction text first end ≤ 999999
below_a_second text first end = grind (arith, small)

-- ---- a text that ends before a date and a time of day has none

nothing : {A B : Type 0} (f : A → Option B) (x : Option A) → ((a : A) → f a ≡ None) → option_and_then f x ≡ None
nothing f x each = grind (arith)

no_digit : (text : List ℕ) (place : ℕ) → length text ≤ place → digit_at text place ≡ None
no_digit text place short = grind (arith)

no_two : (text : List ℕ) (place : ℕ) → length text ≤ place + 1 → two_at text place ≡ None
no_two text place short = nothing _ (digit_at text place) (λ tens. rw (no_digit text (place + 1) short) refl)

same : {A : Type 0} (b : Bool) → ◌≡◌ {A = Option A} (if b then None else None) None
same b = grind (arith)

no_second : (text : List ℕ) (place : ℕ) → length text ≤ place + 2 → second_at text place ≡ None
no_second text place short = rw (no_two text (place + 1) (omega (arith, short))) (same (has text place 58))

-- a text that is too short has no date
pub no_date : (text : List ℕ) → length text < (if has text 0 64 then 1 else 0) + 19 → dated text ≡ None
no_date text short =
    let at = if has text 0 64 then 1 else 0 in
    nothing _ (minute_at text at) (λ minutes. rw (no_second text (at + 16) (omega (arith, short))) refl)
