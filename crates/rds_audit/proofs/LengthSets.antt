-- Lemmas: sets of lengths as numbers.
use Rattle.std.proofs.lemmas.Bool.Decides.{nat_tests}
use Rattle.std.proofs.Common.{◌≡◌, ◌⊎◌, ◌+◌, ◌-◌, ◌*◌, ◌/◌, ◌%◌, ◌^◌, ◌<◌, ◌≤◌, ◌&&◌, ◌||◌, ℕ, zero, suc}
use Rattle.std.proofs.Common.{Bool, true, false, nat_eq, nat_lt, nat_le, cond, List, [], ◌∷◌, length, slice_index, refl}
use Rattle.std.proofs.Common.{sym, ap, ◌∙◌, inl, inr, arith, Option, Some, None, not, get_or, bit_and, bit_or}
use Rattle.std.specs.Int.{bit_at}
use Rattle.std.proofs.lemmas.Bool.{cases_lt, eq-eqb, false_from_ne_true}
use Rattle.rds_assembly.specs.Value.{is_text_byte}
use Rattle.rds_audit.specs.Lengths.{Gauge, in_name, in_padded_text, in_text, may_stand, is_past, those, allows, holds}
use Rattle.rds_audit.specs.Lengths.{left_or, lengths_of, measure, measured_after, sent_cells, limit_at, same_bytes}
use Rattle.std.proofs.lemmas.Nat.{div_below, one_shl, pow_below, le-div, pow_pos, shr-shr, shr_le, and_le_l}
use Rattle.std.proofs.lemmas.Nat.Bits.{bit_at-suc, bit_at-zero, bit_at_above, bit_at_and, bit_at_cat_high}
use Rattle.std.proofs.lemmas.Nat.Bits.{bit_at_cat_low, bit_at_lowest, bit_at_mask_above, bit_at_mask_below}
use Rattle.std.proofs.lemmas.Nat.Bits.{bit_at_mask_inside, bit_at_ones, bit_at_ones_above, bit_at_or, same_from_bits}
use Rattle.std.proofs.Math.Nat.{pow-suc}
use Rattle.rds_receiver.specs.declared.fragment.Fragment.{Fragment}
use Rattle.rds_audit.proofs.SpanOrder.{bytes_same, same_bytes_are}
use Rattle.rds_audit.specs.ReignsState.{ContentState, cell_at, changes_in, measured_in}

pow_next : (n : ℕ) → 2 ^ suc n ≡ 2 ^ n + 2 ^ n
pow_next n = omega (arith, pow-suc 2 n)

-- the set is below the next power of two
pub those_below : (ok : ℕ → Bool) (k : ℕ) → those ok k < 2 ^ k
unfolding those
those_below ok zero = omega arith
those_below ok (suc n) = grind (arith, those_below ok n, pow_next)

-- a bit of the set is the answer of the test
pub bit_those : (ok : ℕ → Bool) (k n : ℕ) → n < k → bit_at (those ok k) n ≡ cond (ok n) 1 0
unfolding those
bit_those ok zero n h = absurd (omega arith)
bit_those ok (suc m) n h = grind (
  arith,
  nat_tests,
  bit_those ok m n,
  bit_at_cat_low (cond (ok m) 1 0) m (those ok m) n,
  bit_at_cat_high (cond (ok m) 1 0) m (those ok m) m (those_below ok m),
  bit_at_lowest,
)

pub bit_past : (ok : ℕ → Bool) (k n : ℕ) → k ≤ n → bit_at (those ok k) n ≡ 0
bit_past ok k n h = bit_at_above (those ok k) k n (those_below ok k) h

-- the lengths that pass both tests
pub and_those : (f g : ℕ → Bool) (k : ℕ) → bit_and (those f k) (those g k) ≡ those (λ n. f n && g n) k
and_those f g k = same_from_bits _ _ (λ i. grind (
  arith,
  nat_tests,
  bit_at_and (those f k) (those g k) i,
  bit_those f k i,
  bit_those g k i,
  bit_those (λ n. f n && g n) k i,
  bit_past f k i,
  bit_past g k i,
  bit_past (λ n. f n && g n) k i,
))

-- the lengths that pass one of both
pub or_those : (f g : ℕ → Bool) (k : ℕ) → bit_or (those f k) (those g k) ≡ those (λ n. f n || g n) k
or_those f g k = same_from_bits _ _ (λ i. grind (
  arith,
  nat_tests,
  bit_at_or (those f k) (those g k) i,
  bit_those f k i,
  bit_those g k i,
  bit_those (λ n. f n || g n) k i,
  bit_past f k i,
  bit_past g k i,
  bit_past (λ n. f n || g n) k i,
))

-- two tests with the same answers have the same set
pub same_those : (f g : ℕ → Bool) (k : ℕ) → ((n : ℕ) → n < k → f n ≡ g n) → those f k ≡ those g k
unfolding those
same_those f g zero h = refl
same_those f g (suc n) h =
    rw (h n (omega arith), same_those f g n (λ m l. h m (omega arith))) refl

pub none_those : (k : ℕ) → those (λ n. false) k ≡ 0
unfolding those
none_those zero = refl
none_those (suc n) = omega (arith, none_those n)

-- the lengths below m
pub below_those : (m k : ℕ) → m ≤ k → those (λ n. nat_lt n m) k ≡ 2 ^ m - 1
below_those m k h = same_from_bits _ _ (λ i. grind (
  arith,
  nat_tests,
  bit_those (λ n. nat_lt n m) k i,
  bit_past (λ n. nat_lt n m) k i,
  bit_at_ones m i,
  bit_at_ones_above m i,
))

-- the lengths from m on
pub from_those : (m k : ℕ) → m ≤ k → those (λ n. nat_le m n) k ≡ 2 ^ k - 2 ^ m
from_those m k h = same_from_bits _ _ (λ i. grind (
  arith,
  nat_tests,
  bit_those (λ n. nat_le m n) k i,
  bit_past (λ n. nat_le m n) k i,
  bit_at_mask_below m k i,
  bit_at_mask_inside m k i,
  bit_at_mask_above m k i,
))

-- ---- lengths in a set

-- a set with a length is not empty
pub some_left : (l n : ℕ) → bit_at l n ≡ 1 → l ≡ 0 → ⊥
some_left l n b e = omega (arith, bit_at-zero n, rw e at b)

-- a set that is not empty has a length
pub some_length : (w l : ℕ) → l < 2 ^ w → (l ≡ 0 → ⊥) → (n : ℕ) × (bit_at l n ≡ 1)
some_length zero l h some = absurd (some (omega arith))
some_length (suc w) l h some = elim (cases_lt 0 (l % 2)) [
  | inl odd ↦ (0, omega (arith, bit_at_lowest l))
  | inr even ↦
      let rest = some_length w (l / 2) (omega (arith, pow_next w)) (λ e. some (omega arith)) in
      (suc rest.0, bit_at-suc l rest.0 ∙ rest.1)
]

-- the lengths of a set that is past an end are below that
pub below_end : (l end n : ℕ) → is_past l end ≡ true → bit_at l n ≡ 1 → n < end
below_end l end n past b =
    grind (arith, bit_at_above l end n, le-div 1 l (2 ^ end) (pow_pos end), pow_pos end)

-- a set that is not past an end has a length from there on
pub from_end : (w l end : ℕ) → l < 2 ^ w → is_past l end ≡ false → (n : ℕ) × (end ≤ n) × (bit_at l n ≡ 1)
from_end w l end h past =
    let some = some_length w (l / 2 ^ end) (omega (arith, shr_le l end)) (λ e. grind (arith)) in
    (end + some.0, omega arith, ap (λ m. m % 2) (sym (shr-shr l end some.0)) ∙ some.1)

-- a number whose quotient is not zero reaches the divisor
div_reaches : (n k : ℕ) → 0 < k → 0 < n / k → k ≤ n
div_reaches n k pos some = grind (arith, div_below n k 1 pos)

-- a smaller set is past the same end, and a set is past each further end
pub past_less : (l less end : ℕ) → less ≤ l → is_past l end ≡ true → is_past less end ≡ true
past_less l less end h past =
    grind (arith, le-div 1 l (2 ^ end) (pow_pos end), div_reaches less (2 ^ end) (pow_pos end))

pub past_further : (l end more : ℕ) → end ≤ more → is_past l end ≡ true → is_past l more ≡ true
past_further l end more h past =
    grind (arith, shr-shr l end (more - end), shr_le (l / 2 ^ end) (more - end))

-- ---- the code's numbers

shifted : (k : ℕ) → k ≤ 65 → 1 * 2 ^ k % 2 ^ 128 ≡ 2 ^ k
shifted k h = one_shl k 128 (omega arith)

pub below_bits : (k : ℕ) → k ≤ 65 → 1 * 2 ^ k % 2 ^ 128 - 1 ≡ those (λ n. nat_lt n k) 65
below_bits k h = rw (shifted k h) (sym (below_those k 65 h))

pub from_bits : (k : ℕ) → k ≤ 65 → 2 ^ 65 - 1 * 2 ^ k % 2 ^ 128 ≡ those (λ n. nat_le k n) 65
from_bits k h = rw (shifted k h) (sym (from_those k 65 h))

pub from_fits : (k : ℕ) → k ≤ 65 → 1 * 2 ^ k % 2 ^ 128 ≤ 2 ^ 65
from_fits k h = grind (arith, shifted k h, pow_below k 65)

-- an end behind all bits is behind each length
pub past_far : (l end : ℕ) → l < 2 ^ 128 → 128 ≤ end → is_past l end ≡ true
past_far l end fits far = eq-eqb _ 0 (by (cases_lt 0 (l / 2 ^ end)))
  where
    reach : 2 ^ 128 ≤ 2 ^ end
    reach = elim (cases_lt 128 end) [
      | inl less ↦ omega (arith, pow_below 128 end less)
      | inr at ↦ let here : end ≡ 128 = omega arith in rw here (omega arith)
    ]

    by : (0 < l / 2 ^ end) ⊎ (l / 2 ^ end ≤ 0) → l / 2 ^ end ≡ 0
    by (inl some) = absurd (omega (arith, div_reaches l (2 ^ end) (pow_pos end) some, reach))
    by (inr none) = omega arith

-- the lengths of four bytes are those of the segment
pub at_four : (g : Gauge) (i : ℕ) (bs : List ℕ) → length bs ≡ 4
    → bit_and (bit_and (bit_and (those (λ n. g.may n i (slice_index bs 0)) 65)
    (those (λ n. g.may n (i + 1) (slice_index bs 1)) 65)) (those (λ n. g.may n (i + 2) (slice_index bs 2)) 65))
    (those (λ n. g.may n (i + 3) (slice_index bs 3)) 65)
    ≡ those (λ n. may_stand g n i bs) 65
at_four g i [] long = absurd (omega arith)
at_four g i (a ∷ []) long = absurd (omega arith)
at_four g i (a ∷ b ∷ []) long = absurd (omega arith)
at_four g i (a ∷ b ∷ c ∷ []) long = absurd (omega arith)
at_four g i (a ∷ b ∷ c ∷ d ∷ e ∷ more) long = absurd (omega arith)
at_four g i (a ∷ b ∷ c ∷ d ∷ []) long =
    rw (
      and_those (λ n. g.may n i a) (λ n. g.may n (i + 1) b) 65,
      and_those (λ n. g.may n i a && g.may n (i + 1) b) (λ n. g.may n (i + 2) c) 65,
      and_those (λ n. (g.may n i a && g.may n (i + 1) b) && g.may n (i + 2) c) (λ n. g.may n (i + 3) d) 65,
    )
    (same_those _ _ 65 (λ n h. grind (arith, places)))
  where
    places : (i + 1 + 1 ≡ i + 2) × (i + 1 + 1 + 1 ≡ i + 3)
    places = (omega arith, omega arith)

-- a set if something is so
picked : (is_so : Bool) (f : ℕ → Bool) (k : ℕ) → cond is_so (those f k) 0 ≡ those (λ n. is_so && f n) k
picked true f k = refl
picked false f k = sym (none_those k)

-- the lengths of a text in which a byte may stand at a place
pub text_those : (place byte : ℕ)
    → bit_or (bit_or (cond (is_text_byte byte) (those (λ n. nat_le (place + 1) n) 65) 0) (cond (nat_eq byte 13)
    (bit_and (those (λ n. nat_le place n) 65) (those (λ n. nat_lt n (place + 1)) 65)) 0)) (cond (nat_eq byte 32)
    (bit_and (those (λ n. nat_le (place / 4 * 4) n) 65) (those (λ n. nat_lt n place) 65)) 0)
    ≡ those (λ n. in_text n place byte) 65
text_those i b = rw (
  and_those (λ n. nat_le i n) (λ n. nat_lt n (i + 1)) 65,
  and_those (λ n. nat_le (i / 4 * 4) n) (λ n. nat_lt n i) 65,
  picked (is_text_byte b) (λ n. nat_le (i + 1) n) 65,
  picked (nat_eq b 13) (λ n. nat_le i n && nat_lt n (i + 1)) 65,
  picked (nat_eq b 32) (λ n. nat_le (i / 4 * 4) n && nat_lt n i) 65,
  or_those (λ n. is_text_byte b && nat_le (i + 1) n) (λ n. nat_eq b 13 && (nat_le i n && nat_lt n (i + 1))) 65,
  or_those (λ n. (is_text_byte b && nat_le (i + 1) n) || (nat_eq b 13 && (nat_le i n && nat_lt n (i + 1))))
      (λ n. nat_eq b 32 && (nat_le (i / 4 * 4) n && nat_lt n i)) 65,
)
    (same_those _ _ 65 (λ n h. grind (arith, nat_tests)))

pub padded_those : (place byte : ℕ)
    → bit_or (bit_or (cond (is_text_byte byte) (those (λ n. nat_le (place + 1) n) 65) 0) (cond (nat_eq byte 13)
    (bit_and (those (λ n. nat_le place n) 65) (those (λ n. nat_lt n (place + 1)) 65)) 0))
    (those (λ n. nat_lt n place) 65)
    ≡ those (λ n. in_padded_text n place byte) 65
padded_those i b = rw (
  and_those (λ n. nat_le i n) (λ n. nat_lt n (i + 1)) 65,
  picked (is_text_byte b) (λ n. nat_le (i + 1) n) 65,
  picked (nat_eq b 13) (λ n. nat_le i n && nat_lt n (i + 1)) 65,
  or_those (λ n. is_text_byte b && nat_le (i + 1) n) (λ n. nat_eq b 13 && (nat_le i n && nat_lt n (i + 1))) 65,
  or_those (λ n. (is_text_byte b && nat_le (i + 1) n) || (nat_eq b 13 && (nat_le i n && nat_lt n (i + 1))))
      (λ n. nat_lt n i) 65,
)
    (same_those _ _ 65 (λ n h. grind (arith)))

pub name_those : (place byte : ℕ)
    → cond (nat_le 32 byte) (those (λ n. nat_le (place + 1) n) 65) 0 ≡ those (λ n. in_name n place byte) 65
name_those i b = picked (nat_le 32 b) (λ n. nat_le (i + 1) n) 65
    ∙ same_those _ _ 65 (λ n h. grind (arith))

-- ---- what a fragment leaves of a set of lengths

-- bytes that are held leave all lengths
pub measure_held : (g : Gauge) (cells : List (Option (List ℕ))) (l address : ℕ) (bytes : List ℕ)
    → holds (get_or cells address None) bytes ≡ true
    → measure g cells l address bytes ≡ record { lengths = l; fits = true }
unfolding measure
measure_held g cells l address bytes e = rw e refl

-- others leave those at which they may stand
pub measure_other : (g : Gauge) (cells : List (Option (List ℕ))) (l address : ℕ) (bytes : List ℕ)
    → holds (get_or cells address None) bytes ≡ false
    → measure g cells l address bytes
    ≡ left_or l (bit_and l (those (allows g (get_or cells address None) address bytes) 65))
unfolding measure
measure_other g cells l address bytes e = rw e refl

left_less : (l left : ℕ) → left ≤ l → (left_or l left).lengths ≤ l
left_less l left h = grind (arith)

measure_less : (g : Gauge) (cells : List (Option (List ℕ))) (l address : ℕ) (bytes : List ℕ)
    → (measure g cells l address bytes).lengths ≤ l
measure_less g cells l address bytes = by (holds (get_or cells address None) bytes) refl
  where
    by : (b : Bool) → holds (get_or cells address None) bytes ≡ b → (measure g cells l address bytes).lengths ≤ l
    by true e = rw (measure_held g cells l address bytes e) (omega arith)
    by false e = rw (measure_other g cells l address bytes e) (left_less l _ (and_le_l l _))

-- no fragment leaves more lengths
pub measured_less : (g : Gauge) (older : List Fragment) (p : Fragment)
    → (measured_after g older p).lengths ≤ lengths_of g older
measured_less g older p = measure_less g (sent_cells older) (lengths_of g older) p.address p.bytes

-- what was sent last at an address changes nothing
pub measured_again : (g : Gauge) (older : List Fragment) (p : Fragment)
    → get_or (sent_cells older) p.address None ≡ Some p.bytes
    → measured_after g older p ≡ record { lengths = lengths_of g older; fits = true }
measured_again g older p e = measure_held g (sent_cells older) (lengths_of g older) p.address p.bytes
    (rw e (bytes_same p.bytes p.bytes refl))

some_fit : (l left : ℕ) → 0 < l → 0 < (left_or l left).lengths
some_fit l left some = grind (arith)

measure_some : (g : Gauge) (cells : List (Option (List ℕ))) (l address : ℕ) (bytes : List ℕ) → 0 < l
    → 0 < (measure g cells l address bytes).lengths
measure_some g cells l address bytes some = by (holds (get_or cells address None) bytes) refl
  where
    by : (b : Bool) → holds (get_or cells address None) bytes ≡ b → 0 < (measure g cells l address bytes).lengths
    by true e = rw (measure_held g cells l address bytes e) some
    by false e = rw (measure_other g cells l address bytes e)
        (some_fit l (bit_and l (those (allows g (get_or cells address None) address bytes) 65)) some)

-- some length is left by any fragments, so they are not past 0
left_some : (g : Gauge) → 0 < g.lengths → (fragments : List Fragment) → 0 < lengths_of g fragments
left_some g some [] = some
left_some g some (p ∷ older) =
    measure_some g (sent_cells older) (lengths_of g older) p.address p.bytes (left_some g some older)

-- a set with a length is not past 0
pub not_past : (l : ℕ) → 0 < l → is_past l 0 ≡ false
not_past l some = grind (arith)

pub none_past : (g : Gauge) → 0 < g.lengths → (fragments : List Fragment) → is_past (lengths_of g fragments) 0 ≡ false
none_past g some fragments = not_past (lengths_of g fragments) (left_some g some fragments)

-- ---- the code's steps

-- bytes that are held
pub measures_held : (g : Gauge) (address : ℕ) (bytes : List ℕ) (c : ContentState) → cell_at address c ≡ Some bytes
    → record { lengths = c.lengths; fits = true } ≡ measured_in g address bytes c
measures_held g address bytes c e = sym (measure_held g c.cells c.lengths address bytes (rw e (bytes_same bytes bytes
    refl)))

not_held : (o : Option (List ℕ)) (bytes : List ℕ) → (o ≡ Some bytes → ⊥) → holds o bytes ≡ false
not_held None bytes other = refl
not_held (Some held) bytes other = false_from_ne_true _ (λ t. other (ap Some (sym (same_bytes_are bytes held t))))

-- others, from the lengths of their bytes and those beside what is held
pub measures_other : (g : Gauge) (address : ℕ) (bytes : List ℕ) (c : ContentState) (at beside : ℕ)
    → (cell_at address c ≡ Some bytes → ⊥) → at ≡ those (λ n. may_stand g n (4 * address) bytes) 65
    → beside ≡ those (λ n. nat_lt n (limit_at g.bends address (cell_at address c) bytes)) 65
    → left_or c.lengths (bit_and c.lengths (bit_and at beside)) ≡ measured_in g address bytes c
measures_other g address bytes c at beside other is_at is_beside =
    rw (
      is_at,
      is_beside,
      and_those (λ n. may_stand g n (4 * address) bytes)
          (λ n. nat_lt n (limit_at g.bends address (cell_at address c) bytes)) 65,
    )
    (sym (measure_other g c.cells c.lengths address bytes (not_held (cell_at address c) bytes other)))

-- the same bytes change nothing, and others do if they do not fit
pub same_changes : (g : Gauge) (address : ℕ) (bytes held : List ℕ) (c : ContentState) → cell_at address c ≡ Some held
    → held ≡ bytes → false ≡ changes_in g address bytes c
same_changes g address bytes held c e same = rw (e, bytes_same bytes held (sym same)) refl

pub other_changes : (g : Gauge) (address : ℕ) (bytes held : List ℕ) (c : ContentState) → cell_at address c ≡ Some held
    → (held ≡ bytes → ⊥) → not (measured_in g address bytes c).fits ≡ changes_in g address bytes c
other_changes g address bytes held c e other =
    let differ : same_bytes bytes held ≡ false = false_from_ne_true _ (λ t. other (sym (same_bytes_are bytes held t)))
    in
    rw (e, differ) refl
