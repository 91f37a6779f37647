-- Lemmas: the gauges of texts and of names are exact. Some value has fragments and tags exactly if each fragment fits,
-- and a length that is left reaches the ends of the tags.
use Rattle.std.proofs.lemmas.Bool.Decides.{nat_tests}
use Rattle.std.proofs.Common.{◌≡◌, ◌⊎◌, ◌+◌, ◌*◌, ◌/◌, ◌%◌, ◌^◌, ◌<◌, ◌≤◌, ◌++◌, ℕ, zero, suc, Bool, true, ◌-◌}
use Rattle.std.proofs.Common.{false, List, [], ◌∷◌, length, slice_index, get_or, Option, Some, None, refl, sym, ap, ◌∙◌}
use Rattle.std.proofs.Common.{subst, inl, inr, arith, bit_and, replicate}
use Rattle.std.specs.Int.{bit_at}
use Rattle.std.specs.List.{AllByRecursion}
use Rattle.std.proofs.lemmas.Bool.{and_from, and_parts, false_from_ne_true, lt-ltb}
use Rattle.std.proofs.lemmas.Grind.{same_number_lists}
use Rattle.std.proofs.lemmas.List.{append-nil}
use Rattle.std.proofs.lemmas.Nat.Bits.{bit_at-lt, bit_at-pow_other, bit_at-pow_same, bit_at_and, bit_at_ones}
use Rattle.std.proofs.lemmas.Nat.Bits.{bit_at_ones_above}
use Rattle.rds_fields.specs.Tag.{BothEndIn, TagFields, ends_in}
use Rattle.rds_assembly.specs.Body.{name_body, segment_count, segment_of, text_body}
use Rattle.rds_assembly.specs.Value.{IsName, IsText, is_text_byte}
use Rattle.rds_receiver.specs.declared.fragment.Fragment.{Fragment}
use Rattle.rds_safety.specs.Lawful.{IsFragmentOf, IsPaddedFragmentOf}
use Rattle.rds_safety.proofs.Padded.{segment_byte, segment_fits, segment_long, text_below, text_end, text_few}
use Rattle.rds_safety.proofs.Padded.{text_fits, text_full, text_long, text_past}
use Rattle.rds_audit.specs.Reigns.{SentTags}
use Rattle.rds_audit.specs.declared.text_form.TextForm.{TextForm}
use Rattle.rds_audit.specs.Lengths.{Gauge, IsExact, IsFormed, all_fit, allows, gauge_of, holds, in_name, in_padded_text}
use Rattle.rds_audit.specs.Lengths.{in_text, left_or, lengths_of, limit_at, limit_from, may_stand, name_gauge}
use Rattle.rds_audit.specs.Lengths.{padded_gauge, sent_cells, sent_last, tag_end, tags_end, text_gauge, those}
use Rattle.rds_audit.proofs.LengthSets.{below_end, bit_past, bit_those, from_end, some_left, measure_held}
use Rattle.rds_audit.proofs.LengthSets.{measure_other, measured_less}
use Rattle.rds_audit.proofs.SpanOrder.{IsIn, all_in, cell_from, cells_sent, bytes_same, same_bytes_are}

-- ---- tags

ends_below : (n : ℕ) (tag : TagFields) → ends_in n tag ≡ true → tag_end tag ≤ n
ends_below n tag e = grind (arith)

below_ends : (n : ℕ) (tag : TagFields) → tag_end tag ≤ n → ends_in n tag ≡ true
below_ends n tag h = grind (arith)

ends_most : (n : ℕ) (tags : List SentTags) → AllByRecursion (λ (s : SentTags). BothEndIn n s.pair) tags
    → tags_end tags ≤ n
ends_most n [] all = omega arith
ends_most n (s ∷ tags) all = grind (arith, ends_most n tags all.1, ends_below)

most_ends : (n : ℕ) (tags : List SentTags) → tags_end tags ≤ n
    → AllByRecursion (λ (s : SentTags). BothEndIn n s.pair) tags
most_ends n [] h = tt
most_ends n (s ∷ tags) h = grind (arith, most_ends n tags (omega arith), below_ends)

-- ---- the bytes that fragments have, with spaces between

abbrev byte_in : Option (List ℕ) → ℕ → ℕ
byte_in None k = 32
byte_in (Some s) k = slice_index s k

abbrev byte_at : List Fragment → ℕ → ℕ
byte_at fragments i = byte_in (sent_last (i / 4) fragments) (i % 4)

abbrev fill : List Fragment → ℕ → ℕ → List ℕ
fill fragments i zero = []
fill fragments i (suc n) = byte_at fragments i ∷ fill fragments (i + 1) n

fill_long : (fragments : List Fragment) (i n : ℕ) → length (fill fragments i n) ≡ n
fill_long fragments i zero = refl
fill_long fragments i (suc n) = ap suc (fill_long fragments (i + 1) n)

fill_byte : (fragments : List Fragment) (i n k : ℕ) → k < n
    → slice_index (fill fragments i n) k ≡ byte_at fragments (i + k)
fill_byte fragments i zero k h = absurd (omega arith)
fill_byte fragments i (suc n) zero h = ap (byte_at fragments) (omega arith)
fill_byte fragments i (suc n) (suc k) h = grind (arith, fill_byte fragments (i + 1) n k (omega arith))

filled_byte : (fragments : List Fragment) (n k : ℕ) → k < n → slice_index (fill fragments 0 n) k ≡ byte_at fragments k
filled_byte fragments n k h = fill_byte fragments 0 n k h ∙ ap (byte_at fragments) (omega arith)

-- a property of each fragment's byte at a place, and of a space, is one of the bytes filled in
byte_is : (P : ℕ → Type 0) (fragments : List Fragment) (i : ℕ) → P 32
    → ((p : Fragment) → IsIn p fragments → p.address ≡ i / 4 → P (slice_index p.bytes (i % 4)))
    → P (byte_at fragments i)
byte_is P fragments i space each = grind (arith, cell_from)

-- a fragment was sent at its address
sent_some : (fragments : List Fragment) (q : Fragment) → IsIn q fragments → sent_last q.address fragments ≡ None → ⊥
sent_some [] q i e = i
sent_some (p ∷ older) q i e = grind (arith, sent_some older q)

-- ---- two segments at one address

-- below the limit both have the same bytes
limit_agree : (n i : ℕ) (bs cs : List ℕ) → length bs ≡ length cs → n < limit_from i bs cs → (k : ℕ) → k < length bs
    → i + k ≤ n → slice_index bs k ≡ slice_index cs k
limit_agree n i [] cs long less k h up = absurd (omega arith)
limit_agree n i (b ∷ bs) [] long less k h up = absurd (omega arith)
limit_agree n i (b ∷ bs) (c ∷ cs) long less k h up =
    grind (arith, limit_agree n (i + 1) bs cs (omega (arith, long)))

-- if they have the same bytes up to place n, the limit is above n
agree_limit : (n i : ℕ) (bs cs : List ℕ) → n ≤ 64 → length bs ≡ length cs
    → ((k : ℕ) → k < length bs → i + k ≤ n → slice_index bs k ≡ slice_index cs k) → n < limit_from i bs cs
agree_limit n i [] cs low long same = omega arith
agree_limit n i (b ∷ bs) [] low long same = omega arith
agree_limit n i (b ∷ bs) (c ∷ cs) low long same =
    grind (
      arith,
      nat_tests,
      same 0,
      agree_limit n (i + 1) bs cs low (omega (arith, long))
          (λ k h up. same (suc k) (omega arith) (omega arith)),
    )

-- what is held
is_held : (o : Option (List ℕ)) (bytes : List ℕ) → holds o bytes ≡ true → o ≡ Some bytes
is_held None bytes e = absurd (cc)
is_held (Some held) bytes e = ap Some (sym (same_bytes_are bytes held e))

-- ---- a service

-- a fragment may stand in a value of so many bytes that has these bytes at each place before its end
pub record Stands (g : Gauge) (n : ℕ) (byte : ℕ → ℕ) (p : Fragment) : Type 0 where
  pub may : may_stand g n (4 * p.address) p.bytes ≡ true
  pub own : (k : ℕ) → k < 4 → 4 * p.address + k < n → slice_index p.bytes k ≡ byte (4 * p.address + k)

-- what the values of a service have to do with its gauge
pub record IsGauge (g : Gauge) : Type 0 where
  pub few : g.segments ≤ 16
  pub some : 0 < g.lengths
  pub small : g.lengths < 2 ^ 65
  pub long : (n : ℕ) → bit_at g.lengths n ≡ 1 → n ≤ 64
  pub size : (x : List ℕ) → g.kind.IsValue x → bit_at g.lengths (length x) ≡ 1
  pub formed : (x : List ℕ) (p : Fragment) → g.kind.IsValue x → g.kind.HasPart x p → IsFormed g.segments p
  pub stands : (x : List ℕ) (p : Fragment) → g.kind.IsValue x → g.kind.HasPart x p
      → Stands g (length x) (slice_index x) p
  pub same : (x : List ℕ) (p q : Fragment) → g.bends ≡ false → g.kind.HasPart x p → g.kind.HasPart x q
      → p.address ≡ q.address → p.bytes ≡ q.bytes
  pub end : (n b c : ℕ) → g.may n n b ≡ true → g.may n n c ≡ true → b ≡ c
  pub value : (x : List ℕ) → bit_at g.lengths (length x) ≡ 1
      → ((i : ℕ) → i < length x → slice_index x i < 256)
      → ((i : ℕ) → i < length x → (slice_index x i ≡ 32) ⊎ (g.may (length x) i (slice_index x i) ≡ true))
      → g.kind.IsValue x
  pub has : (x : List ℕ) (p : Fragment) → g.kind.IsValue x → IsFormed g.segments p
      → Stands g (length x) (slice_index x) p → g.kind.HasPart x p

-- a byte of bytes that may stand
may_at : (g : Gauge) (n i : ℕ) (bs : List ℕ) → may_stand g n i bs ≡ true → (k : ℕ) → k < length bs
    → g.may n (i + k) (slice_index bs k) ≡ true
may_at g n i [] e k h = absurd (omega arith)
may_at g n i (b ∷ bs) e zero h = ap (λ j. g.may n j b) (omega arith) ∙ (and_parts _ _ e).0
may_at g n i (b ∷ bs) e (suc k) h =
    ap (λ j. g.may n j (slice_index bs k)) (omega arith) ∙ may_at g n (i + 1) bs (and_parts _ _ e).1 k (omega arith)

at_may : (g : Gauge) (n i : ℕ) (bs : List ℕ)
    → ((k : ℕ) → k < length bs → g.may n (i + k) (slice_index bs k) ≡ true) → may_stand g n i bs ≡ true
at_may g n i [] each = refl
at_may g n i (b ∷ bs) each = and_from _ _ (ap (λ j. g.may n j b) (omega arith) ∙ each 0 (omega arith))
    (at_may g n (i + 1) bs (λ k h. ap (λ j. g.may n j (slice_index bs k)) (omega arith) ∙ each (suc k) (omega arith)))

module _ (g : Gauge) (is : IsGauge g) where
  -- each fragment may stand in a value of n bytes that has the bytes of all
  abbrev Fits : ℕ → List Fragment → Type 0
  Fits n fragments = (p : Fragment) → IsIn p fragments → Stands g n (byte_at fragments) p

  -- the set is below 2 ^ 65
  left_small : (fragments : List Fragment) → lengths_of g fragments < 2 ^ 65
  left_small [] = is.small
  left_small (p ∷ older) = omega (arith, left_small older, measured_less g older p)

  -- the cell at the address of a formed fragment
  held : (p : Fragment) (older : List Fragment) → IsFormed g.segments p
      → get_or (sent_cells older) p.address None ≡ sent_last p.address older
  held p older f = cells_sent older p.address (omega (arith, f.address, is.few))

  -- ---- a set with one more fragment

  -- a length that is left and passes the test stays, so the fragment fits
  kept : (l n : ℕ) (ok : ℕ → Bool) → n ≤ 64 → bit_at l n ≡ 1 → ok n ≡ true
      → ((left_or l (bit_and l (those ok 65))).fits ≡ true)
      × (bit_at (left_or l (bit_and l (those ok 65))).lengths n ≡ 1)
  kept l n ok low b passes =
      grind (arith, bit_at_and l (those ok 65) n, bit_those ok 65 n (omega arith), some_left)

  -- a length that stays was left, and passes the test
  was_left : (l n : ℕ) (ok : ℕ → Bool) → (left_or l (bit_and l (those ok 65))).fits ≡ true
      → bit_at (left_or l (bit_and l (those ok 65))).lengths n ≡ 1 → (bit_at l n ≡ 1) × (ok n ≡ true)
  was_left l n ok fits b =
      grind (arith, bit_at_and l (those ok 65) n, bit_those ok 65 n, bit_past ok 65 n, bit_at-lt l n)

  -- ---- from a value to the set

  -- two fragments of a value at one address have the same bytes up to its end
  agree_up : (x : List ℕ) (p q : Fragment) → g.kind.IsValue x → g.kind.HasPart x p → g.kind.HasPart x q
      → q.address ≡ p.address → (k : ℕ) → k < 4 → 4 * p.address + k ≤ length x
      → slice_index q.bytes k ≡ slice_index p.bytes k
  agree_up x p q v a b at k h up = grind (
    arith,
    nat_tests,
    (is.stands x q v b).own k,
    (is.stands x p v a).own k,
    may_at g (length x) (4 * p.address) p.bytes (is.stands x p v a).may k,
    may_at g (length x) (4 * q.address) q.bytes (is.stands x q v b).may k,
    (is.formed x p v a).four,
    (is.formed x q v b).four,
    is.end (length x),
  )

  -- so its length is below the limit
  under_limit : (x : List ℕ) (p q : Fragment) (b : Bool) → g.bends ≡ b → g.kind.IsValue x → g.kind.HasPart x p
      → g.kind.HasPart x q → q.address ≡ p.address → holds (Some q.bytes) p.bytes ≡ false
      → length x < limit_at b p.address (Some q.bytes) p.bytes
  under_limit x p q false e v a c at other =
      let same = is.same x p q e a c (sym at) in
      absurd (let no : true ≡ false = sym (bytes_same p.bytes q.bytes same) ∙ other in cc)
  under_limit x p q true e v a c at other =
      let fp = is.formed x p v a in
      let fq = is.formed x q v c in
      agree_limit (length x) (4 * p.address) q.bytes p.bytes (is.long _ (is.size x v)) (fq.four ∙ sym fp.four)
      (λ k h up. agree_up x p q v a c at k (omega (arith, h, fq.four)) up)

  value_allows : (x : List ℕ) (p : Fragment) (older : List Fragment) → g.kind.IsValue x → g.kind.HasPart x p
      → AllByRecursion (λ (q : Fragment). g.kind.HasPart x q) older → (o : Option (List ℕ))
      → sent_last p.address older ≡ o → holds o p.bytes ≡ false → allows g o p.address p.bytes (length x) ≡ true
  value_allows x p older v a all None e other =
      and_from _ _ (is.stands x p v a).may (lt-ltb (length x) 65 (omega (arith, is.long _ (is.size x v))))
  value_allows x p older v a all (Some h) e other =
      grind (arith, cell_from older p.address h e, all_in, under_limit, is.stands x p v a)

  -- the length of a value is left by its fragments, and each fits
  value_left : (x : List ℕ) (fragments : List Fragment) → g.kind.IsValue x
      → AllByRecursion (λ (q : Fragment). g.kind.HasPart x q) fragments
      → (all_fit g fragments ≡ true) × (bit_at (lengths_of g fragments) (length x) ≡ 1)
  value_left x [] v all = (refl, is.size x v)
  value_left x (p ∷ older) v all = grind (
    arith,
    nat_tests,
    value_left x older v all.1,
    measure_held,
    measure_other,
    kept,
    value_allows x p older v all.0 all.1,
    held,
    is.formed x p v all.0,
    is.long,
    is.size x v,
  )

  -- ---- from the set to a value

  -- one more fragment fits if it has the bytes of its address before the end
  fits_more : (n : ℕ) (p : Fragment) (older : List Fragment) → Fits n older
      → may_stand g n (4 * p.address) p.bytes ≡ true
      → ((h : List ℕ) → sent_last p.address older ≡ Some h → (k : ℕ) → k < 4 → 4 * p.address + k < n
      → slice_index h k ≡ slice_index p.bytes k) → Fits n (p ∷ older)
  fits_more n p older f may same r i = grind (arith, sent_some)

  -- a held segment has the bytes of a fragment that is allowed beside it
  allowed_same : (b : Bool) (n : ℕ) (p : Fragment) (h : List ℕ) → length h ≡ length p.bytes → length h ≡ 4
      → n < limit_at b p.address (Some h) p.bytes → (k : ℕ) → k < 4 → 4 * p.address + k < n
      → slice_index h k ≡ slice_index p.bytes k
  allowed_same false n p h long four less k l up = absurd (omega arith)
  allowed_same true n p h long four less k l up = search (arith, limit_agree)

  -- a length that is left is one of values, and all fragments fit it
  left_fits : (n : ℕ) (fragments : List Fragment) → AllByRecursion (IsFormed g.segments) fragments
      → all_fit g fragments ≡ true → bit_at (lengths_of g fragments) n ≡ 1
      → (bit_at g.lengths n ≡ 1) × Fits n fragments
  left_fits n [] formed fit b = (b, λ p i. absurd i)
  left_fits n (p ∷ older) formed fit b = grind (
    arith,
    nat_tests,
    left_fits n older formed.1,
    measure_held,
    measure_other,
    was_left,
    held,
    is_held,
    cell_from,
    all_in,
    fits_more,
    allowed_same,
  )

  -- ---- exactness

  filled : (n : ℕ) (fragments : List Fragment) → AllByRecursion (IsFormed g.segments) fragments
      → bit_at g.lengths n ≡ 1 → Fits n fragments → g.kind.IsValue (fill fragments 0 n)
  filled n fragments formed b f = is.value (fill fragments 0 n) (rw size b)
      (λ i h. rw (filled_byte fragments n i (omega (arith, h, size)))
      (byte_is (λ b. b < 256) fragments i (omega arith) (λ p j e. (all_in (IsFormed g.segments) p fragments formed j).fits
      _)))
      (λ i h. rw (filled_byte fragments n i (omega (arith, h, size)), size)
      (byte_is (λ b. (b ≡ 32) ⊎ (g.may n i b ≡ true)) fragments i (inl refl) (λ p j e.
      inr (here p i e (may_at g n (4 * p.address) p.bytes (f p j).may (i % 4)
      (omega (arith, (all_in (IsFormed g.segments) p fragments formed j).four)))))))
    where
      size : length (fill fragments 0 n) ≡ n
      size = fill_long fragments 0 n

      here : (p : Fragment) (i : ℕ) → p.address ≡ i / 4
          → g.may n (4 * p.address + i % 4) (slice_index p.bytes (i % 4)) ≡ true
          → g.may n i (slice_index p.bytes (i % 4)) ≡ true
      here p i e m = subst (λ j. g.may n j (slice_index p.bytes (i % 4)) ≡ true) (omega arith) m

  all_have : (n : ℕ) (whole fragments : List Fragment) → g.kind.IsValue (fill whole 0 n) → Fits n whole
      → ((p : Fragment) → IsIn p fragments → IsIn p whole) → AllByRecursion (IsFormed g.segments) fragments
      → AllByRecursion (λ (p : Fragment). g.kind.HasPart (fill whole 0 n) p) fragments
  all_have n whole [] v f sub formed = tt
  all_have n whole (p ∷ older) v f sub formed =
      search (arith, all_have n whole older v f, is.has, fill_long, filled_byte, inl, inr)

  all_formed : (x : List ℕ) (fragments : List Fragment) → g.kind.IsValue x
      → AllByRecursion (λ (p : Fragment). g.kind.HasPart x p) fragments
      → AllByRecursion (IsFormed g.segments) fragments
  all_formed x [] v all = tt
  all_formed x (p ∷ older) v all = search (arith, all_formed x older v, is.formed)

  pub gauge_exact : IsExact g
  gauge_exact = record {
    some = is.some;
    measured = λ fragments tags h.
        let left = value_left h.value fragments h.valid h.has in
        record {
          fit = left.0;
          ends = false_from_ne_true _ (λ past. omega (
            arith,
            below_end (lengths_of g fragments) (tags_end tags) (length h.value) past left.1,
            ends_most (length h.value) tags h.ends,
          ));
        };
    formed = λ fragments tags h. all_formed h.value fragments h.valid h.has;
    one = λ fragments tags formed m.
        let some = from_end 65 (lengths_of g fragments) (tags_end tags) (left_small fragments) m.ends in
        let fits = left_fits some.0 fragments formed m.fit some.2 in
        let valid = filled some.0 fragments formed fits.0 fits.1 in
        record {
          value = fill fragments 0 some.0;
          valid = valid;
          has = all_have some.0 fragments fragments valid fits.1 (λ p i. i) formed;
          ends = rw (fill_long fragments 0 some.0) (most_ends some.0 tags some.1);
        };
  }

-- ---- texts

text_formed : (x : List ℕ) (p : Fragment) → IsText x → IsFragmentOf (text_body x) p → IsFormed 16 p
text_formed x p t is = record {
  address = omega (arith, is.within, text_few x t);
  four = ap length is.bytes ∙ segment_long (text_body x) p.address is.within;
  fits = λ k. rw is.bytes (segment_fits (text_body x) p.address k is.within (text_fits x t));
}

-- the byte of a fragment of a body
part_byte : (body : List ℕ) (p : Fragment) (k : ℕ) → IsFragmentOf body p → k < 4
    → slice_index p.bytes k ≡ slice_index body (4 * p.address + k)
part_byte body p k is h = ap (λ (bs : List ℕ). slice_index bs k) is.bytes ∙ segment_byte body p.address k h

text_stands : (x : List ℕ) (p : Fragment) → IsText x → IsFragmentOf (text_body x) p
    → Stands text_gauge (length x) (slice_index x) p
text_stands x p t is = record {
  may = at_may text_gauge (length x) (4 * p.address) p.bytes (λ k h. may k (omega (arith, h, f.four)));
  own = λ k h less. part_byte (text_body x) p k is h ∙ text_below x (4 * p.address + k) less;
}
  where
    f : IsFormed 16 p
    f = text_formed x p t is

    may : (k : ℕ) → k < 4 → in_text (length x) (4 * p.address + k) (slice_index p.bytes k) ≡ true
    may k h = rw (part_byte (text_body x) p k is h)
        (grind (arith, is.within, f.address, t.at_most, t.allowed, text_below, text_end, text_past, text_long))

-- a fragment that may stand is one of the body
text_has : (x : List ℕ) (p : Fragment) → IsText x → IsFormed 16 p
    → Stands text_gauge (length x) (slice_index x) p → IsFragmentOf (text_body x) p
text_has x p t f s = record {
  within = within;
  bytes = same_number_lists p.bytes (segment_of (text_body x) p.address)
      (f.four ∙ sym (segment_long (text_body x) p.address within))
      (λ k h. byte k (omega (arith, h, f.four))
      ∙ sym (segment_byte (text_body x) p.address k (omega (arith, h, f.four))));
}
  where
    may : (k : ℕ) → k < 4 → in_text (length x) (4 * p.address + k) (slice_index p.bytes k) ≡ true
    may k h = may_at text_gauge (length x) (4 * p.address) p.bytes s.may k (omega (arith, f.four))

    within : p.address < segment_count (text_body x)
    within = grind (arith, may 0, text_long, text_full, f.address, t.at_most)

    byte : (k : ℕ) → k < 4 → slice_index p.bytes k ≡ slice_index (text_body x) (4 * p.address + k)
    byte k h = grind (arith, may k h, s.own k h, text_below, text_end, text_past, within, t.at_most)

value_byte : (n b : ℕ) (i : ℕ) → i < n → (b ≡ 32) ⊎ (in_text n i b ≡ true) → is_text_byte b ≡ true
value_byte n b i h or = grind (arith)

some_length_is : (n : ℕ) → bit_at (2 ^ 65 - 1) n ≡ 1 → n ≤ 64
some_length_is n b = grind (arith, bit_at_ones_above 65 n)

is_text_gauge : IsGauge text_gauge
is_text_gauge = record {
  few = omega arith;
  some = omega arith;
  small = omega arith;
  long = some_length_is;
  size = λ x t. bit_at_ones 65 (length x) (omega (arith, t.at_most));
  formed = text_formed;
  stands = text_stands;
  same = λ x p q e a b at. a.bytes ∙ ap (segment_of (text_body x)) at ∙ sym b.bytes;
  end = λ n b c h k. grind (arith, nat_tests);
  value = λ x b fits each. record {
    at_most = some_length_is _ b;
    bytes = fits;
    allowed = λ i h. value_byte (length x) (slice_index x i) i h (each i h);
  };
  has = text_has;
}

pub text_gauge_is_exact : IsExact text_gauge
text_gauge_is_exact = gauge_exact text_gauge is_text_gauge

-- ---- texts with padding

padded_stands : (x : List ℕ) (p : Fragment) → IsText x → IsPaddedFragmentOf x p
    → Stands padded_gauge (length x) (slice_index x) p
padded_stands x p t is = record {
  may = at_may padded_gauge (length x) (4 * p.address) p.bytes (λ k h. may k (omega (arith, h, is.four)));
  own = λ k h less. is.bytes k h (omega arith) ∙ text_below x (4 * p.address + k) less;
}
  where
    may : (k : ℕ) → k < 4 → in_padded_text (length x) (4 * p.address + k) (slice_index p.bytes k) ≡ true
    may k h = grind (arith, is.bytes k h, is.within, t.at_most, t.allowed, text_below, text_end)

padded_has : (x : List ℕ) (p : Fragment) → IsText x → IsFormed 16 p
    → Stands padded_gauge (length x) (slice_index x) p → IsPaddedFragmentOf x p
padded_has x p t f s = record {
  within = f.address;
  four = f.four;
  fits = f.fits;
  bytes = λ k h up.
      let may = may_at padded_gauge (length x) (4 * p.address) p.bytes s.may k (omega (arith, f.four)) in
      grind (arith, may, s.own k h, text_below, text_end, f.address, t.at_most);
}

is_padded_gauge : IsGauge padded_gauge
is_padded_gauge = record {
  few = omega arith;
  some = omega arith;
  small = omega arith;
  long = some_length_is;
  size = λ x t. bit_at_ones 65 (length x) (omega (arith, t.at_most));
  formed = λ x p t is. record { address = is.within; four = is.four; fits = is.fits };
  stands = padded_stands;
  same = λ x p q e a b at. absurd (cc e);
  end = λ n b c h k. grind (arith);
  value = λ x b fits each. record {
    at_most = some_length_is _ b;
    bytes = fits;
    allowed = λ i h. grind (arith, each i h);
  };
  has = padded_has;
}

pub padded_gauge_is_exact : IsExact padded_gauge
padded_gauge_is_exact = gauge_exact padded_gauge is_padded_gauge

-- texts of each form are measured exactly
pub gauge_is_exact : (form : TextForm) → IsExact (gauge_of form)
gauge_is_exact form = grind (arith, text_gauge_is_exact, padded_gauge_is_exact)

-- ---- names

name_alone : (x : List ℕ) → length x ≡ 8 → name_body x ≡ x
name_alone x e = ap (λ k. x ++ replicate (8 - k) 32) e ∙ append-nil x

name_formed : (x : List ℕ) (p : Fragment) → IsName x → IsFragmentOf (name_body x) p → IsFormed 2 p
name_formed x p n is = grind (arith, name_alone, segment_long, segment_fits)

name_stands : (x : List ℕ) (p : Fragment) → IsName x → IsFragmentOf (name_body x) p
    → Stands name_gauge (length x) (slice_index x) p
name_stands x p n is = record {
  may = at_may name_gauge (length x) (4 * p.address) p.bytes (λ k h. may k (omega (arith, h, f.four)));
  own = λ k h less. own k h;
}
  where
    f : IsFormed 2 p
    f = name_formed x p n is

    own : (k : ℕ) → k < 4 → slice_index p.bytes k ≡ slice_index x (4 * p.address + k)
    own k h = part_byte (name_body x) p k is h
        ∙ ap (λ (body : List ℕ). slice_index body (4 * p.address + k)) (name_alone x n.0)

    may : (k : ℕ) → k < 4 → in_name (length x) (4 * p.address + k) (slice_index p.bytes k) ≡ true
    may k h = grind (arith, own k h, f.address, n.0, n.1.allowed (4 * p.address + k))

name_has : (x : List ℕ) (p : Fragment) → IsName x → IsFormed 2 p
    → Stands name_gauge (length x) (slice_index x) p → IsFragmentOf (name_body x) p
name_has x p n f s =
    let body = name_alone x n.0 in
    let within : p.address < segment_count x = omega (arith, f.address, n.0) in
    rw body record {
      within = within;
      bytes = same_number_lists p.bytes (segment_of x p.address) (f.four ∙ sym (segment_long x p.address within))
          (λ k h. s.own k (omega (arith, h, f.four)) (omega (arith, h, f.four, f.address, n.0))
          ∙ sym (segment_byte x p.address k (omega (arith, h, f.four))));
    }

eight : (n : ℕ) → bit_at (2 ^ 8) n ≡ 1 → n ≡ 8
eight n b = grind (arith, bit_at-pow_other 8 n)

is_name_gauge : IsGauge name_gauge
is_name_gauge = record {
  few = omega arith;
  some = omega arith;
  small = omega arith;
  long = λ n b. omega (arith, eight n b);
  size = λ x n. rw n.0 (bit_at-pow_same 8);
  formed = name_formed;
  stands = name_stands;
  same = λ x p q e a b at. a.bytes ∙ ap (segment_of (name_body x)) at ∙ sym b.bytes;
  end = λ n b c h k. grind (arith);
  value = λ x b fits each. (
    eight _ b,
    record {
      at_most = omega (arith, eight _ b);
      bytes = fits;
      allowed = λ i h. grind (arith, each i h);
    },
  );
  has = name_has;
}

-- names are measured exactly
pub name_gauge_is_exact : IsExact name_gauge
name_gauge_is_exact = gauge_exact name_gauge is_name_gauge
