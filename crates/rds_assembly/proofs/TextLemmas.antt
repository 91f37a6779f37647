-- Lemmas: which text the search for carriage returns among the held segments finds.
use Rattle.std.proofs.Common.{◌≡◌, ◌≢◌, ℕ, ◌+◌, ◌-◌, ◌/◌, ◌^◌, ◌<◌, ◌≤◌, List, length, slice_index, take, None}
use Rattle.std.proofs.Common.{bit_and, sym, ◌∙◌, ◌⊎◌, inl, inr, arith, w64}
use Rattle.std.specs.Int.{bit_at, trailing_ones, trailing_zeros}
use Rattle.std.specs.Int.Count.{trailing_of_zero}
use Rattle.std.specs.FinMap.{get}
use Rattle.std.proofs.lemmas.Bool.{cases_lt, cases_order}
use Rattle.std.proofs.lemmas.List.{get_or-take, length-take-le}
use Rattle.std.proofs.lemmas.Nat.{and_le_r}
use Rattle.std.proofs.lemmas.Nat.Bits.{bit_at-lt, bit_at-zero, bit_at_and, bit_at_ones, bit_at-trailing_ones}
use Rattle.std.proofs.lemmas.Nat.Bits.{bit_at-trailing_zeros}
use Rattle.rds_assembly.specs.Cells.{Cells, HasByte}
use Rattle.rds_assembly.specs.Held.{held_cells}
use Rattle.rds_assembly.specs.Lanes.{AreReturns, IsSpread}
use Rattle.rds_assembly.specs.Whole.{IsWholeText}
use Rattle.rds_assembly.specs.ServiceLaws.{one_byte}
use Rattle.rds_assembly.proofs.HeldLemmas.{byte_in, get-unset, spelled}

-- each byte below n is held and is not a carriage return
abbrev Passed : Cells → ℕ → Type 0
Passed m n = (k : ℕ) → k < n → (b : ℕ) × HasByte m k b × (b ≢ 13)

not_both : (m : Cells) (i b : ℕ) → HasByte m i b → get m (i / 4) ≡ None → ⊥
not_both m i b h n = grind (arith)

missing : (m : Cells) (n : ℕ) → Passed m n → n < 64 → get m (n / 4) ≡ None → (x : List ℕ) → IsWholeText m x → ⊥
missing m n p h none x w = elim (cases_order (length x) n) [
  | inl e ↦ grind (arith)
  | inr (inl less) ↦ elim w.ends [
    | inl f ↦ omega arith
    | inr f ↦ (p (length x) less).2 (one_byte m (length x) _ _ (p (length x) less).1 f.1)
  ]
  | inr (inr more) ↦ not_both m n _ (w.spelled.bytes n more) none
]

-- which bytes are held, and which are carriage returns
pub record AreLanes (mask : ℕ) (bytes : List ℕ) (held returns : ℕ) : Type 0 where
  pub long : length bytes ≡ 64
  pub wide : held < 2 ^ 64
  pub bits : IsSpread mask held
  pub marks : AreReturns bytes returns

other_byte : (mask : ℕ) (bytes : List ℕ) (held returns i : ℕ) → AreLanes mask bytes held returns
    → bit_at (bit_and returns held) i ≡ 0 → bit_at held i ≡ 1 → slice_index bytes i ≢ 13
other_byte mask bytes held returns i lanes off on is = grind (arith, bit_at_and)

return_byte : (mask : ℕ) (bytes : List ℕ) (held returns i : ℕ) → AreLanes mask bytes held returns
    → bit_at (bit_and returns held) i ≡ 1 → (bit_at held i ≡ 1) × (slice_index bytes i ≡ 13)
return_byte mask bytes held returns i lanes on = grind (arith, bit_at_and, bit_at-lt)

-- the first set bit is at place p, or no bit is set and p is 64
record IsFirst (found p : ℕ) : Type 0 where
  at : (p ≡ 64) ⊎ ((p < 64) × (bit_at found p ≡ 1))
  below : (i : ℕ) → i < p → bit_at found i ≡ 0

first : (found : ℕ) → found < 2 ^ 64 → IsFirst found (trailing_zeros w64 found)
first found fits =
    elim (cases_lt 0 found) [
      | inl some ↦ (let t = bit_at-trailing_zeros w64 found some fits in record { at = inr (t.0, t.1); below = t.2 })
      | inr none ↦ (let nothing : found ≡ 0 = omega arith
          in rw nothing (record { at = inl (trailing_of_zero 64); below = λ i h. bit_at-zero i }))
    ]

-- all bytes below place p are held, and the one at p is not, or p is 64
record IsGap (held p : ℕ) : Type 0 where
  at : (p ≡ 64) ⊎ ((p < 64) × (bit_at held p ≡ 0))
  below : (i : ℕ) → i < p → bit_at held i ≡ 1

gap : (held : ℕ) → held < 2 ^ 64 → IsGap held (trailing_ones w64 held)
gap held fits =
    elim (cases_lt (held + 1) (2 ^ 64)) [
      | inl short ↦ (let t = bit_at-trailing_ones w64 held short in record { at = inr (t.0, t.1); below = t.2 })
      | inr full ↦ (let all : held ≡ 2 ^ 64 - 1 = omega arith in
          let end : trailing_ones w64 held ≡ 64 = rw all (trailing_of_zero 64) in
          record { at = inl end; below = λ i h. rw all (bit_at_ones 64 i (omega arith)) })
    ]

upto : (mask : ℕ) (bytes : List ℕ) (held returns p t : ℕ) → AreLanes mask bytes held returns
    → IsFirst (bit_and returns held) p → IsGap held t → p ≤ t → IsWholeText (held_cells mask bytes) (take p bytes)
upto mask bytes held returns p t lanes a g h =
    let within : p ≤ 64 = grind arith in
    let cut : length (take p bytes) ≡ p = length-take-le p bytes (omega (arith, lanes.long)) in
    let plain = λ (i : ℕ) (l : i < length (take p bytes)). other_byte mask bytes held returns i lanes
    (a.below i (omega arith)) (g.below i (omega arith)) in
    record {
      plain = λ i l. rw (get_or-take p bytes i 0 (omega arith)) (plain i l);
      spelled = spelled mask bytes p within lanes.long (λ i l. sym (lanes.bits i) ∙ g.below i (omega arith));
      ends = elim a.at [
        | inl e ↦ inl (cut ∙ e)
        | inr e ↦ (
            let r = return_byte mask bytes held returns p lanes e.1 in
            search (arith, byte_in))
      ];
    }

beyond : (mask : ℕ) (bytes : List ℕ) (held returns p t : ℕ) → AreLanes mask bytes held returns
    → IsFirst (bit_and returns held) p → IsGap held t → t < p → (x : List ℕ) → IsWholeText (held_cells mask bytes) x → ⊥
beyond mask bytes held returns p t lanes a g h =
    let within : p ≤ 64 = grind arith in
    let off : bit_at held t ≡ 0 = grind arith in
    let unset = get-unset mask bytes (t / 4) (omega arith) (sym (lanes.bits t) ∙ off) in
    missing (held_cells mask bytes) t (λ k l. (
      slice_index bytes k,
      byte_in mask bytes k (omega arith) (sym (lanes.bits k) ∙ g.below k l),
      other_byte mask bytes held returns k lanes (a.below k (omega arith)) (g.below k l),
    )) (omega arith) unset

-- the comparison in the code
pub found_whole : (mask : ℕ) (bytes : List ℕ) (held returns : ℕ) → AreLanes mask bytes held returns
    → trailing_zeros w64 (bit_and returns held) ≤ trailing_ones w64 held
    → IsWholeText (held_cells mask bytes) (take (trailing_zeros w64 (bit_and returns held)) bytes)
found_whole mask bytes held returns lanes h =
    let wide = lanes.wide in
    let least = and_le_r returns held in
    upto mask bytes held returns _ _ lanes (first (bit_and returns held) (omega arith)) (gap held wide) h

-- cells without a carriage return in their held part hold no whole text
pub found_none : (mask : ℕ) (bytes : List ℕ) (held returns : ℕ) → AreLanes mask bytes held returns
    → trailing_ones w64 held < trailing_zeros w64 (bit_and returns held)
    → (x : List ℕ) → IsWholeText (held_cells mask bytes) x → ⊥
found_none mask bytes held returns lanes h = grind (arith, and_le_r, beyond, first, gap)
