-- The laws of both services: an address has at most four bits, without cells no value is whole, and cells make at most
-- one value whole.
use Rattle.std.proofs.Common.{◌≡◌, ℕ, ◌<◌, ◌≤◌, ◌/◌, List, length, sym, ◌∙◌, inl, inr, arith}
use Rattle.std.specs.FinMap.{empty, get-empty}
use Rattle.std.specs.Ordering.{nat_cmp}
use Rattle.std.proofs.lemmas.Bool.{cases_order}
use Rattle.std.proofs.lemmas.Grind.{same_number_lists}
use Rattle.rds_assembly.specs.Cells.{Cells, HasByte, IsSpelled}
use Rattle.rds_assembly.specs.Whole.{IsWholeName, IsWholeText}

pub sixteen_are_few : 16 ≤ 16
sixteen_are_few = omega arith

pub two_are_few : 2 ≤ 16
two_are_few = omega arith

-- a place has one byte
pub one_byte : (cells : Cells) (i b c : ℕ) → HasByte cells i b → HasByte cells i c → b ≡ c
one_byte cells i b c p q =
    let held_p = p.held in
    let held_q = q.held in
    let byte_p = p.byte in
    let byte_q = q.byte in
    cc

-- values of one length that are held are equal
same_spelled : (cells : Cells) (x y : List ℕ) → IsSpelled cells x → IsSpelled cells y → length x ≡ length y → x ≡ y
same_spelled cells x y p q e =
    same_number_lists x y e (λ k h. one_byte cells k _ _ (p.bytes k h) (q.bytes k (omega arith)))

no_shorter : (cells : Cells) (x y : List ℕ) → IsWholeText cells x → IsWholeText cells y → length x < length y → ⊥
no_shorter cells x y p q h =
    elim p.ends [
      | inl e ↦ elim q.ends [ inl f ↦ omega arith | inr f ↦ omega (arith, f.0) ]
      | inr e ↦ q.plain (length x) h (one_byte cells (length x) _ _ (q.spelled.bytes (length x) h) e.1)
    ]

pub one_text : (cells : Cells) (x y : List ℕ) → IsWholeText cells x → IsWholeText cells y → x ≡ y
one_text cells x y p q =
    elim (cases_order (length x) (length y)) [
      | inl e ↦ same_spelled cells x y p.spelled q.spelled e
      | inr w ↦ elim w [ inl h ↦ absurd (no_shorter cells x y p q h) | inr h ↦ absurd (no_shorter cells y x q p h) ]
    ]

pub one_name : (cells : Cells) (x y : List ℕ) → IsWholeName cells x → IsWholeName cells y → x ≡ y
one_name cells x y p q = same_spelled cells x y p.spelled q.spelled (p.eight ∙ sym q.eight)

-- without cells no byte is held
nothing_held : (i b : ℕ) → HasByte empty i b → ⊥
nothing_held i b h =
    let held = h.held in
    let none = get-empty {X = List ℕ} nat_cmp (i / 4) in
    cc

pub no_text_of_none : (x : List ℕ) → IsWholeText empty x → ⊥
no_text_of_none x w = elim w.ends [
  | inl e ↦ nothing_held 0 _ (w.spelled.bytes 0 (omega arith))
  | inr e ↦ nothing_held (length x) 13 e.1
]

pub no_name_of_none : (x : List ℕ) → IsWholeName empty x → ⊥
no_name_of_none x w = let eight = w.eight in nothing_held 0 _ (w.spelled.bytes 0 (omega arith))
