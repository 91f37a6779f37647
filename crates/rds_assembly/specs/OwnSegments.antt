-- Lemmas: cells from a value's segments make it whole or nothing, and all of its segments make it whole.
use Rattle.std.proofs.Common.{◌≡◌, ◌≢◌, ◌+◌, ◌-◌, ◌*◌, ◌/◌, ◌%◌, ◌<◌, ◌≤◌, ◌∷◌, ◌++◌, ◌∙◌, ◌⊎◌, ℕ, List, Bool, true}
use Rattle.std.proofs.Common.{false, nat_eq, length, get_or, slice_index, refl, sym, ap, inl, inr, arith, length-append}
use Rattle.std.specs.Prelude.{replicate}
use Rattle.std.proofs.lemmas.Bool.{cases_order}
use Rattle.std.proofs.lemmas.Bool.Decides.{nat_tests}
use Rattle.std.proofs.lemmas.Grind.{same_number_lists}
use Rattle.std.proofs.lemmas.Simd.{get_or-chunk, length-replicate}
use Rattle.std.proofs.lemmas.List.{append-nil, get_or_append_left, get_or-append_right}
use Rattle.rds_assembly.specs.Cells.{Cells, HasByte}
use Rattle.rds_assembly.specs.Whole.{IsWholeName, IsWholeText}
use Rattle.rds_assembly.specs.Body.{AreAllHeld, AreSegmentsOf, name_body, segment_count, segment_of, text_body}
use Rattle.rds_assembly.specs.Value.{IsName, IsText, is_text_byte}

-- the byte of a segment is the byte of the body at that place
segment_byte : (body : List ℕ) (i : ℕ) → slice_index (segment_of body (i / 4)) (i % 4) ≡ slice_index body i
segment_byte body i =
    let place : 4 * (i / 4) + i % 4 ≡ i = omega arith in
    get_or-chunk (4 * (i / 4)) 4 body (i % 4) 0 (omega arith) ∙ ap (λ k. get_or body k 0) place

-- a byte that is held is the byte of the body
byte_of : (body : List ℕ) (cells : Cells) (i b : ℕ) → AreSegmentsOf body cells → HasByte cells i b
    → b ≡ slice_index body i
byte_of body cells i b own h =
    sym h.byte ∙ ap (λ cell. get_or cell (i % 4) 0) (own.taken (i / 4) h.cell h.held) ∙ segment_byte body i

-- if all segments are held, each byte of the body is
byte_held : (body : List ℕ) (cells : Cells) (i : ℕ) → AreAllHeld body cells → i / 4 < segment_count body
    → HasByte cells i (slice_index body i)
byte_held body cells i all h = record {
  cell = segment_of body (i / 4);
  held = all.held (i / 4) h;
  byte = segment_byte body i;
}

-- a text is the front of its body
text_below : (x : List ℕ) (i : ℕ) → i < length x → slice_index (text_body x) i ≡ slice_index x i
text_below x i h = by_length (nat_eq (length x) 64) refl
  where
    by_length : (b : Bool) → nat_eq (length x) 64 ≡ b → slice_index (text_body x) i ≡ slice_index x i
    by_length true e = rw e refl
    by_length false e = rw e (get_or_append_left x _ 0 i h)

-- after a text of fewer than 64 bytes comes a carriage return
text_end : (x : List ℕ) → length x < 64 → slice_index (text_body x) (length x) ≡ 13
text_end x h =
    let e : nat_eq (length x) 64 ≡ false = grind (arith, nat_tests) in
    let z : length x - length x ≡ 0 = omega arith in
    rw e (get_or-append_right x (13 ∷ replicate (3 - length x % 4) 32) (length x) (length x) 0 refl (omega arith)
    ∙ ap (λ k. get_or (13 ∷ replicate (3 - length x % 4) 32) k 0) z)

-- a text, and its carriage return if it has one, lie in its segments
text_within : (x : List ℕ) (i : ℕ) → length x ≤ 64 → i ≤ length x → i < 64 → i / 4 < segment_count (text_body x)
text_within x i long h l = by_length (nat_eq (length x) 64) refl
  where
    by_length : (b : Bool) → nat_eq (length x) 64 ≡ b → i / 4 < segment_count (text_body x)
    by_length true e = rw e (let full : length x ≡ 64 = grind (arith, nat_tests) in omega arith)
    by_length false e = rw e (omega
        (arith, length-append x (13 ∷ replicate (3 - length x % 4) 32), length-replicate {A = ℕ} (3 - length x % 4) 32))

-- no byte of a text is a carriage return
no_return : (x : List ℕ) → IsText x → (i : ℕ) → i < length x → slice_index x i ≢ 13
no_return x t i h e =
    let bad : is_text_byte 13 ≡ true = sym (ap is_text_byte e) ∙ t.allowed i h in
    cc

pub own_text : (cells : Cells) (x y : List ℕ) → IsText x → AreSegmentsOf (text_body x) cells → IsWholeText cells y
    → y ≡ x
own_text cells x y t own w =
    elim (cases_order (length y) (length x)) [
      | inl e ↦ same_number_lists y x e
          (λ k h. byte_of _ cells k _ own (w.spelled.bytes k h) ∙ text_below x k (omega arith))
      | inr u ↦ elim u [
        | inl shorter ↦ absurd (elim w.ends [
          | inl full ↦ (let long = t.at_most in omega arith)
          | inr end ↦ no_return x t (length y) shorter
              (sym (text_below x (length y) shorter) ∙ sym (byte_of _ cells (length y) 13 own end.1))
        ])
        | inr longer ↦ absurd (w.plain (length x) longer
            (byte_of _ cells (length x) _ own (w.spelled.bytes (length x) longer) ∙ text_end x (below longer w.ends)))
      ]
    ]
  where
    below : length x < length y → (length y ≡ 64) ⊎ ((length y < 64) × HasByte cells (length y) 13) → length x < 64
    below l (inl e) = omega arith
    below l (inr e) = (let f = e.0 in omega arith)

pub all_text : (cells : Cells) (x : List ℕ) → IsText x → AreAllHeld (text_body x) cells → IsWholeText cells x
all_text cells x t all = record {
  plain = no_return x t;
  spelled = record { bytes = λ i h. rw (text_below x i h) at (byte_held _ cells i all (within i h)) };
  ends = by_order (cases_order (length x) 64);
}
  where
    within : (i : ℕ) → i < length x → i / 4 < segment_count (text_body x)
    within i h = let long = t.at_most in text_within x i long (omega arith) (omega arith)

    by_order : (length x ≡ 64) ⊎ ((length x < 64) ⊎ (64 < length x))
        → (length x ≡ 64) ⊎ ((length x < 64) × HasByte cells (length x) 13)
    by_order (inl e) = inl e
    by_order (inr (inl h)) = inr (
      h,
      rw (text_end x h) at (byte_held _ cells (length x) all
          (text_within x (length x) t.at_most (omega arith) h)),
    )
    by_order (inr (inr h)) = (let long = t.at_most in absurd (omega arith))

-- a name is its own body
name_alone : (x : List ℕ) → IsName x → name_body x ≡ x
name_alone x n = ap (λ k. x ++ replicate (8 - k) 32) n.0 ∙ append-nil x

pub own_name : (cells : Cells) (x y : List ℕ) → IsName x → AreSegmentsOf (name_body x) cells → IsWholeName cells y
    → y ≡ x
own_name cells x y n own w =
    let e : length y ≡ length x = w.eight ∙ sym n.0 in
    same_number_lists y x e (λ k h. byte_of _ cells k _ own (w.spelled.bytes k h)
    ∙ ap (λ body. slice_index body k) (name_alone x n))

pub all_name : (cells : Cells) (x : List ℕ) → IsName x → AreAllHeld (name_body x) cells → IsWholeName cells x
all_name cells x n all = record {
  eight = n.0;
  spelled = record {
    bytes = λ i h. rw (name_alone x n) at
        (byte_held _ cells i all (rw (name_alone x n) (let eight = n.0 in omega arith)));
  };
}
