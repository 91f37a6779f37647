-- Lemmas: segments of a text with padding make this text whole, or nothing. Only places up to its carriage return
-- count.
use Rattle.std.proofs.Common.{◌≡◌, ◌+◌, ◌*◌, ◌/◌, ◌<◌, ◌≤◌, ℕ, List, ◌∷◌, length, slice_index, arith, ◌≢◌, ◌%◌, ◌∙◌, []}
use Rattle.std.proofs.Common.{Option, sym, ap, inl, inr, replicate}
use Rattle.std.proofs.lemmas.Grind.{common_steps, same_number_lists}
use Rattle.std.proofs.lemmas.Simd.{get_or-chunk}
use Rattle.std.proofs.lemmas.List.{get_or_past}
use Rattle.rds_assembly.specs.Body.{segment_count, segment_of, text_body}
use Rattle.rds_assembly.specs.Value.{IsText}
use Rattle.std.specs.List.{AllByRecursion}
use Rattle.std.proofs.lemmas.Bool.{cases_order}
use Rattle.rds_fields.specs.declared.message.Message.{Message}
use Rattle.rds_assembly.specs.Cells.{HasByte}
use Rattle.rds_assembly.specs.ServiceLaws.{no_text_of_none}
use Rattle.rds_assembly.specs.Whole.{IsWholeText}
use Rattle.rds_encoder.specs.Plan.{Broadcast}
use Rattle.rds_receiver.specs.Receipts.{Segment}
use Rattle.rds_receiver.specs.Run.{cells_of}
use Rattle.rds_safety.specs.Lawful.{IsLawful, padded_texts, texts}
use Rattle.rds_safety.specs.Laws.{ASegmentIsPadded, LawfulIsLawfulPadded}
use Rattle.rds_safety.specs.Marks.{marks, text_mark}
use Rattle.rds_safety.proofs.OneBroadcast.{AreParts, IsService, cell_has}

-- ---- the bytes of a text's body

-- a byte of a segment is the byte of the body at its place
pub segment_byte : (body : List ℕ) (a k : ℕ) → k < 4 → slice_index (segment_of body a) k ≡ slice_index body (4 * a + k)
segment_byte body a k h = get_or-chunk (4 * a) 4 body k 0 h

-- a segment has four bytes
pub segment_long : (body : List ℕ) (a : ℕ) → a < segment_count body → length (segment_of body a) ≡ 4
segment_long body a h = grind (arith, common_steps)

-- the body of a text begins with the text
pub text_below : (x : List ℕ) (i : ℕ) → i < length x → slice_index (text_body x) i ≡ slice_index x i
text_below x i h = grind (arith, common_steps)

-- behind a text of less than 64 bytes its body has a carriage return
pub text_end : (x : List ℕ) → length x < 64 → slice_index (text_body x) (length x) ≡ 13
text_end x h = grind (arith, common_steps)

-- the body of a text of less than 64 bytes ends with a whole segment
pub text_long : (x : List ℕ) → length x < 64 → length (text_body x) ≡ 4 * (length x / 4) + 4
text_long x h = grind (arith, common_steps)

-- a text of 64 bytes is its body
pub text_full : (x : List ℕ) → length x ≡ 64 → text_body x ≡ x
text_full x h = grind (arith)

-- after a carriage return at the front come spaces
past_return : (n k : ℕ) → 0 < k → k ≤ n → slice_index (13 ∷ replicate n 32) k ≡ 32
past_return n k pos h = grind (arith, common_steps)

-- after the carriage return of a body come spaces
pub text_past : (x : List ℕ) (i : ℕ) → length x < 64 → length x < i → i < length (text_body x)
    → slice_index (text_body x) i ≡ 32
text_past x i h past within = grind (arith, common_steps, past_return)

-- the bytes of a segment are below 256
pub segment_fits : (body : List ℕ) (a k : ℕ) → a < segment_count body
    → ((i : ℕ) → i < length body → slice_index body i < 256) → slice_index (segment_of body a) k < 256
segment_fits body a k h fits =
    grind (arith, segment_byte body a k, fits (4 * a + k), get_or_past (segment_of body a) k 0, segment_long body a h)

pub text_fits : (x : List ℕ) → IsText x → (i : ℕ) → i < length (text_body x) → slice_index (text_body x) i < 256
text_fits x t i h = grind (arith, text_end x, text_below x i, t.bytes i, text_past x i, text_full x, t.at_most)

pub text_few : (x : List ℕ) → IsText x → segment_count (text_body x) ≤ 16
text_few x t = (let long = t.at_most in grind (arith, text_long x, text_full x))

-- ---- segments of a text with padding make this text whole, or nothing

-- no byte of a text is a carriage return
no_return : (x : List ℕ) → IsText x → (i : ℕ) → i < length x → slice_index x i ≢ 13
no_return x t i h e = (let allowed = rw e at (t.allowed i h) in cc)

-- ---- a run of a text with padding

-- up to the end of the text, these are the bytes of the body at the address
abbrev pub HoldsUpToEnd : List ℕ → ℕ → List ℕ → Type 0
HoldsUpToEnd x a cell =
    (k : ℕ) → k < 4 → 4 * a + k ≤ length x → slice_index cell k ≡ slice_index (text_body x) (4 * a + k)

pub all_hold : (x : List ℕ) (gs : List Segment) → AreParts padded_texts x gs
    → AllByRecursion (λ (g : Segment). HoldsUpToEnd x g.fragment.address g.fragment.bytes) gs
all_hold x [] all = tt
all_hold x (g ∷ older) all = (let bytes = all.0.bytes in (bytes, all_hold x older all.1))

-- a byte that is held up to the end of the text is that of the body
byte_of : (x : List ℕ) (gs : List Segment) (i b : ℕ) → AreParts padded_texts x gs → i ≤ length x
    → HasByte (cells_of gs) i b → b ≡ slice_index (text_body x) i
byte_of x gs i b all up h =
    let place : 4 * (i / 4) + i % 4 ≡ i = omega arith in
    let is = cell_has (HoldsUpToEnd x) gs (all_hold x gs all) (i / 4) h.cell h.held in
    sym h.byte ∙ is (i % 4) (omega arith) (omega (arith, place)) ∙ ap (λ k. slice_index (text_body x) k) place

own_padded : (gs : List Segment) (x y : List ℕ) → IsText x → AreParts padded_texts x gs
    → IsWholeText (cells_of gs) y → y ≡ x
own_padded gs x y t all w =
    elim (cases_order (length y) (length x)) [
      | inl e ↦ same_number_lists y x e
          (λ k h. byte_of x gs k _ all (omega arith) (w.spelled.bytes k h) ∙ text_below x k (omega arith))
      | inr u ↦ elim u [
        | inl shorter ↦ absurd (elim w.ends [
          | inl full ↦ (let long = t.at_most in omega arith)
          | inr end ↦ no_return x t (length y) shorter
              (sym (text_below x (length y) shorter) ∙ sym (byte_of x gs (length y) 13 all (omega arith) end.1))
        ])
        | inr longer ↦
            let ends = w.ends in
            let short : length x < 64 = omega arith in
            absurd (w.plain (length x) longer (byte_of x gs (length x) _ all (omega arith)
            (w.spelled.bytes (length x) longer) ∙ text_end x short))
      ]
    ]

-- a whole text has the bytes of its value, whatever stands behind its carriage return
pub padded_service : IsService padded_texts IsWholeText
padded_service = record { own = own_padded; none = no_text_of_none }

-- ---- what is lawful without padding

-- a segment of the body is one with padding
segment_is_padded : ASegmentIsPadded
segment_is_padded x p t is = record {
  within = (let w = is.within in omega (arith, text_few x t));
  four = ap length is.bytes ∙ segment_long (text_body x) p.address is.within;
  fits = λ k. rw is.bytes (segment_fits (text_body x) p.address k is.within (text_fits x t));
  bytes = λ k h up. rw is.bytes (segment_byte (text_body x) p.address k h);
}

wider_texts : (d : ℕ) (plan : List Broadcast) (log : List (Option Message))
    → IsLawful d texts plan (marks text_mark log)
    → IsLawful d padded_texts plan (marks text_mark log)
wider_texts d plan log law = grind (arith, segment_is_padded)

pub wider : LawfulIsLawfulPadded
wider d plans log law = record { text = wider_texts d plans.text log law.text; name = law.name }
