-- A text at the front of a buffer of 64 bytes, with zeros after it. So one text has one buffer.
use Rattle.std.specs.Prelude.{◌≡◌, ℕ, ◌-◌, ◌≤◌, List, ◌++◌, length, take, drop, replicate}
use Rattle.std.proofs.Common.{sym, ap, ◌∙◌, arith}
use Rattle.std.proofs.lemmas.List.{take-append-drop, length-take-le}
use Rattle.rds_assembly.specs.Value.{IsText}

-- the first bytes of the buffer are a text, and the others are zeros
pub record IsZeroFilled (end : ℕ) (buffer : List ℕ) : Type 0 where
  pub full : length buffer ≡ 64
  pub within : end ≤ 64
  pub zeros : drop end buffer ≡ replicate (64 - end) 0
  pub text : IsText (take end buffer)

-- the buffer of a text
abbrev pub zero_filled : List ℕ → List ℕ
zero_filled x = x ++ replicate (64 - length x) 0

pub end_back : (end : ℕ) (buffer : List ℕ) → IsZeroFilled end buffer → length (take end buffer) ≡ end
end_back end buffer h = (let w = h.within in let l = h.full in length-take-le end buffer (omega arith))

pub filled_back : (end : ℕ) (buffer : List ℕ) → IsZeroFilled end buffer → zero_filled (take end buffer) ≡ buffer
filled_back end buffer h =
    ap (λ k. take end buffer ++ replicate (64 - k) 0) (end_back end buffer h)
    ∙ ap (λ rest. take end buffer ++ rest) (sym h.zeros)
    ∙ take-append-drop end buffer
