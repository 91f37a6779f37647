-- Lemmas: a buffer of zeros with a text written over its front.
use Rattle.std.proofs.Common.{◌≡◌, ℕ, ◌-◌, ◌≤◌, List, ◌++◌, length, drop, ap, ◌∙◌, sym, arith, length-append, replicate}
use Rattle.std.proofs.lemmas.Simd.{length-replicate}
use Rattle.std.proofs.lemmas.List.{drop-replicate}
use Rattle.std.proofs.Math.Seq.{drop-append_seam, take-append_seam}
use Rattle.rds_assembly.specs.Value.{IsText}
use Rattle.rds_assembly.specs.Filled.{IsZeroFilled}

rest_long : (n k : ℕ) → length (drop n (replicate {A = ℕ} k 0)) ≡ k - n
rest_long n k = ap length (drop-replicate n k 0) ∙ length-replicate (k - n) 0

-- a text with zeros behind it is filled so
pub written : (n : ℕ) (x : List ℕ) → length x ≡ n → IsText x → IsZeroFilled n (x ++ drop n (replicate 64 0))
written n x e t =
    let within : n ≤ 64 = (let long = t.at_most in omega arith) in
    let rest = rest_long n 64 in
    record {
      full = omega (arith, length-append x (drop n (replicate 64 0)));
      within = within;
      zeros = ap (λ k. drop k (x ++ drop n (replicate 64 0))) (sym e) ∙ drop-append_seam x (drop n (replicate 64 0))
          ∙ drop-replicate n 64 0;
      text = rw (← e, take-append_seam x (drop (length x) (replicate 64 0))) t;
    }
