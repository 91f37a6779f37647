-- Lemmas about block 2: its fields are joined to it, and no other fields have the same sum.
use Rattle.std.proofs.Common.{[], ◌∷◌, ◌≡◌, ◌+◌, ◌*◌, ◌<◌, ◌%◌, ◌^◌, ◌∙◌, List, length, get_or, ℕ, Bool, true, false}
use Rattle.std.proofs.Common.{bit_or, refl, sym, arith}
use Rattle.std.proofs.lemmas.Nat.{or_shifted}
use Rattle.std.specs.Int.{from_bool}
use Rattle.rds_block.specs.declared.group.Group.{Group}
use Rattle.rds_block.specs.Words.{words_of, second_word_of, AreWordsOf}

-- joining lower bits to a multiple of 2 ^ k adds them
pub or_above : (k a b x : ℕ) → x ≡ a * 2 ^ k → b < 2 ^ k → bit_or x b ≡ x + b
or_above k a b x e h = rw e (or_shifted a k b h)

-- joining the shifted fields gives block 2
pub second_word_joined : (n v t p l : ℕ) → n < 16 → v < 2 → t < 2 → p < 32 → l < 32 →
    bit_or (bit_or (bit_or (bit_or (n * 4096 % 65536) (v * 2048 % 65536)) (t * 1024 % 65536)) (p * 32 % 65536)) l
    ≡ 4096 * n + 2048 * v + 1024 * t + 32 * p + l
second_word_joined n v t p l hn hv ht hp hl =
    let en : n * 4096 % 65536 ≡ n * 4096 = omega arith in
    let ev : v * 2048 % 65536 ≡ v * 2048 = omega arith in
    let et : t * 1024 % 65536 ≡ t * 1024 = omega arith in
    let ep : p * 32 % 65536 ≡ p * 32 = omega arith in
    let e1 = or_above 12 n (v * 2048) (n * 4096) refl (omega arith) in
    let e2 = or_above 11 (2 * n + v) (t * 1024) (n * 4096 + v * 2048) (omega arith) (omega arith) in
    let e3 = or_above 10 (4 * n + 2 * v + t) (p * 32) (n * 4096 + v * 2048 + t * 1024) (omega arith) (omega arith) in
    let e4 = or_above 5 (128 * n + 64 * v + 32 * t + p) l (n * 4096 + v * 2048 + t * 1024 + p * 32) (omega arith)
    (omega arith) in
    rw (en, ev, et, ep, e1, e2, e3, e4) (omega arith)

-- a list of length four is the list of its four elements
pub four : (b : List ℕ) → length b ≡ 4 → b ≡ get_or b 0 0 ∷ get_or b 1 0 ∷ get_or b 2 0 ∷ get_or b 3 0 ∷ []
four [] e = absurd (omega arith)
four (w ∷ []) e = absurd (omega arith)
four (w ∷ x ∷ []) e = absurd (omega arith)
four (w ∷ x ∷ y ∷ []) e = absurd (omega arith)
four (w ∷ x ∷ y ∷ z ∷ []) e = refl
four (w ∷ x ∷ y ∷ z ∷ a ∷ b) e = absurd (omega arith)

pub from_bool-lt : (b : Bool) → from_bool b < 2
from_bool-lt true = omega arith
from_bool-lt false = omega arith

pub same_bool : (a b : Bool) → from_bool a ≡ from_bool b → a ≡ b
same_bool true true e = refl
same_bool false false e = refl
same_bool true false e = absurd (omega arith)
same_bool false true e = absurd (omega arith)

-- groups with equal fields are equal
pub equal_fields : (g h : Group) → g.pi ≡ h.pi → g.number ≡ h.number → g.version ≡ h.version → g.tp ≡ h.tp
    → g.pty ≡ h.pty → g.low ≡ h.low → g.c ≡ h.c → g.d ≡ h.d → g ≡ h
equal_fields g h pi number version tp pty low c d =
    λ i. record {
      pi = pi i;
      number = number i;
      version = version i;
      tp = tp i;
      pty = pty i;
      low = low i;
      c = c i;
      d = d i;
    }

-- groups with the same words are equal
pub same_group : (words : List ℕ) (g h : Group) → AreWordsOf words g → AreWordsOf words h → g ≡ h
same_group words g h fg fh =
    let e : words_of g ≡ words_of h = sym fg.blocks ∙ fh.blocks in
    let s : second_word_of g ≡ second_word_of h = cc in
    let pi : g.pi ≡ h.pi = cc in
    let c : g.c ≡ h.c = cc in
    let d : g.d ≡ h.d = cc in
    let v = from_bool-lt g.version in
    let v' = from_bool-lt h.version in
    let t = from_bool-lt g.tp in
    let t' = from_bool-lt h.tp in
    let number : g.number ≡ h.number = omega arith in
    let version = same_bool g.version h.version (omega arith) in
    let tp = same_bool g.tp h.tp (omega arith) in
    let pty : g.pty ≡ h.pty = omega arith in
    let low : g.low ≡ h.low = omega arith in
    equal_fields g h pi number version tp pty low c d
