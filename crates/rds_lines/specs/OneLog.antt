-- Lemmas: bytes have one list of lines, a line says one thing, and lines have one list of slots.
use Rattle.std.proofs.Common.{◌≡◌, ◌≢◌, ◌⊎◌, ◌<◌, ℕ, List, [], ◌∷◌, ◌++◌, length, length-append, get_or, Option}
use Rattle.std.proofs.Common.{Some, refl, sym, ap, ◌∙◌, subst, arith, inl, inr}
use Rattle.std.specs.Prelude.{All}
use Rattle.std.proofs.lemmas.List.Elements.{All-head, All-tail}
use Rattle.std.specs.Char.{digit_value}
use Rattle.std.proofs.lemmas.Grind.{common_steps}
use Rattle.rds_block.specs.declared.group.Group.{Group}
use Rattle.rds_block.specs.SecondWord.{same_group}
use Rattle.rds_block.specs.Words.{AreWordsOf}
use Rattle.rds_fields.specs.TagGroup.{exchanged_in}
use Rattle.rds_io.specs.Digits.{HasWord}
use Rattle.rds_lines.specs.LogSlots.{IsLogOf, AreSlots}
use Rattle.rds_lines.specs.LogLines.{AreLines, IsLine, Line, line_feed, text_of}
use Rattle.rds_lines.specs.LineSays.{Carry, IsBlock, IsMark, IsSkipped, LineSays, SaysSlot}
use Rattle.rds_lines.specs.declared.log_line.Block.{Block}
use Rattle.rds_lines.specs.declared.log_line.Block.TheVariants.{Word, Missing}
use Rattle.rds_lines.specs.declared.log_line.LogLine.{LogLine}
use Rattle.rds_lines.specs.declared.log_line.LogLine.TheVariants.{Skip, Slot}

-- no line feed stands in a line
no_feed : (line before rest : List ℕ) → IsLine line → line ≡ before ++ line_feed ∷ rest → ⊥
no_feed line before rest is e =
    let at : get_or (before ++ line_feed ∷ rest) (length before) 0 ≡ line_feed = grind (arith, common_steps) in
    let within : length before < length (before ++ line_feed ∷ rest) =
    omega (arith, length-append before (line_feed ∷ rest)) in
    subst IsLine e is (length before) 0 within at

-- the last line feed stands at one place
same_last_feed : (before other rest others : List ℕ) → IsLine rest → IsLine others
    → before ++ line_feed ∷ rest ≡ other ++ line_feed ∷ others → (before ≡ other) × (rest ≡ others)
same_last_feed [] [] rest others p q e = (refl, (cc))
same_last_feed [] (b ∷ other) rest others p q e = absurd (no_feed rest other others p (cc))
same_last_feed (b ∷ before) [] rest others p q e = absurd (no_feed others before rest q (cc))
same_last_feed (b ∷ before) (c ∷ other) rest others p q e =
    let tail : before ++ line_feed ∷ rest ≡ other ++ line_feed ∷ others = (cc) in
    let head : b ≡ c = (cc) in
    let same = same_last_feed before other rest others p q tail in
    let front : before ≡ other = same.0 in
    (cc, same.1)

-- the closed lines and the begun one of a text
same_cut : (closed other : List Line) (begun begun' : Line) → All IsLine closed → All IsLine other → IsLine begun
    → IsLine begun' → text_of closed begun ≡ text_of other begun' → (closed ≡ other) × (begun ≡ begun')
same_cut [] [] begun begun' a b p q e = (refl, e)
same_cut [] (line ∷ other) begun begun' a b p q e = absurd (no_feed begun (text_of other line) begun' p e)
same_cut (line ∷ closed) [] begun begun' a b p q e = absurd (no_feed begun' (text_of closed line) begun q (sym e))
same_cut (line ∷ closed) (line' ∷ other) begun begun' a b p q e =
    let last = same_last_feed (text_of closed line) (text_of other line') begun begun' p q e in
    let same = same_cut closed other line line' (All-tail IsLine line closed a) (All-tail IsLine line' other b)
    (All-head IsLine line closed a) (All-head IsLine line' other b) last.0 in
    let lines : closed ≡ other = same.0 in
    let line_is : line ≡ line' = same.1 in
    ((cc), last.1)

-- bytes have one list of lines
pub same_lines : (text : List ℕ) (lines other : List Line) → AreLines text lines → AreLines text other → lines ≡ other
same_lines text lines other (closed, begun, is, a, p, ends) (closed', begun', is', b, q, ends') =
    let same = same_cut closed closed' begun begun' a b p q (sym is ∙ is') in
    both same.0 same.1 ends ends'
  where
    both : closed ≡ closed' → begun ≡ begun' → ((begun ≡ []) × (lines ≡ closed))
        ⊎ ((begun ≢ []) × (lines ≡ begun ∷ closed))
        → ((begun' ≡ []) × (other ≡ closed')) ⊎ ((begun' ≢ []) × (other ≡ begun' ∷ closed')) → lines ≡ other
    both c d (inl (empty, e)) (inl (empty', f)) = e ∙ c ∙ sym f
    both c d (inl (empty, e)) (inr (some, f)) = absurd (some (sym d ∙ empty))
    both c d (inr (some, e)) (inl (empty, f)) = absurd (some (d ∙ empty))
    both c d (inr (some, e)) (inr (some', f)) = (cc)

-- one block stands at a place
same_block : (line : Line) (at : ℕ) (b c : Block) → IsBlock line at b → IsBlock line at c → b ≡ c
same_block line at (Word w) (Word v) p q = ap Word (p.word ∙ sym q.word)
same_block line at Missing Missing p q = refl
same_block line at (Word w) Missing p q = absurd (no_digit (get_or line at 0) q.first p.first)
  where
    no_digit : (b : ℕ) → b ≡ 45 → digit_value b < 16 → ⊥
    no_digit b e h = (let dash : digit_value 45 < 16 = rw e at h in omega arith)
same_block line at Missing (Word v) p q = absurd (no_digit (get_or line at 0) p.first q.first)
  where
    no_digit : (b : ℕ) → b ≡ 45 → digit_value b < 16 → ⊥
    no_digit b e h = (let dash : digit_value 45 < 16 = rw e at h in omega arith)

-- four blocks carry one group or none
same_carried : (a b c d : Block) (slot other : Option Group) → Carry a b c d slot → Carry a b c d other → slot ≡ other
same_carried (Word a) (Word b) (Word c) (Word d) slot other (g, p, e) (h, q, f) =
    e ∙ ap Some (same_group (a ∷ b ∷ c ∷ d ∷ []) g h p q) ∙ sym f
same_carried Missing b c d slot other p q = p ∙ sym q
same_carried (Word a) Missing c d slot other p q = p ∙ sym q
same_carried (Word a) (Word b) Missing d slot other p q = p ∙ sym q
same_carried (Word a) (Word b) (Word c) Missing slot other p q = p ∙ sym q

same_slot : (line : Line) (slot other : Option Group) → SaysSlot line slot → SaysSlot line other → slot ≡ other
same_slot line slot other p q =
    let a : p.a ≡ q.a = same_block line 0 p.a q.a p.first q.first in
    let b : p.b ≡ q.b = same_block line 5 p.b q.b p.second q.second in
    let c : p.c ≡ q.c = same_block line 10 p.c q.c p.third q.third in
    let d : p.d ≡ q.d = same_block line 15 p.d q.d p.fourth q.fourth in
    same_carried q.a q.b q.c q.d slot other (rw (a, b, c, d) at p.carried) q.carried

-- a mark is neither a digit nor a dash
no_mark : (b : ℕ) → IsMark b → (digit_value b < 16) ⊎ (b ≡ 45) → ⊥
no_mark b (inl m) (inl digit) = (let mark : digit_value 60 < 16 = rw m at digit in omega arith)
no_mark b (inr (inl m)) (inl digit) = (let mark : digit_value 35 < 16 = rw m at digit in omega arith)
no_mark b (inr (inr m)) (inl digit) = (let mark : digit_value 37 < 16 = rw m at digit in omega arith)
no_mark b (inl m) (inr dash) = omega arith
no_mark b (inr (inl m)) (inr dash) = omega arith
no_mark b (inr (inr m)) (inr dash) = omega arith

begins : (line : Line) (block : Block) → IsBlock line 0 block → (digit_value (get_or line 0 0) < 16)
    ⊎ (get_or line 0 0 ≡ 45)
begins line (Word w) p = inl p.first
begins line Missing p = inr p.first

-- a line that is skipped is no slot
not_both : (line : Line) (slot : Option Group) → IsSkipped line → LineSays line (Slot slot) → ⊥
not_both line slot (inl empty) (laid, says) = omega (arith, empty, laid.at_least)
not_both line slot (inr mark) (laid, says) = no_mark (get_or line 0 0) mark (begins line says.a says.first)

-- a line says one thing
pub same_said : (line : Line) (said other : LogLine) → LineSays line said → LineSays line other → said ≡ other
same_said line Skip Skip p q = refl
same_said line Skip (Slot slot) p q = absurd (not_both line slot p q)
same_said line (Slot slot) Skip p q = absurd (not_both line slot q p)
same_said line (Slot slot) (Slot other) p q = ap Slot (same_slot line slot other p.1 q.1)

-- lines have one list of slots
pub same_slots : (n : ℕ) (lines : List Line) (slots other : List (Option Group)) → AreSlots n lines slots
    → AreSlots n lines other
    → slots ≡ other
same_slots n [] slots other p q = p ∙ sym q
same_slots n (line ∷ before) slots other (inl (p, rest)) (inl (q, rest')) = same_slots n before slots other rest rest'
same_slots n (line ∷ before) slots other (inl (p, rest)) (inr (slot, older, q, e, rest')) =
    absurd (not_both line slot p q)
same_slots n (line ∷ before) slots other (inr (slot, older, p, e, rest)) (inl (q, rest')) =
    absurd (not_both line slot q p)
same_slots n (line ∷ before) slots other (inr (slot, older, p, e, rest)) (inr (slot', older', q, f, rest')) =
    let one : exchanged_in n slot ≡ exchanged_in n slot' = ap (exchanged_in n) (same_slot line slot slot' p.1 q.1) in
    let all : older ≡ older' = same_slots n before older older' rest rest' in
    (cc)

-- bytes are the log of one list of slots
pub same_log : (n : ℕ) (text : List ℕ) (slots other : List (Option Group)) → IsLogOf n text slots
    → IsLogOf n text other
    → slots ≡ other
same_log n text slots other p q =
    let lines : p.lines ≡ q.lines = same_lines text p.lines q.lines p.are q.are in
    same_slots n q.lines slots other (rw lines at p.say) q.say

-- ---- lines that say slots

-- four words say their group
pub says_group : (line : Line) (a b c d : ℕ) (g : Group) → HasWord line 0 a → HasWord line 5 b → HasWord line 10 c
    → HasWord line 15 d → AreWordsOf (a ∷ b ∷ c ∷ d ∷ []) g → SaysSlot line (Some g)
says_group line a b c d g first second third fourth words = record {
  a = Word a;
  b = Word b;
  c = Word c;
  d = Word d;
  first = first;
  second = second;
  third = third;
  fourth = fourth;
  carried = (g, words, refl);
}
