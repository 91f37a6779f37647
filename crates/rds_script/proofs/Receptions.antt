-- A field spells one list of receptions: the digits after a letter end where the next letter stands.
use Rattle.std.proofs.Common.{◌≡◌, ◌<◌, ◌≤◌, ◌∙◌, ◌++◌, ◌+◌, ◌*◌, ℕ, zero, suc, List, [], ◌∷◌, append_assoc}
use Rattle.std.proofs.Common.{arith, drop, get_or, length, inl, inr, length-append, refl, subst, sym, take}
use Rattle.std.proofs.lemmas.List.{append-nil, length-take-le, take-append-drop}
use Rattle.std.proofs.lemmas.Bool.{cases_lt}
use Rattle.std.proofs.lemmas.Int.Digits.{digits_more, digits_value-lt, digits_value_more}
use Rattle.std.proofs.Math.Nat.{pow-le-pow_right}
use Rattle.std.specs.Char.{IsAsciiHexdigit, IsNotAsciiHexdigit, digit_value}
use Rattle.std.specs.Str.Parse.{AllDigits, digits_value}
use Rattle.rds_block.specs.SecondWord.{same_group}
use Rattle.rds_fields.specs.OneMessage.{same_message}
use Rattle.rds_fields.specs.declared.message.Message.{Message}
use Rattle.rds_world.specs.declared.event.Reception.{Reception}
use Rattle.rds_script.specs.Receptions.{AreReceptions, HasDigits, HasNoDigitFirst, IsDigitCut, IsLateness, IsWrongGroup}
use Rattle.rds_script.specs.Receptions.{letter}

not_empty : (b : ℕ) (more : List ℕ) → b ∷ more ≡ [] → ⊥
not_empty b more e = cc

-- the digits that a text begins with are one list of them
same_cut : (digits other rest others : List ℕ) → AllDigits 16 digits → AllDigits 16 other → HasNoDigitFirst rest
    → HasNoDigitFirst others → digits ++ rest ≡ other ++ others → (digits ≡ other) × (rest ≡ others)
same_cut [] [] rest others p q h k e = (refl, e)
same_cut [] (b ∷ other) rest others p q h k e = grind arith
same_cut (b ∷ digits) [] rest others p q h k e = grind arith
same_cut (b ∷ digits) (c ∷ other) rest others p q h k e = grind (arith, same_cut digits other rest others p.1 q.1 h k)

-- a letter is no digit
begins_with_letter : (text : List ℕ) (all : List Reception) → AreReceptions text all → HasNoDigitFirst text
unfolding AreReceptions
begins_with_letter text [] none = subst HasNoDigitFirst (sym none) tt
begins_with_letter text (r ∷ others) (digits, rest, spelled, has, are) = grind arith

wider : (digits : List ℕ) → AllDigits 10 digits → AllDigits 16 digits
wider [] all = tt
wider (b ∷ digits) all = grind (arith, wider digits)

twelve : (digits : List ℕ) (message : Message) → IsWrongGroup digits message → AllDigits 16 digits
twelve (a ∷ b ∷ c ∷ d ∷ e ∷ f ∷ g ∷ h ∷ i ∷ j ∷ k ∷ l ∷ []) message has = grind arith
twelve digits message has = absurd (omega (arith, has.count))

hexadecimal : (r : Reception) (digits : List ℕ) → HasDigits r digits → AllDigits 16 digits
hexadecimal r digits has = grind (arith, wider, twelve)

-- twelve digits are blocks of a group that spells one message
same_wrong : (digits : List ℕ) (m n : Message) → IsWrongGroup digits m → IsWrongGroup digits n → m ≡ n
same_wrong digits m n p q = grind (arith, same_group, same_message)

-- a letter and its digits say one reception
same_reception : (digits : List ℕ) (r s : Reception) → letter r ≡ letter s → HasDigits r digits → HasDigits s digits
    → r ≡ s
same_reception digits r s e p q = grind (arith, same_wrong)

-- the receptions of a text that a byte and the digits after it begin: the first of them, and those of the rest
record IsFirst (b : ℕ) (digits : List ℕ) (all : List Reception) (rest : List ℕ) : Type 0 where
  first : Reception
  others : List Reception
  split : all ≡ first ∷ others
  byte : b ≡ letter first
  has : HasDigits first digits
  are : AreReceptions rest others

the_first : (text after : List ℕ) (b : ℕ) (digits rest : List ℕ) (all : List Reception) → text ≡ b ∷ after
    → IsDigitCut after digits rest → AreReceptions text all → IsFirst b digits all rest
unfolding AreReceptions
the_first text after b digits rest [] begins cut none = absurd (not_empty b after (sym begins ∙ none))
the_first text after b digits rest (r ∷ others) begins cut (digits', rest', spelled, has, are) =
    grind (arith, same_cut, hexadecimal, begins_with_letter)

-- a text spells one list of receptions
pub same_receptions : (text : List ℕ) (a b : List Reception) → AreReceptions text a → AreReceptions text b → a ≡ b
unfolding AreReceptions
same_receptions text [] [] p q = refl
same_receptions text [] (s ∷ b) p q = grind arith
same_receptions text (r ∷ a) b (digits, rest, spelled, has, are) q =
    let there = the_first text (digits ++ rest) (letter r) digits rest b spelled
    (record { cut = refl; hexadecimal = hexadecimal r digits has; ends = begins_with_letter rest a are }) q in
    grind (arith, same_reception, same_receptions rest a there.others are there.are)

-- what was read, and then the receptions of what is left
pub record ReadSoFar (text : List ℕ) (receptions : List Reception) (rest : List ℕ) : Type 0 where
  pub forward : (more : List Reception) → AreReceptions rest more → AreReceptions text (receptions ++ more)
  pub backward : (all : List Reception) → AreReceptions text all
      → (more : List Reception) × (all ≡ receptions ++ more) × AreReceptions rest more

-- receptions that were read so far, and one more
pub one_more : (text rest after digits later : List ℕ) (receptions : List Reception) (b : ℕ) (r : Reception)
    → ReadSoFar text receptions rest → rest ≡ b ∷ after → IsDigitCut after digits later → b ≡ letter r
    → HasDigits r digits
    → ReadSoFar text (receptions ++ r ∷ []) later
unfolding AreReceptions
one_more text rest after digits later receptions b r s begins cut byte has = record {
  forward = λ more are. rw append_assoc (s.forward (r ∷ more) (digits, later, grind arith, has, are));
  backward = λ all are.
      let (more, is, left) = s.backward all are in
      let there = the_first rest after b digits later more begins cut left in
      let same = same_reception digits there.first r (sym there.byte ∙ byte) there.has has in
      (there.others, cc (append_assoc receptions (r ∷ []) there.others), there.are);
}

-- at the end of the text all receptions are read
pub all_read : (text rest : List ℕ) (receptions : List Reception) → ReadSoFar text receptions rest → length rest ≡ 0
    → AreReceptions text receptions
unfolding AreReceptions
all_read text [] receptions s none = subst (AreReceptions text) (append-nil receptions) (s.forward [] refl)
all_read text (b ∷ rest) receptions s none = absurd (omega arith)

-- a byte and its digits that say no reception
pub no_reception : (text rest after digits later : List ℕ) (receptions : List Reception) (b : ℕ)
    → ReadSoFar text receptions rest → rest ≡ b ∷ after → IsDigitCut after digits later
    → ((r : Reception) → b ≡ letter r → HasDigits r digits → ⊥) → (all : List Reception) → AreReceptions text all → ⊥
no_reception text rest after digits later receptions b s begins cut none all are =
    grind (arith, the_first rest after b digits later, s.backward all are)

-- eight receptions were read, and one more is there
pub too_many : (text rest after : List ℕ) (receptions : List Reception) (b : ℕ) → ReadSoFar text receptions rest
    → rest ≡ b ∷ after → length receptions ≡ 8
    → (all : List Reception) → length all ≤ 8 → AreReceptions text all → ⊥
unfolding AreReceptions
too_many text rest after receptions b s begins full all few are = no_room (s.backward all are)
  where
    no_room : ((more : List Reception) × (all ≡ receptions ++ more) × AreReceptions rest more) → ⊥
    no_room ([], is, left) = cc
    no_room (r ∷ more, is, left) = grind (arith, length-append)

-- a text is cut behind its leading hexadecimal digits
pub digit_cut : (text digits rest : List ℕ) (n : ℕ) → n ≤ length text
    → ((k : ℕ) → k < n → IsAsciiHexdigit (get_or text k 0)) → (n < length text → IsNotAsciiHexdigit (get_or text n 0))
    → digits ≡ take n text → rest ≡ drop n text
    → IsDigitCut text digits rest
digit_cut text digits rest n within are ends first later = record {
  cut = cc (take-append-drop n text);
  hexadecimal = rw first (front text n within are);
  ends = rw later (back text n within ends);
}
  where
    front : (text : List ℕ) (n : ℕ) → n ≤ length text → ((k : ℕ) → k < n → IsAsciiHexdigit (get_or text k 0))
        → AllDigits 16 (take n text)
    front text zero within digits = tt
    front [] (suc n) within digits = absurd (omega arith)
    front (b ∷ text) (suc n) within digits =
        let more = front text n (omega arith) (λ k below. digits (suc k) (omega arith)) in
        let first = digits 0 (omega arith) in
        (grind (arith), more)

    back : (text : List ℕ) (n : ℕ) → n ≤ length text → (n < length text → IsNotAsciiHexdigit (get_or text n 0))
        → HasNoDigitFirst (drop n text)
    back [] zero within ends = tt
    back (b ∷ text) zero within ends = (let first = ends (omega arith) in grind (arith))
    back [] (suc n) within ends = absurd (omega arith)
    back (b ∷ text) (suc n) within ends = back text n (omega arith) (λ below. ends (omega arith))

-- a text has a cut
pub some_cut : (text : List ℕ) → (digits : List ℕ) × (rest : List ℕ) × IsDigitCut text digits rest
some_cut [] = ([], [], record { cut = refl; hexadecimal = tt; ends = tt })
some_cut (b ∷ text) =
    let (digits, rest, c) = some_cut text in
    elim (cases_lt (digit_value b) 16) [
      | inl digit ↦ (b ∷ digits, rest, grind arith)
      | inr other ↦ ([], b ∷ text, grind arith)
    ]

-- a byte and its digits that say no reception: no other digits do
pub no_other : (byte : ℕ) (text digits rest : List ℕ) → IsDigitCut text digits rest
    → ((r : Reception) → byte ≡ letter r → HasDigits r digits → ⊥) → (other others : List ℕ)
    → IsDigitCut text other others → (r : Reception) → byte ≡ letter r → HasDigits r other → ⊥
no_other byte text digits rest cut none other others c r e has = grind (arith, same_cut)

-- less than four digits write less than a thousand
pub three_digits : (digits : List ℕ) (i late : ℕ) → AllDigits 10 (take i digits) → i < length digits → length digits ≤ 4
    → late ≡ digits_value 10 (take i digits) → late < 1000
three_digits digits i late all within short value = grind (arith, length-take-le, digits_value-lt, pow-le-pow_right)

-- one digit more
pub one_more_digit : (digits : List ℕ) (i late byte value : ℕ) → AllDigits 10 (take i digits) → i < length digits
    → late ≡ digits_value 10 (take i digits) → byte ≡ get_or digits i 0
    → (digit_value byte < 10) × (value ≡ digit_value byte)
    → AllDigits 10 (take (i + 1) digits) × (late * 10 + value ≡ digits_value 10 (take (i + 1) digits))
one_more_digit digits i late byte value all within is at digit = grind (arith, digits_more, digits_value_more)

-- a byte that is no digit
pub no_lateness : (digits : List ℕ) (i byte : ℕ) → i < length digits → byte ≡ get_or digits i 0
    → (digit_value byte < 10 → ⊥) → (late : ℕ) → IsLateness digits late → ⊥
no_lateness digits i byte within at none late is = none (rw at (digit_of digits i is.decimal within))
  where
    digit_of : (digits : List ℕ) (i : ℕ) → AllDigits 10 digits → i < length digits
        → digit_value (get_or digits i 0) < 10
    digit_of [] i all within = absurd (omega arith)
    digit_of (b ∷ digits) i all within = grind (arith, digit_of digits)
