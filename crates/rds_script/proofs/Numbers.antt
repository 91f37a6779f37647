-- Numbers with one space between each and the next are read one way.
use Rattle.std.proofs.Common.{◌≡◌, ◌≢◌, ◌<◌, ◌≤◌, ℕ, Bor, List, [], ◌∷◌, ◌++◌, Option, get_or, length, length-append}
use Rattle.std.proofs.Common.{append_assoc, refl, sym, ap, ◌∙◌, subst, arith, IfNone, IfSome, MatchOption}
use Rattle.std.proofs.lemmas.Grind.{common_steps}
use Rattle.std.proofs.lemmas.List.Elements.{All-head, All-tail}
use Rattle.std.specs.Str.Parse.{AllDigits}
use Rattle.rds_assembly.specs.Body.{space}
use Rattle.rds_fields.specs.Tag.{PairFields}
use Rattle.rds_script.specs.Rows.{AreNumbers, HasNoSpace, IsCut, IsNumber, numbers_of_pair}

-- a space is no digit
no_digit : (first rest : List ℕ) → AllDigits 10 (first ++ space ∷ rest) → ⊥
no_digit [] rest h = grind arith
no_digit (b ∷ first) rest h = no_digit first rest h.1

no_space : (b : ℕ) (rest : List ℕ) → HasNoSpace (space ∷ rest) → ⊥
no_space b rest h = All-head (λ b. b ≢ space) space rest h refl

-- the first space stands at one place
same_cut : (first other rest others : List ℕ) → HasNoSpace first → HasNoSpace other
    → first ++ space ∷ rest ≡ other ++ space ∷ others → (first ≡ other) × (rest ≡ others)
same_cut [] [] rest others p q e = (refl, (cc))
same_cut (b ∷ first) (c ∷ other) rest others p q e =
    grind (arith, same_cut first other rest others (All-tail (λ b. b ≢ space) b first p) (All-tail (λ b. b ≢ space) c other q))
same_cut [] (b ∷ other) rest others p q e = absurd (All-head (λ b. b ≢ space) b other q (cc))
same_cut (b ∷ first) [] rest others p q e = absurd (All-head (λ b. b ≢ space) b first p (cc))

-- a text that is cut holds no single number
pub not_one : (text first rest : List ℕ) (n : ℕ) → IsCut text first rest → IsNumber text n → ⊥
not_one text first rest n c h = no_digit first rest (subst (AllDigits 10) c.cut h.numeral.1)

-- a text without a space holds one number alone
pub not_more : (text first rest : List ℕ) → HasNoSpace text → IsCut text first rest → ⊥
not_more text first rest none c = inside first (rw c.cut at none)
  where
    inside : (before : List ℕ) → HasNoSpace (before ++ space ∷ rest) → ⊥
    inside [] h = no_space 0 rest h
    inside (b ∷ before) h = inside before (All-tail (λ b. b ≢ space) b (before ++ space ∷ rest) h)

-- the numbers of a text that is cut: the first, and those of the rest
pub numbers_of_cut : (text first rest : List ℕ) (all : List ℕ) → IsCut text first rest → AreNumbers text all
    → (n : ℕ) × (more : List ℕ) × (all ≡ n ∷ more) × IsNumber first n × AreNumbers rest more
unfolding AreNumbers
numbers_of_cut text first rest (n ∷ m ∷ more) c (first', rest', c', number, are) =
    let same = same_cut first' first rest' rest c'.first_space c.first_space (sym c'.cut ∙ c.cut) in
    (n, m ∷ more, refl, rw same.0 at number, rw same.1 at are)
numbers_of_cut text first rest (n ∷ []) c are = absurd (not_one text first rest n c are)
numbers_of_cut text first rest [] c are = absurd are

-- and of one that isn't
pub number_of_whole : (text : List ℕ) (all : List ℕ) → HasNoSpace text → AreNumbers text all
    → (n : ℕ) × (all ≡ n ∷ []) × IsNumber text n
unfolding AreNumbers
number_of_whole text [] none are = absurd are
number_of_whole text (n ∷ []) none are = (n, refl, are)
number_of_whole text (n ∷ m ∷ more) none (first, rest, c, number, are) = absurd (not_more text first rest none c)

-- a text has one list of numbers
pub same_numbers : (text : List ℕ) (numbers other : List ℕ) → AreNumbers text numbers → AreNumbers text other
    → numbers ≡ other
unfolding AreNumbers
same_numbers text [] other p q = absurd p
same_numbers text (n ∷ []) [] p q = absurd q
same_numbers text (n ∷ []) (m ∷ []) p q = ap (λ (k : ℕ). k ∷ []) (p.value ∙ sym q.value)
same_numbers text (n ∷ []) (m ∷ l ∷ more) p (first, rest, c, number, are) = absurd (not_one text first rest n c p)
same_numbers text (n ∷ k ∷ more) [] p q = absurd q
same_numbers text (n ∷ k ∷ more) (m ∷ []) (first, rest, c, number, are) q = absurd (not_one text first rest m c q)
same_numbers text (n ∷ k ∷ more) (m ∷ l ∷ more') (first, rest, c, number, are) (first', rest', c', number', are') =
    grind (arith, same_numbers rest (k ∷ more) (l ∷ more') are, same_cut)

-- what was read, and then the numbers of what is left
pub record ReadSoFar (text : List ℕ) (numbers rest : List ℕ) : Type 0 where
  pub forward : (more : List ℕ) → AreNumbers rest more → AreNumbers text (numbers ++ more)
  pub backward : (all : List ℕ) → AreNumbers text all → (more : List ℕ) × (all ≡ numbers ++ more) × AreNumbers rest more

-- numbers that were read so far, and one more
pub one_more : (text numbers rest first after : List ℕ) (n : ℕ) → ReadSoFar text numbers rest → IsCut rest first after
    → IsNumber first n → ((m : ℕ) → IsNumber first m → m ≡ n)
    → ReadSoFar text (numbers ++ n ∷ []) after
unfolding AreNumbers
one_more text numbers rest first after n s c number one = record {
  forward = λ more are. subst (AreNumbers text) (sym (append_assoc numbers (n ∷ []) more))
      (s.forward (n ∷ more) (joined more are));
  backward = λ all are.
      let (more, is, left) = s.backward all are in
      let (m, later, split, its, rest_are) = numbers_of_cut rest first after more c left in
      let same = one m its in
      (later, cc (append_assoc numbers (n ∷ []) later), rest_are);
}
  where
    joined : (more : List ℕ) → AreNumbers after more → AreNumbers rest (n ∷ more)
    joined [] are = absurd are
    joined (m ∷ more) are = (first, after, c, number, are)

-- what `split_once` found, and what it didn't
no_space_in : (text : List ℕ) → ((i : ℕ) → i < length text → get_or text i 0 ≢ space) → HasNoSpace text
no_space_in text h k d within e = h k within (grind (arith, common_steps))

-- a text is cut at its first space
pub cut_is : (text : List ℕ) (r : Option (Bor (List ℕ) × Bor (List ℕ)))
    → MatchOption r ((i : ℕ) → i < length text → get_or text i 0 ≢ space) (λ x. (text ≡ x.0.now ++ (space ∷ x.1.now))
    × ((i : ℕ) → i < length x.0.now → get_or x.0.now i 0 ≢ space))
    → IfSome r (λ cut. IsCut text cut.0.now cut.1.now)
cut_is text r h = grind (arith, no_space_in)

-- a text without a cut has no space
pub none_is : (text : List ℕ) (r : Option (Bor (List ℕ) × Bor (List ℕ)))
    → MatchOption r ((i : ℕ) → i < length text → get_or text i 0 ≢ space) (λ x. (text ≡ x.0.now ++ (space ∷ x.1.now))
    × ((i : ℕ) → i < length x.0.now → get_or x.0.now i 0 ≢ space))
    → IfNone r (HasNoSpace text)
none_is text r h = grind (arith, no_space_in)

-- the last number ends the numbers of a text
pub last_one : (text numbers rest : List ℕ) (n : ℕ) → ReadSoFar text numbers rest → IsNumber rest n
    → AreNumbers text (numbers ++ n ∷ [])
unfolding AreNumbers
last_one text numbers rest n s number = s.forward (n ∷ []) number

-- eight numbers were read, and one more is there
pub too_many : (text numbers rest : List ℕ) → ReadSoFar text numbers rest → length numbers ≡ 8 → (all : List ℕ)
    → length all ≤ 8 → AreNumbers text all → ⊥
unfolding AreNumbers
too_many text numbers rest s full all few are = no_room (s.backward all are)
  where
    no_room : ((more : List ℕ) × (all ≡ numbers ++ more) × AreNumbers rest more) → ⊥
    no_room ([], is, left) = left
    no_room (n ∷ more, is, left) = grind (arith, length-append)

-- a pair is said by its own numbers alone
pub no_other_length : (text numbers : List ℕ) (pair : PairFields) → AreNumbers text numbers
    → AreNumbers text (numbers_of_pair pair) → length numbers ≢ 8 → ⊥
no_other_length text numbers pair p q other = other (ap length (same_numbers text numbers (numbers_of_pair pair) p q))

-- how the numbers of a text are read
pub ruleset reading_numbers = (numbers_of_cut, one_more, number_of_whole, too_many, last_one)
