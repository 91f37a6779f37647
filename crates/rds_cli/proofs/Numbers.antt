-- Numbers that the words give.
use Rattle.std.proofs.Common.{◌≡◌, ◌<◌, ◌^◌, ◌&&◌, ℕ, Bool, true, false, List, [], ◌∷◌, Option, Some, None, Result}
use Rattle.std.proofs.Common.{refl, sym, ◌∙◌, ap, arith, nat_lt, if◌then◌else◌, length, nat_le, option_and_then}
use Rattle.std.specs.Char.{digit_value}
use Rattle.std.specs.List.{list_all}
use Rattle.std.specs.Str.Parse.{AllDigits, IsNumeral, ParsesUnsigned, digits_value, without_leading_plus}
use Rattle.std.proofs.lemmas.Bool.{lt-ltb}
use Rattle.clap.specs.Matches.{ReadsOne, one_text}
use Rattle.clap.specs.ValueTests.{is_numeral}
use Rattle.clap.specs.Words.{Text, one_of, rows_of}
use Rattle.clap.specs.declared.parser.matches.Found.{Found}
use Rattle.clap.proofs.WalkLemmas.{one_text-rows}
use Rattle.rds_cli.specs.CommandLine.{number_from_to}

-- n where it lies between the two
abbrev pub between : ℕ → ℕ → ℕ → Option ℕ
between least most n = if nat_le least n && nat_le n most then Some n else None

all_digits : (ds : List ℕ) → AllDigits 10 ds → list_all (λ d. nat_lt (digit_value d) 10) ds ≡ true
all_digits [] h = refl
all_digits (d ∷ ds) h = rw (lt-ltb (digit_value d) 10 h.0) (all_digits ds h.1)

digits_all : (ds : List ℕ) → list_all (λ d. nat_lt (digit_value d) 10) ds ≡ true → AllDigits 10 ds
digits_all [] e = tt
digits_all (d ∷ ds) e = grind (arith, digits_all ds)

numeral : (ds : List ℕ) → IsNumeral 10 ds → is_numeral ds ≡ true
numeral ds h = rw (lt-ltb 0 (length ds) h.0) (all_digits ds h.1)

is_one : (ds : List ℕ) → is_numeral ds ≡ true → IsNumeral 10 ds
is_one ds e = grind (arith, digits_all)

above : (least most n : ℕ) → most < n → between least most n ≡ None
above least most n h = grind (arith)

read_number : (k least most : ℕ) {E : Type 0} (G : Text → Result ℕ E → Type 0) (o : Option Text) (r : Option ℕ)
    → (o ≡ None → r ≡ None)
    → ((t : Text) → o ≡ Some t → ReadsOne G t r) → ((t : Text) (x : Result ℕ E) → G t x → ParsesUnsigned k 10 t x)
    → most < 2 ^ k
    → option_and_then (number_from_to least most) o ≡ option_and_then (between least most) r
read_number k least most G None r none value only fits = rw (none refl) refl
read_number k least most {E} G (Some t) r none value only fits = go r (value t refl) (is_numeral digits) refl
  where
    digits : Text
    digits = without_leading_plus t

    large : (digits_value 10 digits < 2 ^ k → ⊥) → most < digits_value 10 digits
    large over = search (arith, digits)

    go : (r : Option ℕ) → ReadsOne G t r → (b : Bool) → is_numeral digits ≡ b
        → number_from_to least most t ≡ option_and_then (between least most) r
    go (Some v) h b e = search (arith, numeral, digits)
    go None h true e = search (arith, is_one, above, digits, large)
    go None h false e = rw e refl

-- what `get_one` reads of an option, at an unsigned type of k bits
pub read_option : (k least most : ℕ) {E : Type 0} (G : Text → Result ℕ E → Type 0) (f : Found) (option : Text)
    (r : Option ℕ)
    → (one_text f option ≡ None → r ≡ None) → ((t : Text) → one_text f option ≡ Some t → ReadsOne G t r)
    → ((t : Text) (x : Result ℕ E) → G t x → ParsesUnsigned k 10 t x) → most < 2 ^ k
    → option_and_then (number_from_to least most) (one_of option (rows_of f)) ≡ option_and_then (between least most) r
read_option k least most G f option r none value only fits =
    ap (option_and_then (number_from_to least most)) (sym (one_text-rows f option)) ∙ read_number k least most G
    (one_text f option) r none value only fits
