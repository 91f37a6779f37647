-- The result of a call that writes bytes: all of them went out and nothing failed, or a first part of them went out and
-- the writer failed. This is the project's own rule.
use Rattle.std.proofs.Common.{◌≡◌, ◌+◌, ℕ, List, ◌++◌, take, drop, length, Option, append_assoc, ap, sym, refl, ◌∙◌}
use Rattle.std.proofs.KnownBytes.{Appends-trans}
use Rattle.std.proofs.Math.Seq.{take-append-add}
use Rattle.std.proofs.lemmas.List.{take-append-drop, take_at}
use Rattle.std.specs.Prelude.{Result, Ok, Err, IsErr}
use Rattle.std.specs.Io.KnownBytes.{Appends}
use Rattle.rds_io.specs.Told.{AppendsPrefix, HasFailed, IsCalm, Traffic}
use Rattle.rds_io.specs.declared.told.WriteFault.{WriteFault}

abbrev pub Puts : Traffic → List ℕ → Result (Unit {0}) WriteFault → Type 0
Puts t bytes (Ok done) = Appends t.before t.after bytes × IsCalm t
Puts t bytes (Err fault) = AppendsPrefix t.before t.after bytes × HasFailed t

-- a call that failed
pub Puts-failed : (t : Traffic) (bytes : List ℕ) (r : Result (Unit {0}) WriteFault) → IsErr r
    → AppendsPrefix t.before t.after bytes → HasFailed t → Puts t bytes r
Puts-failed t bytes (Ok done) e part failed = cc
Puts-failed t bytes (Err fault) e part failed = (part, failed)

-- a whole list and then a first part of another went out
pub AppendsPrefix-append : (a b c : Option (List ℕ)) (xs ys : List ℕ) → Appends a b xs → AppendsPrefix b c ys
    → AppendsPrefix a c (xs ++ ys)
AppendsPrefix-append a b c xs ys whole part =
    (length xs + part.0, rw (take-append-add xs ys part.0) (Appends-trans a b c xs (take part.0 ys) whole part.1))

take-of_first : (n : ℕ) (xs ys : List ℕ) → take (length (take n xs)) (xs ++ ys) ≡ take n xs
take-of_first n xs ys =
    ap (λ l. take (length (take n xs)) (l ++ ys)) (sym (take-append-drop n xs))
    ∙ ap (take (length (take n xs))) (append_assoc (take n xs) (drop n xs) ys)
    ∙ take_at (take n xs) (drop n xs ++ ys) (length (take n xs)) refl

-- a first part of a list is a first part of a longer one
pub AppendsPrefix-longer : (a c : Option (List ℕ)) (xs ys : List ℕ) → AppendsPrefix a c xs
    → AppendsPrefix a c (xs ++ ys)
AppendsPrefix-longer a c xs ys part =
    let shorter : take (length (take part.0 xs)) (xs ++ ys) ≡ take part.0 xs = take-of_first part.0 xs ys in
    (length (take part.0 xs), rw shorter part.1)
