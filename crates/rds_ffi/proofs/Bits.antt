-- A bit that is given as a number.
use Rattle.std.proofs.Common.{◌≡◌, ◌↔◌, ℕ, Bool, true, arith}
use Rattle.std.specs.Int.{from_bool}

-- a bool that C sees as 1 is true
pub set : (b : Bool) (n : ℕ) → n ≡ from_bool b → n ≡ 1 → b ≡ true
set b n is one = grind (arith)

-- C sees it as 1 exactly if what the bool says holds
pub says : (Holds : Type 0) (b : Bool) (n : ℕ) → n ≡ from_bool b → (b ≡ true) ↔ Holds → (n ≡ 1) ↔ Holds
says Holds b n is same = grind (arith)
