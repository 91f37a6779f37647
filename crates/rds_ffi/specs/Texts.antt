-- The mistakes in a printed text, as a code and a place (this project's own).
use Rattle.std.specs.Prelude.{◌≡◌, ℕ, List, IsUtf8}

-- the call returns the code if and only if some place of the text has this mistake, and the number is then such a place
abbrev pub IsToldBy : ℕ → ℕ → List ℕ → ℕ → (List ℕ → ℕ → Type 0) → Type 0
IsToldBy code told text number HasFault = (code ≡ told → HasFault text number)
    × (IsUtf8 text → (place : ℕ) → HasFault text place → code ≡ told)
