-- Lemmas: bytes of a slice that go out in parts.
use Rattle.std.proofs.Common.{◌≡◌, ◌+◌, ◌-◌, ℕ, List, take, drop, length, length-drop, Option}
use Rattle.std.proofs.KnownBytes.{Appends-trans}
use Rattle.std.proofs.Math.Seq.{take-add, take-length}
use Rattle.std.specs.Io.KnownBytes.{Appends}

-- the rest of a slice from i, as the code's range has it
pub rest_of : (i : ℕ) (bs : List ℕ) → take (length bs - i) (drop i bs) ≡ drop i bs
rest_of i bs = rw (← length-drop i bs) (take-length (drop i bs))

-- the first i bytes, and then n of the rest
pub Appends-take : (a b c : Option (List ℕ)) (i n : ℕ) (bs : List ℕ) → Appends a b (take i bs)
    → Appends b c (take n (take (length bs - i) (drop i bs))) → Appends a c (take (i + n) bs)
Appends-take a b c i n bs first then = rw (take-add i n bs) (Appends-trans a b c (take i bs) (take n (drop i bs)) first
    (rw (rest_of i bs) at then))
