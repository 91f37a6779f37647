-- The headline on a call.
use Rattle.std.specs.Prelude.{◌<◌, ℕ, List}
use Rattle.rds_wire.specs.Headline.{IsSafe}

-- the outputs of two receivers of the log of a script are safe in each slot that both of them have
abbrev pub IsSafeTrial : ℕ → ℕ → ℕ → List ℕ → List ℕ → List ℕ → Type 0
IsSafeTrial d slots other_slots script output other =
    (t : ℕ) → t < slots → t < other_slots → IsSafe d t script output other
