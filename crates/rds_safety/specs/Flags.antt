-- Lemma: two flags are equal or not.
use Rattle.std.proofs.Common.{◌≡◌, ◌≢◌, ◌⊎◌, Bool, true, false, inl, inr, arith}
use Rattle.rds_receiver.specs.Run.{is_same}

pub same_flag : (f g : Bool) → is_same f g ≡ true → f ≡ g
same_flag f g e = grind arith

pub is_same_flag : (f g : Bool) → f ≡ g → is_same f g ≡ true
is_same_flag f g e = grind arith

pub other_flag : (f g : Bool) → is_same f g ≡ false → f ≢ g
other_flag f g h = grind arith

pub is_other_flag : (f g : Bool) → f ≢ g → is_same f g ≡ false
is_other_flag f g h = grind arith

pub same_or_other : (f g : Bool) → (f ≡ g) ⊎ (f ≢ g)
same_or_other f g = grind (arith, inl, inr)
