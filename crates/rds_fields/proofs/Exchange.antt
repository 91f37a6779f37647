-- Group types are exchanged: twice is as before, and a type with itself is nothing.
use Rattle.std.proofs.Common.{◌≡◌, ℕ, Option, arith}
use Rattle.rds_block.specs.declared.group.Group.{Group}
use Rattle.rds_fields.specs.TagGroup.{MayCarryTags, exchanged, exchanged_in, exchanged_low, other_of}

-- ---- numbers

other_twice : (a b n : ℕ) → other_of a b (other_of a b n) ≡ n
other_twice a b n = grind (arith)

low_twice : (n number low : ℕ) → MayCarryTags n
    → exchanged_low n (other_of 11 n number) (exchanged_low n number low) ≡ low
low_twice n number low may = grind (arith)

-- ---- groups

-- 11A is exchanged with itself
pub nothing_exchanged : (g : Group) → exchanged 11 g ≡ g
nothing_exchanged g = grind (arith)

-- twice is as before
pub exchanged_twice : (n : ℕ) (g : Group) → MayCarryTags n → exchanged n (exchanged n g) ≡ g
exchanged_twice n g may = search (arith, other_twice, low_twice)

pub nothing_exchanged_in : (slot : Option Group) → exchanged_in 11 slot ≡ slot
nothing_exchanged_in slot = grind (arith)

pub exchanged_in_twice : (n : ℕ) (slot : Option Group) → MayCarryTags n → exchanged_in n (exchanged_in n slot) ≡ slot
exchanged_in_twice n slot may = grind (arith, exchanged_twice)
