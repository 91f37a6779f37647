-- RadioText Plus in another group type than 11A. A group 3A gives an application its group type; the tags may have one
-- of version A from 5A to 9A or from 11A to 13A (IEC 62106, group 3A; IEC 62106-6).
use Rattle.std.specs.Prelude.{◌≢◌, ◌≤◌, ◌==◌, ◌*◌, ℕ, Option, if◌then◌else◌, option_map}
use Rattle.rds_block.specs.declared.group.Group.{Group}

-- the tags may have the group type of version A with this number
pub record MayCarryTags (n : ℕ) : Type 0 where
  pub least : 5 ≤ n
  pub most : n ≤ 13
  pub free : n ≢ 10

-- the other one of the numbers a and b, for one of them; any other number stays
abbrev pub other_of : ℕ → ℕ → ℕ → ℕ
other_of a b n = if n == a then b else if n == b then a else n

-- the five low bits of block 2 of a group with this number and of version A: those of a 3A are a group type, which is
-- twice its number for version A
abbrev pub exchanged_low : ℕ → ℕ → ℕ → ℕ
exchanged_low n number low = if number == 3 then other_of 22 (2 * n) low else low

-- the group with group types 11A and nA exchanged: its own type, and the one that a 3A gives to an application
abbrev pub exchanged : ℕ → Group → Group
exchanged n g =
    if g.version then g
    else record g { number = other_of 11 n g.number; low = exchanged_low n g.number g.low }

-- the same of the group of a slot
abbrev pub exchanged_in : ℕ → Option Group → Option Group
exchanged_in n slot = option_map (exchanged n) slot
