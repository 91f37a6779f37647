-- The blocks of a slot (this project's own).
use Rattle.std.specs.Prelude.{◌≡◌, ◌⊎◌, ℕ, List, [], Option, Some, None, length}
use Rattle.rds_block.specs.declared.group.Group.{Group}
use Rattle.rds_block.specs.Words.{AreWordsOf}

-- no blocks mean no group, and four blocks mean the group that they carry
abbrev pub Bring : List ℕ → Option Group → Type 0
Bring blocks None = blocks ≡ []
Bring blocks (Some group) = AreWordsOf blocks group

-- a slot can have this number of blocks
abbrev pub IsCount : List ℕ → Type 0
IsCount blocks = (length blocks ≡ 0) ⊎ (length blocks ≡ 4)
