-- The group of a slot, as blocks (this project's own).
use Rattle.std.specs.Prelude.{◌≡◌, ℕ, List, Option, Some, None}
use Rattle.rds_block.specs.declared.group.Group.{Group}
use Rattle.rds_block.specs.Words.{AreWordsOf}
use Rattle.rds_ffi.specs.Codes.{RDSRT_OK, RDSRT_SENT}

-- the code says whether a group is sent, and the blocks are those of the group
abbrev pub IsOut : ℕ → List ℕ → Option Group → Type 0
IsOut code blocks None = code ≡ RDSRT_OK
IsOut code blocks (Some g) = (code ≡ RDSRT_SENT) × AreWordsOf blocks g
