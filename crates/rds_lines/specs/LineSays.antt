-- The meaning of a line of a log: it is skipped, or it is a slot with this group. The definitions use places and
-- lengths; byte i of the line is at place i. This is the project's own format.
use Rattle.std.specs.Prelude.{◌≡◌, ◌⊎◌, ◌≤◌, ◌+◌, ℕ, [], ◌∷◌, Option, Some, None, slice_index}
use Rattle.rds_assembly.specs.Body.{space}
use Rattle.rds_block.specs.declared.group.Group.{Group}
use Rattle.rds_block.specs.Words.{AreWordsOf}
use Rattle.rds_io.specs.Digits.{HasWord}
use Rattle.rds_lines.specs.LogLines.{Line, content_length}
use Rattle.rds_lines.specs.declared.log_line.Block.{Block}
use Rattle.rds_lines.specs.declared.log_line.Block.TheVariants.{Word, Missing}
use Rattle.rds_lines.specs.declared.log_line.LogLine.{LogLine}
use Rattle.rds_lines.specs.declared.log_line.LogLine.TheVariants.{Skip, Slot}

abbrev pub dash : ℕ
dash = 45

abbrev pub less_than : ℕ
less_than = 60

abbrev pub number_sign : ℕ
number_sign = 35

abbrev pub percent_sign : ℕ
percent_sign = 37

-- the number of bytes of the four blocks of a slot line and the spaces between them
abbrev pub blocks : ℕ
blocks = 19

-- the most bytes that are kept of a line: as many as a note on a malformed line shows. The first 21 of them decide the
-- meaning: the blocks, the byte after them, and one more, since a carriage return counts only at the end of a line
abbrev pub deciding : ℕ
deciding = 60

-- the first byte of a line that is not a slot
abbrev pub IsMark : ℕ → Type 0
IsMark b = (b ≡ less_than) ⊎ (b ≡ number_sign) ⊎ (b ≡ percent_sign)

-- an empty line, or one that begins with a mark
abbrev pub IsSkipped : Line → Type 0
IsSkipped line = (content_length line ≡ 0) ⊎ IsMark (slice_index line 0)

-- four dashes begin at this place
pub record HasDashes (line : Line) (at : ℕ) : Type 0 where
  pub first : slice_index line at ≡ dash
  pub second : slice_index line (at + 1) ≡ dash
  pub third : slice_index line (at + 2) ≡ dash
  pub fourth : slice_index line (at + 3) ≡ dash

-- the block begins at this place
abbrev pub IsBlock : Line → ℕ → Block → Type 0
IsBlock line at (Word w) = HasWord line at w
IsBlock line at Missing = HasDashes line at

-- the word of a block, if it has one
abbrev pub block_word : Block → Option ℕ
block_word (Word w) = Some w
block_word Missing = None

-- one space between the blocks
pub record HasSpaces (line : Line) : Type 0 where
  pub first : slice_index line 4 ≡ space
  pub second : slice_index line 9 ≡ space
  pub third : slice_index line 14 ≡ space

-- one space between the blocks, and the end or one more space after them
pub record IsLaidOut (line : Line) : Type 0 where
  pub at_least : blocks ≤ content_length line
  pub spaces : HasSpaces line
  pub ends : (content_length line ≡ blocks) ⊎ (slice_index line blocks ≡ space)

-- the group that four blocks carry: none if a block is missing
abbrev pub Carry : Block → Block → Block → Block → Option Group → Type 0
Carry (Word a) (Word b) (Word c) (Word d) slot = (g : Group) × AreWordsOf (a ∷ b ∷ c ∷ d ∷ []) g × (slot ≡ Some g)
Carry a b c d slot = slot ≡ None

-- four blocks are at their places, and carry the group of the slot
pub record SaysSlot (line : Line) (slot : Option Group) : Type 0 where
  pub a : Block
  pub b : Block
  pub c : Block
  pub d : Block
  pub first : IsBlock line 0 a
  pub second : IsBlock line 5 b
  pub third : IsBlock line 10 c
  pub fourth : IsBlock line 15 d
  pub carried : Carry a b c d slot

-- the line has this meaning; a line without one is malformed
abbrev pub LineSays : Line → LogLine → Type 0
LineSays line Skip = IsSkipped line
LineSays line (Slot slot) = IsLaidOut line × SaysSlot line slot

abbrev pub IsBad : Line → Type 0
IsBad line = (said : LogLine) → LineSays line said → ⊥
