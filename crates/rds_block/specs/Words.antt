-- The words of a group: four blocks of 16 bits. Block 2 is the sum of its fields, each times a power of two (IEC 62106,
-- group structure).
use Rattle.std.specs.Prelude.{◌≡◌, ℕ, ◌+◌, ◌*◌, ◌<◌, List, [], ◌∷◌}
use Rattle.std.specs.Int.{from_bool}
use Rattle.rds_block.specs.declared.group.Group.{Group}

-- block 2 of a group
abbrev pub second_word_of : Group → ℕ
second_word_of g = 4096 * g.number + 2048 * from_bool g.version + 1024 * from_bool g.tp + 32 * g.pty + g.low

-- the four blocks of a group
abbrev pub words_of : Group → List ℕ
words_of g = g.pi ∷ second_word_of g ∷ g.c ∷ g.d ∷ []

-- the words are the four blocks of the group; its number, programme type and low bits fit into 4, 5 and 5 bits
pub record AreWordsOf (words : List ℕ) (g : Group) : Type 0 where
  pub blocks : words ≡ words_of g
  pub number : g.number < 16
  pub pty : g.pty < 32
  pub low : g.low < 32
