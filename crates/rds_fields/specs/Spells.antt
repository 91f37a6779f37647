-- The message that a group spells: RadioText in group 2A, the announcement of an application in 3A, the programme type
-- name in 10A (IEC 62106), tags in 11A (IEC 62106-6, RadioText Plus).
use Rattle.std.specs.Prelude.{◌≡◌, ℕ, ◌+◌, ◌*◌, ◌^◌, ◌<◌, List, Bool, false, length, slice_index}
use Rattle.std.specs.Int.{from_bool}
use Rattle.rds_block.specs.declared.group.Group.{Group}
use Rattle.rds_fields.specs.declared.message.Message.{Message}
use Rattle.rds_fields.specs.declared.message.Message.TheVariants.{Text, Name, Announce, Tags, Other}
use Rattle.rds_fields.specs.Tag.{PairFields}
use Rattle.rds_fields.specs.Bits.{Sent, SpellsPair}

-- the group has this number and version A
pub record IsOf (g : Group) (n : ℕ) : Type 0 where
  pub number : g.number ≡ n
  pub version : g.version ≡ false

-- the two words are these four bytes, high byte first
pub record Carries (c d : ℕ) (bytes : List ℕ) : Type 0 where
  pub four : length bytes ≡ 4
  pub fits : (k : ℕ) → slice_index bytes k < 256
  pub first : c ≡ 256 * slice_index bytes 0 + slice_index bytes 1
  pub second : d ≡ 256 * slice_index bytes 2 + slice_index bytes 3

-- group 2A: bit 4 of the low bits is the flag, the other bits are the address
pub record SpellsText (flag : Bool) (a : ℕ) (text : List ℕ) (g : Group) : Type 0 where
  pub of : IsOf g 2
  pub address : a < 16
  pub low : g.low ≡ 16 * from_bool flag + a
  pub bytes : Carries g.c g.d text

-- group 10A: bit 4 of the low bits is the flag and bit 0 the address; bits 3 to 1 may hold anything
pub record SpellsName (flag : Bool) (a : ℕ) (name : List ℕ) (g : Group) (rest : ℕ) : Type 0 where
  pub of : IsOf g 10
  pub address : a < 2
  pub between : rest < 8
  pub low : g.low ≡ 16 * from_bool flag + 2 * rest + a
  pub bytes : Carries g.c g.d name

-- group 3A: the low bits are the group type code, block 3 the application's bits, block 4 its identification
pub record SpellsAnnounce (type bits aid : ℕ) (g : Group) : Type 0 where
  pub of : IsOf g 3
  pub code : type < 32
  pub low : g.low ≡ type
  pub third : g.c ≡ bits
  pub fourth : g.d ≡ aid

-- the low bits, block 3 and block 4 as one number
abbrev pub bits_in : Group → ℕ
bits_in g = 2 ^ 32 * g.low + 2 ^ 16 * g.c + g.d

-- group 11A: its 37 bits are read as the pair
pub record SpellsTags (p : PairFields) (g : Group) (s : Sent) : Type 0 where
  pub of : IsOf g 11
  pub third : g.c < 2 ^ 16
  pub fourth : g.d < 2 ^ 16
  pub pair : SpellsPair p (bits_in g) s

-- the group is not of type 2A, 3A, 10A or 11A
pub record SpellsOther (g : Group) : Type 0 where
  pub text : IsOf g 2 → ⊥
  pub announce : IsOf g 3 → ⊥
  pub name : IsOf g 10 → ⊥
  pub tags : IsOf g 11 → ⊥

-- the group spells the message
abbrev pub Spells : Message → Group → Type 0
Spells (Text flag address bytes) g = SpellsText flag address bytes g
Spells (Name flag address bytes) g = (between : ℕ) × SpellsName flag address bytes g between
Spells (Announce code bits aid) g = SpellsAnnounce code bits aid g
Spells (Tags pair) g = (s : Sent) × SpellsTags pair g s
Spells Other g = SpellsOther g
