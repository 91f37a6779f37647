-- The reception of each receiver, as the last field of a row spells it: a letter for each receiver, in order. `G`: it
-- gets the group that was sent. `L`: it loses the slot. `W`: it gets a wrong group. `R`: it restarts. Up to four
-- decimal digits may follow a `G`: the number of slots that the group comes late, 0 if there are none. Twelve
-- hexadecimal digits follow a `W`: blocks 2 to 4 of the wrong group. This is the project's own format.
use Rattle.std.specs.Prelude.{◌≡◌, ◌≤◌, ◌++◌, ℕ, List, [], ◌∷◌, length}
use Rattle.std.specs.Char.{digit_value}
use Rattle.std.specs.Str.Parse.{AllDigits, digits_value}
use Rattle.rds_block.specs.declared.group.Group.{Group}
use Rattle.rds_block.specs.Words.{AreWordsOf}
use Rattle.rds_fields.specs.Spells.{Spells}
use Rattle.rds_fields.specs.declared.message.Message.{Message}
use Rattle.rds_io.specs.Digits.{HasWord}
use Rattle.rds_world.specs.declared.event.Reception.{Reception}
use Rattle.rds_world.specs.declared.event.Reception.TheVariants.{Got, Lost, Wrong, Restart}

abbrev pub letter : Reception → ℕ
letter (Got late) = 0x47
letter Lost = 0x4C
letter (Wrong message) = 0x57
letter Restart = 0x52

-- up to four decimal digits, and the number that they write: 0 if there are none
pub record IsLateness (digits : List ℕ) (late : ℕ) : Type 0 where
  pub decimal : AllDigits 10 digits
  pub short : length digits ≤ 4
  pub value : late ≡ digits_value 10 digits

-- twelve hexadecimal digits: blocks 2 to 4 of a group that spells the message. Block 1 is not written; it is 0 here
pub record IsWrongGroup (digits : List ℕ) (message : Message) : Type 0 where
  pub count : length digits ≡ 12
  pub b : ℕ
  pub c : ℕ
  pub d : ℕ
  pub second : HasWord digits 0 b
  pub third : HasWord digits 4 c
  pub fourth : HasWord digits 8 d
  pub group : Group
  pub words : AreWordsOf (0 ∷ b ∷ c ∷ d ∷ []) group
  pub spells : Spells message group

-- the digits after the letter of a reception
abbrev pub HasDigits : Reception → List ℕ → Type 0
HasDigits (Got late) digits = IsLateness digits late
HasDigits Lost digits = digits ≡ []
HasDigits (Wrong message) digits = IsWrongGroup digits message
HasDigits Restart digits = digits ≡ []

-- the text spells the receptions: a letter and its digits, and then the other receptions
unfoldable pub AreReceptions : List ℕ → List Reception → Type 0
AreReceptions text [] = text ≡ []
AreReceptions text (first ∷ others) =
    (digits : List ℕ) × (rest : List ℕ) × (text ≡ letter first ∷ digits ++ rest) × HasDigits first digits
    × AreReceptions rest others

-- the text is empty or begins with a byte that is not a hexadecimal digit
abbrev pub HasNoDigitFirst : List ℕ → Type 0
HasNoDigitFirst [] = Unit {0}
HasNoDigitFirst (b ∷ others) = 16 ≤ digit_value b

-- the text is split after its first hexadecimal digits
pub record IsDigitCut (text digits rest : List ℕ) : Type 0 where
  pub cut : text ≡ digits ++ rest
  pub hexadecimal : AllDigits 16 digits
  pub ends : HasNoDigitFirst rest
