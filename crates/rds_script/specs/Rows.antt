-- A row of a script: a record of four fields that describes one slot. This is the project's own format. Lists of
-- records and of events have the newest first.
use Rattle.std.specs.Prelude.{◌≡◌, ◌≢◌, ◌≤◌, ◌++◌, ℕ, All, Bool, true, false, List, [], ◌∷◌, IsUtf8, codes, length}
use Rattle.std.specs.Int.{from_bool}
use Rattle.std.specs.Str.Parse.{IsNumeral, digits_value}
use Rattle.rds_charset.specs.ReadAs.{IsReadAs}
use Rattle.rds_fields.specs.Tag.{IsPair, PairFields, TagFields}
use Rattle.rds_assembly.specs.Body.{name_body, space}
use Rattle.rds_assembly.specs.Value.{IsGivenName, IsText}
use Rattle.rds_world.specs.declared.event.Command.{Command}
use Rattle.rds_world.specs.declared.event.Command.TheVariants.{Quiet, Restart, SetText, SetName, SetTags}
use Rattle.rds_world.specs.declared.event.TheConstants.{MOST_RECEIVERS}
use Rattle.rds_world.specs.Event.{Event}
use Rattle.rds_world.specs.declared.world.Config.{Config}
use Rattle.rds_world.specs.Replies.{CanBeTaken}
use Rattle.rds_script.specs.Receptions.{AreReceptions}
use Rattle.rds_script.specs.Verbs.{verb_word}
use Rattle.rds_script.specs.declared.row.Verb.TheVariants.{Nothing, Text, Name, Tags}
use Rattle.rds_script.specs.declared.row.Verb.TheVariants as verb
use Rattle.rds_script.specs.declared.form.Form.{Form}
use Rattle.rds_script.specs.declared.form.Form.TheVariants.{Simulation, Log}

-- the fields of a record
abbrev pub Record : Type 0
Record = List (List ℕ)

-- one to three decimal digits, and the number up to 255 that they write
pub record IsNumber (text : List ℕ) (n : ℕ) : Type 0 where
  pub numeral : IsNumeral 10 text
  pub short : length text ≤ 3
  pub value : n ≡ digits_value 10 text
  pub byte : n ≤ 255

abbrev pub HasNoSpace : List ℕ → Type 0
HasNoSpace text = All (λ b. b ≢ space) text

-- the text is split at its first space
pub record IsCut (text first rest : List ℕ) : Type 0 where
  pub cut : text ≡ first ++ space ∷ rest
  pub first_space : HasNoSpace first

-- the numbers of a text, one space between each and the next
unfoldable pub AreNumbers : List ℕ → List ℕ → Type 0
AreNumbers text [] = ⊥
AreNumbers text (n ∷ []) = IsNumber text n
AreNumbers text (n ∷ m ∷ more) =
    (first : List ℕ) × (rest : List ℕ) × IsCut text first rest × IsNumber first n × AreNumbers rest (m ∷ more)

abbrev pub numbers_of_tag : TagFields → List ℕ
numbers_of_tag tag = tag.class ∷ tag.start ∷ tag.extra ∷ []

-- toggle bit and running bit, then the first tag, then the second
abbrev pub numbers_of_pair : PairFields → List ℕ
numbers_of_pair pair = from_bool pair.toggle ∷ from_bool pair.running ∷ numbers_of_tag pair.one
    ++ numbers_of_tag pair.two

-- the argument is a name, which is padded to eight bytes
pub record IsNameArgument (argument name : List ℕ) : Type 0 where
  pub given : List ℕ
  pub read : IsReadAs argument given
  pub is_name : IsGivenName given
  pub padded : name ≡ name_body given

-- the word and its argument are this command
abbrev pub SaysCommand : List ℕ → List ℕ → Command → Type 0
SaysCommand word argument Quiet = (word ≡ verb_word Nothing) × (argument ≡ [])
SaysCommand word argument Restart = (word ≡ verb_word verb.Restart) × (argument ≡ [])
SaysCommand word argument (SetText x) = (word ≡ verb_word Text) × IsReadAs argument x × IsText x
SaysCommand word argument (SetName x) = (word ≡ verb_word Name) × IsNameArgument argument x
SaysCommand word argument (SetTags pair) =
    (word ≡ verb_word Tags) × AreNumbers argument (numbers_of_pair pair) × IsPair pair

-- whether the slot is free
abbrev pub free_field : Bool → List ℕ
free_field false = codes "0"
free_field true = codes "1"

-- four fields: the command, its argument in UTF-8, whether the slot is free, and the reception of each receiver
pub record SaysEvent (row : Record) (e : Event) : Type 0 where
  pub word : List ℕ
  pub argument : List ℕ
  pub receptions : List ℕ
  pub fields : row ≡ word ∷ argument ∷ free_field e.free ∷ receptions ∷ []
  pub text : IsUtf8 argument
  pub command : SaysCommand word argument e.command
  pub spelled : AreReceptions receptions e.receptions

-- a script for `sim` names up to eight receivers, and one for `encode` names none
abbrev pub IsAllowed : Form → ℕ → Type 0
IsAllowed (Simulation why n keep) receivers = receivers ≤ MOST_RECEIVERS
IsAllowed (Log n) receivers = receivers ≡ 0

-- the records are rows with these events and this number of receivers, and each slot can be taken: a group comes at
-- most K slots late, and in the order of sending
abbrev pub AreRows : Config → ℕ → List Record → List Event → Type 0
AreRows config receivers [] [] = Unit {0}
AreRows config receivers [] (e ∷ older) = ⊥
AreRows config receivers (row ∷ before) [] = ⊥
AreRows config receivers (row ∷ before) (e ∷ older) =
    SaysEvent row e × CanBeTaken config receivers e older × AreRows config receivers before older

-- the records are rows: the first of them fixes the number of receivers
pub record RowsSay (config : Config) (form : Form) (records : List Record) (events : List Event) : Type 0 where
  pub receivers : ℕ
  pub allowed : IsAllowed form receivers
  pub rows : AreRows config receivers records events

-- not all of the records are rows
abbrev pub AreNoRows : Config → Form → List Record → Type 0
AreNoRows config form records = (events : List Event) → RowsSay config form records events → ⊥
