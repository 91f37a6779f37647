-- The headline in one file, from bytes to bytes. `encode` writes the log of a station for a script. The log reaches two
-- receivers, which lose slots of it and get groups late. `decode` writes what each of them displays. Then in each slot the
-- two displays are safe (`IsSafe`, at the end of the file). The law `the_headline` proves it.
--
-- Notation. `f : A → B` is the type of f, and the line below it is its value. `(x : A) → P` says P of each x, and
-- `(x : A) × P` of some x. Between facts, `→` is "if .. then", `×` "and", `⊎` "or", `→ ⊥` "not"; `≡` is equality. A record
-- holds if all its fields do. Numbers (ℕ) and slots count from 0. Bytes are numbers; `codes "A"` are the bytes of "A". `[]`
-- is the empty list, `x ∷ l` has x before l, and `++` joins lists. An `Option` is `None` or `Some x`: `MatchOption o P Q` is
-- P for `None`, and `Q x` for `Some x`. `λ x. y` is a function. `p.0` and `p.1` are the parts of a pair.
--
-- Premises. `encode` and `decode` run to the end of their input, with the same PI and the same M. K is the `--k` of
-- `encode`. RT+ tags are in groups 11A. `decode` has none of `--confirm`, `--why` and `--keep`. A receiver counts each slot of
-- the station, also one that it loses.
--
-- These names come from other crates, where the calls promise what they say:
--   ScriptWrites   `encode` reads this script to its end, and writes this log (rds_script `encode`)
--   LogWrites      `decode` reads this log to its end, and writes this output (rds_log `decode`)
--   IsReadAs       a script spells these bytes so, and `printed` is their form in the output (rds_charset)
--   AreNumbers     a script spells these numbers so (rds_script)
--   class_name, name_or_number   the output names the class of a tag so, for example ITEM.TITLE (rds_view_lines)
use Rattle.std.specs.Prelude.{◌≡◌, ◌≢◌, ◌⊎◌, ◌<◌, ◌≤◌, ◌+◌, ◌-◌, ◌*◌, ◌^◌, ◌++◌, ◌==◌, ◌&&◌, ◌||◌, [], ◌∷◌, ℕ}
use Rattle.std.specs.Prelude.{Bool, true, false, List, None, Option, Some, Contains, MatchOption, bytes_eq, codes}
use Rattle.std.specs.Prelude.{decimal, drop, filter, length, map, nat_le, not, replicate, reverse, slice_get}
use Rattle.std.specs.Prelude.{slice_index, slice_index_or, take, if◌then◌else◌}
use Rattle.std.specs.Char.{to_ascii_uppercase}
use Rattle.std.specs.List.{slice_split}
use Rattle.std.specs.Option.{option_map_or}
use Rattle.csv.specs.Reading.{default_config, records, strip_bom}
use Rattle.rds_charset.specs.Printed.{printed}
use Rattle.rds_charset.specs.ReadAs.{IsReadAs}
use Rattle.rds_fields.specs.Tag.{PairFields, TagFields}
use Rattle.rds_fields.specs.declared.head.Head.{Head}
use Rattle.rds_io.specs.Digits.{word_digits}
use Rattle.rds_log.specs.LogWrites.{LogWrites, plain}
use Rattle.rds_script.specs.Play.{ScriptWrites, with_form}
use Rattle.rds_script.specs.Rows.{AreNumbers, numbers_of_pair}
use Rattle.rds_script.specs.declared.form.Form.TheVariants.{Log}
use Rattle.rds_view_lines.specs.Output.{class_name, name_or_number}
use Rattle.rds_wire.specs.Wire.{IsHead, station_of}

-- ---- a log, and what reaches a receiver

-- the parts of the bytes between line feeds
abbrev pub lines : List ℕ → List (List ℕ)
lines bytes = slice_split (λ b. b == 10) bytes

-- whether a line is that of a slot: it is not empty, and no comment (which begins with #, % or <). A line that begins
-- with a carriage return is empty
abbrev pub is_slot : List ℕ → Bool
is_slot [] = false
is_slot (first ∷ rest) = not (first == 35 || (first == 37 || (first == 60 || first == 13)))

-- the blocks of a line: its first 19 bytes in capital letters, for example C201 2140 4849 0D20
abbrev pub blocks : List ℕ → List ℕ
blocks line = map to_ascii_uppercase (take 19 line)

-- the slots of a log: the blocks of their lines
abbrev pub slots : List ℕ → List (List ℕ)
slots log = map blocks (filter is_slot (lines log))

-- whether the blocks of a slot are a group of the programme: the first one is its PI, and none of the others is lost
-- (----)
abbrev pub is_group : ℕ → List ℕ → Bool
is_group pi slot = bytes_eq (take 4 slot) (word_digits pi)
    && not (slice_index slot 5 == 45 || (slice_index slot 10 == 45 || slice_index slot 15 == 45))

-- the log reaches a receiver so: in each slot it gets no group of the programme, or what the log has in this slot or at
-- most k slots before. It gets this in the order of the log, and nothing twice
pub record Reaches (pi k : ℕ) (log received : List ℕ) : Type 0 where
  pub origin : ℕ → Option ℕ
  pub each : (t : ℕ) (slot : List ℕ) → slice_get (slots received) t ≡ Some slot
      → MatchOption (origin t) (is_group pi slot ≡ false)
      (λ s. (slice_get (slots log) s ≡ Some slot) × (s ≤ t) × (t ≤ s + k))
  pub rising : (t u r s : ℕ) → origin t ≡ Some r → origin u ≡ Some s → t < u → r < s
  pub few : length (slots received) < 2 ^ 64

-- ---- a script, and what it has on air

-- a row, as its fields: a word, for example `text`, then its argument
abbrev pub Row : Type 0
Row = List (List ℕ)

-- the rows of a script, as `csv` reads them: row n is that of slot n
abbrev pub rows : List ℕ → List Row
rows script = records default_config (strip_bom script)

-- whether the row begins with this word
abbrev pub has_word : List ℕ → Row → Bool
has_word word fields = bytes_eq (slice_index_or fields 0 []) word

-- the argument of the row
abbrev pub argument_of : Row → List ℕ
argument_of fields = slice_index_or fields 1 []

-- the state of the station, for texts or for names: how many of them it accepted, the slot of its last restart, and the
-- slot and the argument of the one on air
pub record Air : Type 0 where
  pub number : ℕ
  pub started : ℕ
  pub set : Option (ℕ × List ℕ)

-- whether the station accepts a text in this slot: none for d slots after a restart, nor for 2 d slots after a text. It
-- has the same rule for names
abbrev pub may_set : ℕ → ℕ → Air → Bool
may_set d slot a =
    nat_le (a.started + d) slot && option_map_or (λ (s : ℕ × List ℕ). nat_le (s.0 + 2 * d) slot) a.set true

-- the state after the row of this slot; the word is `text` or `name`
abbrev pub after_row : List ℕ → ℕ → ℕ → Row → Air → Air
after_row word d slot row a =
    if has_word (codes "restart") row then record { number = a.number; started = slot; set = None }
    else if has_word word row && may_set d slot a
    then record { number = a.number + 1; started = a.started; set = Some (slot, argument_of row) }
    else a

-- the state after these rows, the newest first
abbrev pub air : List ℕ → ℕ → List Row → Air
air word d [] = record { number = 0; started = 0; set = None }
air word d (row ∷ before) = after_row word d (length before) row (air word d before)

-- the state at the end of a slot of the script
abbrev pub air_in : List ℕ → ℕ → List ℕ → ℕ → Air
air_in word d script slot = air word d (reverse (take (slot + 1) (rows script)))

-- the bytes of a text or of a name, which spaces fill up to eight
abbrev pub filled : List ℕ → List ℕ → List ℕ
filled word given = if bytes_eq word (codes "name") then given ++ replicate (8 - length given) 32 else given

-- at the end of this slot, text or name number k is on air, and it is printed so
pub record OnAir (word : List ℕ) (d : ℕ) (script : List ℕ) (slot : ℕ) (shown : List ℕ) (k : ℕ) : Type 0 where
  pub start : ℕ
  pub argument : List ℕ
  pub set : (air_in word d script slot).set ≡ Some (start, argument)
  pub number : (air_in word d script slot).number ≡ k
  pub given : List ℕ
  pub read : IsReadAs argument given
  pub is : shown ≡ printed (filled word given)

-- it was on air in one of the last n slots up to slot t
pub record WasOnAir (word : List ℕ) (d n t : ℕ) (script shown : List ℕ) (k : ℕ) : Type 0 where
  pub slot : ℕ
  pub past : slot ≤ t
  pub recent : t < slot + n
  pub on_air : OnAir word d script slot shown k

-- ---- tags

-- a tag ends in the text with these bytes: a tag has a class, a start and its length less one. Class 0 is no tag
abbrev pub EndsIn : List ℕ → TagFields → Type 0
EndsIn given tag = (tag.class ≡ 0) ⊎ (tag.start + tag.extra < length given)

-- a text as the output shows it
abbrev pub in_quotes : List ℕ → List ℕ
in_quotes shown = codes " \"" ++ (shown ++ codes "\"")

-- the output shows a tag as its class and its piece of the text
abbrev pub tag_shown : List ℕ → TagFields → List ℕ
tag_shown given tag = codes " " ++ (name_or_number (class_name tag.class) tag.class
    ++ in_quotes (printed (take (tag.extra + 1) (drop tag.start given))))

-- the station accepted a row of tags in a slot up to t, when text number k was on air: both tags end in this text. The
-- text began at least d slots before slot t. The first or the second of the tags is shown so
pub record WentWith (word : List ℕ) (d t : ℕ) (script text content : List ℕ) (k : ℕ) : Type 0 where
  pub slot : ℕ
  pub past : slot ≤ t
  pub on_air : OnAir (codes "text") d script slot text k
  pub lasted : on_air.start + d ≤ t
  pub row : Row
  pub is_row : slice_get (rows script) slot ≡ Some row
  pub is_tags : has_word (codes "tags") row ≡ true
  pub pair : PairFields
  pub numbers : AreNumbers (argument_of row) (numbers_of_pair pair)
  pub fits : EndsIn on_air.given pair.one × EndsIn on_air.given pair.two
  pub tag : TagFields
  pub is_tag : tag ≡ (if bytes_eq word (codes "tag1") then pair.one else pair.two)
  pub some : 0 < tag.class
  pub is : content ≡ tag_shown on_air.given tag

-- ---- the output

-- the line by which the output changes a part of the display in a slot
abbrev pub change_line : ℕ → List ℕ → List ℕ → List ℕ
change_line slot word content = decimal slot ++ (codes " " ++ (word ++ content))

-- in slot t the output shows this content of a part: the newest line of the part has it
pub record Displays (output : List ℕ) (t : ℕ) (word content : List ℕ) : Type 0 where
  pub slot : ℕ
  pub past : slot ≤ t
  pub line : Contains (lines output) (change_line slot word content)
  pub newest : (u : ℕ) (other : List ℕ) → slot < u → u ≤ t → Contains (lines output) (change_line u word other) → ⊥

-- ---- the headline

-- a receiver of the log, and what `decode` with a dwell of m slots displays for it
pub record Receiver (pi m k : ℕ) (log : List ℕ) : Type 0 where
  pub received : List ℕ
  pub output : List ℕ
  pub reaches : Reaches pi k log received
  pub decodes : LogWrites (plain pi m) received output

-- what two receivers display in slot t is safe. Each text was on air in one of the last d slots, and the two are one text,
-- or two that follow each other; names likewise. (If only one receiver displays a text, take it twice.) Beside each tag is a
-- text, and the tag went with it
pub record IsSafe (d t : ℕ) (script one other : List ℕ) : Type 0 where
  pub values : (word shown other_shown : List ℕ) → (word ≡ codes "text") ⊎ (word ≡ codes "name")
      → Displays one t word (in_quotes shown) → Displays other t word (in_quotes other_shown)
      → (i j : ℕ) × WasOnAir word d d t script shown i × WasOnAir word d d t script other_shown j
      × (i ≤ j + 1) × (j ≤ i + 1)
  pub tags : (word content : List ℕ) → (word ≡ codes "tag1") ⊎ (word ≡ codes "tag2")
      → Displays one t word content → content ≢ codes " none"
      → (text : List ℕ) × (k : ℕ) × Displays one t (codes "text") (in_quotes text)
      × WasOnAir (codes "text") d d t script text k × WentWith word d t script text content k

-- whatever two receivers of the log of a script display in a slot is safe, for d = M + K
abbrev pub Headline : Type 0
Headline =
    (head : Head) (m k : ℕ) (script log : List ℕ) → IsHead head → 0 < m
    → ScriptWrites (with_form (Log 11) (station_of head m k)) script log
    → (one other : Receiver head.pi m k log) (t : ℕ)
    → t < length (slots one.received) → t < length (slots other.received)
    → IsSafe (m + k) t script one.output other.output
