-- The lines that `witness` writes. This is the project's own format.
use Rattle.std.specs.Prelude.{◌≡◌, ◌≢◌, ◌⊎◌, ◌==◌, ◌++◌, ◌∷◌, [], ℕ, Bool, true, false, List, All, Option, Some, codes}
use Rattle.std.specs.Prelude.{decimal, if◌then◌else◌, Contains}
use Rattle.rds_block.specs.declared.group.Group.{Group}
use Rattle.rds_fields.specs.declared.pair.Which.{Which}
use Rattle.rds_fields.specs.declared.pair.Which.TheVariants.{One, Two}
use Rattle.rds_receiver.specs.Receipts.{Tuning}
use Rattle.rds_view_lines.specs.Output.{line_of, quoted, slot_prefix, tag_content}
use Rattle.rds_view_lines.specs.ViewParts as view
use Rattle.rds_view_lines.specs.ViewParts.{Part, part_name}
use Rattle.rds_witness.specs.Mix.{IsMix, IsPlace, Name, Tag, Text, Thing}
use Rattle.rds_witness.specs.Search.{NoMixes, NoMixesIn}
use Rattle.rds_witness.specs.declared.burst.Burst.{Burst}

abbrev pub tag_part : Which → Part
tag_part One = view.Tag1
tag_part Two = view.Tag2

abbrev pub tag_name : Which → List ℕ
tag_name which = part_name (tag_part which)

-- the part of a view that has the thing
abbrev pub part_of : Thing → Part
part_of (Text x) = view.Text
part_of (Name x) = view.Name
part_of (Tag which class piece) = tag_part which

-- the content of that part
abbrev pub content_of : Thing → List ℕ
content_of (Text x) = quoted x
content_of (Name x) = quoted x
content_of (Tag which class piece) = tag_content (Some (class, piece))

-- the line of `decode` if this is shown in a slot
abbrev pub shown_line : ℕ → Thing → List ℕ
shown_line slot thing = line_of (slot_prefix slot) (part_name (part_of thing)) (content_of thing)

-- the slots of a burst: its first and its last one, or the only one
abbrev pub burst_text : Burst → List ℕ
burst_text burst =
    if burst.first == burst.last then decimal burst.first else decimal burst.first ++ codes "-" ++ decimal burst.last

-- the words that name the slots to lose
abbrev pub lose_words : Burst → List ℕ
lose_words burst = codes "lose " ++ burst_text burst ++ codes ": "

-- the line of a mix: these words, and the line of `decode`
abbrev pub mix_line : List ℕ → ℕ → Thing → List ℕ
mix_line words slot thing = words ++ shown_line slot thing

-- the lines of mixes, the newest first in the list
abbrev pub mix_lines : List ℕ → ℕ → List Thing → List ℕ
mix_lines words slot [] = []
mix_lines words slot (thing ∷ older) = mix_lines words slot older ++ mix_line words slot thing

-- these are lines of mixes, and each mix in this slot, with these slots lost, has its line
pub record AreMixLines (t : Tuning) (ahead : ℕ) (log : List (Option Group)) (lost : List Burst) (words : List ℕ)
    (slot : ℕ) (lines : List ℕ) : Type 0 where
  pub things : List Thing
  pub mixes : All (IsMix t ahead log lost slot) things
  pub all : (thing : Thing) → IsMix t ahead log lost slot thing → Contains things thing
  pub are : lines ≡ mix_lines words slot things

abbrev pub no_witness : List ℕ
no_witness = codes "no witness found with one burst lost\n"

-- the slot before which the search ended
abbrev pub no_witness_up_to : ℕ → List ℕ
no_witness_up_to slot = codes "no witness found with one burst lost up to slot " ++ decimal slot ++ codes "\n"

-- the answer to a log: the mixes of a slot before which no burst makes one; or that no witness was found, which is
-- written only if no burst makes a mix; or a slot before which no burst makes one. `NoMixes` leaves out tags of pairs
-- that the station replaced.
abbrev pub IsAnswer : Tuning → List (Option Group) → Bool → List ℕ → Type 0
IsAnswer t log true written =
    (burst : Burst) × (slot : ℕ) × IsPlace burst slot log
    × AreMixLines t t.dwell log (burst ∷ []) (lose_words burst) slot written × (written ≢ []) × NoMixesIn t log slot
IsAnswer t log false written =
    ((written ≡ no_witness) × NoMixes t log)
    ⊎ ((slot : ℕ) × (written ≡ no_witness_up_to slot) × NoMixesIn t log slot)
