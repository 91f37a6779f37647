-- The lines of mixes on the way: those of the texts, then also of the names, and so on.
use Rattle.std.specs.Prelude.{◌≡◌, ◌<◌, ◌∷◌, [], ℕ, All, List, None, Option, option_map, slice_index_or, Contains}
use Rattle.rds_block.specs.declared.group.Group.{Group}
use Rattle.rds_fields.specs.declared.pair.Which.TheVariants.{One, Two}
use Rattle.rds_receiver.specs.Receipts.{Tuning}
use Rattle.rds_receiver.specs.Shown.{ShownView}
use Rattle.rds_witness.specs.Lines.{mix_lines}
use Rattle.rds_witness.specs.Mix.{IsMix, Name, Tag, Text, Thing}
use Rattle.rds_witness.specs.declared.burst.Burst.{Burst}

-- the kind of a thing: text, name, first tag, second tag
abbrev pub kind_of : Thing → ℕ
kind_of (Text x) = 0
kind_of (Name x) = 1
kind_of (Tag One class piece) = 2
kind_of (Tag Two class piece) = 3

-- the thing of this kind that a view has, if it has one
abbrev pub thing_in : ShownView → ℕ → Option Thing
thing_in view kind = slice_index_or (option_map Text view.text ∷ option_map Name view.name
    ∷ option_map (λ tag. Tag One tag.0 tag.1) view.one ∷ option_map (λ tag. Tag Two tag.0 tag.1) view.two ∷ []) kind
    None

-- these are lines of mixes, and each mix of the first n kinds has its line
pub record AreSomeMixLines (n : ℕ) (t : Tuning) (ahead : ℕ) (log : List (Option Group)) (lost : List Burst)
    (words : List ℕ) (slot : ℕ) (lines : List ℕ) : Type 0 where
  pub things : List Thing
  pub mixes : All (IsMix t ahead log lost slot) things
  pub all : (thing : Thing) → kind_of thing < n → IsMix t ahead log lost slot thing → Contains things thing
  pub are : lines ≡ mix_lines words slot things
