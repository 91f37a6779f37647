-- In which slot a receiver that loses nothing shows each thing first.
use Rattle.std.specs.BTreeMap.{get}
use Rattle.std.specs.Cmp.Lexicographic.{slice_cmp}
use Rattle.std.specs.Ordering.{nat_cmp}
use Rattle.std.specs.Prelude.{◌<◌, ◌+◌, ◌∷◌, ℕ, List, None, Option, Some}
use Rattle.rds_block.specs.declared.group.Group.{Group}
use Rattle.rds_receiver.specs.Receipts.{Tuning}
use Rattle.rds_receiver.specs.Shown.{ShownView}
use Rattle.rds_witness.specs.Mix.{Has, Name, NeverShows, Tag, Text, Thing}
use Rattle.rds_witness.specs.Search.{IsShownBefore}
use Rattle.rds_witness.specs.SomeLines.{kind_of}
use Rattle.rds_witness.specs.declared.firsts.Firsts.{Firsts}

-- the kind of a thing, its content type and its bytes: one key for a tag in either place
abbrev pub key_of : Thing → List ℕ
key_of (Text x) = 0 ∷ 0 ∷ x
key_of (Name x) = 1 ∷ 0 ∷ x
key_of (Tag which class piece) = 2 ∷ class ∷ piece

-- the slot that is noted at a key
abbrev pub slot_at : Firsts → List ℕ → Option ℕ
slot_at firsts key = get (λ v w. slice_cmp nat_cmp v.items w.items) firsts.slots (record { items = key })

-- this is the first one of the first n slots in which a receiver that loses nothing shows the thing; none, if it never
-- does
abbrev pub IsFirst : Tuning → List (Option Group) → ℕ → Thing → Option ℕ → Type 0
IsFirst t log n thing None = NeverShows t log n thing
IsFirst t log n thing (Some slot) = (slot < n) × IsShownBefore t log (slot + 1) thing × NeverShows t log slot thing

-- it is noted for each thing
abbrev pub AreFirsts : Tuning → List (Option Group) → ℕ → Firsts → Type 0
AreFirsts t log n firsts = (thing : Thing) → IsFirst t log n thing (slot_at firsts (key_of thing))

-- the same in the slot after n slots, whose view is this, once the things of the first kinds are noted
abbrev pub IsFirstSoFar : Tuning → List (Option Group) → ℕ → ShownView → ℕ → Thing → Option ℕ → Type 0
IsFirstSoFar t log n view kinds thing None =
    NeverShows t log n thing × (kind_of thing < kinds → Has view thing → ⊥)
IsFirstSoFar t log n view kinds thing (Some slot) = IsFirst t log (n + 1) thing (Some slot)

abbrev pub AreFirstsSoFar : Tuning → List (Option Group) → ℕ → ShownView → ℕ → Firsts → Type 0
AreFirstsSoFar t log n view kinds firsts =
    (thing : Thing) → IsFirstSoFar t log n view kinds thing (slot_at firsts (key_of thing))
