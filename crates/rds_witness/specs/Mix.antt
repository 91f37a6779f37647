-- When the view of a receiver has a mix: a receiver that lost some slots newly shows a thing, and a receiver that lost
-- nothing does not show it in any slot up to some slots later.
use Rattle.std.specs.Prelude.{◌≡◌, ◌⊎◌, ◌≤◌, ◌<◌, ◌+◌, ◌∷◌, [], ℕ, List, Option, Some, length, nat_le, if◌then◌else◌}
use Rattle.rds_block.specs.declared.group.Group.{Group}
use Rattle.rds_fields.specs.declared.pair.Which.{Which}
use Rattle.rds_fields.specs.declared.pair.Which.TheVariants.{One, Two}
use Rattle.rds_receiver.specs.Receipts.{Tuning}
use Rattle.rds_receiver.specs.Shown.{IsView, ShownView}
use Rattle.rds_witness.specs.Lost.{got}
use Rattle.rds_witness.specs.declared.burst.Burst.{Burst}

-- a thing that a view can show
pub data Thing : Type 0 where
  Text : (bytes : List ℕ) → Thing
  Name : (bytes : List ℕ) → Thing
  Tag : (which : Which) (class : ℕ) (piece : List ℕ) → Thing

-- the view shows the thing, a tag in either place
abbrev pub ViewHas : ShownView → Thing → Type 0
ViewHas view (Text x) = view.text ≡ Some x
ViewHas view (Name x) = view.name ≡ Some x
ViewHas view (Tag which class piece) = (view.one ≡ Some (class, piece)) ⊎ (view.two ≡ Some (class, piece))

-- the view has the thing, a tag in its own place
abbrev pub Has : ShownView → Thing → Type 0
Has view (Text x) = view.text ≡ Some x
Has view (Name x) = view.name ≡ Some x
Has view (Tag One class piece) = view.one ≡ Some (class, piece)
Has view (Tag Two class piece) = view.two ≡ Some (class, piece)

-- with these slots lost, the view of slot t has the thing, and that of the slot before does not
pub record IsNew (t : Tuning) (log : List (Option Group)) (lost : List Burst) (slot : ℕ)
    (thing : Thing) : Type 0 where
  pub before : ShownView
  pub after : ShownView
  pub was : IsView t (got lost log slot) before
  pub is : IsView t (got lost log (slot + 1)) after
  pub not_shown : ViewHas before thing → ⊥
  pub has : Has after thing

-- with nothing lost, no view of the first n slots shows the thing
abbrev pub NeverShows : Tuning → List (Option Group) → ℕ → Thing → Type 0
NeverShows t log n thing =
    (slot : ℕ) (view : ShownView) → slot < n → IsView t (got [] log (slot + 1)) view → ViewHas view thing → ⊥

-- the number of slots up to `ahead` after the slot, or the length of the log if that is less
abbrev pub until : ℕ → List (Option Group) → ℕ → ℕ
until ahead log slot = if nat_le (slot + ahead) (length log) then slot + ahead else length log

-- the views before and after a slot of the log, with these slots lost
pub record AreAround (t : Tuning) (log : List (Option Group)) (lost : List Burst) (slot : ℕ)
    (before after : ShownView) : Type 0 where
  pub inside : slot < length log
  pub was : IsView t (got lost log slot) before
  pub is : IsView t (got lost log (slot + 1)) after

-- with these slots lost the thing is new in a slot of the log, and with nothing lost no slot less than `ahead` later
-- shows it, nor any slot before
pub record IsMix (t : Tuning) (ahead : ℕ) (log : List (Option Group)) (lost : List Burst) (slot : ℕ)
    (thing : Thing) : Type 0 where
  pub inside : slot < length log
  pub new : IsNew t log lost slot thing
  pub never : NeverShows t log (until ahead log slot) thing

-- the burst is before the slot, and the log has both
pub record IsPlace (burst : Burst) (slot : ℕ) (log : List (Option Group)) : Type 0 where
  pub order : burst.first ≤ burst.last
  pub before : burst.last < slot
  pub inside : slot < length log

-- the thing is a mix in the slot if this burst before it is lost
pub record IsBurstMix (t : Tuning) (log : List (Option Group)) (burst : Burst) (slot : ℕ)
    (thing : Thing) : Type 0 where
  pub place : IsPlace burst slot log
  pub mix : IsMix t t.dwell log (burst ∷ []) slot thing
