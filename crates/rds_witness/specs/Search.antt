-- A search over all bursts at once (this project's own rule).
use Rattle.std.specs.Prelude.{◌≡◌, ◌≤◌, ◌<◌, ◌+◌, ◌∷◌, [], ℕ, All, IsFalse, List, Option, Some, length}
use Rattle.rds_block.specs.declared.group.Group.{Group}
use Rattle.rds_fields.specs.declared.pair.Which.{Which}
use Rattle.rds_fields.specs.Tag.{PairFields, tag_in}
use Rattle.rds_receiver.specs.Receipts.{Tuning, heard_of, text_fragment}
use Rattle.rds_receiver.specs.Run.{begins_in, run_at}
use Rattle.rds_receiver.specs.Shown.{IsView, ShownView}
use Rattle.rds_receiver.specs.ReceiverAt.{ReceiverAt}
use Rattle.rds_receiver.specs.declared.receiver.Receiver.{Receiver}
use Rattle.rds_receiver.specs.Tags.{cut_by, pair_held}
use Rattle.rds_receiver.specs.Confirmed.{counted}
use Rattle.rds_witness.specs.Covered.{IsAt, IsCovered}
use Rattle.rds_witness.specs.Lost.{got}
use Rattle.rds_witness.specs.Mix.{Has, IsBurstMix, Name, ViewHas, Tag, Text, Thing, until}
use Rattle.rds_witness.specs.declared.burst.Burst.{Burst}
use Rattle.rds_witness.specs.declared.covering.Lossy.{Lossy}
use Rattle.rds_witness.specs.declared.seen.AllSeen.{AllSeen}
use Rattle.rds_witness.specs.declared.seen.Seen.{Seen}
use Rattle.rds_witness.specs.declared.search.Found.{Found}
use Rattle.rds_witness.specs.declared.search.Found.TheVariants.{Doubt, Nothing, Stopped}
use Rattle.rds_witness.specs.declared.sweep.Sweep.{Sweep}

-- a receiver that loses nothing held the pair after one of the first n slots, and its run of texts began in the same
-- slot then as after the last of them
pub record IsOfRun (t : Tuning) (log : List (Option Group)) (n : ℕ) (pair : PairFields) : Type 0 where
  pub slot : ℕ
  pub before : slot < n
  pub held : pair_held t.dwell t.first (counted t (heard_of t.programme (got [] log (slot + 1)))) ≡ Some pair
  pub same : begins_in (run_at text_fragment t.dwell t.first (counted t (heard_of t.programme (got [] log (slot + 1)))))
      ≡ begins_in (run_at text_fragment t.dwell t.first (counted t (heard_of t.programme (got [] log n))))

-- a receiver that loses nothing shows a text in one of the first n slots, and a pair of tags of its run of texts, which
-- may have been replaced, makes the tag of this text
pub record IsTagOfRun (t : Tuning) (log : List (Option Group)) (n class : ℕ) (piece : List ℕ) : Type 0 where
  pub slot : ℕ
  pub before : slot < n
  pub view : ShownView
  pub is : IsView t (got [] log (slot + 1)) view
  pub text : List ℕ
  pub shown : view.text ≡ Some text
  pub pair : PairFields
  pub of_run : IsOfRun t log (slot + 1) pair
  pub which : Which
  pub cut : cut_by (tag_in which pair) text ≡ Some (class, piece)

-- the thing is a tag of a pair that the station replaced in the run of the text
abbrev pub IsReplaced : Tuning → List (Option Group) → ℕ → Thing → Type 0
IsReplaced t log n (Text x) = ⊥
IsReplaced t log n (Name x) = ⊥
IsReplaced t log n (Tag which class piece) = IsTagOfRun t log n class piece

-- no burst makes a receiver show a mix in the first n slots, except tags of replaced pairs
abbrev pub NoMixesIn : Tuning → List (Option Group) → ℕ → Type 0
NoMixesIn t log n = (burst : Burst) (slot : ℕ) (thing : Thing) → slot < n → IsBurstMix t log burst slot thing
    → IsReplaced t log (until t.dwell log slot) thing

-- no burst makes a receiver show a mix, except tags of replaced pairs
abbrev pub NoMixes : Tuning → List (Option Group) → Type 0
NoMixes t log = NoMixesIn t log (length log)

-- after n slots: the receiver that lost nothing; receivers that with it hold all that any receiver holds that lost a
-- burst up to the newest slot; and receivers that with it hold all that any receiver holds that heard again after its
-- burst
pub record StandsAfter (t : Tuning) (log : List (Option Group)) (n : ℕ) (sweep : Sweep) : Type 0 where
  pub whole : ReceiverAt t sweep.whole.receiver (got [] log n)
  pub losing_at : All (IsAt t n) sweep.losing.items
  pub hearing_at : All (IsAt t n) sweep.hearing.items
  pub lose : (burst : Burst) → burst.first ≤ burst.last → burst.last + 1 ≡ n
      → IsCovered t (sweep.whole ∷ sweep.losing.items) (got (burst ∷ []) log n)
  pub hear : (burst : Burst) → burst.first ≤ burst.last → burst.last + 1 < n
      → IsCovered t (sweep.whole ∷ sweep.hearing.items) (got (burst ∷ []) log n)

-- a receiver that loses nothing shows this in one of the first n slots
pub record IsShownBefore (t : Tuning) (log : List (Option Group)) (n : ℕ) (thing : Thing) : Type 0 where
  pub slot : ℕ
  pub view : ShownView
  pub before : slot < n
  pub is : IsView t (got [] log (slot + 1)) view
  pub shows : ViewHas view thing

-- a receiver that loses nothing shows the thing in one of the first n slots; and for a tag: it shows a text of which a
-- pair of its run makes the tag
abbrev pub IsSeenBefore : Tuning → List (Option Group) → ℕ → Thing → Type 0
IsSeenBefore t log n (Text x) = IsShownBefore t log n (Text x)
IsSeenBefore t log n (Name x) = IsShownBefore t log n (Name x)
IsSeenBefore t log n (Tag which class piece) = IsTagOfRun t log n class piece

-- the receiver that loses nothing has this state after the slot, and the pair is one of its run of texts
pub record IsSeen (t : Tuning) (log : List (Option Group)) (seen : Seen) : Type 0 where
  pub inside : seen.slot < length log
  pub stands : ReceiverAt t seen.receiver (got [] log (seen.slot + 1))
  pub pair : (pair : PairFields) → seen.pair ≡ Some pair → IsOfRun t log (seen.slot + 1) pair

-- the receiver that loses nothing has a view in each of the first n slots
abbrev pub HasViews : Tuning → List (Option Group) → ℕ → Type 0
HasViews t log n = (slot : ℕ) → slot < n → (view : ShownView) × IsView t (got [] log (slot + 1)) view

abbrev pub AreSeen : Tuning → List (Option Group) → AllSeen → Type 0
AreSeen t log all = All (IsSeen t log) all.seen.items × HasViews t log (length log)

-- the view after this input has no other things than those seen in the first n slots
pub record HasOnlySeen (t : Tuning) (log : List (Option Group)) (n : ℕ) (input : List (Option Group)) : Type 0 where
  pub view : ShownView
  pub is : IsView t input view
  pub seen : (thing : Thing) → Has view thing → IsSeenBefore t log n thing

-- the receiver shows no other things, wherever it stands
abbrev pub ShowsOnlySeen : Tuning → List (Option Group) → ℕ → Receiver → Type 0
ShowsOnlySeen t log n r = (input : List (Option Group)) → ReceiverAt t r input → HasOnlySeen t log n input

abbrev pub ShowOnlySeen : Tuning → List (Option Group) → ℕ → List Lossy → Type 0
ShowOnlySeen t log n receivers = All (λ s. ShowsOnlySeen t log n s.receiver) receivers

-- if the view of the receiver did not change in the newest slot, it shows no other things
abbrev pub IsChecked : Tuning → List (Option Group) → ℕ → Lossy → Type 0
IsChecked t log n s = IsFalse s.changed → ShowsOnlySeen t log n s.receiver

-- no burst makes a receiver show a mix before the slot of the result; before the end of the log, if it has none
abbrev pub IsSure : Tuning → List (Option Group) → Found → Type 0
IsSure t log (Doubt burst slot) = NoMixesIn t log slot
IsSure t log Nothing = NoMixes t log
IsSure t log (Stopped slot) = NoMixesIn t log slot
