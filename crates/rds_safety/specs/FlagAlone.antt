-- Receivers that follow the A/B flag of IEC 62106 alone, like the radios in use: they have no dwell. Such a receiver
-- starts again when a segment comes with the other flag, and otherwise drops nothing. What the station and the
-- reception need so that it shows no mix is this project's own rule. Lists have the newest first.
use Rattle.std.specs.Prelude.{◌≡◌, ◌≢◌, ◌+◌, ◌<◌, ◌≤◌, ◌⊎◌, ℕ, Bool, true, false, List, [], ◌∷◌, Option, Some}
use Rattle.std.specs.Prelude.{if◌then◌else◌}
use Rattle.rds_fields.specs.declared.message.Message.{Message}
use Rattle.rds_fields.specs.declared.message.Message.TheVariants.{Tags}
use Rattle.rds_fields.specs.declared.pair.Which.TheVariants.{One, Two}
use Rattle.rds_fields.specs.Tag.{PairFields}
use Rattle.rds_assembly.specs.Whole.{IsWholeName, IsWholeText}
use Rattle.rds_encoder.specs.Plan.{Broadcast, Covers, HasNumber}
use Rattle.rds_receiver.specs.Receipts.{Segment, name_fragment, segments, text_fragment}
use Rattle.rds_receiver.specs.declared.fragment.Fragment.{Fragment}
use Rattle.rds_receiver.specs.Run.{begins_in, cells_of, is_same}
use Rattle.rds_receiver.specs.Shown.{IsShown, ShownView}
use Rattle.rds_receiver.specs.Tags.{item_of, pair_from, tag_of}
use Rattle.rds_safety.specs.Late.{CameFrom, HasEntry, Input, IsHeardInOrder, SentIn}
use Rattle.rds_safety.specs.Safe.{Listener}

-- ---- what such a receiver shows

-- the last segments that all have flag f
abbrev pub flag_run_before : Bool → List Segment → List Segment
flag_run_before f [] = []
flag_run_before f (g ∷ older) = if is_same f g.fragment.flag then g ∷ flag_run_before f older else []

-- the longest last part of the segments with one flag
abbrev pub flag_run : List Segment → List Segment
flag_run [] = []
flag_run (g ∷ older) = g ∷ flag_run_before g.fragment.flag older

-- the run of texts, or of names, by the flag alone
abbrev pub run_by_flag : (Message → Option Fragment) → Input → List Segment
run_by_flag pick input = flag_run (segments pick input.first input.heard)

-- the pair held: the last one that came later than the first segment of this run of texts (see `pair_since`)
abbrev pub pair_by_flag : Input → Option PairFields
pair_by_flag input = pair_from input.first (begins_in (run_by_flag text_fragment input)) input.heard

-- the view: the text and the name that these runs make whole, and the tags beside the text
pub record ShowsByFlag (input : Input) (view : ShownView) : Type 0 where
  pub text : IsShown IsWholeText (cells_of (run_by_flag text_fragment input)) view.text
  pub name : IsShown IsWholeName (cells_of (run_by_flag name_fragment input)) view.name
  pub item : view.item ≡ item_of view.text (pair_by_flag input)
  pub one : view.one ≡ tag_of One view.text (pair_by_flag input)
  pub two : view.two ≡ tag_of Two view.text (pair_by_flag input)

-- the receiver heard the log in order, by any clock, up to the station's slot `now`, and shows the view of that by the
-- flag alone
pub record ListensByFlag (now : ℕ) (log : List (Option Message)) (r : Listener) : Type 0 where
  pub order : IsHeardInOrder log r.input
  pub past : (t s : ℕ) → CameFrom r.input t s → s ≤ now
  pub shows : ShowsByFlag r.input r.view

-- ---- what the station must do

-- joining segments of broadcast a to those of b does no harm: both have the same bytes, or b is the empty text, whose
-- one segment is whole whatever follows it
abbrev pub IsHarmless : Broadcast → Broadcast → Type 0
IsHarmless a b = (a.bytes ≡ b.bytes) ⊎ (b.bytes ≡ [])

-- each broadcast has another flag than the one before it, or the same bytes, or is the empty text
abbrev pub TurnsTheFlag : List Broadcast → Type 0
TurnsTheFlag plan =
    (k : ℕ) (a b : Broadcast) → HasNumber plan k a → HasNumber plan (k + 1) b → (a.flag ≢ b.flag) ⊎ IsHarmless a b

-- ---- what the reception must give

-- the receiver heard in its slot t a segment that was sent in slot s
pub record IsHeardFrom (pick : Message → Option Fragment) (input : Input) (t s : ℕ) : Type 0 where
  pub message : Message
  pub fragment : Fragment
  pub came : HasEntry input.first input.heard t (Some message)
  pub picked : pick message ≡ Some fragment
  pub from : CameFrom input t s

-- the receiver heard a segment that was sent in slot `from` or later, and before slot `before`
pub record HearsOneBetween (pick : Message → Option Fragment) (input : Input) (from before : ℕ) : Type 0 where
  pub slot : ℕ
  pub origin : ℕ
  pub heard : IsHeardFrom pick input slot origin
  pub since : from ≤ origin
  pub until : origin < before

-- broadcast k is filled: it is not the empty text
abbrev pub IsFilled : List Broadcast → ℕ → Broadcast → Type 0
IsFilled plan k b = b.bytes ≢ []

-- broadcast k is news: it is not the empty text, and neither of the two before it has its flag and its bytes
pub record IsNews (plan : List Broadcast) (k : ℕ) (b : Broadcast) : Type 0 where
  pub filled : b.bytes ≢ []
  pub new : (j : ℕ) (a : Broadcast) → HasNumber plan j a → j < k → k ≤ j + 2 → a.flag ≡ b.flag → a.bytes ≡ b.bytes → ⊥

-- once the receiver heard a segment, it heard one of each later broadcast whose next one began by slot `now`, if Is
-- holds of the next one: that it is filled, or news. It may miss other broadcasts
abbrev pub HearsEach : (List Broadcast → ℕ → Broadcast → Type 0) → (Message → Option Fragment) → List Broadcast → ℕ
    → Input → Type 0
HearsEach Is pick plan now input =
    (k : ℕ) (b next : Broadcast) (t r : ℕ) → HasNumber plan k b → HasNumber plan (k + 1) next → Is plan (k + 1) next
    → IsHeardFrom pick input t r → r < b.start → next.start ≤ now → HearsOneBetween pick input b.start (b.end + 1)

-- once the receiver heard a segment, it heard one of each later broadcast before the tags of that broadcast
abbrev pub HearsTextBeforeTags : List Broadcast → Input → Type 0
HearsTextBeforeTags plan input =
    (t s u r k : ℕ) (pair : PairFields) (b : Broadcast) → HasEntry input.first input.heard t (Some (Tags pair))
    → CameFrom input t s → HasNumber plan k b → Covers b s → IsHeardFrom text_fragment input u r → r < b.start
    → HearsOneBetween text_fragment input b.start s

-- in slots: once the receiver heard a segment, it heard one in each n slots in a row of one broadcast, up to slot `now`
abbrev pub HearsOneIn : ℕ → (Message → Option Fragment) → List Broadcast → ℕ → Input → Type 0
HearsOneIn n pick plan now input =
    (k s t r : ℕ) (b : Broadcast) → HasNumber plan k b → b.start ≤ s → s + n ≤ b.end + 1 → s + n ≤ now
    → IsHeardFrom pick input t r → r < s → HearsOneBetween pick input s (s + n)

-- each broadcast lasts for at least n slots, if Is holds of the next one
abbrev pub EachLasts : (List Broadcast → ℕ → Broadcast → Type 0) → ℕ → List Broadcast → Type 0
EachLasts Is n plan =
    (k : ℕ) (b next : Broadcast) → HasNumber plan k b → HasNumber plan (k + 1) next → Is plan (k + 1) next
    → b.start + n ≤ b.end + 1

-- a segment was sent in slot `from` or later, and before slot `before`
pub record SendsOneBetween (pick : Message → Option Fragment) (log : List (Option Message))
    (from before : ℕ) : Type 0 where
  pub slot : ℕ
  pub message : Message
  pub fragment : Fragment
  pub is_sent : SentIn log slot (Some message)
  pub picked : pick message ≡ Some fragment
  pub since : from ≤ slot
  pub until : slot < before

-- in each r slots in a row of one broadcast a segment was sent
abbrev pub SendsOneIn : ℕ → (Message → Option Fragment) → List Broadcast → List (Option Message) → Type 0
SendsOneIn r pick plan log =
    (k u : ℕ) (b : Broadcast) → HasNumber plan k b → b.start ≤ u → u + r ≤ b.end + 1
    → SendsOneBetween pick log u (u + r)

-- the receiver got r of these slots in a row, whatever was sent in them
pub record GetsInARow (r : ℕ) (input : Input) (from before : ℕ) : Type 0 where
  pub first : ℕ
  pub since : from ≤ first
  pub until : first + r ≤ before
  pub each : (s : ℕ) → first ≤ s → s < first + r → (t : ℕ) × CameFrom input t s

-- once the receiver heard a segment, it got r slots in a row of each n slots in a row of one broadcast, up to slot
-- `now`
abbrev pub GetsSome : ℕ → ℕ → (Message → Option Fragment) → List Broadcast → ℕ → Input → Type 0
GetsSome r n pick plan now input =
    (k s t q : ℕ) (b : Broadcast) → HasNumber plan k b → b.start ≤ s → s + n ≤ b.end + 1 → s + n ≤ now
    → IsHeardFrom pick input t q → q < s → GetsInARow r input s (s + n)

-- `got` says which slots came: once the receiver heard a segment, it lost at most `most` slots in a row, and got r
-- slots in a row after each loss, up to slot `now`
pub record LosesInARow (most r : ℕ) (pick : Message → Option Fragment) (now : ℕ) (input : Input)
    (got : ℕ → Bool) : Type 0 where
  pub came : (s : ℕ) → got s ≡ true → (t : ℕ) × CameFrom input t s
  pub short : (s t q : ℕ) → IsHeardFrom pick input t q → q < s → s + most < now
      → (v : ℕ) × (s ≤ v) × (v ≤ s + most) × (got v ≡ true)
  pub long : (s v : ℕ) → got s ≡ false → got (s + 1) ≡ true → s < v → v ≤ s + r → v < now → got v ≡ true
