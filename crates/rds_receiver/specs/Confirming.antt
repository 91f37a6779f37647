-- How the state of a receiver follows from what was heard: the display from what counts of it, and with a window the
-- last segments and tags, which confirm others. Lists have the newest first.
use Rattle.std.specs.Prelude.{◌≡◌, ◌+◌, ◌-◌, ◌<◌, ◌==◌, ℕ, Bool, List, [], ◌∷◌, Option, Some, None}
use Rattle.std.specs.Prelude.{length, nat_lt, slice_index_or, if◌then◌else◌}
use Rattle.std.specs.Int.{bit_at}
use Rattle.rds_block.specs.declared.group.Group.{Group}
use Rattle.rds_fields.specs.declared.message.Message.{Message}
use Rattle.rds_fields.specs.Tag.{PairFields}
use Rattle.rds_receiver.specs.Receipts.{Segment, heard_in, name_fragment, segments, text_fragment}
use Rattle.rds_receiver.specs.declared.fragment.Fragment.{Fragment}
use Rattle.rds_receiver.specs.Run.{begins_in, run}
use Rattle.rds_receiver.specs.Holds.{HoldsAt, newest_slot}
use Rattle.rds_receiver.specs.State.{ReceiverState}
use Rattle.rds_receiver.specs.Confirmed.{confirmed, counted_in, last_at, last_pair}
use Rattle.rds_receiver.specs.declared.last.StoredLastSegments.{StoredLastSegments}

-- the last segment at an address; it confirms the same one for `left` more slots, the current one included
pub record LastSegment : Type 0 where
  pub flag : Bool
  pub bytes : List ℕ
  pub left : ℕ

-- the segment in a cell of the plain numbers
abbrev pub cell_in : StoredLastSegments → ℕ → LastSegment
cell_in s c = record {
  flag = bit_at s.flags c == 1;
  bytes = slice_index_or s.bytes c [];
  left = slice_index_or s.left c 0;
}

-- the segment one slot later
abbrev pub one_slot_older : LastSegment → LastSegment
one_slot_older s = record { flag = s.flag; bytes = s.bytes; left = s.left - 1 }

-- the last segment confirms one with the flag and the bytes of this one
abbrev pub RepeatsSegment : Fragment → LastSegment → Type 0
RepeatsSegment p s = (0 < s.left) × (s.flag ≡ p.flag) × (s.bytes ≡ p.bytes)

-- for how many more slots, slot n included, the last segment at an address confirms the same one
abbrev pub left_of : ℕ → ℕ → Option Segment → ℕ
left_of w n None = 0
left_of w n (Some g) = g.slot + w - n

-- the flag and the bytes are those of the last segment at the address
abbrev pub AreOfLast : Option Segment → LastSegment → Type 0
AreOfLast None s = Unit {0}
AreOfLast (Some g) s = (s.flag ≡ g.fragment.flag) × (s.bytes ≡ g.fragment.bytes)

-- in slot n this is the last segment at an address
pub record HoldsLast (w n : ℕ) (last : Option Segment) (s : LastSegment) : Type 0 where
  pub left : s.left ≡ left_of w n last
  pub same : AreOfLast last s

-- for how many more slots, slot n included, the last pair confirms the same one; it has to be later than the first slot
-- of the run of texts
abbrev pub pair_left_of : ℕ → ℕ → Option ℕ → Option (ℕ × PairFields) → ℕ
pair_left_of w n None last = 0
pair_left_of w n (Some since) None = 0
pair_left_of w n (Some since) (Some (u, pair)) = if nat_lt since u then u + w - n else 0

-- the pair is the last one heard
abbrev pub IsLastPair : Option (ℕ × PairFields) → Option PairFields → Type 0
IsLastPair None pair = Unit {0}
IsLastPair (Some (u, last)) pair = pair ≡ Some last

-- in slot n this is the last pair, for a run of texts that begins in this slot
pub record HoldsLastPair (w n : ℕ) (begins : Option ℕ) (last : Option (ℕ × PairFields)) (pair : Option PairFields)
    (left : ℕ) : Type 0 where
  pub left_is : left ≡ pair_left_of w n begins last
  pub same : IsLastPair last pair

-- the first slot of the run of texts in slot t, for a dwell of m
abbrev pub text_begins : ℕ → ℕ → ℕ → List (Option Message) → Option ℕ
text_begins m t first heard = begins_in (run m t (segments text_fragment first heard))

-- in slot t the last segments and tags are those of what was heard, for a window of w slots and a dwell of m
pub record HoldsLasts (w m t first : ℕ) (s : ReceiverState) (heard : List (Option Message)) : Type 0 where
  pub window : s.window ≡ w
  pub two : 1 < w
  pub texts : (a : ℕ) → a < 16
      → HoldsLast w t (last_at a (segments text_fragment first heard)) (cell_in s.segments a)
  pub names : (a : ℕ) → a < 2
      → HoldsLast w t (last_at a (segments name_fragment first heard)) (cell_in s.segments (16 + a))
  pub pair : HoldsLastPair w t (text_begins m t first (confirmed w m first heard)) (last_pair first heard) s.pair
      s.pair_left

-- the same with or without a window; without one the state says nothing of them
abbrev pub HoldsLastsIn : Option ℕ → ℕ → ℕ → ℕ → ReceiverState → List (Option Message) → Type 0
HoldsLastsIn None m t first s heard = s.window ≡ 0
HoldsLastsIn (Some w) m t first s heard = HoldsLasts w m t first s heard

-- this state follows, in slot t, from what was heard: the display follows from what counts of it
pub record HoldsBy (window : Option ℕ) (m t first : ℕ) (s : ReceiverState) (heard : List (Option Message)) : Type 0
  where
    pub display : HoldsAt m t first s.display (counted_in window m first heard)
    pub lasts : HoldsLastsIn window m t first s heard

-- the display aged by one slot after what was heard, and the last segments and tags did not yet
pub record HasAged (window : Option ℕ) (m first : ℕ) (s : ReceiverState) (heard : List (Option Message)) : Type 0 where
  pub display : HoldsAt m (first + length heard) first s.display (counted_in window m first heard)
  pub lasts : HoldsLastsIn window m (newest_slot first heard) first s heard

-- the receiver handled the group of a slot, or none, after its display aged: whatever was heard before, the new state
-- follows from it and from what it hears in this slot
abbrev pub HearsSlot : ReceiverState → ReceiverState → Option Group → Type 0
HearsSlot old new group =
    (window : Option ℕ) (m first : ℕ) (heard : List (Option Message)) → HasAged window m first old heard
    → HoldsBy window m (first + length heard) first new (heard_in old.display.programme group ∷ heard)

-- the message of this slot counts or not. All but the display follows from it and from what was heard before; the
-- display follows from what was heard before
pub record Counts (window : Option ℕ) (m first : ℕ) (s : ReceiverState) (heard : List (Option Message))
    (message : Message) (is : Bool) : Type 0 where
  pub display : HoldsAt m (first + length heard) first s.display (counted_in window m first heard)
  pub lasts : HoldsLastsIn window m (first + length heard) first s (Some message ∷ heard)
  pub kept : counted_in window m first (Some message ∷ heard)
      ≡ (if is then Some message else None) ∷ counted_in window m first heard

-- this holds whatever was heard before, for receivers with a window
abbrev pub ConfirmsIf : ReceiverState → ReceiverState → Message → Bool → Type 0
ConfirmsIf old new message is =
    (w m first : ℕ) (heard : List (Option Message)) → HoldsBy (Some w) m (first + length heard) first old heard
    → Counts (Some w) m first new heard message is
