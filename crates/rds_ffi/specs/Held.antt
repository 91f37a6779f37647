-- Which segments a receiver holds (this project's own form). Lists have the newest first.
use Rattle.std.specs.Prelude.{◌≡◌, ◌<◌, ◌==◌, ℕ, List, Option}
use Rattle.std.specs.FinMap.{contains_key}
use Rattle.std.specs.Int.{bit_at}
use Rattle.rds_block.specs.declared.group.Group.{Group}
use Rattle.rds_fields.specs.declared.message.Message.{Message}
use Rattle.rds_receiver.specs.Receipts.{Segment, Tuning, heard_of, name_fragment, segments, text_fragment}
use Rattle.rds_receiver.specs.declared.fragment.Fragment.{Fragment}
use Rattle.rds_receiver.specs.Run.{cells_of, run}
use Rattle.rds_receiver.specs.Holds.{HasAge, newest_slot}
use Rattle.rds_receiver.specs.Confirmed.{counted}
use Rattle.rds_ffi.specs.declared.held.RdsrtHeld.{RdsrtHeld}
use Rattle.rds_ffi.specs.declared.held.RdsrtSegments.{RdsrtSegments}

-- in slot t bit a is 1 if the run has a segment with address a, for each address of the service: their number is
-- `count`. The age is the number of slots since its newest segment came; it is the dwell m if the run is empty
pub record AreHeldIn (count m t : ℕ) (the_run : List Segment) (s : RdsrtSegments) : Type 0 where
  pub held : (a : ℕ) → a < count → contains_key (cells_of the_run) a ≡ (bit_at s.held a == 1)
  pub age : HasAge m t the_run s.age

-- these are the segments of the run at the end of what was heard, of what counts for this tuning
abbrev pub HoldsSegmentsOf : ℕ → (Message → Option Fragment) → Tuning → List (Option Message) → RdsrtSegments → Type 0
HoldsSegmentsOf count pick t heard =
    AreHeldIn count t.dwell (newest_slot t.first heard)
    (run t.dwell (newest_slot t.first heard) (segments pick t.first (counted t heard)))

-- the segments that a receiver holds at the end of an input: a text has 16 addresses, and a name 2
pub record IsHeld (t : Tuning) (input : List (Option Group)) (h : RdsrtHeld) : Type 0 where
  pub text : HoldsSegmentsOf 16 text_fragment t (heard_of t.programme input) h.text
  pub name : HoldsSegmentsOf 2 name_fragment t (heard_of t.programme input) h.name
