-- A list of receivers covers a receiver if one of the list holds all that it holds. The list then shows each text, name
-- and tag that the receiver shows (this project's own rule).
use Rattle.std.specs.Prelude.{◌≡◌, ◌∷◌, ◌+◌, ℕ, All, List, Option, length, Contains}
use Rattle.rds_block.specs.declared.group.Group.{Group}
use Rattle.rds_fields.specs.declared.message.Message.{Message}
use Rattle.rds_receiver.specs.Receipts.{Tuning, heard_of, name_fragment, text_fragment}
use Rattle.rds_receiver.specs.declared.fragment.Fragment.{Fragment}
use Rattle.rds_receiver.specs.Run.{run_at}
use Rattle.rds_receiver.specs.ReceiverAt.{ReceiverAt}
use Rattle.rds_receiver.specs.Confirmed.{counted}
use Rattle.rds_witness.specs.Part.{IsPart, IsTagPart}
use Rattle.rds_witness.specs.declared.covering.Lossy.{Lossy}

-- the run of one service after an input is a part of its run after another input
abbrev pub IsRunPart : (Message → Option Fragment) → Tuning → List (Option Group) → List (Option Group) → Type 0
IsRunPart pick t one other =
    IsPart (run_at pick t.dwell t.first (counted t (heard_of t.programme one)))
    (run_at pick t.dwell t.first (counted t (heard_of t.programme other)))

-- the inputs have as many slots, and what a receiver holds after the first is a part of what one holds after the second
pub record IsInputPart (t : Tuning) (one other : List (Option Group)) : Type 0 where
  pub long : length one ≡ length other
  pub texts : IsRunPart text_fragment t one other
  pub names : IsRunPart name_fragment t one other
  pub tags : IsTagPart t.dwell t.first (counted t (heard_of t.programme one)) (counted t (heard_of t.programme other))

-- the receiver stands at the end of an input of n slots
pub record IsAt (t : Tuning) (n : ℕ) (s : Lossy) : Type 0 where
  pub input : List (Option Group)
  pub long : length input ≡ n
  pub stands : ReceiverAt t s.receiver input

-- the receiver stands at the end of an input of which this one is a part
pub record CoversInput (t : Tuning) (input : List (Option Group)) (s : Lossy) : Type 0 where
  pub other : List (Option Group)
  pub stands : ReceiverAt t s.receiver other
  pub part : IsInputPart t input other

-- one of the receivers stands there
pub record IsCovered (t : Tuning) (set : List Lossy) (input : List (Option Group)) : Type 0 where
  pub by : Lossy
  pub is_there : Contains set by
  pub covers : CoversInput t input by

-- after a receiver was offered: the kept receivers cover the inputs of n slots that it covers, and all that they
-- covered before
pub record Keeps (t : Tuning) (n : ℕ) (offered : Lossy) (old new : List Lossy) : Type 0 where
  pub at : All (IsAt t n) new
  pub stays : (input : List (Option Group)) → IsCovered t old input → IsCovered t new input
  pub more : (input : List (Option Group)) → length input ≡ n → CoversInput t input offered → IsCovered t new input

-- the same after receivers took a slot and were offered
pub record KeepsNext (t : Tuning) (n : ℕ) (group : Option Group) (offered old new : List Lossy) : Type 0 where
  pub at : All (IsAt t (n + 1)) new
  pub stays : (input : List (Option Group)) → IsCovered t old input → IsCovered t new input
  pub more : (input : List (Option Group)) → length input ≡ n → IsCovered t offered input
      → IsCovered t new (group ∷ input)
