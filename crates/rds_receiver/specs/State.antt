-- The state of a receiver: what its display follows from, and the last segments and tags that confirm others.
use Rattle.std.specs.Prelude.{ℕ, Bool, Option}
use Rattle.rds_fields.specs.Tag.{PairFields}
use Rattle.rds_assembly.specs.Cells.{Cells}
use Rattle.rds_receiver.specs.declared.last.StoredLastSegments.{StoredLastSegments}

-- the held segments of one service: their cells, their flag and their age in slots
pub record HeldSegments : Type 0 where
  pub cells : Cells
  pub flag : Bool
  pub age : ℕ

-- for texts and for names the segments of the run, with flag and age; the pair of tags; and whether RadioText Plus is
-- known
pub record DisplayState : Type 0 where
  pub programme : ℕ
  pub dwell : ℕ
  pub text : HeldSegments
  pub name : HeldSegments
  pub pair : Option PairFields
  pub is_known : Bool

-- the window in slots, 0 if each message counts; the display of what counts; the last segment at each address; and the
-- last pair of tags, with for how many more slots it confirms the same pair, the current one included
pub record ReceiverState : Type 0 where
  pub window : ℕ
  pub display : DisplayState
  pub segments : StoredLastSegments
  pub pair : Option PairFields
  pub pair_left : ℕ
