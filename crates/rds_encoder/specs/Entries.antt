-- The entries of an encoder: restarts, sets of a text, a name or a pair of tags, and ends of slots. Lists have the
-- newest first, so the tail of a list is what came before its first entry.
use Rattle.std.specs.Prelude.{ℕ, ◌+◌, Bool, List, [], ◌∷◌}
use Rattle.rds_fields.specs.Tag.{PairFields}

-- an entry; the end of a slot says whether the slot was free
pub data Entry : Type 0 where
  Restart : Entry
  SetText : (bytes : List ℕ) → Entry
  SetName : (bytes : List ℕ) → Entry
  SetTags : (pair : PairFields) → Entry
  Tick : (free : Bool) → Entry

-- a move: an entry as one service, texts or names, sees it
pub data Move : Type 0 where
  Begin : Move
  Set : (bytes : List ℕ) → Move
  End : (free : Bool) → Move

-- the moves of texts
abbrev pub text_moves : List Entry → List Move
text_moves [] = []
text_moves (Restart ∷ before) = Begin ∷ text_moves before
text_moves (SetText x ∷ before) = Set x ∷ text_moves before
text_moves (SetName x ∷ before) = text_moves before
text_moves (SetTags pair ∷ before) = text_moves before
text_moves (Tick free ∷ before) = End free ∷ text_moves before

-- the moves of names
abbrev pub name_moves : List Entry → List Move
name_moves [] = []
name_moves (Restart ∷ before) = Begin ∷ name_moves before
name_moves (SetText x ∷ before) = name_moves before
name_moves (SetName x ∷ before) = Set x ∷ name_moves before
name_moves (SetTags pair ∷ before) = name_moves before
name_moves (Tick free ∷ before) = End free ∷ name_moves before

-- the current slot: the number of slots that ended
abbrev pub slot_of : List Move → ℕ
slot_of [] = 0
slot_of (Begin ∷ before) = slot_of before
slot_of (Set x ∷ before) = slot_of before
slot_of (End free ∷ before) = slot_of before + 1

-- the slot of the last restart; an encoder begins with one in slot 0
abbrev pub restart_before : List Move → ℕ
restart_before [] = 0
restart_before (Begin ∷ before) = slot_of before
restart_before (Set x ∷ before) = restart_before before
restart_before (End free ∷ before) = restart_before before
