-- The marks of one service, texts or names: what was sent for it in each slot of a log. A mark is a fragment of a
-- value, tags for it, or nothing. Lists have the newest first, so the slot of a mark is the number of marks before it.
use Rattle.std.specs.Prelude.{◌≡◌, ◌⊎◌, ℕ, List, [], ◌∷◌, Option, Some, None, length}
use Rattle.rds_fields.specs.declared.message.Message.{Message}
use Rattle.rds_fields.specs.declared.message.Message.TheVariants.{Text, Name, Announce, Tags, Other}
use Rattle.rds_fields.specs.Tag.{PairFields}
use Rattle.rds_receiver.specs.declared.fragment.Fragment.{Fragment}

pub data Mark : Type 0 where
  Nothing : Mark
  Sends : (fragment : Fragment) → Mark
  Tagged : (pair : PairFields) → Mark

-- the mark of a message for texts
abbrev pub text_mark : Option Message → Mark
text_mark None = Nothing
text_mark (Some (Text f a b)) = Sends record { flag = f; address = a; bytes = b }
text_mark (Some (Name f a b)) = Nothing
text_mark (Some (Announce code bits aid)) = Nothing
text_mark (Some (Tags pair)) = Tagged pair
text_mark (Some Other) = Nothing

-- the mark of a message for names
abbrev pub name_mark : Option Message → Mark
name_mark None = Nothing
name_mark (Some (Text f a b)) = Nothing
name_mark (Some (Name f a b)) = Sends record { flag = f; address = a; bytes = b }
name_mark (Some (Announce code bits aid)) = Nothing
name_mark (Some (Tags pair)) = Nothing
name_mark (Some Other) = Nothing

-- the marks of a log
abbrev pub marks : (Option Message → Mark) → List (Option Message) → List Mark
marks of [] = []
marks of (sent ∷ before) = of sent ∷ marks of before

-- the mark is in this slot
abbrev pub IsMarkIn : List Mark → ℕ → Mark → Type 0
IsMarkIn [] slot mark = ⊥
IsMarkIn (newest ∷ before) slot mark = ((slot ≡ length before) × (mark ≡ newest)) ⊎ IsMarkIn before slot mark
