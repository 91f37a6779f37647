-- The round: what each free slot is used for (this project's own schedule).
use Rattle.std.specs.Prelude.{ℕ, ◌<◌, List, [], ◌∷◌, slice_index_or}
use Rattle.rds_encoder.specs.declared.round.Turn.{Turn}
use Rattle.rds_encoder.specs.declared.round.Turn.TheVariants.{Text, Name, Announcement, Tags}

-- eight turns make a round
abbrev pub round : List Turn
round = Text ∷ Name 0 ∷ Text ∷ Name 1 ∷ Text ∷ Announcement ∷ Text ∷ Tags ∷ []

-- the turn at this place of the round
abbrev pub turn_in : ℕ → Turn
turn_in place = slice_index_or round place Text

-- the turn is valid: a name has two segments
abbrev pub IsTurn : Turn → Type 0
IsTurn Text = Unit {0}
IsTurn (Name a) = a < 2
IsTurn Announcement = Unit {0}
IsTurn Tags = Unit {0}
