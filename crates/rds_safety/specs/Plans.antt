-- The plans of a station, one of its texts and one of its names, and when they are lawful for the log of its messages
-- (this project's own rule). Lists have the newest first.
use Rattle.std.specs.Prelude.{ℕ, List, Option}
use Rattle.rds_fields.specs.declared.message.Message.{Message}
use Rattle.rds_encoder.specs.Plan.{Broadcast}
use Rattle.rds_safety.specs.Lawful.{IsLawful, Kind, names, texts}
use Rattle.rds_safety.specs.Marks.{marks, name_mark, text_mark}

pub record Plans : Type 0 where
  pub text : List Broadcast
  pub name : List Broadcast

-- both plans are lawful for the log, with a spacing of d slots, if its texts are of this kind
pub record AreLawfulAs (kind : Kind) (d : ℕ) (plans : Plans) (log : List (Option Message)) : Type 0 where
  pub text : IsLawful d kind plans.text (marks text_mark log)
  pub name : IsLawful d names plans.name (marks name_mark log)

-- the same without padding
abbrev pub AreLawful : ℕ → Plans → List (Option Message) → Type 0
AreLawful d plans log = AreLawfulAs texts d plans log
