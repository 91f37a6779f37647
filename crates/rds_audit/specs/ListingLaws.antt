-- The laws of the list of all faults: up to the first fault it judges what the audit judges. Lists have the newest
-- first.
use Rattle.std.specs.Prelude.{◌≡◌, ◌∷◌, ℕ, List, Option, None}
use Rattle.std.specs.List.{AllByRecursion}
use Rattle.rds_fields.specs.declared.message.Message.{Message}
use Rattle.rds_audit.specs.Lengths.{Gauge, IsFormed}
use Rattle.rds_audit.specs.Listing.{first_fault, none_broken, reigns_of, slot_adds, spans}
use Rattle.rds_safety.specs.Marks.{Mark, Nothing, Sends, Tagged, name_mark, text_mark}
use Rattle.rds_audit.specs.Reigns.{reigns}
use Rattle.rds_audit.specs.declared.text_form.TextForm.{TextForm}
use Rattle.rds_audit.specs.Rules.{LogPasses, Passes}

-- the fragment of a mark, if it has one, has the form that the service sends
abbrev pub IsFormedMark : ℕ → Mark → Type 0
IsFormedMark segments Nothing = Unit {0}
IsFormedMark segments (Sends p) = IsFormed segments p
IsFormedMark segments (Tagged pair) = Unit {0}

-- the fragment of a message, if it has one, has the form that its service sends
pub record IsFormedMessage (message : Option Message) : Type 0 where
  pub text : IsFormedMark 16 (text_mark message)
  pub name : IsFormedMark 2 (name_mark message)

-- the spans of a service that passes are its reigns
abbrev pub SpansAreReigns : Gauge → Type 0
SpansAreReigns g = (d : ℕ) (sent : List Mark) → Passes d g.kind sent → reigns_of (spans g d sent) ≡ reigns d sent

-- a slot of a log that passes adds nothing to its list
abbrev pub WhatPassesAddsNothing : Type 0
WhatPassesAddsNothing =
    (form : TextForm) (d : ℕ) (newest : Option Message) (before : List (Option Message))
    → LogPasses form d (newest ∷ before) → slot_adds form d newest before ≡ none_broken

-- a log of messages in the form that is sent passes if it has no fault
abbrev pub WhatHasNoFaultPasses : Type 0
WhatHasNoFaultPasses =
    (form : TextForm) (d : ℕ) (log : List (Option Message)) → AllByRecursion IsFormedMessage log
    → first_fault form d log ≡ None → LogPasses form d log
