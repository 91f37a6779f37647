-- A log that begins in the middle (this project's own rule). A recording begins while its station is on air. So its
-- first text may have started at any time before, and its first tags may be of a text that was sent before it. Lists
-- have the newest first.
use Rattle.std.specs.Prelude.{◌++◌, ℕ, Bool, true, false, List, [], ◌∷◌, Option, Some, None, replicate, if◌then◌else◌}
use Rattle.rds_fields.specs.declared.message.Message.{Message}
use Rattle.rds_fields.specs.declared.message.Message.TheVariants.{Text, Tags}
use Rattle.rds_audit.specs.declared.log_start.LogStart.{LogStart}
use Rattle.rds_audit.specs.declared.log_start.LogStart.TheVariants.{Complete, Running}
use Rattle.rds_safety.specs.Marks.{Mark, Nothing}

-- a segment of a text is among the messages
abbrev pub has_text : List (Option Message) → Bool
has_text [] = false
has_text (Some (Text f a b) ∷ before) = true
has_text (_ ∷ before) = has_text before

-- the message of a slot after these: tags count as nothing if no text segment came before
abbrev pub counted_after : List (Option Message) → Option Message → Option Message
counted_after before (Some (Tags pair)) = if has_text before then Some (Tags pair) else None
counted_after before message = message

-- the messages, except the tags before the first text segment
abbrev pub from_first_text : List (Option Message) → List (Option Message)
from_first_text [] = []
from_first_text (newest ∷ before) = counted_after (from_first_text before) newest ∷ from_first_text before

-- the log with so many slots in front in which nothing was sent
abbrev pub preceded : ℕ → List (Option Message) → List (Option Message)
preceded lost log = log ++ replicate lost None

-- what the audit judges: a complete log as it is; the log of a running station with d slots in front in which nothing
-- was sent, and without the tags before the first text segment
abbrev pub judged_as : LogStart → ℕ → List (Option Message) → List (Option Message)
judged_as Complete d log = log
judged_as Running d log = from_first_text (preceded d log)

-- the message that is judged in the slot after these
abbrev pub counted_as : LogStart → List (Option Message) → Option Message → Option Message
counted_as Complete judged message = message
counted_as Running judged message = counted_after judged message

-- the marks that are judged before the first slot of a log
abbrev pub silent_as : LogStart → ℕ → List Mark
silent_as Complete d = []
silent_as Running d = replicate d Nothing
