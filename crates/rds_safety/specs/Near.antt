-- Inputs that are near a log (this project's own rule): all that safety asks of an input. The entries may come in any
-- order and by any clock, some of them more than once. Entries that came near each other were sent near each other, and
-- tags that came later than the first segment of the run of texts were sent later than it. Lists have the newest first.
use Rattle.std.specs.Prelude.{◌≡◌, ◌+◌, ◌<◌, ◌≤◌, ℕ, List, Option, Some, None, length}
use Rattle.rds_fields.specs.declared.message.Message.{Message}
use Rattle.rds_fields.specs.declared.message.Message.TheVariants.{Tags}
use Rattle.rds_fields.specs.Tag.{PairFields}
use Rattle.rds_receiver.specs.Run.{begins_in}
use Rattle.rds_receiver.specs.Shown.{ShowsView}
use Rattle.rds_safety.specs.Late.{CameFrom, HasEntry, Input, SentIn}
use Rattle.rds_safety.specs.Marks.{Nothing, name_mark, text_mark}
use Rattle.rds_safety.specs.OwnClock.{next_slot}
use Rattle.rds_safety.specs.Safe.{Listener}
use Rattle.rds_safety.specs.Source.{text_run}

-- the entry is neither a segment nor tags
pub record IsUnmarked (entry : Option Message) : Type 0 where
  pub text : text_mark entry ≡ Nothing
  pub name : name_mark entry ≡ Nothing

-- the entry is that of the log in its origin; without an origin it is neither a segment nor tags
abbrev pub IsOfItsOriginIfMarked : List (Option Message) → Option ℕ → Option Message → Type 0
IsOfItsOriginIfMarked log None entry = IsUnmarked entry
IsOfItsOriginIfMarked log (Some s) entry = SentIn log s entry

-- each segment and each pair of tags is that of the log in its origin
pub record IsHeard (log : List (Option Message)) (input : Input) : Type 0 where
  pub beside : length input.origins ≡ length input.heard
  pub each : (t : ℕ) (origin : Option ℕ) (entry : Option Message) → HasEntry input.first input.origins t origin
      → HasEntry input.first input.heard t entry → IsOfItsOriginIfMarked log origin entry

-- tags that came later than the first segment of the run of texts were sent later than it
abbrev pub TagsFollowTheirText : ℕ → Input → Type 0
TagsFollowTheirText m input =
    (t u r s : ℕ) (pair : PairFields) → begins_in (text_run m input) ≡ Some t → t < u
    → HasEntry input.first input.heard u (Some (Tags pair)) → CameFrom input t r → CameFrom input u s → r < s

-- the input is near the log for a dwell of m when the station has reached slot `now`: an entry that came before another
-- one, or less than m slots after it, was sent less than d slots after it; one that came less than m slots ago was sent
-- less than d slots ago; no entry was sent later than `now`
pub record IsHeardNear (d m now : ℕ) (log : List (Option Message)) (input : Input) : Type 0 where
  pub heard : IsHeard log input
  pub between : (t u r s : ℕ) → CameFrom input t r → CameFrom input u s → u < t + m → s < r + d
  pub since : (t s : ℕ) → CameFrom input t s → next_slot input ≤ t + m → now < s + d
  pub past : (t s : ℕ) → CameFrom input t s → s ≤ now
  pub tags : TagsFollowTheirText m input

-- the receiver of dwell m heard an input near the log up to slot `now`, and shows the view of that
pub record ListensNear (d m now : ℕ) (log : List (Option Message)) (r : Listener) : Type 0 where
  pub near : IsHeardNear d m now log r.input
  pub shows : ShowsView m r.input.first r.input.heard r.view
