-- What a station promises to receivers that listen all the time (this project's own schedule): a text on air is sent
-- whole in twice as many free slots as it has segments, and a name in eight. Here m is the spacing d. Lists have the
-- newest first.
use Rattle.std.specs.Prelude.{◌≡◌, ◌≤◌, ◌<◌, ◌⊎◌, ◌+◌, ◌*◌, ℕ, List, [], ◌∷◌, ◌++◌, Some}
use Rattle.rds_fields.specs.declared.message.Message.{Message}
use Rattle.rds_fields.specs.declared.message.Message.TheVariants.{Text, Name}
use Rattle.rds_assembly.specs.Body.{name_body, segment_count, segment_of, text_body}
use Rattle.rds_encoder.specs.Entries.{Entry, Restart, SetText, SetName, SetTags, Tick, Move, name_moves, text_moves}
use Rattle.rds_encoder.specs.Plan.{OnAir, on_air}
use Rattle.rds_encoder.specs.Sent.{one_if, sent_in}

-- the number of free slots that ended
abbrev pub free_in : List Entry → ℕ
free_in [] = 0
free_in (Restart ∷ before) = free_in before
free_in (SetText x ∷ before) = free_in before
free_in (SetName x ∷ before) = free_in before
free_in (SetTags pair ∷ before) = free_in before
free_in (Tick free ∷ before) = one_if free + free_in before

-- this was on air before the later entries and after each of them
abbrev pub IsOnThroughout : (List Entry → List Move) → ℕ → OnAir → List Entry → List Entry → Type 0
IsOnThroughout moves m air [] earlier = on_air m (moves earlier) ≡ Some air
IsOnThroughout moves m air (entry ∷ later) earlier =
    (on_air m (moves (entry ∷ later ++ earlier)) ≡ Some air) × IsOnThroughout moves m air later earlier

-- one of the later slots sent the message
abbrev pub IsSentAmong : ℕ → List Entry → List Entry → Message → Type 0
IsSentAmong m [] earlier message = ⊥
IsSentAmong m (Restart ∷ later) earlier message = IsSentAmong m later earlier message
IsSentAmong m (SetText x ∷ later) earlier message = IsSentAmong m later earlier message
IsSentAmong m (SetName x ∷ later) earlier message = IsSentAmong m later earlier message
IsSentAmong m (SetTags pair ∷ later) earlier message = IsSentAmong m later earlier message
IsSentAmong m (Tick free ∷ later) earlier message =
    (sent_in m free (later ++ earlier) ≡ Some message) ⊎ IsSentAmong m later earlier message

-- each segment of a text on air is sent in twice as many free slots as it has segments
abbrev pub ATextIsSentWhole : Type 0
ATextIsSentWhole = (m : ℕ) (later earlier : List Entry) (air : OnAir) → IsOnThroughout text_moves m air later earlier
    → 2 * segment_count (text_body air.bytes) ≤ free_in later
    → (a : ℕ) → a < segment_count (text_body air.bytes)
    → IsSentAmong m later earlier (Text air.flag a (segment_of (text_body air.bytes) a))

-- each segment of a name on air is sent in eight free slots
abbrev pub ANameIsSentWhole : Type 0
ANameIsSentWhole = (m : ℕ) (later earlier : List Entry) (air : OnAir) → IsOnThroughout name_moves m air later earlier
    → 8 ≤ free_in later
    → (a : ℕ) → a < 2 → IsSentAmong m later earlier (Name air.flag a (segment_of (name_body air.bytes) a))
