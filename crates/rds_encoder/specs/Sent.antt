-- What is sent in a slot (this project's own schedule). The free slots after the silence have turns, counted from 0.
-- Eight turns make a round, and the even ones are the text's. Here m is the spacing d. Lists have the newest first.
use Rattle.std.specs.Prelude.{◌+◌, ◌%◌, ◌==◌, ◌&&◌, ℕ, Bool, List, [], ◌∷◌, Option, Some, None, nat_le, if◌then◌else◌}
use Rattle.rds_block.specs.declared.group.Group.{Group}
use Rattle.rds_fields.specs.Canonical.{IsWritten}
use Rattle.rds_fields.specs.declared.head.Head.{Head}
use Rattle.rds_fields.specs.declared.message.Message.{Message}
use Rattle.rds_fields.specs.declared.message.Message.TheVariants.{Text, Name, Tags}
use Rattle.rds_fields.specs.RadioTextPlus.{announcement}
use Rattle.rds_fields.specs.Tag.{PairFields}
use Rattle.rds_assembly.specs.Body.{name_body, segment_count, segment_of, text_body}
use Rattle.rds_encoder.specs.declared.round.Turn.{Turn}
use Rattle.rds_encoder.specs.declared.round.Turn.TheVariants as turn
use Rattle.rds_encoder.specs.Entries.{Entry, Restart, SetText, SetName, SetTags, Tick}
use Rattle.rds_encoder.specs.Entries.{Move, Begin, Set, End, name_moves, restart_before, slot_of, text_moves}
use Rattle.rds_encoder.specs.Plan.{OnAir, on_air}
use Rattle.rds_encoder.specs.Round.{turn_in}
use Rattle.rds_encoder.specs.Tags.{pair_on_air}

abbrev pub one_if : Bool → ℕ
one_if test = if test then 1 else 0

-- the number of slots from slot a on that pass a test; the test gets whether the slot was free, and the moves before
-- its end
abbrev pub count_from : (Bool → List Move → Bool) → ℕ → List Move → ℕ
count_from test a [] = 0
count_from test a (Begin ∷ before) = count_from test a before
count_from test a (Set x ∷ before) = count_from test a before
count_from test a (End free ∷ before) =
    one_if (test free before && nat_le a (slot_of before)) + count_from test a before

-- the current slot has a turn: it is free, and the silence is over
abbrev pub is_turn : ℕ → Bool → List Move → Bool
is_turn m free before = free && nat_le (restart_before before + m) (slot_of before)

-- the slot is free
abbrev pub is_free : Bool → List Move → Bool
is_free free before = free

-- the turn of the current slot: the number of free slots since the silence
abbrev pub turn_of : ℕ → List Move → ℕ
turn_of m before = count_from is_free (restart_before before + m) before

-- the slot is free, and its turn is the text's
abbrev pub is_text_turn : ℕ → Bool → List Move → Bool
is_text_turn m free before = free && turn_of m before % 2 == 0

-- the address of the text's next segment: they go round, one for each turn of the text since it went on air
abbrev pub next_address : ℕ → List Move → OnAir → ℕ
next_address m before air = count_from (is_text_turn m) air.start before % segment_count (text_body air.bytes)

abbrev pub text_segment : ℕ → List Move → Option OnAir → Option Message
text_segment m before None = None
text_segment m before (Some air) =
    let a = next_address m before air in
    Some (Text air.flag a (segment_of (text_body air.bytes) a))

-- a segment of the name on air
abbrev pub name_segment : ℕ → Option OnAir → Option Message
name_segment a None = None
name_segment a (Some air) = Some (Name air.flag a (segment_of (name_body air.bytes) a))

-- the pair of the text, if the text has been on air for m slots
abbrev pub tags_due : ℕ → ℕ → Option OnAir → Option PairFields → Option Message
tags_due m now None pair = None
tags_due m now (Some air) None = None
tags_due m now (Some air) (Some pair) = if nat_le (air.start + m) now then Some (Tags pair) else None

-- the message of the current slot if it has this turn
abbrev pub sent_at_turn : ℕ → Turn → List Entry → Option Message
sent_at_turn m turn.Text before = text_segment m (text_moves before) (on_air m (text_moves before))
sent_at_turn m (turn.Name a) before = name_segment a (on_air m (name_moves before))
sent_at_turn m turn.Announcement before = Some announcement
sent_at_turn m turn.Tags before =
    tags_due m (slot_of (text_moves before)) (on_air m (text_moves before)) (pair_on_air m before)

-- the message of the current slot
abbrev pub sent_in : ℕ → Bool → List Entry → Option Message
sent_in m free before =
    if is_turn m free (text_moves before)
    then sent_at_turn m (turn_in (turn_of m (text_moves before) % 8)) before
    else None

-- the message sent in each slot that ended
abbrev pub sent_log : ℕ → List Entry → List (Option Message)
sent_log m [] = []
sent_log m (Restart ∷ before) = sent_log m before
sent_log m (SetText x ∷ before) = sent_log m before
sent_log m (SetName x ∷ before) = sent_log m before
sent_log m (SetTags pair ∷ before) = sent_log m before
sent_log m (Tick free ∷ before) = sent_in m free before ∷ sent_log m before

-- the group that is sent: the one written for the message with the station's head, and none without a message
abbrev pub IsSent : Head → Option Message → Option Group → Type 0
IsSent head None None = Unit {0}
IsSent head None (Some group) = ⊥
IsSent head (Some message) None = ⊥
IsSent head (Some message) (Some group) = IsWritten message head group
