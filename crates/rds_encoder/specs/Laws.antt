-- The laws about all entries of an encoder, all broadcasts, and all that is sent. Here m is the spacing d. Lists have
-- the newest first.
use Rattle.std.specs.Prelude.{◌≡◌, ◌≤◌, ◌<◌, ◌⊎◌, ◌↔◌, ◌+◌, ◌%◌, [], ◌∷◌, ◌++◌}
use Rattle.std.specs.Prelude.{ℕ, true, Bool, List, Some, IfSome, is_ok, length}
use Rattle.rds_fields.specs.declared.message.Message.TheVariants.{Text, Name, Tags}
use Rattle.rds_fields.specs.Tag.{BothEndIn, PairFields}
use Rattle.rds_assembly.specs.Body.{name_body, segment_count, segment_of, text_body}
use Rattle.rds_encoder.specs.declared.round.Turn.TheVariants as turn
use Rattle.rds_encoder.specs.Entries.{Entry, Move, Begin, Set, End, name_moves, restart_before, slot_of, text_moves}
use Rattle.rds_encoder.specs.Plan.{Broadcast, Covers, HasNumber, OnAir, ending_in, endless, on_air, plan_of}
use Rattle.rds_encoder.specs.Reply.{reply_to}
use Rattle.rds_encoder.specs.Round.{turn_in}
use Rattle.rds_encoder.specs.Sent.{sent_in}
use Rattle.rds_encoder.specs.Spaced.{IsSpaced, RestartsComeFirst}
use Rattle.rds_encoder.specs.Tags.{pair_on_air}

-- the text or name on air is planned, as a broadcast that so far ends in the current slot
abbrev pub WhatIsOnAirIsPlanned : Type 0
WhatIsOnAirIsPlanned = (m : ℕ) (moves : List Move) (air : OnAir) → on_air m moves ≡ Some air
    → (k : ℕ) × HasNumber (plan_of m (slot_of moves) moves) k (ending_in (slot_of moves) air)

-- this broadcast covers the current slot
abbrev pub WhatIsOnAirCoversTheSlot : Type 0
WhatIsOnAirCoversTheSlot = (m : ℕ) (moves : List Move) (air : OnAir) → on_air m moves ≡ Some air
    → Covers (ending_in (slot_of moves) air) (slot_of moves)

-- no other broadcast covers the current slot
abbrev pub OnlyWhatIsOnAirCoversTheSlot : Type 0
OnlyWhatIsOnAirCoversTheSlot = (m : ℕ) (moves : List Move) (k : ℕ) (b : Broadcast) → 0 < m
    → HasNumber (plan_of m (slot_of moves) moves) k b → Covers b (slot_of moves)
    → on_air m moves ≡ Some (endless b)

-- the plan has this text or name that was on air: a broadcast with its start, flag and bytes that covers the slot
pub record HasOnAir (plan : List Broadcast) (air : OnAir) (slot : ℕ) : Type 0 where
  pub number : ℕ
  pub broadcast : Broadcast
  pub planned : HasNumber plan number broadcast
  pub same : endless broadcast ≡ air
  pub covers : Covers broadcast slot

-- a text or name that is on air when a slot ends stays planned, whatever comes later
abbrev pub WhatWasOnAirStaysPlanned : Type 0
WhatWasOnAirStaysPlanned = (m end : ℕ) (later : List Move) (free : Bool) (earlier : List Move) (air : OnAir)
    → on_air m earlier ≡ Some air → slot_of earlier ≤ end
    → HasOnAir (plan_of m end (later ++ End free ∷ earlier)) air (slot_of earlier)

-- the text or name on air began after the silence, and no later than the current slot
abbrev pub WhatIsOnAirBegan : Type 0
WhatIsOnAirBegan = (m : ℕ) (moves : List Move) (air : OnAir) → on_air m moves ≡ Some air
    → (restart_before moves + m ≤ air.start) × (air.start ≤ slot_of moves)

-- the text or name on air was on air in each slot after its first
abbrev pub WhatIsOnAirWasOnAir : Type 0
WhatIsOnAirWasOnAir = (m : ℕ) (later earlier : List Move) (air : OnAir) → on_air m (later ++ earlier) ≡ Some air
    → air.start < slot_of earlier → on_air m earlier ≡ Some air

-- these bytes were set in this slot, and accepted
abbrev pub WasAccepted : ℕ → ℕ → List ℕ → List Move → Type 0
WasAccepted m slot x [] = ⊥
WasAccepted m slot x (Begin ∷ before) = WasAccepted m slot x before
WasAccepted m slot x (Set y ∷ before) =
    ((slot_of before ≡ slot) × (y ≡ x) × (is_ok (reply_to m before) ≡ true)) ⊎ WasAccepted m slot x before
WasAccepted m slot x (End free ∷ before) = WasAccepted m slot x before

-- each planned broadcast was accepted in its first slot
abbrev pub WhatIsPlannedWasAccepted : Type 0
WhatIsPlannedWasAccepted = (m end : ℕ) (moves : List Move) (k : ℕ) (b : Broadcast) → HasNumber (plan_of m end moves) k b
    → WasAccepted m b.start b.bytes moves

-- the plan is spaced by m, if each restart comes before the sets of its slot, and if the broadcast on air ends no
-- earlier than it began
abbrev pub ThePlanIsSpaced : Type 0
ThePlanIsSpaced = (m end : ℕ) (moves : List Move) → 0 < m → RestartsComeFirst moves
    → IfSome (on_air m moves) (λ air. air.start ≤ end) → IsSpaced m (plan_of m end moves)

-- a number names at most one broadcast
abbrev pub ANumberNamesOne : Type 0
ANumberNamesOne = (plan : List Broadcast) (k : ℕ) (a b : Broadcast) → HasNumber plan k a → HasNumber plan k b → a ≡ b

-- a number is below the length of the plan
abbrev pub ANumberIsBelowTheLength : Type 0
ANumberIsBelowTheLength = (plan : List Broadcast) (k : ℕ) (b : Broadcast) → HasNumber plan k b → k < length plan

-- each number below the length of the plan names a broadcast
abbrev pub EachNumberNamesOne : Type 0
EachNumberNamesOne = (plan : List Broadcast) (k : ℕ) → k < length plan → (b : Broadcast) × HasNumber plan k b

-- of two spaced broadcasts, the one with the lower number ends before the other one starts
abbrev pub SpacedAreInOrder : Type 0
SpacedAreInOrder = (d : ℕ) (plan : List Broadcast) (k l : ℕ) (a b : Broadcast) → IsSpaced d plan → HasNumber plan k a
    → HasNumber plan l b → k < l → a.end < b.start

-- spaced broadcasts with another one between them are at least d slots apart
abbrev pub SpacedAreFarApart : Type 0
SpacedAreFarApart = (d : ℕ) (plan : List Broadcast) (k l : ℕ) (a b : Broadcast) → IsSpaced d plan → HasNumber plan k a
    → HasNumber plan l b → k + 2 ≤ l → a.end + d ≤ b.start

-- spaced broadcasts with one flag are at least d slots apart
abbrev pub SpacedOfOneFlagAreFarApart : Type 0
SpacedOfOneFlagAreFarApart = (d : ℕ) (plan : List Broadcast) (k l : ℕ) (a b : Broadcast) → IsSpaced d plan
    → HasNumber plan k a → HasNumber plan l b → k < l → a.flag ≡ b.flag → a.end + d ≤ b.start

-- a segment with flag f, address a and bytes x is one of the text or name on air
pub record IsSegmentOf (body : List ℕ → List ℕ) (f : Bool) (a : ℕ) (x : List ℕ) (air : OnAir) : Type 0 where
  pub flag : f ≡ air.flag
  pub within : a < segment_count (body air.bytes)
  pub bytes : x ≡ segment_of (body air.bytes) a

-- a text segment that is sent is one of the text on air
abbrev pub ATextSegmentIsOfTheTextOnAir : Type 0
ATextSegmentIsOfTheTextOnAir = (m : ℕ) (free : Bool) (entries : List Entry) (flag : Bool) (address : ℕ) (bytes : List ℕ)
    → sent_in m free entries ≡ Some (Text flag address bytes)
    → (air : OnAir) × (on_air m (text_moves entries) ≡ Some air) × IsSegmentOf text_body flag address bytes air

-- a name segment that is sent is one of the name on air
abbrev pub ANameSegmentIsOfTheNameOnAir : Type 0
ANameSegmentIsOfTheNameOnAir = (m : ℕ) (free : Bool) (entries : List Entry) (flag : Bool) (address : ℕ) (bytes : List ℕ)
    → sent_in m free entries ≡ Some (Name flag address bytes)
    → (air : OnAir) × (on_air m (name_moves entries) ≡ Some air) × IsSegmentOf name_body flag address bytes air

-- tags that are sent are the pair on air, and the text on air began at least m slots before
abbrev pub TagsAreOfTheTextOnAir : Type 0
TagsAreOfTheTextOnAir = (m : ℕ) (free : Bool) (entries : List Entry) (pair : PairFields)
    → sent_in m free entries ≡ Some (Tags pair)
    → (air : OnAir) × (on_air m (text_moves entries) ≡ Some air) × (pair_on_air m entries ≡ Some pair)
    × (air.start + m ≤ slot_of (text_moves entries))

-- the pair on air ends in the text on air
abbrev pub ThePairEndsInTheText : Type 0
ThePairEndsInTheText = (m : ℕ) (entries : List Entry) (pair : PairFields) → pair_on_air m entries ≡ Some pair
    → (air : OnAir) × (on_air m (text_moves entries) ≡ Some air) × BothEndIn (length air.bytes) pair

-- the turns with an even number are the text's
abbrev pub EvenTurnsAreTheTexts : Type 0
EvenTurnsAreTheTexts = (number : ℕ) → (number % 2 ≡ 0) ↔ (turn_in (number % 8) ≡ turn.Text)
