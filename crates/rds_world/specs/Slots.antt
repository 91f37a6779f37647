-- What follows from a list of slots (this project's own rule): the encoder's entries, what was sent in each slot, the
-- plans, and the input of each receiver. Lists have the newest first, and the slot of an event is the number of events
-- before it. The encoder's spacing is d (State).
use Rattle.std.specs.Prelude.{ℕ, ◌+◌, ◌-◌, List, [], ◌∷◌, Option, Some, None, length, slice_index_or}
use Rattle.std.specs.List.{AllByRecursion}
use Rattle.rds_fields.specs.declared.message.Message.{Message}
use Rattle.rds_assembly.specs.Value.{IsName, IsText}
use Rattle.rds_encoder.specs.Entries.{Entry, Tick, name_moves, text_moves}
use Rattle.rds_encoder.specs.Entries as entry
use Rattle.rds_encoder.specs.Plan.{plan_of}
use Rattle.rds_encoder.specs.Sent.{sent_in}
use Rattle.rds_world.specs.declared.event.Command.{Command}
use Rattle.rds_world.specs.declared.event.Command.TheVariants.{Quiet, Restart, SetText, SetName, SetTags}
use Rattle.rds_world.specs.declared.event.Reception.{Reception}
use Rattle.rds_world.specs.declared.event.Reception.TheVariants.{Got, Lost, Wrong}
use Rattle.rds_world.specs.declared.event.Reception.TheVariants as reception
use Rattle.rds_world.specs.Event.{Event}
use Rattle.rds_safety.specs.Late.{Input}
use Rattle.rds_safety.specs.Plans.{Plans}

-- a text or name that the command sets is valid
abbrev pub SetsAValue : Command → Type 0
SetsAValue Quiet = Unit {0}
SetsAValue Restart = Unit {0}
SetsAValue (SetText x) = IsText x
SetsAValue (SetName x) = IsName x
SetsAValue (SetTags pair) = Unit {0}

abbrev pub SetValues : List Event → Type 0
SetValues events = AllByRecursion (λ (e : Event). SetsAValue e.command) events

-- the encoder's entries with this command, which comes first in its slot
abbrev pub commanded : Command → List Entry → List Entry
commanded Quiet before = before
commanded Restart before = entry.Restart ∷ before
commanded (SetText x) before = entry.SetText x ∷ before
commanded (SetName x) before = entry.SetName x ∷ before
commanded (SetTags pair) before = entry.SetTags pair ∷ before

-- the encoder's entries: in each slot its command, and then the end of the slot
abbrev pub entries : List Event → List Entry
entries [] = []
entries (e ∷ before) = Tick e.free ∷ commanded e.command (entries before)

-- the message sent in the slot of this event
abbrev pub sent_at : ℕ → Event → List Event → Option Message
sent_at d e before = sent_in d e.free (commanded e.command (entries before))

-- the log: the message sent in each slot
abbrev pub log : ℕ → List Event → List (Option Message)
log d [] = []
log d (e ∷ before) = sent_at d e before ∷ log d before

-- the plans of texts and of names; a broadcast that is still on air ends in the last slot
abbrev pub plans_of : ℕ → List Event → Plans
plans_of d events = record {
  text = plan_of d (length events - 1) (text_moves (entries events));
  name = plan_of d (length events - 1) (name_moves (entries events));
}

-- the message sent so many slots before the last one of a log; none if nothing was sent, or if that is before slot 0
abbrev pub sent_back : ℕ → List (Option Message) → Option Message
sent_back back sent = slice_index_or sent back None

-- the input of a receiver after one more slot, with the log up to this slot: it gets the message sent so many slots
-- before, or nothing, or a wrong message, which has no origin; after a restart it is empty and begins in the next slot
abbrev pub received : Reception → ℕ → List (Option Message) → Input → Input
received (Got back) slot sent before =
    record {
      first = before.first;
      heard = sent_back back sent ∷ before.heard;
      origins = Some (slot - back) ∷ before.origins;
    }
received Lost slot sent before =
    record { first = before.first; heard = None ∷ before.heard; origins = None ∷ before.origins }
received (Wrong message) slot sent before =
    record { first = before.first; heard = Some message ∷ before.heard; origins = None ∷ before.origins }
received reception.Restart slot sent before = record { first = slot + 1; heard = []; origins = [] }

-- the input of receiver i since its last restart
abbrev pub input_of : ℕ → ℕ → List Event → Input
input_of d i [] = record { first = 0; heard = []; origins = [] }
input_of d i (e ∷ before) =
    received (slice_index_or e.receptions i Lost) (length before) (log d (e ∷ before)) (input_of d i before)
