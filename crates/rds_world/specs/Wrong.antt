-- Wrong groups (this project's own rule). A receiver with a window may get a wrong message, but none that needs two
-- receipts twice within the window. A receiver without a window gets none. Lists have the newest first.
use Rattle.std.specs.Prelude.{◌≡◌, ◌↔◌, ◌<◌, ◌-◌, ℕ, true, Contains, List, [], ◌∷◌, Option, Some, None, slice_index_or}
use Rattle.std.specs.Prelude.{take}
use Rattle.rds_fields.specs.declared.message.Message.{Message}
use Rattle.rds_receiver.specs.Confirmed.{needs_two}
use Rattle.rds_world.specs.declared.event.Reception.{Reception}
use Rattle.rds_world.specs.declared.event.Reception.TheVariants.{Got, Lost, Wrong, Restart}
use Rattle.rds_world.specs.Event.{Event}
use Rattle.rds_safety.specs.Late.{HasEntry, Input}
use Rattle.rds_safety.specs.Confirmed.{NoWrongConfirmed, WasSent}
use Rattle.rds_world.specs.Slots.{input_of}

-- slot by slot the wrong message that a receiver got, since its last restart, after one more reception
abbrev pub with_wrong : Reception → List (Option Message) → List (Option Message)
with_wrong (Got back) before = None ∷ before
with_wrong Lost before = None ∷ before
with_wrong (Wrong message) before = Some message ∷ before
with_wrong Restart before = []

-- slot by slot the wrong message that receiver i got, since its last restart
abbrev pub wrong_of : ℕ → List Event → List (Option Message)
wrong_of i [] = []
wrong_of i (e ∷ before) = with_wrong (slice_index_or e.receptions i Lost) (wrong_of i before)

-- how many slots before this one are less than the window before it
abbrev pub slots_back : Option ℕ → ℕ
slots_back None = 0
slots_back (Some w) = w - 1

-- what a receiver gets keeps the premise, given the wrong messages before it: without a window it is not wrong; with a
-- window of w slots, no message that needs two receipts was wrong less than w slots before and is wrong again
abbrev pub IsFit : Option ℕ → List (Option Message) → Reception → Type 0
IsFit window wrong (Got back) = Unit {0}
IsFit window wrong Lost = Unit {0}
IsFit None wrong (Wrong message) = ⊥
IsFit (Some w) wrong (Wrong message) =
    needs_two message ≡ true → Contains (take (slots_back (Some w)) wrong) (Some message) → ⊥
IsFit window wrong Restart = Unit {0}

-- the reception of receiver i in this event keeps the premise
abbrev pub IsFitTo : Option ℕ → Event → List Event → ℕ → Type 0
IsFitTo window e before i = IsFit window (wrong_of i before) (slice_index_or e.receptions i Lost)

-- each reception in this event keeps the premise
abbrev pub IsFitToAll : Option ℕ → Event → List Event → Type 0
IsFitToAll window e before = (i : ℕ) → IsFitTo window e before i

-- each reception in these slots keeps the premise
abbrev pub AreFit : Option ℕ → List Event → Type 0
AreFit window [] = Unit {0}
AreFit window (e ∷ before) = IsFitToAll window e before × AreFit window before

-- receiver r is the first whose reception in this event breaks the premise, by this wrong message
pub record IsFirstWrong (window : Option ℕ) (e : Event) (before : List Event) (r : ℕ) : Type 0 where
  pub message : Message
  pub is : slice_index_or e.receptions r Lost ≡ Wrong message
  pub breaks : IsFitTo window e before r → ⊥
  pub first : (i : ℕ) → i < r → IsFitTo window e before i

-- each message of the input was sent
abbrev pub EachWasSent : Input → Type 0
EachWasSent input =
    (t : ℕ) (message : Message) → HasEntry input.first input.heard t (Some message) → WasSent input t

-- the premise about the wrong messages of an input: without a window there are none; with one, no segment and no pair
-- of tags is wrong twice within it
abbrev pub KeepsPremise : Option ℕ → Input → Type 0
KeepsPremise None input = EachWasSent input
KeepsPremise (Some w) input = NoWrongConfirmed w input

-- a reception is fit exactly if the input with it keeps the premise, if all receptions before were fit
abbrev pub TheFitKeepThePremise : Type 0
TheFitKeepThePremise =
    (window : Option ℕ) (d i : ℕ) (e : Event) (before : List Event) → AreFit window before
    → IsFitTo window e before i ↔ KeepsPremise window (input_of d i (e ∷ before))
