-- The state of a receiver at the end of an input. Lists have the newest first.
use Rattle.std.specs.Prelude.{◌≡◌, ℕ, List, ◌∷◌, Option}
use Rattle.rds_block.specs.declared.group.Group.{Group}
use Rattle.rds_fields.specs.declared.message.Message.{Message}
use Rattle.rds_receiver.specs.Receipts.{Tuning, heard_of}
use Rattle.rds_receiver.specs.Confirming.{HoldsBy}
use Rattle.rds_receiver.specs.Holds.{newest_slot}
use Rattle.rds_receiver.specs.Kept.{GoesOnBy}
use Rattle.rds_receiver.specs.Shown.{IsView, ShownView}
use Rattle.rds_receiver.specs.Stored.{IsStoredReceiver, receiver_stored}
use Rattle.rds_receiver.specs.Confirmed.{counted}
use Rattle.rds_receiver.specs.declared.receiver.Receiver.{Receiver}

-- the receiver has valid numbers and this tuning, and its state follows from what it heard of the input
pub record ReceiverAt (t : Tuning) (r : Receiver) (input : List (Option Group)) : Type 0 where
  pub good : IsStoredReceiver r
  pub tuned : r.display.pi ≡ t.programme
  pub holds : HoldsBy t.window t.dwell (newest_slot t.first (heard_of t.programme input)) t.first (receiver_stored r)
      (heard_of t.programme input)

-- this holds of each tuning and input that the receiver stands at
abbrev pub WhereReceiverStands : Receiver → (Tuning → List (Option Group) → Type 0) → Type 0
WhereReceiverStands r Holds = (t : Tuning) (input : List (Option Group)) → ReceiverAt t r input → Holds t input

-- the receiver took one more slot with this group, or with none: wherever it stood, it stands with that slot now
abbrev pub TakesSlot : Receiver → Receiver → Option Group → Type 0
TakesSlot r after group = WhereReceiverStands r (λ t input. ReceiverAt t after (group ∷ input))

-- one more slot with this group, or with none, changes no view: wherever the receiver stands, each view stays the view
abbrev pub KeepsView : Receiver → Option Group → Type 0
KeepsView r group =
    (view : ShownView) → WhereReceiverStands r (λ t input. IsView t input view → IsView t (group ∷ input) view)

-- one more slot with this group, or with none, changes nothing that is shown: wherever the receiver stands, the end of
-- the slot before goes on
abbrev pub KeepsShowing : Receiver → Option Group → Type 0
KeepsShowing r group =
    WhereReceiverStands r (λ t input. GoesOnBy t (heard_of t.programme input) (heard_of t.programme (group ∷ input)))

-- this holds of the dwell, the first slot and what counts of what was heard, for each tuning and input that the
-- receiver stands at
abbrev pub WhatItHeard : Receiver → (ℕ → ℕ → List (Option Message) → Type 0) → Type 0
WhatItHeard r Holds =
    WhereReceiverStands r (λ t input. Holds t.dwell t.first (counted t (heard_of t.programme input)))
