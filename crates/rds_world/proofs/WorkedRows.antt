-- Worked examples of due receptions, of wrong groups, of inputs, of what may come first after a restart and of the sets
-- of a slot, calculated by hand. Lists have the newest first.
use Rattle.std.proofs.Common.{◌≡◌, ◌<◌, ℕ, List, [], ◌∷◌, Option, Some, None, true, false, refl, inl, inr, arith}
use Rattle.rds_encoder.specs.Entries.{Move, Begin, Set, End}
use Rattle.rds_encoder.specs.Plan.{plan_of}
use Rattle.rds_encoder.specs.Spaced.{RestartsComeFirst}
use Rattle.rds_fields.specs.declared.message.Message.{Message}
use Rattle.rds_fields.specs.declared.message.Message.TheVariants.{Text}
use Rattle.rds_safety.specs.Late.{Input}
use Rattle.rds_world.specs.declared.event.Command.TheVariants.{Quiet}
use Rattle.rds_world.specs.declared.event.Reception.TheVariants.{Got, Wrong, Restart}
use Rattle.rds_world.specs.Due.{IsDueBack}
use Rattle.rds_world.specs.FlagStation.{IsSafeAfter}
use Rattle.rds_world.specs.Slots.{received}
use Rattle.rds_world.specs.Wrong.{IsFit, wrong_of}
use Rattle.std.specs.List.{AllZip}
use Rattle.std.proofs.Common.{length}
use Rattle.rds_receiver.specs.Shown.{ShownView}
use Rattle.rds_receiver.specs.declared.receiver.Receiver.{Receiver}
use Rattle.rds_safety.specs.Safe.{AreSafeViews}
use Rattle.rds_world.specs.Event.{Event}
use Rattle.rds_world.specs.SafeSlots.{OnlyWhatWasOnAirIsShown, listeners}
use Rattle.rds_world.specs.Slots.{log, plans_of}
use Rattle.rds_world.specs.State.{distance}
use Rattle.rds_world.specs.WorldAt.{ReceiverShows}
use Rattle.rds_world.specs.declared.world.Config.{Config}

-- zero slots late, a receiver hears what is sent in the slot, and its origin is the slot
received_now : (slot : ℕ) (newest : Option Message) (before : List (Option Message)) (input : Input)
    → received (Got 0) slot (newest ∷ before) input
    ≡ record { first = input.first; heard = newest ∷ input.heard; origins = Some slot ∷ input.origins }
received_now slot newest before input = grind arith

-- with K = 0, the slot itself is due if the last `Got` gave an earlier one
due_now : (slot s : ℕ) → s < slot → IsDueBack 0 slot (Some s) 0
due_now slot s earlier = record { soon = omega arith; there = omega arith; after = omega (arith, earlier) }

-- with K = 2: after slot 4 came, in slot 6 slot 5 is due and slot 4 is not
next_due : IsDueBack 2 6 (Some 4) 1
next_due = record { soon = omega arith; there = omega arith; after = omega arith }

not_again : IsDueBack 2 6 (Some 4) 2 → ⊥
not_again due = (let after = due.after in omega (arith, after))

-- nothing is due from before slot 0, or from more than two slots before
not_before_first : IsDueBack 2 1 None 2 → ⊥
not_before_first due = (let there = due.there in omega (arith, there))

not_so_late : IsDueBack 2 6 None 3 → ⊥
not_so_late due = (let soon = due.soon in omega (arith, soon))

-- with a window of three slots, a segment that was wrong two slots before is not fit
abbrev wrong_segment : Message
wrong_segment = Text false 0 (0x48 ∷ 0x4F ∷ 0x0D ∷ 0x20 ∷ [])

after_two : IsFit (Some 3) (None ∷ Some wrong_segment ∷ []) (Wrong wrong_segment) → ⊥
after_two fit = fit refl (1, omega arith, refl)

-- one that was wrong three slots before is fit, and so is one that was wrong before a restart
after_three : IsFit (Some 3) (None ∷ None ∷ Some wrong_segment ∷ []) (Wrong wrong_segment)
after_three two below = grind arith

after_restart : wrong_of 0 (record { command = Quiet; free = true; receptions = Restart ∷ [] }
    ∷ record { command = Quiet; free = true; receptions = Wrong wrong_segment ∷ [] } ∷ []) ≡ []
after_restart = refl

-- with d = 1: a text in slot 1, and another one in slot 3, one slot before a restart
abbrev one_slot_of_two : List Move
one_slot_of_two = Begin ∷ End true ∷ Set (0x42 ∷ []) ∷ End true ∷ End true ∷ Set (0x41 ∷ []) ∷ End true ∷ []

-- the first of them has flag 0, so it is safe after the restart, and so is the empty text
again_is_safe : IsSafeAfter 1 (plan_of 1 4 one_slot_of_two) (0x41 ∷ [])
again_is_safe = inl (inl refl)

empty_is_safe : IsSafeAfter 1 (plan_of 1 4 one_slot_of_two) []
empty_is_safe = inl (inr refl)

-- the second one is not: a receiver that missed it still holds the first one
last_is_not_safe : IsSafeAfter 1 (plan_of 1 4 one_slot_of_two) (0x42 ∷ []) → ⊥
last_is_not_safe same = grind arith

-- if it lasted for two slots, each text is safe
after_two_slots : IsSafeAfter 1 (plan_of 1 5 (Begin ∷ End true ∷ End true ∷ Set (0x42 ∷ []) ∷ End true ∷ End true
    ∷ Set (0x41 ∷ []) ∷ End true ∷ [])) (0x43 ∷ [])
after_two_slots = inr (refl, omega arith)

-- a slot may have a restart and then two sets, and no restart after a set
two_sets_after_a_restart : RestartsComeFirst (End true ∷ Set (0x42 ∷ []) ∷ Set (0x41 ∷ []) ∷ Begin ∷ End true
    ∷ Set (0x41 ∷ []) ∷ [])
two_sets_after_a_restart = (tt, tt)

no_restart_after_a_set : RestartsComeFirst (End true ∷ Begin ∷ Set (0x41 ∷ []) ∷ End true ∷ []) → ⊥
no_restart_after_a_set first = first.0

-- ---- what the headline of a world says

-- of the views that its receivers show it says that they are safe, in full
world_says : (config : Config) (newest : Event) (before : List Event) (receivers : List Receiver) (views : List ShownView)
    → OnlyWhatWasOnAirIsShown config (newest ∷ before) receivers → config.kind.is_flag_alone ≡ false
    → AllZip ReceiverShows receivers views
    → AreSafeViews (distance config) config.dwell (length before) (plans_of (distance config) (newest ∷ before))
    (log (distance config) (newest ∷ before)) (listeners config (newest ∷ before) 0 views)
world_says config newest before receivers views says kind shows = says kind views shows
