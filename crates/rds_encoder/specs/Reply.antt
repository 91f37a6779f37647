-- The reply to a set, by slot numbers alone. An encoder is silent in the m slots from a restart on, and an accepted
-- text or name holds the next one back for 2m slots (both this project's own rule). Here m is the spacing d: the dwell
-- plus the lateness. Lists have the newest first.
use Rattle.std.specs.Prelude.{◌+◌, ◌-◌, ◌*◌, [], ◌∷◌}
use Rattle.std.specs.Prelude.{ℕ, List, Option, Some, None, Result, Ok, Err, is_ok, nat_lt, if◌then◌else◌}
use Rattle.rds_encoder.specs.declared.reply.Refusal.{Refusal}
use Rattle.rds_encoder.specs.declared.reply.Refusal.TheVariants.{Silent, Held, NoText, OutOfText}
use Rattle.rds_encoder.specs.Entries.{Move, Begin, Set, End, slot_of, restart_before}

-- a set is accepted or refused
abbrev pub Reply : Type 0
Reply = Result (Unit {0}) Refusal

-- in slot `now`, after a restart in slot `start`: refused as silent for m slots, and then this reply
abbrev pub unless_silent : ℕ → ℕ → ℕ → Reply → Reply
unless_silent m now start reply = if nat_lt now (start + m) then Err (Silent (start + m - now)) else reply

-- refused as held for 2m slots after the last set accepted since the restart, which was in slot `last`
abbrev pub held_reply : ℕ → ℕ → Option ℕ → Reply
held_reply m now None = Ok tt
held_reply m now (Some last) = if nat_lt now (last + 2 * m) then Err (Held (last + 2 * m - now)) else Ok tt

-- the silence, and then the hold
abbrev pub reply_in : ℕ → ℕ → ℕ → Option ℕ → Reply
reply_in m now start last = unless_silent m now start (held_reply m now last)

-- the slot of the last set accepted since the last restart
abbrev pub last_accepted : ℕ → List Move → Option ℕ
last_accepted m [] = None
last_accepted m (Begin ∷ before) = None
last_accepted m (Set x ∷ before) =
    if is_ok (reply_in m (slot_of before) (restart_before before) (last_accepted m before))
    then Some (slot_of before)
    else last_accepted m before
last_accepted m (End free ∷ before) = last_accepted m before

-- the reply to a set after these moves
abbrev pub reply_to : ℕ → List Move → Reply
reply_to m before = reply_in m (slot_of before) (restart_before before) (last_accepted m before)

-- the reply to a text or a name: accepted, silent or held
abbrev pub IsSetReply : Reply → Type 0
IsSetReply (Ok done) = Unit {0}
IsSetReply (Err (Silent k)) = Unit {0}
IsSetReply (Err (Held k)) = Unit {0}
IsSetReply (Err NoText) = ⊥
IsSetReply (Err (OutOfText which)) = ⊥

-- the reply to tags: accepted, silent, no text, or out of the text
abbrev pub IsTagsReply : Reply → Type 0
IsTagsReply (Ok done) = Unit {0}
IsTagsReply (Err (Silent k)) = Unit {0}
IsTagsReply (Err (Held k)) = ⊥
IsTagsReply (Err NoText) = Unit {0}
IsTagsReply (Err (OutOfText which)) = Unit {0}

-- for how many more slots a reply refuses, as silent and as held; 0 if it does not
abbrev pub silent_for : Reply → ℕ
silent_for (Ok done) = 0
silent_for (Err (Silent k)) = k
silent_for (Err (Held k)) = 0
silent_for (Err NoText) = 0
silent_for (Err (OutOfText which)) = 0

abbrev pub held_for : Reply → ℕ
held_for (Ok done) = 0
held_for (Err (Silent k)) = 0
held_for (Err (Held k)) = k
held_for (Err NoText) = 0
held_for (Err (OutOfText which)) = 0
