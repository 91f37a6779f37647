-- Pairs of tags: the reply to a pair, and the pair on air (this project's own rule). A pair belongs to the text for
-- which it was accepted, and goes off air with it. Lists have the newest first.
use Rattle.std.specs.Prelude.{ℕ, List, [], ◌∷◌, Option, Some, None, Ok, Err, is_ok, length, if◌then◌else◌}
use Rattle.rds_fields.specs.declared.pair.Which.TheVariants.{One, Two}
use Rattle.rds_fields.specs.Tag.{PairFields, ends_in}
use Rattle.rds_encoder.specs.declared.reply.Refusal.TheVariants.{NoText, OutOfText}
use Rattle.rds_encoder.specs.Entries.{Entry, Restart, SetText, SetName, SetTags}
use Rattle.rds_encoder.specs.Entries.{Tick, restart_before, slot_of, text_moves}
use Rattle.rds_encoder.specs.Plan.{OnAir, on_air}
use Rattle.rds_encoder.specs.Reply.{Reply, reply_to, unless_silent}

-- the reply to a pair for the text on air
abbrev pub fitting_reply : PairFields → Option OnAir → Reply
fitting_reply pair None = Err NoText
fitting_reply pair (Some air) =
    if ends_in (length air.bytes) pair.one
    then (if ends_in (length air.bytes) pair.two then Ok tt else Err (OutOfText Two))
    else Err (OutOfText One)

-- the reply to a pair after these entries
abbrev pub tags_reply : ℕ → PairFields → List Entry → Reply
tags_reply m pair before =
    unless_silent m (slot_of (text_moves before)) (restart_before (text_moves before))
    (fitting_reply pair (on_air m (text_moves before)))

-- the pair on air: the last pair that was accepted for the text on air
abbrev pub pair_on_air : ℕ → List Entry → Option PairFields
pair_on_air m [] = None
pair_on_air m (Restart ∷ before) = None
pair_on_air m (SetText x ∷ before) = if is_ok (reply_to m (text_moves before)) then None else pair_on_air m before
pair_on_air m (SetName x ∷ before) = pair_on_air m before
pair_on_air m (SetTags pair ∷ before) = if is_ok (tags_reply m pair before) then Some pair else pair_on_air m before
pair_on_air m (Tick free ∷ before) = pair_on_air m before
