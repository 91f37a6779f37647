-- What follows from the kind of receivers (this project's own rule).
use Rattle.std.specs.Prelude.{ℕ, Bool, false, Option, None, Some, if◌then◌else◌}
use Rattle.rds_world.specs.declared.receiver_kind.ReceiverKind.{ReceiverKind}
use Rattle.rds_safety.specs.Late.{Input}
use Rattle.rds_safety.specs.Confirmed.{confirmed_input, lateness_of_two}

-- receivers with the dwell of the station. They show what they heard once
abbrev pub with_dwell : ReceiverKind
with_dwell = record { window = None; is_flag_alone = false }

-- the dwell of a receiver, if the station's is m slots; with the flag bit alone the longest dwell
abbrev pub dwell_of : Bool → ℕ → ℕ
dwell_of alone m = if alone then 65535 else m

-- the window of a receiver: it shows only what it heard twice within so many slots
abbrev pub own_window : ReceiverKind → Option ℕ
own_window kind = if kind.is_flag_alone then None else kind.window

-- how late a message may be that counts: K slots, and with a window W - 1 slots more
abbrev pub lateness_in : Option ℕ → ℕ → ℕ
lateness_in None k = k
lateness_in (Some w) k = lateness_of_two w k

-- what counts of an input, for a dwell of m: without a window all of it, with a window the confirmed part
abbrev pub counted_input : Option ℕ → ℕ → Input → Input
counted_input None m input = input
counted_input (Some w) m input = confirmed_input w m input
