-- Inputs with wrong groups (this project's own rule). In each slot a receiver gets one of three: nothing; an entry of
-- the log that was sent at most k slots before, in the order of sending; or a wrong message. A wrong message has no
-- origin, and may be any message. The premise is that no segment and no pair of tags is wrong twice within w slots.
-- Lists have the newest first.
use Rattle.std.specs.Prelude.{◌≡◌, ◌⊎◌, ◌+◌, ◌-◌, ◌<◌, ◌≤◌, ◌==◌, [], ◌∷◌}
use Rattle.std.specs.Prelude.{ℕ, true, List, Option, Some, None, length, if◌then◌else◌}
use Rattle.rds_fields.specs.declared.message.Message.{Message}
use Rattle.rds_receiver.specs.Shown.{ShowsView}
use Rattle.rds_receiver.specs.Confirmed.{confirmed, needs_two, receipt_before}
use Rattle.rds_safety.specs.Late.{CameFrom, HasEntry, Input, SentIn}
use Rattle.rds_safety.specs.OwnClock.{next_slot}
use Rattle.rds_safety.specs.Safe.{Listener}

-- each entry with an origin is that of the log in its origin, at most k slots late and in order; an entry without an
-- origin may be wrong
pub record IsHeardWithWrong (k : ℕ) (log : List (Option Message)) (input : Input) : Type 0 where
  pub beside : length input.origins ≡ length input.heard
  pub each : (t s : ℕ) (entry : Option Message) → CameFrom input t s → HasEntry input.first input.heard t entry
      → SentIn log s entry
  pub rising : (t u r s : ℕ) → CameFrom input t r → CameFrom input u s → t < u → r < s
  pub past : (t s : ℕ) → CameFrom input t s → s ≤ t
  pub late : (t s : ℕ) → CameFrom input t s → t ≤ s + k

-- the entry of slot t is not wrong: it has an origin
pub record WasSent (input : Input) (t : ℕ) : Type 0 where
  pub slot : ℕ
  pub from : CameFrom input t slot

-- if one segment or one pair of tags came twice, less than w slots apart, at least one of the two is not wrong
abbrev pub NoWrongConfirmed : ℕ → Input → Type 0
NoWrongConfirmed w input =
    (t u : ℕ) (message : Message) → needs_two message ≡ true → t < u → u < t + w
    → HasEntry input.first input.heard t (Some message) → HasEntry input.first input.heard u (Some message)
    → WasSent input t ⊎ WasSent input u

-- the origin of slot u, if it has one
abbrev pub origin_in : ℕ → List (Option ℕ) → ℕ → Option ℕ
origin_in first [] u = None
origin_in first (newest ∷ before) u = if u == first + length before then newest else origin_in first before u

-- the origin of a confirmed entry: its own; without one, that of the entry that confirms it
abbrev pub origin_of_two : ℕ → List (Option ℕ) → Option ℕ → Option ℕ → Option ℕ
origin_of_two first before own None = None
origin_of_two first before (Some s) (Some u) = Some s
origin_of_two first before None (Some u) = origin_in first before u

abbrev pub origins_of_two : ℕ → ℕ → ℕ → List (Option Message) → List (Option ℕ) → List (Option ℕ)
origins_of_two w m first [] origins = []
origins_of_two w m first (heard ∷ before) [] = []
origins_of_two w m first (heard ∷ before) (own ∷ origins) =
    origin_of_two first origins own (receipt_before w m first before (confirmed w m first before) heard)
    ∷ origins_of_two w m first before origins

-- the input of the confirmed messages, for a window of w slots and a dwell of m
abbrev pub confirmed_input : ℕ → ℕ → Input → Input
confirmed_input w m input = record {
  first = input.first;
  heard = confirmed w m input.first input.heard;
  origins = origins_of_two w m input.first input.heard input.origins;
}

-- how late a confirmed message may be: k slots, and the window less one
abbrev pub lateness_of_two : ℕ → ℕ → ℕ
lateness_of_two w k = k + (w - 1)

-- up to slot t the receiver of dwell m heard the log at most k slots late and with wrong messages, none of them twice
-- within w slots; it shows the view of the confirmed messages
pub record ListensConfirmed (w k m t : ℕ) (log : List (Option Message)) (r : Listener) : Type 0 where
  pub raw : Input
  pub heard : IsHeardWithWrong k log raw
  pub once : NoWrongConfirmed w raw
  pub now : next_slot raw ≡ t + 1
  pub confirmed : r.input ≡ confirmed_input w m raw
  pub shows : ShowsView m r.input.first r.input.heard r.view
