-- The numbers of an encoder after a list of entries. Here m is the spacing d. Lists have the newest first.
use Rattle.std.specs.Prelude.{◌≡◌, ◌+◌, ◌-◌, ◌*◌, ◌%◌, ℕ, List, ◌∷◌, Option, Some, None, option_map}
use Rattle.rds_fields.specs.declared.head.Head.{Head}
use Rattle.rds_fields.specs.Stored.{is_set, pair_stored}
use Rattle.rds_encoder.specs.declared.encoder.Encoder.{Encoder}
use Rattle.rds_encoder.specs.declared.hold.Hold.{Hold}
use Rattle.rds_encoder.specs.Entries.{Entry, Move, name_moves, restart_before, slot_of, text_moves}
use Rattle.rds_encoder.specs.Numbers.{IsValidEncoder, head_in, name_in, text_in}
use Rattle.rds_encoder.specs.Plan.{OnAir, bytes_of, next_flag, on_air}
use Rattle.rds_encoder.specs.Reply.{last_accepted}
use Rattle.rds_encoder.specs.Sent.{next_address, turn_of}
use Rattle.rds_encoder.specs.State.{TextState}
use Rattle.rds_encoder.specs.Tags.{pair_on_air}

-- the number of slots left of the silence
abbrev pub silence_left : ℕ → List Move → ℕ
silence_left m moves = restart_before moves + m - slot_of moves

-- the number of slots left of a hold
abbrev pub hold_left : ℕ → ℕ → Option ℕ → ℕ
hold_left m now None = 0
hold_left m now (Some last) = last + 2 * m - now

-- the hold follows from these moves
pub record HoldsBack (m : ℕ) (hold : Hold) (moves : List Move) : Type 0 where
  pub left : hold.left ≡ hold_left m (slot_of moves) (last_accepted m moves)
  pub flag : is_set hold.next_flag ≡ next_flag m moves

-- the text on air, with the address of its next segment
abbrev pub with_next : ℕ → List Move → OnAir → TextState
with_next m moves air = record { bytes = air.bytes; next = next_address m moves air }

-- the encoder has valid numbers, this head and a spacing of m slots, and its numbers follow from these entries
pub record EncoderAt (station : Head) (m : ℕ) (e : Encoder) (entries : List Entry) : Type 0 where
  pub good : IsValidEncoder e
  pub head : head_in e ≡ station
  pub distance : e.distance ≡ m
  pub silence : e.silence ≡ silence_left m (text_moves entries)
  pub round : e.round ≡ turn_of m (text_moves entries) % 8
  pub text_hold : HoldsBack m e.text_hold (text_moves entries)
  pub name_hold : HoldsBack m e.name_hold (name_moves entries)
  pub text : text_in e.text ≡ option_map (with_next m (text_moves entries)) (on_air m (text_moves entries))
  pub name : name_in e.name ≡ option_map bytes_of (on_air m (name_moves entries))
  pub pair : pair_stored e.pair ≡ pair_on_air m entries

-- this holds of each head, spacing and list of entries that the encoder stands at
abbrev pub WhereEncoderStands : Encoder → (Head → ℕ → List Entry → Type 0) → Type 0
WhereEncoderStands e P = (station : Head) (m : ℕ) (entries : List Entry) → EncoderAt station m e entries
    → P station m entries

-- the encoder took the entry: it stands at its entries before with this one added
abbrev pub Takes : Encoder → Encoder → Entry → Type 0
Takes old new entry = WhereEncoderStands old (λ station m entries. EncoderAt station m new (entry ∷ entries))
