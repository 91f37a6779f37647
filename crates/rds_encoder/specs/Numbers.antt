-- What the numbers of an encoder mean, and which ones are valid (this project's own form).
use Rattle.std.specs.Prelude.{ℕ, ◌<◌, ◌≤◌, IsTrue, List, Option, Some, None, if◌then◌else◌, take}
use Rattle.rds_fields.specs.declared.head.Head.{Head}
use Rattle.rds_fields.specs.Stored.{IsStoredPair, is_set}
use Rattle.rds_assembly.specs.Value.{IsName, IsText}
use Rattle.rds_encoder.specs.State.{IsTextState, TextState}
use Rattle.rds_encoder.specs.declared.encoder.Encoder.{Encoder}
use Rattle.rds_encoder.specs.declared.on_air.NameOnAir.{NameOnAir}
use Rattle.rds_encoder.specs.declared.on_air.TextOnAir.{TextOnAir}

abbrev pub head_in : Encoder → Head
head_in e = record { pi = e.pi; tp = is_set e.tp; pty = e.pty }

abbrev pub state_in : TextOnAir → TextState
state_in t = record { bytes = take t.length t.bytes; next = t.next }

-- the text, if one is on air
abbrev pub text_in : TextOnAir → Option TextState
text_in t = if is_set t.is_on_air then Some (state_in t) else None

-- the name, if one is on air
abbrev pub name_in : NameOnAir → Option (List ℕ)
name_in n = if is_set n.is_on_air then Some n.bytes else None

-- the numbers are a text, and its next segment is one of its segments
pub record HoldsText (t : TextOnAir) : Type 0 where
  pub fits : t.length ≤ 64
  pub text : IsText (take t.length t.bytes)
  pub state : IsTextState (state_in t)

-- if a text is on air, its numbers are valid
abbrev pub IsValidText : TextOnAir → Type 0
IsValidText t = IsTrue (is_set t.is_on_air) → HoldsText t

-- if a name is on air, its bytes are valid
abbrev pub IsValidName : NameOnAir → Type 0
IsValidName n = IsTrue (is_set n.is_on_air) → IsName n.bytes

-- the numbers are valid
pub record IsValidEncoder (e : Encoder) : Type 0 where
  pub pty : e.pty < 32
  pub some : 0 < e.distance
  pub distance : e.distance ≤ 66813
  pub text : IsValidText e.text
  pub name : IsValidName e.name
  pub pair : IsStoredPair e.pair
