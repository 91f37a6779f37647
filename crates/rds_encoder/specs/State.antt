-- The text on air, and the address of its next segment.
use Rattle.std.specs.Prelude.{◌+◌, ◌%◌, ◌<◌, ℕ, List}
use Rattle.rds_assembly.specs.Body.{segment_count, text_body}

pub record TextState : Type 0 where
  pub bytes : List ℕ
  pub next : ℕ

-- the address is one of the text's segments
pub record IsTextState (t : TextState) : Type 0 where
  pub own : t.next < segment_count (text_body t.bytes)
  pub few : t.next < 16

-- the text moved to its next segment; after the last comes the first
abbrev pub advanced : TextState → TextState
advanced t = record { bytes = t.bytes; next = (t.next + 1) % segment_count (text_body t.bytes) }
