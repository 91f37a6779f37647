-- A receiver stored as plain numbers (this project's own form).
use Rattle.std.specs.Prelude.{◌≢◌, ◌+◌, ◌-◌, ◌<◌, ◌≤◌, ◌==◌, ℕ, if◌then◌else◌}
use Rattle.rds_fields.specs.Stored.{IsStoredPair, is_set, pair_stored}
use Rattle.rds_assembly.specs.Held.{held_cells}
use Rattle.rds_receiver.specs.State.{DisplayState, HeldSegments, ReceiverState}
use Rattle.rds_receiver.specs.declared.display.StoredDisplay.{StoredDisplay}
use Rattle.rds_receiver.specs.declared.display.StoredSegments.{StoredSegments}
use Rattle.rds_receiver.specs.declared.receiver.Receiver.{Receiver}

-- the age for a dwell of m, if the next look comes in this many slots
abbrev pub age_stored : ℕ → ℕ → StoredSegments → ℕ
age_stored m rest s = if s.mask == 0 then m else m - rest - s.later

abbrev pub segments_stored : ℕ → ℕ → StoredSegments → HeldSegments
segments_stored m rest s = record {
  cells = held_cells s.mask s.bytes;
  flag = is_set s.flag;
  age = age_stored m rest s;
}

abbrev pub display_stored : StoredDisplay → DisplayState
display_stored s = record {
  programme = s.pi;
  dwell = s.dwell;
  text = segments_stored s.dwell s.rest s.text;
  name = segments_stored s.dwell s.rest s.name;
  pair = pair_stored s.pair;
  is_known = is_set s.is_known;
}

abbrev pub receiver_stored : Receiver → ReceiverState
receiver_stored s = record {
  window = s.window;
  display = display_stored s.display;
  segments = s.segments;
  pair = pair_stored s.pair;
  pair_left = s.pair_left;
}

-- held segments are dropped within the dwell m
abbrev pub AreWithin : ℕ → ℕ → StoredSegments → Type 0
AreWithin m rest s = s.mask ≢ 0 → rest + s.later ≤ m

-- the numbers are valid: the next look comes within the dwell, no held segment is dropped later than after the dwell,
-- and a stored pair is valid
pub record IsStoredDisplay (s : StoredDisplay) : Type 0 where
  pub rests : 0 < s.rest
  pub soon : s.rest ≤ s.dwell
  pub text : AreWithin s.dwell s.rest s.text
  pub name : AreWithin s.dwell s.rest s.name
  pub pair : IsStoredPair s.pair

-- the numbers of the display and of the last pair are valid
pub record IsStoredReceiver (s : Receiver) : Type 0 where
  pub display : IsStoredDisplay s.display
  pub pair : IsStoredPair s.pair
