-- What the output of `decode` shows in each slot, read as lines. Lists have the newest first.
use Rattle.std.specs.Prelude.{◌≡◌, ◌⊎◌, ◌<◌, ◌≤◌, [], ℕ, Bool, List, Option, None, Some, Contains}
use Rattle.rds_lines.specs.LogLines.{AreLines, Line}
use Rattle.rds_log.specs.LogWrites.{LinesWrite}
use Rattle.rds_lines.specs.Reads.{BeginsWith}
use Rattle.rds_view_lines.specs.Output.{none_content}
use Rattle.rds_view_lines.specs.ViewParts.{Part, line_in}

-- `decode` for tags in groups nA, with this window or none, with reasons or without, printed this for some first lines
-- of a received log. A run with status 0 read all of its lines (specs/Program)
pub record Prints (n pi m : ℕ) (window : Option ℕ) (received printed : List ℕ) : Type 0 where
  pub lines : List Line
  pub begins : BeginsWith received (Some []) lines
  pub why : Bool
  pub write : LinesWrite record { pi = pi; rtplus = n; dwell = m; window = window; says_why = why; keep = 0 } lines
      printed

-- the newest line of the part up to slot t has this content
pub record IsNewest (printed : List ℕ) (t : ℕ) (part : Part) (content : List ℕ) : Type 0 where
  pub lines : List Line
  pub are : AreLines printed lines
  pub slot : ℕ
  pub past : slot ≤ t
  pub line : Contains lines (line_in slot part content)
  pub newest : (u : ℕ) (other : List ℕ) → slot < u → u ≤ t → Contains lines (line_in u part other) → ⊥

-- there is no line of the part up to slot t
pub record HasNoLine (printed : List ℕ) (t : ℕ) (part : Part) : Type 0 where
  pub lines : List Line
  pub are : AreLines printed lines
  pub none : (u : ℕ) (content : List ℕ) → u ≤ t → Contains lines (line_in u part content) → ⊥

-- in slot t the output shows this content of a part: that of its newest line, or nothing if it has no line yet
abbrev pub Shows : List ℕ → ℕ → Part → List ℕ → Type 0
Shows printed t part content =
    IsNewest printed t part content ⊎ (HasNoLine printed t part × (content ≡ none_content None))
