-- The state of the cutter of a log after complete lines and the first bytes of the next one. Lists of lines have the
-- newest first.
use Rattle.std.specs.Prelude.{◌≡◌, ◌+◌, ◌∷◌, [], ℕ, List, All, take, length}
use Rattle.rds_lines.specs.LogLines.{IsLine, Line}
use Rattle.rds_lines.specs.LineSays.{IsBad, LineSays, deciding}
use Rattle.rds_lines.specs.declared.cutter.Cutter.{Cutter}
use Rattle.rds_lines.specs.declared.log_line.LogLine.{LogLine}

-- the cutter took the complete lines and the bytes of the incomplete one
pub record CutterStandsAt (c : Cutter) (closed : List Line) (begun : Line) : Type 0 where
  pub kept : c.kept.items ≡ take deciding begun
  pub count : c.lines ≡ length closed
  pub lines : All IsLine closed
  pub line : IsLine begun

-- for each state of the cutter: this holds of its lines
abbrev pub WhereItCuts : Cutter → (List Line → Line → Type 0) → Type 0
WhereItCuts c Holds = (closed : List Line) (begun : Line) → CutterStandsAt c closed begun → Holds closed begun

-- the line is complete, and has this meaning
pub record Closes (c : Cutter) (closed : List Line) (line : Line) (said : LogLine) : Type 0 where
  pub says : LineSays line said
  pub stands : CutterStandsAt c (line ∷ closed) []

-- the line after the complete ones, which is number n, is malformed
pub record IsBadLine (n : ℕ) (closed : List Line) (line : Line) : Type 0 where
  pub lines : All IsLine closed
  pub is_line : IsLine line
  pub number : n ≡ length closed + 1
  pub bad : IsBad line
