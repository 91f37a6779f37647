-- How far a reader of lines was read. Lists of lines have the newest first. r is the traffic with the reader.
use Rattle.std.specs.Prelude.{◌≡◌, ◌⊎◌, ◌≤◌, ◌+◌, ◌-◌, ◌*◌, ◌++◌, ◌∷◌, [], ℕ, Bool, List, All, Err, Result, length}
use Rattle.std.specs.Prelude.{Option, if◌then◌else◌}
use Rattle.std.specs.Io.KnownBytes.{Consumes, IsAtEnd}
use Rattle.rds_io.specs.Told.{Traffic, count_after}
use Rattle.rds_lines.specs.LogLines.{AreLines, IsLine, Line, line_feed, text_of}
use Rattle.rds_lines.specs.Inside.Cutter.{IsBadLine}
use Rattle.rds_io.specs.declared.fault.LogFault.{LogFault}
use Rattle.rds_io.specs.declared.fault.LogFault.TheVariants.{TooLong}

-- the bytes continue with a line feed, or the reader is at its end
abbrev pub EndsLine : List ℕ → Option (List ℕ) → Type 0
EndsLine [] left = IsAtEnd left
EndsLine (b ∷ rest) left = b ≡ line_feed

-- the text begins with these lines: each ends with a line feed, or the last one ends with the text
abbrev pub BeginsWith : List ℕ → Option (List ℕ) → List Line → Type 0
BeginsWith text left lines =
    ((line : Line) × (rest : List ℕ) × (text ≡ text_of lines line ++ rest) × All IsLine lines × IsLine line)
    ⊎ (IsAtEnd left × AreLines text lines)

-- the line after these, number n, is malformed
pub record NextIsBad (n : ℕ) (lines : List Line) (text : List ℕ) (left : Option (List ℕ)) : Type 0 where
  pub line : Line
  pub rest : List ℕ
  pub cut : text ≡ text_of lines line ++ rest
  pub ends : EndsLine rest left
  pub bad : IsBadLine n lines line

-- these lines were read, and the first bytes of the next one, at least this many bytes in all
pub record ReadsUpTo (r : Traffic) (least : ℕ) (lines : List Line) : Type 0 where
  pub begun : Line
  pub read : Consumes r.before r.after (text_of lines begun)
  pub enough : least ≤ length (text_of lines begun)
  pub lines_are : All IsLine lines
  pub line_is : IsLine begun

-- an engine made at most this many reads, and exactly this many if it gave up
pub record MadeReads {X : Type 0} (most before after : ℕ) (result : Result X LogFault) : Type 0 where
  pub made : ℕ
  pub at_most : made ≤ most
  pub counted : after ≡ count_after before made
  pub gave_up : result ≡ Err TooLong → made ≡ most

-- the number of waiting bytes between two places, of those that the remaining reads may yet bring, and one for the end
abbrev pub to_come : ℕ → ℕ → ℕ → Bool → ℕ
to_come at count left ended = (count - at) + left * 65536 + (if ended then 0 else 1)
