-- The state of a source of lines after the lines that it returned, and what it returns next. Lists of lines have the
-- newest first. A source makes at most `most` reads. Its reader was in the state `start` before the first of them.
use Rattle.std.specs.Prelude.{◌≡◌, ◌≤◌, ◌+◌, ◌-◌, ◌++◌, ◌∷◌, ℕ, Bool, List, MatchBool, MatchOption, None, Ok, Err}
use Rattle.std.specs.Prelude.{Option, Result, Some, drop, false, if◌then◌else◌, length, nat_lt, take, true}
use Rattle.std.specs.Io.KnownBytes.{Consumes, IsAtEnd}
use Rattle.rds_io.specs.Told.{HasFailed, IsCalm, Traffic, count_after}
use Rattle.rds_lines.specs.LogLines.{AreLines, EndsAt, IsLine, Line, text_of}
use Rattle.rds_lines.specs.LineSays.{LineSays, deciding}
use Rattle.rds_lines.specs.Inside.Cutter.{CutterStandsAt}
use Rattle.rds_lines.specs.Reads.{NextIsBad, ReadsUpTo, to_come}
use Rattle.rds_io.specs.declared.fault.LogFault.{LogFault}
use Rattle.rds_io.specs.declared.fault.LogFault.TheVariants.{BadLine, BadRow, Read, Write, TooLong, Memory}
use Rattle.rds_lines.specs.declared.log_line.LogLine.{LogLine}
use Rattle.rds_lines.specs.declared.source.Source.{Source}

-- the state of a reader: its remaining bytes, and its counts of failures and of reads
pub record ReaderState : Type 0 where
  pub left : Option (List ℕ)
  pub failures : ℕ
  pub reads : ℕ

abbrev pub state_of : {R : Type 0} → (R → Option (List ℕ)) → (R → ℕ) → (R → ℕ) → R → ReaderState
state_of remaining failures reads reader =
    record { left = remaining reader; failures = failures reader; reads = reads reader }

-- the traffic of the reader between two states
abbrev pub since : ReaderState → ReaderState → Traffic
since start now = record {
  before = start.left;
  after = now.left;
  failures_before = start.failures;
  failures_after = now.failures;
}

-- the bytes of the chunk that are not part of a complete line
abbrev pub waiting : Source → List ℕ
waiting s = take (s.count - s.at) (drop s.at s.chunk)

-- the number of bytes that wait or may yet come, and one for the end
abbrev pub budget : Source → ℕ
budget s = to_come s.at s.count s.left s.ended

-- the text has these lines, the bytes of the next one that the cutter took, and the waiting bytes; the source knows
-- where that line ends in these
pub record HasLine (s : Source) (lines : List Line) (text : List ℕ) : Type 0 where
  pub begun : Line
  pub cut : text ≡ text_of lines begun ++ waiting s
  pub cutter : CutterStandsAt s.cutter lines begun
  pub line : MatchOption s.line (IsLine (waiting s)) (EndsAt (waiting s))

-- some of the allowed reads were made, and none failed
pub record HasMade (s : Source) (most : ℕ) (start now : ReaderState) : Type 0 where
  pub made : ℕ
  pub leaves : made + s.left ≡ most
  pub counted : now.reads ≡ count_after start.reads made
  pub calm : now.failures ≡ start.failures

-- the reader is not at its end: each read gave at least one byte
pub record IsInside (s : Source) (most : ℕ) (start now : ReaderState) (lines : List Line) : Type 0 where
  pub text : List ℕ
  pub read : Consumes start.left now.left text
  pub enough : most ≤ length text + s.left
  pub holds : HasLine s lines text

-- the reader was read to its end, and these are its lines
pub record IsThrough (start now : ReaderState) (lines : List Line) : Type 0 where
  pub text : List ℕ
  pub read : Consumes start.left now.left text
  pub end : IsAtEnd now.left
  pub are : AreLines text lines

-- the source returned these lines
pub record SourceStandsAt (s : Source) (most : ℕ) (start now : ReaderState) (lines : List Line) : Type 0 where
  pub reads : HasMade s most start now
  pub where_it_is :
      MatchBool s.ended (IsThrough start now lines × (s.line ≡ None)) (IsInside s most start now lines)

-- the reader is at its end, and the last line may be incomplete
pub record IsAtLast (s : Source) (most : ℕ) (start now : ReaderState) (lines : List Line) : Type 0 where
  pub reads : HasMade s most start now
  pub begun : Line
  pub read : Consumes start.left now.left (text_of lines begun)
  pub end : IsAtEnd now.left
  pub cutter : CutterStandsAt s.cutter lines begun

-- the reason why there is no further line, with the first bytes of a malformed one
abbrev pub HasNoNext : ℕ → ReaderState → ReaderState → List Line → List ℕ → LogFault → Type 0
HasNoNext most start now lines first (BadLine n) =
    (text : List ℕ) × Consumes start.left now.left text
    × ((next : NextIsBad n lines text now.left) × (first ≡ take deciding next.line)) × IsCalm (since start now)
HasNoNext most start now lines first Read = ReadsUpTo (since start now) 0 lines × HasFailed (since start now)
HasNoNext most start now lines first TooLong = ReadsUpTo (since start now) most lines × IsCalm (since start now)
HasNoNext most start now lines first (BadRow n) = ⊥
HasNoNext most start now lines first Write = ⊥
HasNoNext most start now lines first Memory = ⊥

-- the first bytes of the newest line: of the bytes before its line feed if all of it is in the chunk, and else a copy
abbrev pub start_of : Source → List ℕ
start_of s =
    if nat_lt s.start.place s.at then take deciding (take (s.at - 1 - s.start.place) (drop s.start.place s.chunk))
    else s.start.copy.items

-- the meaning of the line after these, and its first bytes; there is none if the log ends with them
abbrev pub GivesNext : Source → ℕ → ReaderState → ReaderState → List Line → Option LogLine → Type 0
GivesNext s most start now lines None = SourceStandsAt s most start now lines × IsThrough start now lines
GivesNext s most start now lines (Some said) =
    (line : Line) × LineSays line said × SourceStandsAt s most start now (line ∷ lines)
    × (start_of s ≡ take deciding line)

-- the first bytes of the next line, if these bytes end it
abbrev pub start_with : Source → Line → List ℕ
start_with s last = take deciding (s.cutter.kept.items ++ last)

-- the returned line, if there is one
abbrev pub given_if : Bool → LogLine → Option LogLine
given_if true said = Some said
given_if false said = None

-- a chunk was read, or the reader is at its end
abbrev pub ReadsOn : Source → ℕ → ReaderState → ReaderState → List Line → Result Bool LogFault → Type 0
ReadsOn s most start now lines (Ok true) = SourceStandsAt s most start now lines
ReadsOn s most start now lines (Ok false) = IsAtLast s most start now lines
ReadsOn s most start now lines (Err fault) = HasNoNext most start now lines s.cutter.kept.items fault

abbrev pub IsBadLineFault : LogFault → Type 0
IsBadLineFault fault = (n : ℕ) × (fault ≡ BadLine n)

-- for each state of the source and its reader: this holds of the returned lines
abbrev pub WhereItReads : Source → ReaderState → (ℕ → ReaderState → List Line → Type 0) → Type 0
WhereItReads s now Holds = (most : ℕ) (start : ReaderState) (lines : List Line)
    → SourceStandsAt s most start now lines → Holds most start lines
