-- The state of an engine that writes the output of a log's lines while it reads them, at each end: how much of the
-- reader it read, and what it wrote. `Gives` says which output lines have. Lists of lines have the newest first. r is
-- the traffic with the reader, w the traffic with the writer.
use Rattle.std.specs.Prelude.{◌⊎◌, ℕ, List, Err, MatchResult, Ok, Option, Result}
use Rattle.std.specs.Io.KnownBytes.{Appends, Consumes, IsAtEnd}
use Rattle.rds_io.specs.Told.{AppendsPrefix, HasFailed, IsCalm, Traffic}
use Rattle.rds_io.specs.Waits.{IsLost, Waits}
use Rattle.rds_lines.specs.LogLines.{AreLines, Line}
use Rattle.rds_lines.specs.Reads.{BeginsWith, NextIsBad, ReadsUpTo}
use Rattle.rds_io.specs.declared.fault.LogFault.{LogFault}
use Rattle.rds_io.specs.declared.told.WriteFault.{WriteFault}
use Rattle.rds_io.specs.declared.fault.LogFault.TheVariants.{BadLine, BadRow, Read, Write, TooLong, Memory}

-- the output of these lines was written
pub record WroteLines (Gives : List Line → List ℕ → Type 0) (w : Traffic) (lines : List Line) : Type 0 where
  pub written : List ℕ
  pub write : Gives lines written
  pub wrote : Appends w.before w.after written
  pub calm : IsCalm w

-- the writer failed: some first part of the output of these lines was written
pub record WrotePart (Gives : List Line → List ℕ → Type 0) (w : Traffic) (lines : List Line) : Type 0 where
  pub written : List ℕ
  pub write : Gives lines written
  pub wrote : AppendsPrefix w.before w.after written
  pub failed : HasFailed w

-- this is the output after a call with this result: it waits or is written, or the writer failed at it
abbrev pub Pushed : Traffic → List ℕ → List ℕ → Result (Unit {0}) WriteFault → Type 0
Pushed w waiting total result = MatchResult result (λ _. Waits w waiting total) (λ _. IsLost w total)

-- `Took` says that these lines were taken with some output; a part of it was written, and the rest waits
pub record HasTaken (Took : List Line → List ℕ → Type 0) (w : Traffic) (waiting : List ℕ)
    (lines : List Line) : Type 0 where
  pub total : List ℕ
  pub took : Took lines total
  pub waits : Waits w waiting total

-- a line of the text is malformed, the lines before it are good, and their output was written
pub record StopsAtBadLine (Gives : List Line → List ℕ → Type 0) (n : ℕ) (text : List ℕ) (left : Option (List ℕ))
    (w : Traffic) : Type 0 where
  pub lines : List Line
  pub next : NextIsBad n lines text left
  pub wrote : WroteLines Gives w lines

-- the writer failed at the output of lines that the text begins with
pub record StopsAtWrite (Gives : List Line → List ℕ → Type 0) (text : List ℕ) (left : Option (List ℕ))
    (w : Traffic) : Type 0 where
  pub lines : List Line
  pub begins : BeginsWith text left lines
  pub wrote : WrotePart Gives w lines

-- the output of the complete lines was written, and the reader gave at least this many bytes
pub record StopsBetween (Gives : List Line → List ℕ → Type 0) (r w : Traffic) (least : ℕ) : Type 0 where
  pub closed : List Line
  pub reads : ReadsUpTo r least closed
  pub wrote : WroteLines Gives w closed

-- the engine stopped at a fault after at most this many reads: each fault has its cause. The output of the lines was
-- written; at a failed write, a part of an output that begins so
abbrev pub StopsBy : (List Line → List ℕ → Type 0) → (List Line → List ℕ → Type 0) → ℕ → Traffic → Traffic
    → LogFault → Type 0
StopsBy Gives Begins reads r w (BadLine n) =
    (text : List ℕ) × Consumes r.before r.after text × StopsAtBadLine Gives n text r.after w × IsCalm r
StopsBy Gives Begins reads r w Write =
    (text : List ℕ) × Consumes r.before r.after text × StopsAtWrite Begins text r.after w × IsCalm r
StopsBy Gives Begins reads r w Read = StopsBetween Gives r w 0 × HasFailed r
StopsBy Gives Begins reads r w TooLong = StopsBetween Gives r w reads × IsCalm r
StopsBy Gives Begins reads r w (BadRow n) = ⊥
StopsBy Gives Begins reads r w Memory = ⊥

-- the text that was read begins with these lines, they were taken, and their output was written
pub record RunsUpTo (Took : List Line → List ℕ → Type 0) (r w : Traffic) : Type 0 where
  pub text : List ℕ
  pub lines : List Line
  pub read : Consumes r.before r.after text
  pub begins : BeginsWith text r.after lines
  pub written : List ℕ
  pub took : Took lines written
  pub wrote : Appends w.before w.after written
  pub read_calm : IsCalm r
  pub write_calm : IsCalm w

-- the reader was read to its end, and these are all its lines
pub record RunsAll (Took : List Line → List ℕ → Type 0) (r w : Traffic) : Type 0 where
  pub run : RunsUpTo Took r w
  pub end : IsAtEnd r.after
  pub are : AreLines run.text run.lines

-- the result of a run over the lines of a log with at most this many reads: it ended with the log, or it was done
-- before
abbrev pub Runs : (List Line → List ℕ → Type 0) → (List Line → List ℕ → Type 0) → (List Line → List ℕ → Type 0)
    → Type 0 → ℕ → Traffic → Traffic → Result (Unit {0}) LogFault → Type 0
Runs Gives Begins Took Done reads r w (Ok ended) = (RunsAll Took r w × (Done → ⊥)) ⊎ (RunsUpTo Took r w × Done)
Runs Gives Begins Took Done reads r w (Err fault) = StopsBy Gives Begins reads r w fault
