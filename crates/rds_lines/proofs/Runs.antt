-- How a run over the lines of a log goes on and ends: what the source gives, and what was written of it.
use Rattle.std.proofs.Common.{arith, ◌≡◌, ◌≢◌, ◌++◌, ◌∙◌, ◌∷◌, ℕ, List, [], Option, None, inr, ap, reverse, Some}
use Rattle.std.specs.Io.KnownBytes.{Consumes, IsAtEnd}
use Rattle.rds_io.specs.Told.{Traffic}
use Rattle.rds_io.specs.Waits.{IsLost, Waits}
use Rattle.rds_io.proofs.Waiting.{wrote_all}
use Rattle.rds_lines.specs.LogLines.{Line}
use Rattle.rds_lines.specs.Reads.{BeginsWith}
use Rattle.rds_lines.specs.Inside.Source.{GivesNext, HasNoNext, IsBadLineFault, ReaderState, SourceStandsAt, since}
use Rattle.rds_lines.specs.Outputs.{HasTaken, RunsAll, RunsUpTo, StopsBy, WroteLines, WrotePart}
use Rattle.rds_io.specs.declared.fault.LogFault.{LogFault}
use Rattle.rds_io.specs.declared.fault.LogFault.TheVariants.{Write}
use Rattle.rds_lines.specs.declared.source.Source.{Source}
use Rattle.std.proofs.lemmas.List.{reverse-append, append-nil}
use Rattle.rds_block.specs.declared.group.Group.{Group}
use Rattle.rds_fields.specs.TagGroup.{exchanged_in}
use Rattle.rds_lines.specs.LineSays.{LineSays}
use Rattle.rds_lines.specs.LogSlots.{AreSlots}
use Rattle.rds_lines.specs.declared.log_line.LogLine.{LogLine}
use Rattle.rds_lines.specs.declared.log_line.LogLine.TheVariants.{Slot}

-- nothing waits: all output was written
pub wrote_lines : (Gives Took : List Line → List ℕ → Type 0) (w : Traffic) (waiting : List ℕ) (lines : List Line)
    → ((total : List ℕ) → Took lines total → Gives lines total)
    → HasTaken Took w waiting lines → waiting ≡ [] → WroteLines Gives w lines
wrote_lines Gives Took w waiting lines meant has none = grind (arith, wrote_all)

-- the writer failed at output that waited
pub wrote_part : (Begins Took : List Line → List ℕ → Type 0) (lines : List Line) (w v : Traffic)
    (waiting total : List ℕ)
    → ((total : List ℕ) → Took lines total → total ≢ [] → Begins lines total)
    → Took lines total → Waits w waiting total → waiting ≢ [] → IsLost v total → WrotePart Begins v lines
wrote_part Begins Took lines w v waiting total begun took waits some lost = record {
  written = total;
  write = begun total took (λ none. some (no_waiting waits.written waiting (waits.all ∙ none)));
  wrote = lost.wrote;
  failed = lost.failed;
}
  where
    no_waiting : (written waiting : List ℕ) → written ++ waiting ≡ [] → waiting ≡ []
    no_waiting [] waiting e = e
    no_waiting (b ∷ written) waiting e = absurd (cc)

-- the text that was read begins with the lines that the source gave
pub begins_with : (s : Source) (most : ℕ) (start now : ReaderState) (lines : List Line)
    → SourceStandsAt s most start now lines
    → (text : List ℕ) × Consumes start.left now.left text × BeginsWith text now.left lines
begins_with s most start now lines stands = grind arith

-- the taker was done, and nothing waits
pub runs_up_to : (Took : List Line → List ℕ → Type 0) (s : Source) (reads : ℕ) (start now : ReaderState) (w : Traffic)
    (waiting : List ℕ) (lines : List Line) → SourceStandsAt s reads start now lines
    → HasTaken Took w waiting lines → waiting ≡ [] → RunsUpTo Took (since start now) w
runs_up_to Took s reads start now w waiting lines stands has none = grind (arith, begins_with, wrote_all)

-- the log ended, and nothing waits
pub runs_all : (Took : List Line → List ℕ → Type 0) (s : Source) (reads : ℕ) (start now : ReaderState) (w : Traffic)
    (waiting : List ℕ) (lines : List Line) → GivesNext s reads start now lines None
    → HasTaken Took w waiting lines → waiting ≡ [] → RunsAll Took (since start now) w
runs_all Took s reads start now w waiting lines (stands, through) has none = record {
  run = record {
    text = through.text;
    lines = lines;
    read = through.read;
    begins = inr (through.end, through.are);
    written = has.total;
    took = has.took;
    wrote = wrote_all w waiting has.total has.waits none;
    read_calm = stands.reads.calm;
    write_calm = has.waits.calm;
  };
  end = through.end;
  are = through.are;
}

-- the source had no further line, and the output was written
pub ends_by_fault : (Gives Begins : List Line → List ℕ → Type 0) (reads : ℕ) (start now : ReaderState) (w : Traffic)
    (lines : List Line) (first : List ℕ) (fault : LogFault) → HasNoNext reads start now lines first fault
    → WroteLines Gives w lines → StopsBy Gives Begins reads (since start now) w fault
ends_by_fault Gives Begins reads start now w lines first fault gives wrote = grind arith

-- the writer failed after a line
pub ends_by_write : (Gives Begins : List Line → List ℕ → Type 0) (s : Source) (reads : ℕ) (start now : ReaderState)
    (w : Traffic) (lines : List Line) → SourceStandsAt s reads start now lines → WrotePart Begins w lines
    → StopsBy Gives Begins reads (since start now) w Write
ends_by_write Gives Begins s reads start now w lines stands part = grind arith

-- the writer failed after the source had no further line: only a bad one was there, since else nothing waited
pub ends_at_fault : (Gives Begins : List Line → List ℕ → Type 0) (line : Option ℕ) (reads : ℕ) (start now : ReaderState)
    (w : Traffic) (lines : List Line) (first : List ℕ) (fault : LogFault) → (line ≢ None → IsBadLineFault fault)
    → line ≢ None → HasNoNext reads start now lines first fault → WrotePart Begins w lines
    → StopsBy Gives Begins reads (since start now) w Write
ends_at_fault Gives Begins line reads start now w lines first fault there some gives part = grind arith

-- ---- how the slots that are kept go on by a line

-- of an empty log no slot is kept
pub keeps_none : (n : ℕ) (log : List (Option Group)) → log ≡ [] → AreSlots n [] (reverse log)
keeps_none n log none = ap reverse none

pub keeps_slot : (n : ℕ) (lines : List Line) (line : Line) (slot : Option Group) (log after : List (Option Group))
    → LineSays line (Slot slot) → AreSlots n lines (reverse log) → after ≡ log ++ (exchanged_in n slot ∷ [])
    → AreSlots n (line ∷ lines) (reverse after)
keeps_slot n lines line slot log after says had more = grind (arith, reverse, reverse-append)

-- a line that was said to be a slot
pub keeps_said : (n : ℕ) (lines : List Line) (line : Line) (said : LogLine) (slot : Option Group)
    (log after : List (Option Group)) → LineSays line said → said ≡ Slot slot
    → AreSlots n lines (reverse log) → after ≡ log ++ (exchanged_in n slot ∷ [])
    → AreSlots n (line ∷ lines) (reverse after)
keeps_said n lines line said slot log after says is had more = keeps_slot n lines line slot log after (rw is at says)
    had more

-- ---- what was read of known bytes

-- what was read and what is left are all of the bytes
pub read_and_left : (before after : Option (List ℕ)) (bytes text : List ℕ) → before ≡ Some bytes
    → Consumes before after text → (left : List ℕ) × (after ≡ Some left) × (bytes ≡ text ++ left)
read_and_left before after bytes text given read = grind arith

-- at the end all of the bytes were read
pub read_whole : (before after : Option (List ℕ)) (bytes text : List ℕ) → before ≡ Some bytes
    → Consumes before after text → IsAtEnd after → text ≡ bytes
read_whole before after bytes text given read end = grind (arith, read_and_left, append-nil)
