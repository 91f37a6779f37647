-- What `slots` writes: each group with its time, and before it a line for each slot that the log lacks. Lists of lines
-- and of arrivals have the newest first. r is the traffic with the reader, w the traffic with the writer.
use Rattle.std.specs.Prelude.{◌≡◌, ◌≢◌, ◌⊎◌, ◌+◌, ◌-◌, ◌^◌, ◌++◌, [], ◌∷◌, ℕ, zero, suc, Bool, false, true, List, Ok}
use Rattle.std.specs.Prelude.{Err, Result, Option, Some, None, codes, max, take, if◌then◌else◌}
use Rattle.std.specs.Io.KnownBytes.{Consumes, IsAtEnd}
use Rattle.rds_block.specs.declared.group.Group.{Group}
use Rattle.rds_io.specs.Digits.{HasWord}
use Rattle.rds_io.specs.Told.{IsCalm, Traffic}
use Rattle.rds_arrivals.specs.Arrivals.{Arrival, IsBreak, lost_between, lost_until}
use Rattle.rds_arrivals.specs.Breaks.{break_of}
use Rattle.rds_arrivals.specs.Coarse.{AreCoarse}
use Rattle.rds_arrivals.specs.declared.lost.Break.{Break}
use Rattle.rds_arrivals.specs.declared.stamp.Stamp.{Stamp}
use Rattle.rds_lines.specs.LineTimes.{break_line, time_of}
use Rattle.rds_lines.specs.LogLines.{AreLines, Line}
use Rattle.rds_lines.specs.LineSays.{LineSays, deciding}
use Rattle.rds_lines.specs.Outputs.{StopsBy, WroteLines}
use Rattle.rds_io.specs.declared.fault.LogFault.{LogFault}
use Rattle.rds_log.specs.declared.filler.Filling.{Filling}
use Rattle.rds_lines.specs.declared.log_line.LogLine.TheVariants.{Skip, Slot}
use Rattle.rds_log.specs.declared.filler.Times.{Times}
use Rattle.rds_log.specs.declared.filler.Times.TheVariants.{AllLeftOut, Broken, Coarse, Fine}

-- ---- a line, by its first bytes

-- the first block is a word other than the wanted PI; if no PI is wanted, each programme is
abbrev pub IsOfAnother : Option ℕ → List ℕ → Type 0
IsOfAnother None first = ⊥
IsOfAnother (Some pi) first = (word : ℕ) × HasWord first 0 word × (word ≢ pi)

-- the output of a group: its line as far as the time
abbrev pub shown : List ℕ → Stamp → List ℕ
shown first stamp = take (20 + stamp.end) first ++ codes "\n"

-- ---- the output before a group

-- the output of n lost slots
abbrev pub lost_lines : ℕ → List ℕ
lost_lines zero = []
lost_lines (suc n) = lost_lines n ++ codes "---- ---- ---- ----\n"

-- the output when `lost` slots are lost since the last group and `told` of them are written: the comment of a break,
-- and the lost slots that are not written
abbrev pub more_lines : Option Break → ℕ → ℕ → List ℕ
more_lines why told lost = break_line why ++ lost_lines (lost - told)

-- the output from the time of the last group to this one, if `told` lost slots are written since. A break is told when
-- a group came
abbrev pub gap_lines : Filling → Bool → Option ℕ → ℕ → ℕ → List ℕ
gap_lines f came None told time = []
gap_lines f came (Some last) told time =
    more_lines (if came then break_of last time else None) told (lost_between f.grain f.dwell last time)

abbrev pub newest_time : List (Arrival Group) → Option ℕ
newest_time [] = None
newest_time (a ∷ before) = Some a.time

-- the time breaks after this last time, if there is one
abbrev pub BreaksAfter : Option ℕ → ℕ → Type 0
BreaksAfter None time = ⊥
BreaksAfter (Some last) time = IsBreak last time

-- the time of one of these groups breaks after that of the group before it
abbrev pub HasBreak : List (Arrival Group) → Type 0
HasBreak [] = ⊥
HasBreak (a ∷ before) = BreaksAfter (newest_time before) a.time ⊎ HasBreak before

-- ---- lines

-- the groups so far, the lost slots that are written since the newest of them, and the output
pub record SoFar : Type 0 where
  pub came : List (Arrival Group)
  pub told : ℕ
  pub written : List ℕ

-- the line is a group with a time, and not of another programme: it adds an arrival, and its output
pub record AddsGroup (f : Filling) (line : Line) (old new : SoFar) : Type 0 where
  pub group : Group
  pub stamp : Stamp
  pub says : LineSays line (Slot (Some group))
  pub timed : time_of (take deciding line) ≡ Some stamp
  pub own : IsOfAnother f.pi (take deciding line) → ⊥
  pub came : new.came ≡ record { entry = group; time = stamp.time; told = old.told } ∷ old.came
  pub told : new.told ≡ 0
  pub writes : new.written
      ≡ old.written ++ gap_lines f true (newest_time old.came) old.told stamp.time ++ shown (take deciding line) stamp

-- the line has a time and no whole group: no group came up to this time. It adds the lost slots that are not written
pub record AddsTime (f : Filling) (line : Line) (old new : SoFar) : Type 0 where
  pub stamp : Stamp
  pub says : LineSays line (Slot None)
  pub timed : time_of (take deciding line) ≡ Some stamp
  pub own : IsOfAnother f.pi (take deciding line) → ⊥
  pub came : new.came ≡ old.came
  pub told : new.told ≡ max old.told (lost_until f.grain f.dwell old.came stamp.time)
  pub writes : new.written ≡ old.written ++ gap_lines f false (newest_time old.came) old.told stamp.time

-- the line adds nothing: it is no slot, or it has no time, or it is of another programme
abbrev pub AddsNothing : Filling → Line → Type 0
AddsNothing f line = LineSays line Skip
    ⊎ ((slot : Option Group) × LineSays line (Slot slot)
    × ((time_of (take deciding line) ≡ None) ⊎ IsOfAnother f.pi (take deciding line)))

-- the lines have these groups and this output
abbrev pub AreFilled : Filling → List Line → SoFar → Type 0
AreFilled f [] s = (s.came ≡ []) × (s.told ≡ 0) × (s.written ≡ [])
AreFilled f (line ∷ before) s =
    (AddsNothing f line × AreFilled f before s)
    ⊎ ((old : SoFar) × AreFilled f before old × (AddsGroup f line old s ⊎ AddsTime f line old s))

-- the lines have this output
pub record LinesFill (f : Filling) (lines : List Line) (written : List ℕ) : Type 0 where
  pub so_far : SoFar
  pub fill : AreFilled f lines so_far
  pub writes : written ≡ so_far.written

-- the line is a group that is left out: it has no time, or it is of another programme
pub record IsLeftOut (pi : Option ℕ) (line : Line) : Type 0 where
  pub group : Group
  pub says : LineSays line (Slot (Some group))
  pub left_out : (time_of (take deciding line) ≡ None) ⊎ IsOfAnother pi (take deciding line)

-- one of these lines is so
abbrev pub HasLeftOut : Option ℕ → List Line → Type 0
HasLeftOut pi [] = ⊥
HasLeftOut pi (line ∷ before) = IsLeftOut pi line ⊎ HasLeftOut pi before

-- whether the slots of the log can be counted by the times of these lines, which have these groups: the times are
-- coarse, or else they have a break, or all groups were left out, or nothing of all this
abbrev pub TimesAre : Filling → List Line → List (Arrival Group) → Times → Type 0
TimesAre f lines came Fine =
    ((came ≡ []) × HasLeftOut f.pi lines → ⊥) × (AreCoarse f.grain came → ⊥) × (HasBreak came → ⊥)
TimesAre f lines came Coarse = AreCoarse f.grain came
TimesAre f lines came Broken = (AreCoarse f.grain came → ⊥) × HasBreak came
TimesAre f lines came AllLeftOut = (came ≡ []) × HasLeftOut f.pi lines

-- the output of a whole log was written, and the answer says what its times are
pub record FillsAll (f : Filling) (r w : Traffic) (times : Times) : Type 0 where
  pub text : List ℕ
  pub lines : List Line
  pub read : Consumes r.before r.after text
  pub end : IsAtEnd r.after
  pub are : AreLines text lines
  pub wrote : WroteLines (LinesFill f) w lines
  pub answer : TimesAre f lines wrote.write.so_far.came times
  pub calm : IsCalm r

-- the result of `slots`: each fault has its cause
abbrev pub Fills : Filling → Traffic → Traffic → Result Times LogFault → Type 0
Fills f r w (Ok times) = FillsAll f r w times
Fills f r w (Err fault) = StopsBy (LinesFill f) (LinesFill f) (2 ^ 32) r w fault
