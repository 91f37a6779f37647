-- The wire laws for runs of the program: it encodes a script, or says yes to a log, and decodes what reached the
-- receivers of the log.
use Rattle.std.specs.Prelude.{◌≡◌, ◌⊎◌, ◌<◌, ◌+◌, ◌^◌, [], ℕ, Bool, List, Option, Some}
use Rattle.rds_cli.specs.CommandLine.{AskFor, IsPi, Requested}
use Rattle.rds_cli.specs.declared.request.Programme.{Programme}
use Rattle.rds_cli.specs.declared.request.Task.{Task}
use Rattle.rds_cli.specs.declared.request.Task.TheVariants.{Audit, Decode, Encode}
use Rattle.rds_io.specs.Told.{Traffic}
use Rattle.rds_fields.specs.TagGroup.{MayCarryTags}
use Rattle.rds_lines.specs.LogLines.{AreLines}
use Rattle.rds_program.specs.Run.{IsUntouched, Listening, NoMemory, ReaderOver, RunsWords, TaskRuns, auditing_of}
use Rattle.rds_program.specs.Run.{listening, reader_over}
use Rattle.rds_script.specs.Play.{with_form}
use Rattle.rds_script.specs.declared.form.Form.TheVariants.{Log}
use Rattle.rds_view_lines.specs.ViewParts.{Part}
use Rattle.rds_wire.specs.Printed.{Prints, Shows}
use Rattle.rds_wire.specs.Wire.{Encodes, HasSafePlans, IsSafeOnTheWire, aired, complete_in, station_of}

-- a reader of which only its bytes and its count of failures matter
abbrev pub over : Traffic → ReaderOver
over r = record { traffic = r; ReadFailed = Unit {0}; Untouched = Unit {0} }

-- a run of this task over this input, with a writer that had nothing, wrote this output, and no write failed. It may
-- have ended at a fault
pub record Ran (task : Task) (l : Listening) (input output : List ℕ) : Type 0 where
  pub lose : List ℕ
  pub status : ℕ
  pub r : Traffic
  pub w : Traffic
  pub given : r.before ≡ Some input
  pub fresh : w.before ≡ Some []
  pub wrote : w.after ≡ Some output
  pub unfailed : w.failures_after ≡ 0
  pub ran : TaskRuns task lose l (over r) w status

-- what `run_read` promises of its arguments (`RunsWords`): if they ask for a task, and the writer had nothing and did
-- not fail, a run of the task read this input and wrote this output, and gave the status. Or memory ran out before
abbrev pub WhatIsAskedForRan : {R : Type 0} → (R → Option (List ℕ)) → (R → ℕ) → (R → ℕ) → Type 0
WhatIsAskedForRan {R} remaining failures reads =
    (words : List (List ℕ)) (old new : R) (w : Traffic) (status : ℕ) (asked : Requested) (pi : ℕ)
    (input output : List ℕ)
    → RunsWords words (λ task lose l. TaskRuns task lose l (reader_over remaining failures reads old new) w status)
    (IsUntouched remaining failures reads old new) w status
    → AskFor words asked → IsPi asked.pi pi → remaining old ≡ Some input → w.before ≡ Some [] → w.after ≡ Some output
    → w.failures_after ≡ 0
    → NoMemory w status
    ⊎ ((ran : Ran asked.task (listening asked.rtplus pi asked.dwell) input output) × (ran.status ≡ status))

-- what the program encodes with M and K is safe on the wire, by the texts that the script sets; the tags may be in any
-- group type that may carry them
abbrev pub WhatTheProgramEncodesIsSafe : Type 0
WhatTheProgramEncodesIsSafe =
    (programme : Programme) (n pi m k : ℕ) (script output : List ℕ) → MayCarryTags n → pi < 2 ^ 16
    → programme.pty < 32 → 0 < m
    → Ran (Encode programme k) (listening n pi m) script output
    → (log : List ℕ) × (encoded : Encodes (with_form (Log n)
    (station_of (record { pi = pi; tp = programme.tp; pty = programme.pty }) m k)) script log)
    × IsSafeOnTheWire (complete_in n pi m k) output (aired (m + k) encoded.write.events)

-- a log to which the program says yes with M and K, by status 0, has safe plans; also that of a running
-- station, and with padding
abbrev pub WhatTheProgramPassesIsSafe : Type 0
WhatTheProgramPassesIsSafe =
    (n pi m k : ℕ) (running padded all : Bool) (log output : List ℕ) → 0 < m
    → (ran : Ran (Audit k running padded all) (listening n pi m) log output) → ran.status ≡ 0
    → HasSafePlans (auditing_of (listening n pi m) k running padded all) log

-- what the program decodes with M, for a display that keeps nothing, shows what such receivers print. With status 0 it read all lines of the received log
abbrev pub WhatTheProgramDecodesIsPrinted : Type 0
WhatTheProgramDecodesIsPrinted =
    (window : Option ℕ) (why : Bool) (n pi m : ℕ) (received output : List ℕ)
    → (ran : Ran (Decode window why 0) (listening n pi m) received output)
    → (printed : List ℕ) × (prints : Prints n pi m window received printed)
    × (ran.status ≡ 0 → AreLines received prints.lines)
    × ((t : ℕ) (part : Part) (content : List ℕ) → Shows output t part content → Shows printed t part content)
