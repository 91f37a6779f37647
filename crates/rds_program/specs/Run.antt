-- What the whole program does with its arguments. This is the project's own command line. r is the traffic of a call
-- with the reader, w its traffic with the writer.
use Rattle.std.specs.Prelude.{◌≡◌, ◌⊎◌, ◌*◌, ◌^◌, ◌++◌, [], ℕ, Bool, false, true, List, codes, decimal, None, Some}
use Rattle.std.specs.Prelude.{Option, Ok, Err, Result, if◌then◌else◌, nat_le}
use Rattle.clap.specs.Words.{kind_of}
use Rattle.clap.specs.declared.error.Error.{Error}
use Rattle.clap.specs.declared.error.kind.ErrorKind.{ErrorKind}
use Rattle.clap.specs.declared.error.kind.ErrorKind.TheVariants.{OutOfMemory}
use Rattle.rds_io.specs.Puts.{Puts}
use Rattle.rds_io.specs.Told.{HasFailed, IsCalm, PutsNothing, Traffic, traffic}
use Rattle.rds_io.specs.declared.told.WriteFault.{WriteFault}
use Rattle.rds_receiver.specs.Receipts.{Tuning, tuned}
use Rattle.rds_world.specs.ReceiverKind.{dwell_of, lateness_in, with_dwell}
use Rattle.rds_world.specs.declared.receiver_kind.ReceiverKind.{ReceiverKind}
use Rattle.rds_world.specs.declared.world.Config.{Config}
use Rattle.rds_audit.specs.AuditState.{form_if, start_if}
use Rattle.rds_log.specs.Decode.{Decodes}
use Rattle.rds_log.specs.FaultList.{Audits}
use Rattle.rds_log.specs.Fill.{Fills}
use Rattle.rds_log.specs.declared.audit_log.Auditing.{Auditing}
use Rattle.rds_log.specs.declared.audit_log.Stop.{Stop}
use Rattle.rds_log.specs.declared.audit_log.Stop.TheVariants.{FirstFault, LogEnd}
use Rattle.rds_log.specs.declared.decode_log.Decoding.{Decoding}
use Rattle.rds_log.specs.declared.filler.Filling.{Filling}
use Rattle.rds_log.specs.declared.filler.Times.{Times}
use Rattle.rds_log.specs.declared.filler.Times.TheVariants.{AllLeftOut, Broken, Coarse, Fine}
use Rattle.rds_io.specs.ReadFailed.{SomeReadFailed}
use Rattle.rds_script.specs.Play.{Plays, Reading, with_form}
use Rattle.rds_io.specs.declared.fault.LogFault.{LogFault}
use Rattle.rds_io.specs.declared.fault.LogFault.TheVariants.{BadLine, BadRow, Read, Write, TooLong, Memory}
use Rattle.rds_script.specs.declared.form.Form.{Form}
use Rattle.rds_script.specs.declared.form.Form.TheVariants.{Log, Simulation}
use Rattle.rds_witness.specs.Spans.{bursts_in}
use Rattle.rds_witness.specs.Witness.{Loses, Witnesses}
use Rattle.rds_witness.specs.declared.burst.Burst.{Burst}
use Rattle.rds_cli.specs.Asks.{asked_by}
use Rattle.rds_cli.specs.CommandLine.{AreRefused, AskFor, AskForHelp, Requested, IsPi, TakesWords, asked_in, is_shown}
use Rattle.rds_cli.specs.declared.request.Programme.{Programme}
use Rattle.rds_cli.specs.declared.request.Request.{Request}
use Rattle.rds_cli.specs.declared.request.Task.{Task}
use Rattle.rds_cli.specs.declared.request.Task.TheVariants.{Audit, Decode, Encode, Lose, Simulate, Slots, Witness}

-- the traffic of a call begins with these bytes and this number of failures
pub record StartsFrom (t : Traffic) (bytes : Option (List ℕ)) (failures : ℕ) : Type 0 where
  pub bytes_are : t.before ≡ bytes
  pub failures_are : t.failures_before ≡ failures

-- between two states of a reader, its remaining bytes and its counts of failures and of reads are unchanged
pub record IsUntouched {X : Type 0} (remaining : X → Option (List ℕ)) (failures reads : X → ℕ)
    (old new : X) : Type 0 where
  pub bytes_are : remaining new ≡ remaining old
  pub failures_are : failures new ≡ failures old
  pub reads_are : reads new ≡ reads old

-- a reader over a run: its traffic, the fact that one of its reads failed, and the fact that it is untouched
pub record ReaderOver : Type 1 where
  pub traffic : Traffic
  pub ReadFailed : Type 0
  pub Untouched : Type 0

abbrev pub reader_over : {R : Type 0} → (R → Option (List ℕ)) → (R → ℕ) → (R → ℕ) → R → R → ReaderOver
reader_over remaining failures reads old new = record {
  traffic = traffic remaining failures old new;
  ReadFailed = SomeReadFailed failures;
  Untouched = IsUntouched remaining failures reads old new;
}

-- ---- faults

-- the line was written, or some first part of it if the writer failed
abbrev pub PutsLine : List ℕ → Traffic → Type 0
PutsLine line w = (r : Result (Unit {0}) WriteFault) × Puts w line r

-- the mark before the line of a fault: in the log that `encode` or `slots` writes, the line is a comment
abbrev pub mark_of : Task → List ℕ
mark_of (Decode window why keep) = []
mark_of (Encode programme late) = codes "# "
mark_of (Simulate programme late window alone why keep) = []
mark_of (Audit late running padded all) = []
mark_of Witness = []
mark_of (Lose alone) = []
mark_of (Slots grain only) = codes "# "

abbrev pub TellsFault : Task → List ℕ → Traffic → Type 0
TellsFault task text w = PutsLine (mark_of task ++ text ++ codes "\n") w

-- after a fault, its line is written; after a failed write, nothing
abbrev pub PutsAfter : Task → LogFault → Traffic → Type 0
PutsAfter task (BadLine n) w = TellsFault task (codes "fault line " ++ decimal n) w
PutsAfter task (BadRow n) w = TellsFault task (codes "fault row " ++ decimal n) w
PutsAfter task Read w = TellsFault task (codes "fault read") w
PutsAfter task Write w = PutsNothing w
PutsAfter task TooLong w = TellsFault task (codes "fault too long") w
PutsAfter task Memory w = TellsFault task (codes "fault memory") w

-- ---- engines

-- what the receivers of a run listen to: how they are tuned, and the group type nA of the tags
pub record Listening : Type 0 where
  pub tuning : Tuning
  pub rtplus : ℕ

-- to this programme with this dwell, and to tags in groups nA
abbrev pub listening : ℕ → ℕ → ℕ → Listening
listening n pi m = record { tuning = tuned pi m; rtplus = n }

-- the status of the answer of an engine; 1 after a fault, and the line of the fault is written
abbrev pub EndsWith : {X : Type 0} → (X → ℕ) → Task → Result X LogFault → Traffic → ℕ → Type 0
EndsWith status_of task (Ok answer) w status = (status ≡ status_of answer) × PutsNothing w
EndsWith status_of task (Err fault) w status = (status ≡ 1) × PutsAfter task fault w

-- the status of an engine without an answer
abbrev pub done : Unit {0} → ℕ
done _ = 0

-- the status of a yes and of a no
abbrev pub verdict_status : Bool → ℕ
verdict_status passed = if passed then 0 else 1

-- the status if a witness was found, and if not
abbrev pub witness_status : Bool → ℕ
witness_status found = if found then 1 else 0

-- the status if the slots of a log can be counted by its times, and if not
abbrev pub times_status : Times → ℕ
times_status Fine = 0
times_status Coarse = 1
times_status Broken = 1
times_status AllLeftOut = 1

-- an engine ran, and its outcome gave the status; `mid` and `failures` are the writer's between the two
pub record EngineRuns {X : Type 0} (Engine : Traffic → Result X LogFault → Type 0) (status_of : X → ℕ) (task : Task)
    (w : Traffic) (status : ℕ) : Type 0 where
  pub outcome : Result X LogFault
  pub mid : Option (List ℕ)
  pub failures : ℕ
  pub ran : Engine (record w { after = mid; failures_after = failures }) outcome
  pub ended : EndsWith status_of task outcome (record w { before = mid; failures_before = failures }) status

-- the station for receivers that are tuned so, for a programme, this lateness, and this kind of receivers
abbrev pub tuned_station : Tuning → Programme → ℕ → ReceiverKind → Config
tuned_station t programme late kind = record {
  head = record { pi = t.programme; tp = programme.tp; pty = programme.pty };
  dwell = t.dwell;
  late = late;
  kind = kind;
}

-- the station of a simulation; there is none if the lateness of what counts is above 1024 slots
abbrev pub simulated_station : Tuning → Programme → ℕ → Option ℕ → Bool → Option Config
simulated_station t programme late window alone =
    if nat_le (lateness_in window late) 1024
    then Some (tuned_station t programme late (record { window = window; is_flag_alone = alone })) else None

-- how `decode` decodes a log: with this window or none, with reasons or without, and for a display that keeps a text and
-- a name for so many slots
abbrev pub decoding_of : Listening → Option ℕ → Bool → ℕ → Decoding
decoding_of l window why keep =
    record {
      pi = l.tuning.programme;
      rtplus = l.rtplus;
      dwell = l.tuning.dwell;
      window = window;
      says_why = why;
      keep = keep;
    }

-- where `audit` stops: with `--all` at the end of the log
abbrev pub stop_if : Bool → Stop
stop_if false = FirstFault
stop_if true = LogEnd

-- how `audit` judges a log: for receivers that are tuned so and whose groups come at most so late. With `running` the
-- log begins inside the output of its station
abbrev pub auditing_of : Listening → ℕ → Bool → Bool → Bool → Auditing
auditing_of l late running padded all =
    record {
      pi = l.tuning.programme;
      rtplus = l.rtplus;
      dwell = l.tuning.dwell;
      late = late;
      start = start_if running;
      form = form_if padded;
      stop = stop_if all;
    }

-- how `slots` fills a log for receivers that are tuned so: by this grain in microseconds, and by the lines of their
-- programme alone or of all
abbrev pub filling_of : Tuning → ℕ → Bool → Filling
filling_of t grain only =
    record { pi = if only then Some t.programme else None; grain = grain; dwell = t.dwell }

-- the receiver that loses given slots has this dwell, or follows the flag bit alone
abbrev pub lossy : Bool → Tuning → Tuning
lossy alone t = record t { dwell = dwell_of alone t.dwell }

-- the bytes of the reader of a script, and the fact that one of its reads failed
abbrev pub script_in : ReaderOver → Reading
script_in r = record { known = r.traffic.before; Failed = r.ReadFailed }

-- ---- the whole program

-- the window of a simulation was refused: with it the lateness would be above 1024 slots
pub record RefusesWindow (task : Task) (w : Traffic) (status : ℕ) : Type 0 where
  pub status_is : status ≡ 2
  pub told : TellsFault task (codes "fault confirm") w

-- the simulation of this station ran in this form; without a station its window was refused, and nothing was read
abbrev pub SimulationRuns : Form → Option Config → Task → ReaderOver → Traffic → ℕ → Type 0
SimulationRuns form None task r w status = RefusesWindow task w status × r.Untouched
SimulationRuns form (Some station) task r w status =
    EngineRuns (Plays (with_form form station) (2 ^ 32) (script_in r)) done task w status

-- the slots to lose were refused: they are no spans in ascending order
pub record RefusesSpans (task : Task) (w : Traffic) (status : ℕ) : Type 0 where
  pub status_is : status ≡ 2
  pub told : TellsFault task (codes "fault lose") w

-- the program was out of memory for the slots to lose
pub record NoMemoryFor (task : Task) (w : Traffic) (status : ℕ) : Type 0 where
  pub status_is : status ≡ 1
  pub told : PutsAfter task Memory w

-- a receiver lost these slots, with this dwell or with the flag bit alone, and a receiver that loses nothing was looked
-- at for a dwell; without slots they were refused, and nothing was read
abbrev pub LossRuns : Option (List Burst) → Bool → Listening → ReaderOver → Traffic → ℕ → Type 0
LossRuns None alone l r w status =
    (RefusesSpans (Lose alone) w status ⊎ NoMemoryFor (Lose alone) w status) × r.Untouched
LossRuns (Some lost) alone l r w status =
    EngineRuns (Loses l.rtplus (lossy alone l.tuning) l.tuning.dwell lost r.traffic) witness_status (Lose alone) w
    status

-- the engine of the task ran, with receivers that listen so; the receiver of `decode` has the window of the task,
-- and the text gives the slots that the receiver of `Lose` loses
abbrev pub TaskRuns : Task → List ℕ → Listening → ReaderOver → Traffic → ℕ → Type 0
TaskRuns (Decode window why keep) lose l r w status =
    EngineRuns (Decodes (decoding_of l window why keep) (2 ^ 32) r.traffic) done (Decode window why keep) w status
TaskRuns (Encode programme late) lose l r w status =
    EngineRuns
    (Plays (with_form (Log l.rtplus) (tuned_station l.tuning programme late with_dwell)) (2 ^ 32) (script_in r)) done
    (Encode programme late) w status
TaskRuns (Simulate programme late window alone why keep) lose l r w status =
    SimulationRuns (Simulation why l.rtplus keep) (simulated_station l.tuning programme late window alone)
    (Simulate programme late window alone why keep) r w status
TaskRuns (Audit late running padded all) lose l r w status =
    EngineRuns (Audits (auditing_of l late running padded all) (2 ^ 32) r.traffic) verdict_status
    (Audit late running padded all) w status
TaskRuns Witness lose l r w status =
    EngineRuns (Witnesses l.rtplus l.tuning r.traffic) witness_status Witness w status
TaskRuns (Lose alone) lose l r w status = LossRuns (bursts_in lose) alone l r w status
TaskRuns (Slots grain only) lose l r w status =
    EngineRuns (Fills (filling_of l.tuning (1000 * grain) only) r.traffic) times_status (Slots grain only) w status

-- the programme identification is refused
pub record RefusesPi (task : Task) (w : Traffic) (status : ℕ) : Type 0 where
  pub status_is : status ≡ 2
  pub told : TellsFault task (codes "fault pi") w

-- the program was out of memory for its arguments
pub record NoMemory (w : Traffic) (status : ℕ) : Type 0 where
  pub status_is : status ≡ 1
  pub told : PutsLine (codes "fault memory\n") w

-- a reader before a call: its remaining bytes, its count of failures, and the fact that one of its reads failed
pub record ReaderBefore : Type 1 where
  pub bytes : Option (List ℕ)
  pub failures : ℕ
  pub ReadFailed : Type 0

abbrev pub reader_before : {R : Type 0} → (R → Option (List ℕ)) → (R → ℕ) → R → ReaderBefore
reader_before remaining failures reader =
    record { bytes = remaining reader; failures = failures reader; ReadFailed = SomeReadFailed failures }

-- the engine of a task ran over a reader that was in this state, and it found a failed read only if one of its reads
-- failed
pub record RunsFrom (reader : ReaderBefore) (w : Traffic) (status : ℕ) (task : Task) (lose : List ℕ)
    (l : Listening) : Type 0 where
  pub r : Traffic
  pub starts : StartsFrom r reader.bytes reader.failures
  pub fails : HasFailed r → reader.ReadFailed
  pub ran : TaskRuns task lose l
      (record { traffic = r; ReadFailed = reader.ReadFailed; Untouched = (r.after ≡ r.before) × IsCalm r }) w status

-- the status of an answer of `clap`: 1 if the program is out of memory, 0 for help and the version, and 2 for a refusal
abbrev pub status_of : ErrorKind → ℕ
status_of OutOfMemory = 1
status_of kind = if is_shown kind then 0 else 2

-- an answer of `clap` was written, or the fault line of a program that is out of memory
pub record TellsError (kind : ErrorKind) (w : Traffic) (status : ℕ) : Type 0 where
  pub status_is : status ≡ status_of kind
  pub no_memory : kind ≡ OutOfMemory → PutsLine (codes "fault memory\n") w

-- the engine of a request ran, unless its programme identification is refused
pub record AnswersRequest (asked : Requested) (Engine : Task → List ℕ → Listening → Type 0) (Rests : Type 0) (w :
    Traffic)
    (status : ℕ) : Type 0 where
  pub runs : (pi : ℕ) → IsPi asked.pi pi → Engine asked.task asked.lose (listening asked.rtplus pi asked.dwell)
  pub fault_pi : ((pi : ℕ) → IsPi asked.pi pi → ⊥) → RefusesPi asked.task w status × Rests

-- what the program does, given the result of reading its arguments: it writes the answer of `clap`, or it does nothing,
-- or it runs a request. Rests holds if no engine ran
abbrev pub RunsRead : Result (Option Request) Error → (Task → List ℕ → Listening → Type 0) → Type 0 → Traffic → ℕ →
    Type 0
RunsRead (Err error) Engine Rests w status = TellsError (kind_of error) w status × Rests
RunsRead (Ok None) Engine Rests w status = (status ≡ 2) × PutsNothing w × Rests
RunsRead (Ok (Some request)) Engine Rests w status = AnswersRequest (asked_by request) Engine Rests w status

-- what the program does over these arguments: it runs the engine of their task, or it refuses their programme
-- identification. The other fields give its status if the arguments name no task, ask for help, are refused or are not
-- taken. In each case the program may be out of memory instead. Rests holds if no engine ran
pub record RunsWords (words : List (List ℕ)) (Engine : Task → List ℕ → Listening → Type 0) (Rests : Type 0) (w :
    Traffic)
    (status : ℕ) : Type 0 where
  pub runs : (asked : Requested) (pi : ℕ) → AskFor words asked → IsPi asked.pi pi
      → (NoMemory w status × Rests) ⊎ Engine asked.task asked.lose (listening asked.rtplus pi asked.dwell)
  pub fault_pi : (asked : Requested) → AskFor words asked → ((pi : ℕ) → IsPi asked.pi pi → ⊥)
      → (NoMemory w status ⊎ RefusesPi asked.task w status) × Rests
  pub nothing_asked : TakesWords words → asked_in words ≡ None
      → (NoMemory w status ⊎ ((status ≡ 2) × PutsNothing w)) × Rests
  pub help : AskForHelp words → (NoMemory w status ⊎ (status ≡ 0)) × Rests
  pub refused : AreRefused words → (NoMemory w status ⊎ (status ≡ 2)) × Rests
  pub not_taken : (TakesWords words → ⊥) → (NoMemory w status ⊎ ((status ≡ 0) ⊎ (status ≡ 2))) × Rests
