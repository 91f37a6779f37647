-- From what one program promises to a weaker promise: of other engines, or of a reader that never fails.
use Rattle.std.proofs.Common.{◌^◌, arith, inl, inr}
use Rattle.std.proofs.Math.Logic.{∥∥₁_elim}
use Rattle.std.specs.Prelude.{ℕ, Bool, List, None, Option, Some, false, true}
use Rattle.rds_io.specs.Told.{Failed, Traffic}
use Rattle.rds_world.specs.declared.world.Config.{Config}
use Rattle.rds_io.specs.ReadFailed.{SomeReadFailed}
use Rattle.rds_script.specs.BorrowedReads.{plays_by}
use Rattle.rds_script.specs.Play.{Plays, with_form}
use Rattle.rds_script.specs.declared.play.Playing.{Playing}
use Rattle.rds_script.specs.declared.form.Form.{Form}
use Rattle.rds_script.specs.declared.form.Form.TheVariants.{Log, Simulation}
use Rattle.rds_witness.specs.Spans.{bursts_in}
use Rattle.rds_witness.specs.declared.burst.Burst.{Burst}
use Rattle.rds_cli.specs.declared.request.Task.{Task}
use Rattle.rds_cli.specs.declared.request.Task.TheVariants.{Audit, Decode, Encode, Lose, Simulate, Slots, Witness}
use Rattle.rds_world.specs.ReceiverKind.{with_dwell}
use Rattle.rds_program.specs.Run.{EngineRuns, Listening, LossRuns, NoMemory, RunsWords, SimulationRuns, TaskRuns, done}
use Rattle.rds_program.specs.Run.{listening, simulated_station, tuned_station}

-- a run of engines that do more, with another statement for the case that no engine ran
pub runs_by : {Rests Rested : Type 0} (words : List (List ℕ)) (Engine Weaker : Task → List ℕ → Listening → Type 0)
    (w : Traffic) (status : ℕ)
    → ((task : Task) (lose : List ℕ) (l : Listening) → Engine task lose l → Weaker task lose l) → (Rests → Rested)
    → RunsWords words Engine Rests w status → RunsWords words Weaker Rested w status
runs_by words Engine Weaker w status engine rests did = record {
  runs = λ asked pi given is. elim (did.runs asked pi given is) [
    | inl memory ↦ inl (memory.0, rests memory.1)
    | inr ran ↦ inr (engine asked.task asked.lose (listening asked.rtplus pi asked.dwell) ran)
  ];
  fault_pi = λ asked given none. let it = did.fault_pi asked given none in (it.0, rests it.1);
  nothing_asked = λ takes none. let it = did.nothing_asked takes none in (it.0, rests it.1);
  help = λ asks. let it = did.help asks in (it.0, rests it.1);
  refused = λ are. let it = did.refused are in (it.0, rests it.1);
  not_taken = λ untaken. let it = did.not_taken untaken in (it.0, rests it.1);
}

-- a program that is out of memory for its arguments keeps every promise
pub runs_without_memory : {Rests : Type 0} (words : List (List ℕ)) (Engine : Task → List ℕ → Listening → Type 0)
    (w : Traffic) (status : ℕ) → NoMemory w status → Rests → RunsWords words Engine Rests w status
runs_without_memory words Engine w status memory rests = record {
  runs = λ asked pi given is. inl (memory, rests);
  fault_pi = λ asked given none. (inl memory, rests);
  nothing_asked = λ takes none. (inl memory, rests);
  help = λ asks. (inl memory, rests);
  refused = λ are. (inl memory, rests);
  not_taken = λ untaken. (inl memory, rests);
}

-- the run of a script, with another statement about its reads
script_by : {P Q : Type 0} → (P → Q) → (how : Playing) (task : Task) (known : Option (List ℕ))
    (w : Traffic) (status : ℕ)
    → EngineRuns (Plays how (2 ^ 32) record { known = known; Failed = P }) done task w status
    → EngineRuns (Plays how (2 ^ 32) record { known = known; Failed = Q }) done task w status
script_by says how task known w status ran = record {
  outcome = ran.outcome;
  mid = ran.mid;
  failures = ran.failures;
  ran = plays_by says how (2 ^ 32) known (record w { after = ran.mid; failures_after = ran.failures })
      ran.outcome ran.ran;
  ended = ran.ended;
}

-- the run of a simulation, with other statements about its reads
simulation_by : {P Q U V : Type 0} → (P → Q) → (U → V) → (form : Form) (station : Option Config) (task : Task)
    (r w : Traffic) (status : ℕ)
    → SimulationRuns form station task (record { traffic = r; ReadFailed = P; Untouched = U }) w status
    → SimulationRuns form station task (record { traffic = r; ReadFailed = Q; Untouched = V }) w status
simulation_by says rests form None task r w status ran = (ran.0, rests ran.1)
simulation_by says rests form (Some station) task r w status ran =
    script_by says (with_form form station) task r.before w status ran

-- the run of a receiver that loses given slots, with other statements about its reads
loss_by : (P Q : Type 0) {U V : Type 0} → (U → V) → (lost : Option (List Burst)) (alone : Bool) (l : Listening)
    (r w : Traffic) (status : ℕ)
    → LossRuns lost alone l (record { traffic = r; ReadFailed = P; Untouched = U }) w status
    → LossRuns lost alone l (record { traffic = r; ReadFailed = Q; Untouched = V }) w status
loss_by P Q rests None alone l r w status ran = (ran.0, rests ran.1)
loss_by P Q rests (Some lost) alone l r w status ran = ran

-- the run of a task, with other statements about its reads
pub task_by : {P Q U V : Type 0} → (P → Q) → (U → V) → (task : Task) (lose : List ℕ) (l : Listening) (r w : Traffic)
    (status : ℕ) → TaskRuns task lose l (record { traffic = r; ReadFailed = P; Untouched = U }) w status
    → TaskRuns task lose l (record { traffic = r; ReadFailed = Q; Untouched = V }) w status
task_by says rests (Decode window why keep) lose l r w status ran = ran
task_by says rests (Audit late running padded false) lose l r w status ran = ran
task_by says rests (Audit late running padded true) lose l r w status ran = ran
task_by says rests Witness lose l r w status ran = ran
task_by says rests (Lose alone) lose l r w status ran =
    loss_by _ _ rests (bursts_in lose) alone l r w status ran
task_by says rests (Slots grain only) lose l r w status ran = ran
task_by says rests (Encode programme late) lose l r w status ran =
    script_by says (with_form (Log l.rtplus) (tuned_station l.tuning programme late with_dwell)) (Encode programme late)
    r.before w status ran
task_by says rests (Simulate programme late window alone why keep) lose l r w status ran =
    simulation_by says rests (Simulation why l.rtplus keep) (simulated_station l.tuning programme late window alone)
    (Simulate programme late window alone why keep) r w status ran

-- a reader whose count of failures is always 0 never fails
pub never_fails : Failed 0 0 → ⊥
never_fails (inl one) = omega (arith, one)
never_fails (inr most) = omega (arith, most.0)

pub none_failed : {R : Type 0} → SomeReadFailed (λ (r : R). 0) → ⊥
none_failed {R} some =
    ∥∥₁_elim some (λ a b. absurd a) (λ (f : (before : R) × (after : R) × Failed 0 0). never_fails f.2)
