-- The request of the arguments.
use Rattle.std.specs.Prelude.{◌≡◌, ◌⊎◌, ℕ, List, Option, Result, IfErr, IfOk, false, option_map, true}
use Rattle.clap.specs.Words.{FailsBy, fault_of, kind_of}
use Rattle.clap.specs.declared.error.Error.{Error}
use Rattle.clap.specs.declared.error.kind.ErrorKind.TheVariants.{OutOfMemory}
use Rattle.rds_cli.specs.CommandLine.{AreRefused, AskForHelp, Requested, TakesWords, asked_in, is_shown, whole_app}
use Rattle.rds_cli.specs.declared.request.Request.{Request}

abbrev pub asked_by : Request → Requested
asked_by r = record {
  task = r.task;
  pi = r.pi.now;
  rtplus = r.rtplus;
  lose = r.lose.now;
  dwell = r.dwell;
  file = option_map (λ s. s.now) r.file;
}

-- these arguments were read so: as the request that they ask for, or as an answer of `clap`, that is help, a refusal,
-- or that the program is out of memory. Arguments that are taken fail only if the program is out of memory
pub record ReadAs (words : List (List ℕ)) (read : Result (Option Request) Error) : Type 0 where
  pub ok : IfOk read (λ o. option_map asked_by o ≡ asked_in words)
  pub err : IfErr read (λ e. TakesWords words → kind_of e ≡ OutOfMemory)
  pub kinds : FailsBy (fault_of whole_app words) read
  pub taken : IfOk read (λ o. TakesWords words)
  pub help : AskForHelp words → IfErr read (λ e. (kind_of e ≡ OutOfMemory) ⊎ (is_shown (kind_of e) ≡ true))
  pub refused : AreRefused words → IfErr read (λ e. (kind_of e ≡ OutOfMemory) ⊎ (is_shown (kind_of e) ≡ false))
