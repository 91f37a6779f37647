-- A program that is out of memory before it reads.
use Rattle.std.proofs.Common.{Bool, Err, List, None, Option, Some, inr, refl, ℕ}
use Rattle.rds_io.specs.Told.{IsCalm, Traffic}
use Rattle.rds_io.specs.declared.fault.LogFault.TheVariants.{Memory}
use Rattle.rds_cli.specs.declared.request.Task.TheVariants.{Lose}
use Rattle.rds_witness.specs.declared.burst.Burst.{Burst}
use Rattle.rds_program.specs.Run.{Listening, LossRuns, NoMemoryFor, ReaderOver}

-- whatever slots were to be lost
pub loss_memory : (lost : Option (List Burst)) (alone : Bool) (l : Listening) (r : ReaderOver) (w : Traffic) (status
    : ℕ)
    → r.Untouched → IsCalm r.traffic → NoMemoryFor (Lose alone) w status → LossRuns lost alone l r w status
loss_memory None alone l r w status rests calm memory = (inr memory, rests)
loss_memory (Some lost) alone l r w status rests calm memory = record {
  outcome = Err Memory;
  mid = w.before;
  failures = w.failures_before;
  ran = (calm, record { bytes = refl; calm = refl });
  ended = (memory.status_is, memory.told);
}
