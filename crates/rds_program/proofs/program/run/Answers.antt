use Rattle.std.proofs.Common.{map, refl}
use Rattle.rds_io.specs.Told.{traffic}
use Rattle.rds_program.specs.RunsBy.{runs_by, task_by}
use Rattle.rds_program.proofs.program.run.Goals as goal

pub returns : goal.returns
returns g c = runs_by _ _ _ _ c.run_read.result
    (λ task lose t ran. record {
      r = traffic g.R.Read.remaining g.R.TellingRead.failures c.args.reader c.run_read.new.reader;
      starts = record { bytes_are = refl; failures_are = refl };
      fails = λ failed. ∣ (c.args.reader, c.run_read.new.reader, failed) ∣₁;
      ran = task_by (λ failed. failed) (λ rests. (rests.bytes_are, rests.failures_are)) task lose t _ _
          c.run_read.result ran;
    })
    (λ _. tt) (c.run_read.ensures.words (map (λ w. w.now) c.args.words.now) c.read_words-read.ensures)
