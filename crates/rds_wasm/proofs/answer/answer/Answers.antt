use Rattle.std.proofs.Common.{◌≡◌, Some, map, refl, rules}
use Rattle.rds_io.specs.Told.{traffic}
use Rattle.rds_program.specs.RunsBy.{never_fails, none_failed, runs_by, runs_without_memory, task_by}
use Rattle.rds_wasm.specs.Page.{words_in}
use Rattle.rds_wasm.specs.declared.slice_reader.SliceReader.{SliceReader}
use Rattle.rds_wasm.proofs.answer.answer.Goals as goal

pub returns-in_default-words_in-clause-text : goal.returns-in_default-words_in-clause-text
returns-in_default-words_in-clause-text g c text =
    runs_without_memory _ _ _ _ (record { status_is = refl; told = c.write_no_memory.ensures }) tt

pub returns-clause-text : goal.returns-clause-text
returns-clause-text g c text =
    let words : map (λ w. w.now) c.as_slice.result.now ≡ words_in c.args.words.now = search rules in
    rw (← words) (runs_by _ _ _ _ c.run_read-status.result
    (λ task lose t ran. record {
      r = traffic (λ (given : SliceReader). Some given.rest.now) (λ given. 0) c.new-given.result
          c.run_read-status.new.reader;
      starts = record { bytes_are = search rules; failures_are = refl };
      fails = never_fails;
      ran = task_by none_failed (λ rests. (rests.bytes_are, rests.failures_are)) task lose t _ _
          c.run_read-status.result ran;
    })
    (λ _. tt) (c.run_read-status.ensures.words (map (λ w. w.now) c.as_slice.result.now) c.read_words-read.ensures))
