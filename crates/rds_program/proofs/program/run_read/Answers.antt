use Rattle.std.proofs.Common.{refl, rules}
use Rattle.rds_program.proofs.ByWords.{by_words}
use Rattle.rds_program.proofs.program.run_read.Goals as goal

pub returns-in_default-clause-read : goal.returns-in_default-clause-read
returns-in_default-clause-read g c = rw (c.in-Ok-Some.is, c.in-Ok-Some.field-0-is) record {
  runs = λ pi is. absurd (c.in_default.ensures.none pi is);
  fault_pi = λ none. (
    record { status_is = refl; told = c.write_fault_text.ensures },
    record { bytes_are = refl; failures_are = refl; reads_are = refl },
  );
}

pub returns-in_default-clause-words : goal.returns-in_default-clause-words
returns-in_default-clause-words g c words known =
    by_words words c.args.read _ _ _ 2 known (returns-in_default-clause-read g c)

pub returns-in-Some-clause-read : goal.returns-in-Some-clause-read
returns-in-Some-clause-read g c = rw (c.in-Ok-Some.is, c.in-Ok-Some.field-0-is) record {
  runs = λ pi is. search rules;
  fault_pi = λ none. absurd (none c.in-Some.pi c.in-Some.ensures.some);
}

pub returns-in-Some-clause-words : goal.returns-in-Some-clause-words
returns-in-Some-clause-words g c words known =
    by_words words c.args.read _ _ _ c.run_task.result known (returns-in-Some-clause-read g c)

pub returns-in-Err-clause-words : goal.returns-in-Err-clause-words
returns-in-Err-clause-words g c words known = by_words words c.args.read _ _ _ c.write_error.result known
    (rw c.in-Err.is (
      record { status_is = c.write_error.ensures.status; no_memory = c.write_error.ensures.memory },
      record { bytes_are = refl; failures_are = refl; reads_are = refl },
    ))
