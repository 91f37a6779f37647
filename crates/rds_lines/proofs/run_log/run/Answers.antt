use Rattle.std.proofs.Common.{ap, ◌≡◌, ◌≢◌, ◌∷◌, [], None, arith, inl, inr, length, refl, rules}
use Rattle.std.proofs.lemmas.Result.{err_from_is_err_and}
use Rattle.rds_io.proofs.Waiting.{nothing_waits}
use Rattle.rds_lines.specs.Inside.Source.{state_of}
use Rattle.rds_lines.proofs.Runs.{ends_at_fault, ends_by_fault, ends_by_write, runs_all, runs_up_to, wrote_lines}
use Rattle.rds_lines.proofs.Runs.{wrote_part}
use Rattle.rds_lines.proofs.run_log.run.Goals as goal

pub loop-taker-init : goal.loop-taker-init
loop-taker-init g c = record {
  room = omega (arith, ap length c.new-output.ensures, g.met.T.TakesLines.fits);
  empty = λ _. c.new-output.ensures;
  few = omega (arith, c.requires.none, c.new-source.ensures.budget);
  wants = c.requires.wants;
  stands = (
    [],
    c.new-source.ensures.stands _,
    λ how starts.
        record { total = []; took = starts; waits = rw c.new-output.ensures (nothing_waits _ refl refl) },
  );
}

pub line-requires-clause-few : goal.line-requires-clause-few
line-requires-clause-few g c = omega (arith, c.loop-taker.invariant.few)

pub returns-in_err-wants-in-Ok-true-clause-runs : goal.returns-in_err-wants-in-Ok-true-clause-runs
returns-in_err-wants-in-Ok-true-clause-runs g c how starts =
    let (lines, stands, taken) = c.loop-taker.invariant.stands in
    let (line, says, further, first) = rw c.in-Ok-true.field-0-test at (c.in-Ok-true.ensures.gives _ _ lines stands) in
    let p = err_from_is_err_and c.from_residual.result c.from_residual.ensures.1 in
    rw (p.1, p.2) (ends_by_write (g.T.TakesLines.gives how) (g.T.TakesLines.begins how) _ c.args.reads _ _ _
    (line ∷ lines) further
    (c.in_err-wants-in-Ok-true.ensures.takes how _ lines line says first (taken how starts)))

pub returns-in-Ok-false-clause-runs : goal.returns-in-Ok-false-clause-runs
returns-in-Ok-false-clause-runs g c how starts =
    let (lines, stands, taken) = c.loop-taker.invariant.stands in
    let none : c.loop-taker.source.line ≡ None = search rules in
    inl (
      runs_all _ _ c.args.reads _ _ _ _ lines
          (rw c.in-Ok-false.field-0-test at (c.in-Ok-false.ensures.gives _ _ lines stands)) (taken how starts)
          (c.loop-taker.invariant.empty none),
      c.loop-taker.invariant.wants,
    )

pub returns-in_err-write-in-Err-clause-runs : goal.returns-in_err-write-in-Err-clause-runs
returns-in_err-write-in-Err-clause-runs g c how starts =
    let (lines, stands, taken) = c.loop-taker.invariant.stands in
    let has = taken how starts in
    let waits : c.loop-taker.output ≢ [] = λ e. (let fine = c.in_err-write-in-Err.ensures.nothing e in cc) in
    let p = err_from_is_err_and c.from_residual-in_err-write-in-Err.result c.from_residual-in_err-write-in-Err.ensures.1
    in
    rw (p.1, p.2) (ends_at_fault (g.T.TakesLines.gives how) (g.T.TakesLines.begins how) c.loop-taker.source.line
    c.args.reads (state_of g.R.Read.remaining g.R.TellingRead.failures g.R.TellingRead.reads c.args.reader.now)
    (state_of g.R.Read.remaining g.R.TellingRead.failures g.R.TellingRead.reads c.next.new.reader) _ lines _
    c.in-Err.fault c.in-Err.ensures.there (λ e. waits (c.loop-taker.invariant.empty e))
    (c.in-Err.ensures.gives _ _ lines stands)
    (wrote_part (g.T.TakesLines.begins how) (g.T.TakesLines.took how c.loop-taker.taker) lines _ _ c.loop-taker.output
    has.total (g.met.T.TakesLines.begun how c.loop-taker.taker lines)
    has.took has.waits waits (c.in_err-write-in-Err.ensures.waits _ has.total has.waits)))

pub returns-in-Err-clause-runs : goal.returns-in-Err-clause-runs
returns-in-Err-clause-runs g c how starts =
    let (lines, stands, taken) = c.loop-taker.invariant.stands in
    let has = taken how starts in
    ends_by_fault (g.T.TakesLines.gives how) (g.T.TakesLines.begins how) c.args.reads
    (state_of g.R.Read.remaining g.R.TellingRead.failures g.R.TellingRead.reads c.args.reader.now)
    (state_of g.R.Read.remaining g.R.TellingRead.failures g.R.TellingRead.reads c.next.new.reader)
    _ lines _ c.in-Err.fault
    (c.in-Err.ensures.gives _ _ lines stands)
    (wrote_lines (g.T.TakesLines.gives how) (g.T.TakesLines.took how c.loop-taker.taker) _ _ lines
    (λ total took. g.met.T.TakesLines.meant how c.loop-taker.taker lines total took c.loop-taker.invariant.wants)
    record { total = has.total; took = has.took; waits = c.in_ok-write-in-Err.ensures.waits _ has.total has.waits }
    c.in_ok-write-in-Err.ensures.empty)

pub returns-in_err-write-clause-runs : goal.returns-in_err-write-clause-runs
returns-in_err-write-clause-runs g c how starts =
    let (lines, stands, taken) = c.loop-taker.invariant.stands in
    let (line, says, further, first) = rw c.in-Ok-true.field-0-test at (c.in-Ok-true.ensures.gives _ _ lines stands) in
    let has = c.in_ok-wants-in-Ok-true.ensures.takes how _ lines line says first (taken how starts) in
    let waits : c.line.new.output ≢ [] = λ e. (let fine = c.in_err-write.ensures.nothing e in cc) in
    let p = err_from_is_err_and c.from_residual-in_err-write.result c.from_residual-in_err-write.ensures.1 in
    rw (p.1, p.2) (ends_by_write (g.T.TakesLines.gives how) (g.T.TakesLines.begins how) _ c.args.reads _ _ _
    (line ∷ lines) further
    (wrote_part (g.T.TakesLines.begins how) (g.T.TakesLines.took how c.line.new.self) (line ∷ lines) _ _
    c.line.new.output has.total (g.met.T.TakesLines.begun how c.line.new.self (line ∷ lines)) has.took has.waits waits
    (c.in_err-write.ensures.waits _ has.total has.waits)))

pub returns-then-not-wants-2-clause-runs : goal.returns-then-not-wants-2-clause-runs
returns-then-not-wants-2-clause-runs g c how starts =
    let (lines, stands, taken) = c.loop-taker.invariant.stands in
    let (line, says, further, first) = rw c.in-Ok-true.field-0-test at (c.in-Ok-true.ensures.gives _ _ lines stands) in
    let has = c.in_ok-wants-in-Ok-true.ensures.takes how _ lines line says first (taken how starts) in
    inr (
      runs_up_to _ _ c.args.reads _ _ _ c.write-then-not-wants.new.self (line ∷ lines) further
          record { total = has.total; took = has.took; waits = c.in_ok-write.ensures.waits _ has.total has.waits }
          c.in_ok-write.ensures.empty,
      c.in_ok-wants-in-Ok-true.ensures.wants.0 c.if-not-wants-2.true,
    )

pub loop-taker-preserved-in-loop-taker : goal.loop-taker-preserved-in-loop-taker
loop-taker-preserved-in-loop-taker g c =
    let (lines, stands, taken) = c.loop-taker.invariant.stands in
    let (line, says, further, first) = rw c.in-Ok-true.field-0-test at (c.in-Ok-true.ensures.gives _ _ lines stands) in
    let less = c.in-Ok-true.ensures.budget c.in-Ok-true.field-0-test in
    record {
      room = omega (arith, ap length c.in_ok-write.ensures.empty, g.met.T.TakesLines.fits);
      empty = λ _. c.in_ok-write.ensures.empty;
      few = omega (arith, c.loop-taker.invariant.few, less, c.in_ok-wants-in-Ok-true.ensures.few);
      wants = λ done.
          (let no = c.in_ok-wants-in-Ok-true.ensures.wants.1 done in let yes = c.if-not-wants-2.false in cc);
      stands = (
        line ∷ lines,
        further,
        λ how starts. (
            let has = c.in_ok-wants-in-Ok-true.ensures.takes how _ lines line says first (taken how starts) in
            record { total = has.total; took = has.took; waits = c.in_ok-write.ensures.waits _ has.total has.waits }
            ),
      );
    }
