use Rattle.std.proofs.lemmas.Result.{err_from_is_err_and}
use Rattle.rds_log.proofs.Filled.{fills_all, never_done}
use Rattle.rds_log.proofs.slots_log.fill_with_notes.Goals as goal

pub returns-clause-fills : goal.returns-clause-fills
returns-clause-fills g c =
    let how = c.args.filling in
    let filler = c.run.new.taker in
    let all = never_done how filler _ _ (c.in_ok-run.ensures.runs how c.new-filler.ensures) in
    fills_all how filler _ _ c.times.result all (c.times.ensures how all.run.lines all.run.written all.run.took)

pub returns-in_err-run-clause-fills : goal.returns-in_err-run-clause-fills
returns-in_err-run-clause-fills g c =
    let p = err_from_is_err_and c.from_residual.result c.from_residual.ensures.1 in
    rw (p.1, p.2) (c.in_err-run.ensures.runs c.args.filling c.new-filler.ensures)
