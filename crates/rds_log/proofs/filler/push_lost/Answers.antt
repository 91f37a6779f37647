use Rattle.std.proofs.Common.{◌≡◌, ◌+◌, ◌*◌, ◌/◌, ◌++◌, append_assoc, arith}
use Rattle.std.proofs.lemmas.Result.{err_from_is_err_and}
use Rattle.rds_io.proofs.Waiting.{lost_longer}
use Rattle.rds_log.specs.Fill.{lost_lines}
use Rattle.rds_log.proofs.Filled.{lost_split, more_lost, same_pushed}
use Rattle.rds_log.proofs.filler.push_lost.Goals as goal

pub returns-in_err-push_pairs : goal.returns-in_err-push_pairs
returns-in_err-push_pairs g c start total has =
    let p = err_from_is_err_and c.from_residual.result c.from_residual.ensures.1 in
    let n = c.args.lost / 2 in
    let split = lost_split (2 * n) c.args.lost (omega arith) in
    rw (p.1, split.1, ← append_assoc total (lost_lines (2 * n)) split.0) (lost_longer _ (total ++ lost_lines (2 * n))
    split.0 (c.in_err-push_pairs.ensures start total has))

pub returns : goal.returns
returns g c start total has =
    let n = c.args.lost / 2 in
    let odd : 2 * n + 1 ≡ c.args.lost = omega (arith, c.if-lost-eq0.false) in
    same_pushed _ _ c.push_line.result _ _ (rw odd at (more_lost total (2 * n)))
    (c.push_line.ensures start (total ++ lost_lines (2 * n)) (c.in_ok-push_pairs.ensures start total has))
