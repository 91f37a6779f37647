use Rattle.std.proofs.Common.{◌≡◌, ◌*◌, ◌++◌, append_assoc, arith}
use Rattle.std.proofs.lemmas.Result.{err_from_is_err_and}
use Rattle.rds_io.proofs.Waiting.{lost_longer, waits_more}
use Rattle.rds_log.specs.Fill.{lost_lines}
use Rattle.rds_log.proofs.Filled.{lost_split, two_more_lost}
use Rattle.rds_log.proofs.filler.push_pairs.Goals as goal

pub loop-put-preserved : goal.loop-put-preserved
loop-put-preserved g c = record {
  pushed = λ start total has.
      rw two_more_lost at (waits_more _ _ _ (total ++ lost_lines (2 * c.loop-put._put)) _
      (c.in_ok-make_room.ensures.waits start (total ++ lost_lines (2 * c.loop-put._put))
      (c.loop-put.invariant.pushed start total has)) c.push.ensures);
}

pub returns-in_err-make_room : goal.returns-in_err-make_room
returns-in_err-make_room g c start total has =
    let p = err_from_is_err_and c.from_residual.result c.from_residual.ensures.1 in
    let n = c.loop-put._put in
    let split = lost_split (2 * n) (2 * c.args.pairs) (omega (arith, c.loop-put-test.true)) in
    rw (p.1, split.1, ← append_assoc total (lost_lines (2 * n)) split.0) (lost_longer _ (total ++ lost_lines (2 * n))
    split.0 (c.in_err-make_room.ensures.waits start (total ++ lost_lines (2 * n))
    (c.loop-put.invariant.pushed start total has)))

pub returns : goal.returns
returns g c start total has =
    let same : c.args.pairs ≡ c.loop-put._put = omega (arith, c.loop-put-test.false, c.loop-put.auto._put-end) in
    rw same (c.loop-put.invariant.pushed start total has)
