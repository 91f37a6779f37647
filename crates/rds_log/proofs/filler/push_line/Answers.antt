use Rattle.std.proofs.lemmas.Result.{err_from_is_err_and}
use Rattle.rds_io.proofs.Waiting.{lost_longer}
use Rattle.rds_log.proofs.filler.push_line.Goals as goal

pub returns-in_err-make_room : goal.returns-in_err-make_room
returns-in_err-make_room g c start total has =
    let p = err_from_is_err_and c.from_residual.result c.from_residual.ensures.1 in
    rw p.1 (lost_longer _ total _ (c.in_err-make_room.ensures.waits start total has))
