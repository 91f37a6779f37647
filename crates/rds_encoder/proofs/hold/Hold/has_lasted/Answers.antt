use Rattle.std.proofs.Common.{arith}
use Rattle.rds_encoder.proofs.OnAir.{start_on_air}
use Rattle.rds_encoder.proofs.hold.Hold.has_lasted.Goals as goal

pub returns : goal.returns
returns c moves air h on =
    let last = start_on_air c.args.distance moves in
    grind (arith)
