use Rattle.std.proofs.Common.{arith}
use Rattle.rds_script.proofs.play.play_script.Goals as goal

pub returns : goal.returns
returns g c = search (arith, c.play_rows-done.ensures, c.new-player.ensures.stands, c.new-script.ensures)
