use Rattle.std.proofs.Common.{◌^◌}
use Rattle.rds_io.specs.Told.{traffic}
use Rattle.rds_script.specs.BorrowedReads.{failed_behind, plays_by}
use Rattle.rds_program.proofs.program.run_script.Goals as goal

pub returns : goal.returns
returns g c =
    let w = traffic g.W.Write.contents g.W.TellingWrite.failures c.args.writer.now c.play_script.new.writer in
    plays_by (failed_behind (λ r. r.now) g.R.TellingRead.failures) c.args.playing (2 ^ 32)
    (g.R.Read.remaining c.args.reader.now) w c.play_script.result c.play_script.ensures
