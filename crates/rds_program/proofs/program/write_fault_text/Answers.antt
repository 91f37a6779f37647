use Rattle.std.proofs.Common.{◌≡◌, ◌++◌, refl, codes}
use Rattle.rds_program.specs.Run.{mark_of}
use Rattle.rds_program.proofs.program.write_fault_text.Goals as goal

pub returns : goal.returns
returns g c =
    let line : c.bytes.result.now ≡ mark_of c.args.task ++ c.args.text.now ++ codes "\n" =
    rw (c.bytes.ensures, c.push-3.ensures, c.push-2.ensures, c.push.ensures, c.new-line.ensures, c.mark.ensures.mark)
    refl in
    rw line at c.write_line.ensures
