use Rattle.std.proofs.Common.{◌-◌, arith, drop, length}
use Rattle.std.proofs.lemmas.Bool.Decides.{nat_tests}
use Rattle.std.proofs.lemmas.List.{length-drop, take_all}
use Rattle.rds_lines.proofs.line_stamp.stamp_of.Goals as goal

pub returns-clause-value : goal.returns-clause-value
returns-clause-value c =
    let long = c.if-start-lt-TIME.false in
    let whole = take_all (length c.args.start.now - 20) (drop 20 c.args.start.now) (omega
    (arith, length-drop 20 c.args.start.now)) in
    grind (arith, nat_tests)
