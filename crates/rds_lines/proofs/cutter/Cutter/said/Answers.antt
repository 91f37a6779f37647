use Rattle.std.proofs.Common.{◌≡◌, ◌++◌, take, arith}
use Rattle.rds_lines.proofs.Cutting.{kept_either, kept_of_more, none_by_first, some_by_first}
use Rattle.rds_lines.proofs.cutter.Cutter.said.Goals as goal

pub returns-clause-some : goal.returns-clause-some
returns-clause-some c begun kept =
    let first : c.as_slice-2.result.now ≡ take 60 (begun ++ c.args.last.now) = grind (arith, kept_of_more) in
    some_by_first (begun ++ c.args.last.now) c.said_by.result (rw first at c.said_by.ensures.some)

pub returns-clause-none : goal.returns-clause-none
returns-clause-none c begun kept =
    let first : c.as_slice-2.result.now ≡ take 60 (begun ++ c.args.last.now) = grind (arith, kept_of_more) in
    none_by_first (begun ++ c.args.last.now) c.said_by.result (rw first at c.said_by.ensures.none)

pub returns-clause-kept : goal.returns-clause-kept
returns-clause-kept c begun kept = grind (arith, kept_of_more, kept_either)
