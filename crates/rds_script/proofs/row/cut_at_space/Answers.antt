use Rattle.std.proofs.Common.{arith}
use Rattle.std.proofs.lemmas.Str.Pattern.{split_parts}
use Rattle.rds_script.proofs.Numbers.{cut_is, none_is}
use Rattle.rds_script.proofs.row.cut_at_space.Goals as goal

pub returns-clause-some : goal.returns-clause-some
returns-clause-some c = cut_is c.args.text.now c.split_once.result (split_parts 32 c.args.text.now c.split_once.result
    c.split_once.ensures.cases (omega arith))

pub returns-clause-none : goal.returns-clause-none
returns-clause-none c = none_is c.args.text.now c.split_once.result (split_parts 32 c.args.text.now c.split_once.result
    c.split_once.ensures.cases (omega arith))
