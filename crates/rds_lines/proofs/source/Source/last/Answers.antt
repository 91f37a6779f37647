use Rattle.std.proofs.Common.{arith, refl, rules}
use Rattle.std.proofs.lemmas.List.Elements.{All-nil}
use Rattle.std.proofs.lemmas.Result.{err_from_is_err_and}
use Rattle.rds_lines.proofs.Reading.{ends_bad, ends_between, ends_line}
use Rattle.rds_lines.proofs.source.Source.last.Goals as goal

pub returns-then-is_between-clause-gives : goal.returns-then-is_between-clause-gives
returns-then-is_between-clause-gives c most start now lines last =
    ends_between c.args.self.now _ most start now lines last ((c.if-is_between.ensures lines last.begun last.cutter).0
    (search rules)) refl refl c.requires.line

pub returns-in_err-said-clause-gives : goal.returns-in_err-said-clause-gives
returns-in_err-said-clause-gives c most start now lines last =
    let p = err_from_is_err_and c.from_residual.result c.from_residual.ensures.1 in
    rw (p.1, p.2) (ends_bad c.args.self.now _ most _ start now lines last (c.in_err-said.ensures.closes (All-nil _)
    lines last.begun last.cutter) (c.in_err-said.ensures.kept lines last.begun last.cutter))

pub returns-clause-gives : goal.returns-clause-gives
returns-clause-gives c most start now lines last =
    ends_line c.args.self.now _ most start now lines c.in_ok-said.said last
    (λ e. (let between = (c.is_between.ensures lines last.begun last.cutter).1 e in let other = c.if-is_between.false
    in cc)) (c.in_ok-said.ensures.closes (All-nil _) lines last.begun last.cutter) refl refl c.requires.line
    (omega (arith, c.args.self.now.within, c.args.self.now.room)) c.in_ok-said.ensures.start
