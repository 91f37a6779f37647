use Rattle.std.proofs.Common.{arith, rules, ◌≡◌, ℕ, List, sym, subst}
use Rattle.std.proofs.lemmas.Result.{err_from_is_err_and}
use Rattle.rds_script.specs.Rows.{SaysCommand}
use Rattle.rds_script.proofs.Commands.{no_name, no_verb}
use Rattle.rds_script.proofs.row.command_of.Goals as goal

pub returns-in_default-clause-none : goal.returns-in_default-clause-none
returns-in_default-clause-none c command text says = grind (arith, no_verb)

pub returns-in_err-name_of-in-Name-clause-none : goal.returns-in_err-name_of-in-Name-clause-none
returns-in_err-name_of-in-Name-clause-none c =
    let same : c.in_ok-characters-in-Name.field-0.now ≡ c.args.argument.now = search rules in
    let p = err_from_is_err_and c.from_residual-in_err-name_of-in-Name.result
    c.from_residual-in_err-name_of-in-Name.ensures.1 in
    rw p.1 (λ command text says. no_name c.args.word.now c.in_ok-characters-in-Name.field-0.now (search rules)
    c.in_err-name_of-in-Name.ensures.none command
    (subst (λ (x : List ℕ). SaysCommand c.args.word.now x command) (sym same) says))
