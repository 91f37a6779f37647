use Rattle.std.proofs.Common.{◌≡◌, ◌∙◌, ◌-◌, ap, arith, sym, option_and_then}
use Rattle.std.specs.Str.Parse.{ExplainsUnsignedError, HasUnsignedDigitsIfOk, ParsesUnsigned}
use Rattle.clap.specs.Words.{found_of, rows_of}
use Rattle.rds_cli.specs.CommandLine.{option_number}
use Rattle.rds_cli.proofs.Numbers.{between, read_option}
use Rattle.rds_cli.proofs.request.place_of.Goals as goal

pub returns-in_err-get_one : goal.returns-in_err-get_one
returns-in_err-get_one g c =
    let read : option_number 0 (g.row.N - 1) c.args.name.now (rows_of (found_of c.args.inner.now))
    ≡ option_and_then (between 0 (g.row.N - 1)) c.get_one.result =
    read_option 8 0 (g.row.N - 1) (λ bs r. ParsesUnsigned 8 10 bs r × ExplainsUnsignedError 10 bs r
    × HasUnsignedDigitsIfOk bs r) (found_of c.args.inner.now) c.args.name.now c.get_one.result
    c.get_one.ensures.none c.get_one.ensures.value (λ t x g. g.0) (omega (arith, g.N.fits)) in
    c.from_residual.ensures ∙ sym (read ∙ ap (option_and_then (between 0 (g.row.N - 1))) c.in_err-get_one.was)

pub returns : goal.returns
returns g c =
    let read : option_number 0 (g.row.N - 1) c.args.name.now (rows_of (found_of c.args.inner.now))
    ≡ option_and_then (between 0 (g.row.N - 1)) c.get_one.result =
    read_option 8 0 (g.row.N - 1) (λ bs r. ParsesUnsigned 8 10 bs r × ExplainsUnsignedError 10 bs r
    × HasUnsignedDigitsIfOk bs r) (found_of c.args.inner.now) c.args.name.now c.get_one.result
    c.get_one.ensures.none c.get_one.ensures.value (λ t x g. g.0) (omega (arith, g.N.fits)) in
    grind (arith)
