use Rattle.std.proofs.Common.{◌≡◌, ◌∙◌, ap, arith, sym, option_and_then}
use Rattle.std.specs.Str.Parse.{ExplainsUnsignedError, HasUnsignedDigitsIfOk, ParsesUnsigned}
use Rattle.clap.specs.Words.{found_of, rows_of}
use Rattle.rds_cli.specs.CommandLine.{option_number}
use Rattle.rds_cli.proofs.Numbers.{between, read_option}
use Rattle.rds_cli.proofs.request.slots_of.Goals as goal

pub returns-in_err-get_one : goal.returns-in_err-get_one
returns-in_err-get_one g c =
    let read : option_number g.row.LOW g.row.HIGH c.args.name.now (rows_of (found_of c.args.inner.now))
    ≡ option_and_then (between g.row.LOW g.row.HIGH) c.get_one.result =
    read_option 16 g.row.LOW g.row.HIGH (λ bs r. ParsesUnsigned 16 10 bs r × ExplainsUnsignedError 10 bs r
    × HasUnsignedDigitsIfOk bs r) (found_of c.args.inner.now) c.args.name.now c.get_one.result
    c.get_one.ensures.none c.get_one.ensures.value (λ t x g. g.0) (omega (arith, g.HIGH.fits)) in
    c.from_residual.ensures ∙ sym (read ∙ ap (option_and_then (between g.row.LOW g.row.HIGH)) c.in_err-get_one.was)

pub returns : goal.returns
returns g c =
    let read : option_number g.row.LOW g.row.HIGH c.args.name.now (rows_of (found_of c.args.inner.now))
    ≡ option_and_then (between g.row.LOW g.row.HIGH) c.get_one.result =
    read_option 16 g.row.LOW g.row.HIGH (λ bs r. ParsesUnsigned 16 10 bs r × ExplainsUnsignedError 10 bs r
    × HasUnsignedDigitsIfOk bs r) (found_of c.args.inner.now) c.args.name.now c.get_one.result
    c.get_one.ensures.none c.get_one.ensures.value (λ t x g. g.0) (omega (arith, g.HIGH.fits)) in
    grind (arith)
