use Rattle.std.proofs.Common.{arith}
use Rattle.rds_charset.proofs.Symbols.{Begins-character, BeginsNoSymbol-character, BeginsNoSymbol-nil, text-backslash}
use Rattle.rds_charset.proofs.reading.first_symbol.Goals as goal

pub returns-in_err-first-clause-none : goal.returns-in_err-first-clause-none
returns-in_err-first-clause-none c = rw (c.from_residual.ensures, c.in_err-first.ensures.none) BeginsNoSymbol-nil

pub returns-then-first-eq92-clause-none : goal.returns-then-first-eq92-clause-none
returns-then-first-eq92-clause-none c =
    let text = text-backslash c.args.text.now c.in_ok-first.first c.in_ok-first.rest.now c.in_ok-first.ensures.some
    c.if-first-eq92.true in
    rw text c.escaped_byte.ensures.none

pub returns-in_err-byte_of-clause-none : goal.returns-in_err-byte_of-clause-none
returns-in_err-byte_of-clause-none c =
    rw c.from_residual-in_err-byte_of.ensures (BeginsNoSymbol-character c.args.text.now c.in_ok-first.first
    c.in_ok-first.rest.now c.in_ok-first.ensures.some c.if-first-eq92.false c.in_err-byte_of.ensures)

pub returns-clause-some : goal.returns-clause-some
returns-clause-some c = grind (arith, Begins-character)
