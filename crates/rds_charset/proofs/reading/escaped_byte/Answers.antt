use Rattle.std.proofs.Common.{arith, sym, ap, ◌∙◌, ◌∷◌, ◌≡◌, ◌+◌, ◌*◌}
use Rattle.std.specs.Char.{digit_value}
use Rattle.rds_charset.proofs.Symbols.{BeginsNoSymbol-escape, Begins-escape, first-x, text-x}
use Rattle.rds_charset.proofs.reading.escaped_byte.Goals as goal

pub returns-in_err-marker-clause-none : goal.returns-in_err-marker-clause-none
returns-in_err-marker-clause-none c = rw c.from_residual.ensures (BeginsNoSymbol-escape c.args.text.now
    (λ high low rest is _ _. let e = sym c.in_err-marker.ensures.none ∙ is in absurd (cc)))

pub returns-then-marker-ne120-clause-none : goal.returns-then-marker-ne120-clause-none
returns-then-marker-ne120-clause-none c =
    BeginsNoSymbol-escape c.args.text.now (λ high low rest is _ _. c.if-marker-ne120.true
    (first-x c.args.text.now c.in_ok-marker.marker c.in_ok-marker.digits.now (high ∷ low ∷ rest)
    c.in_ok-marker.ensures.some is))

pub returns-in_err-high-clause-none : goal.returns-in_err-high-clause-none
returns-in_err-high-clause-none c =
    let text = text-x c.args.text.now c.in_ok-marker.marker c.in_ok-marker.digits.now c.in_ok-marker.ensures.some
    c.if-marker-ne120.false in
    rw c.from_residual-in_err-high.ensures (BeginsNoSymbol-escape c.args.text.now (λ high low rest is first _.
    let digits : c.in_ok-marker.digits.now ≡ high ∷ low ∷ rest = cc (text, is) in
    c.in_err-high.ensures.none high (low ∷ rest) digits first))

pub returns-in_err-low-clause-none : goal.returns-in_err-low-clause-none
returns-in_err-low-clause-none c =
    let text = text-x c.args.text.now c.in_ok-marker.marker c.in_ok-marker.digits.now c.in_ok-marker.ensures.some
    c.if-marker-ne120.false in
    let held = c.in_ok-high.ensures.some in
    rw c.from_residual-in_err-low.ensures (BeginsNoSymbol-escape c.args.text.now (λ high low rest is _ second.
    let after : c.in_ok-high.rest.now ≡ low ∷ rest = cc (text, held.1, is) in
    c.in_err-low.ensures.none low rest after second))

pub returns-clause-some : goal.returns-clause-some
returns-clause-some c =
    let text = text-x c.args.text.now c.in_ok-marker.marker c.in_ok-marker.digits.now c.in_ok-marker.ensures.some
    c.if-marker-ne120.false in
    let high = c.in_ok-high.ensures.some in
    let low = c.in_ok-low.ensures.some in
    let whole : c.args.text.now ≡ 0x78 ∷ high.0 ∷ low.0 ∷ c.in_ok-low.rest.now = search arith in
    let value : 16 * digit_value high.0 + digit_value low.0 ≡ 16 * c.in_ok-high.high + c.in_ok-low.low = ap (λ d. 16 * d
    + digit_value low.0) (sym high.3) ∙ ap (λ d. 16 * c.in_ok-high.high + d) (sym low.3) in
    rw value at (Begins-escape c.args.text.now c.in_ok-low.rest.now high.0 low.0 whole high.2 low.2)
