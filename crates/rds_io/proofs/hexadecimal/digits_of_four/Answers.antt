use Rattle.std.proofs.Common.{◌+◌, ◌*◌, ◌/◌, arith, get_or, refl}
use Rattle.rds_io.proofs.SpreadDigits.{shows, spread}
use Rattle.rds_io.proofs.hexadecimal.digits_of_four.Goals as goal

pub returns : goal.returns
returns c =
    let a = get_or c.args.words 0 0 in
    let b = get_or c.args.words 1 0 in
    let w = get_or c.args.words 2 0 in
    let d = get_or c.args.words 3 0 in
    let above_w = spread d + 0 in
    let above_b = spread w + 4294967296 * above_w in
    let above_a = spread b + 4294967296 * above_b in
    let n = spread a + 4294967296 * above_a in
    let s = shows n a above_a (omega (arith, c.element_fits.fits)) refl in
    let t = shows (n / 256 / 256 / 256 / 256) b above_b (omega (arith, c.element_fits2.fits)) s.rest in
    let u = shows (n / 256 / 256 / 256 / 256 / 256 / 256 / 256 / 256) w above_w (omega (arith, c.element_fits3.fits))
    t.rest in
    let v = shows (n / 256 / 256 / 256 / 256 / 256 / 256 / 256 / 256 / 256 / 256 / 256 / 256) d 0
    (omega (arith, c.element_fits4.fits)) (rw u.rest refl) in
    grind (arith)
