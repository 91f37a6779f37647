use Rattle.std.proofs.Common.{ℕ, ◌≡◌, ◌++◌, arith, length-append, length, take, ap}
use Rattle.std.proofs.lemmas.List.{length-take, take_all}
use Rattle.rds_charset.proofs.PrintedText.{length-printed}
use Rattle.rds_charset.specs.Printed.{printed}
use Rattle.rds_charset.proofs.printing.push_text.Goals as goal

pub push_byte-requires : goal.push_byte-requires
push_byte-requires g c =
    let before = length-printed (take c.loop-byte.byte-index c.args.text.now) in
    (search arith, omega (arith, ap length c.loop-byte.invariant, length-append {A = ℕ}, length-take {A = ℕ}))

pub returns-clause-room : goal.returns-clause-room
returns-clause-room g c =
    let all : take c.loop-byte.byte-index c.args.text.now ≡ c.args.text.now = take_all _ _ (omega arith) in
    let pushed : length c.loop-byte.line ≡ length (c.args.line.now ++ printed c.args.text.now) = search arith in
    omega (arith, pushed, length-append c.args.line.now (printed c.args.text.now), length-printed c.args.text.now)
