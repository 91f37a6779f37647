use Rattle.std.proofs.Common.{ℕ, arith, length-append, length, take, ap}
use Rattle.std.proofs.lemmas.List.{length-take}
use Rattle.rds_charset.proofs.PrintedText.{length-displayed}
use Rattle.rds_charset.proofs.display.push_displayed.Goals as goal

pub push_character-requires : goal.push_character-requires
push_character-requires g c =
    let before = length-displayed (take c.loop-byte.byte-index c.args.text.now) in
    omega (arith, ap length c.loop-byte.invariant, length-append {A = ℕ}, length-take {A = ℕ})
