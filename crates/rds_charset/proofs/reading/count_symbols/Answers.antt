use Rattle.std.proofs.Common.{[], ◌∷◌, ◌++◌, length-append, refl, arith}
use Rattle.rds_charset.proofs.Symbols.{Begins-IsUtf8, Begins-length, IsReadUpTo-length, IsReadUpTo-push}
use Rattle.rds_charset.proofs.reading.count_symbols.Goals as goal

pub loop-after-init : goal.loop-after-init
loop-after-init c = record { is_text = c.utf8.text; read = ([], refl, refl) }

pub overflow_add-count : goal.overflow_add-count
overflow_add-count c = grind (arith, IsReadUpTo-length, Begins-length)

pub loop-after-smaller : goal.loop-after-smaller
loop-after-smaller c = grind (arith, Begins-length)

pub loop-after-preserved : goal.loop-after-preserved
loop-after-preserved c =
    let (bytes, read, count) = c.loop-after.invariant.read in
    let byte = c.in-Some.field-0-0 in
    let one = c.in-Some.ensures.some in
    let more = IsReadUpTo-push c.args.text.now bytes c.loop-after.rest.now byte c.in-Some.after.now read one in
    record {
      is_text = Begins-IsUtf8 c.loop-after.rest.now byte c.in-Some.after.now c.loop-after.invariant.is_text one;
      read = (bytes ++ byte ∷ [], more, omega (arith, length-append bytes (byte ∷ [])));
    }
