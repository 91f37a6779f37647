use Rattle.std.proofs.Common.{◌<◌, ℕ, length, take, arith}
use Rattle.std.proofs.Math.ListN.{length-set}
use Rattle.std.proofs.lemmas.Grind.{drop_more_same}
use Rattle.std.proofs.lemmas.List.{drop-set-lt, take_more_set}
use Rattle.rds_charset.proofs.Symbols.{Begins-IsUtf8, Begins-length, IsReadAs-end, IsReadAs-step, IsReadUpTo-push}
use Rattle.rds_charset.proofs.reading.fill.Goals as goal

pub loop-byte-init : goal.loop-byte-init
loop-byte-init c = grind (arith)

pub bounds-into-count : goal.bounds-into-count
bounds-into-count c = grind (arith, IsReadAs-step)

pub loop-byte-smaller : goal.loop-byte-smaller
loop-byte-smaller c = grind (arith, Begins-length)

pub loop-byte-preserved : goal.loop-byte-preserved
loop-byte-preserved c =
    let (bytes, unread, room) = c.loop-byte.invariant.unread in
    let one = c.in-Some.ensures.some in
    let step = IsReadAs-step c.loop-byte.rest.now c.in-Some.byte c.in-Some.after.now bytes unread one in
    let within : c.loop-byte.count < length c.loop-byte.into = omega arith in
    record {
      is_text = Begins-IsUtf8 c.loop-byte.rest.now c.in-Some.byte c.in-Some.after.now c.loop-byte.invariant.is_text one;
      read = rw (take_more_set c.loop-byte.into c.loop-byte.count c.in-Some.byte within)
          (IsReadUpTo-push c.args.text.now (take c.loop-byte.count c.loop-byte.into) c.loop-byte.rest.now c.in-Some.byte
          c.in-Some.after.now c.loop-byte.invariant.read one);
      unread = (step.0, step.1, omega (arith, length-set {A = ℕ}));
      kept = search (arith, drop-set-lt, drop_more_same);
    }

pub returns-clause-bytes : goal.returns-clause-bytes
returns-clause-bytes c =
    let unread = c.loop-byte.invariant.unread in
    rw (IsReadAs-end c.loop-byte.rest.now unread.0 unread.1 c.in_default.ensures.none) at c.loop-byte.invariant.read

pub returns-clause-count : goal.returns-clause-count
returns-clause-count c = omega (arith, c.loop-byte.invariant.unread.2)
