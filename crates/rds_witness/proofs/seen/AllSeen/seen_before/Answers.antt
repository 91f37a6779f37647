use Rattle.std.proofs.Common.{arith, Contains}
use Rattle.rds_witness.proofs.seen.AllSeen.seen_before.Goals as goal

pub returns-then-seen-slots : goal.returns-then-seen-slots
returns-then-seen-slots c =
    let seen = c.seen_at-seen.result.now in
    let here : Contains c.as_slice.result.now seen = (
      _,
      omega
          (arith, c.if-place-len.false, c.len.ensures, c.as_slice.ensures.len),
      c.seen_at-seen.ensures seen,
    ) in
    (c.if-seen-slots.true, rw c.as_slice.ensures.value at here)
