use Rattle.std.proofs.Common.{◌≡◌, ◌+◌, ◌*◌, ◌<◌, ◌≤◌, ◌∙◌, ℕ, arith, length, refl, sym}
use Rattle.rds_lines.proofs.Cutting.{ends_near, feeds_of_lanes, no_feeds}
use Rattle.rds_lines.proofs.cutter.near_end.Goals as goal

-- the lanes from a place on are there, since there are as many bytes as are near
lanes_fit : (size from k : ℕ) → from ≡ 16 * k → from < 64 → 64 ≤ size → from + 16 ≤ size
lanes_fit size from k at near many = omega (arith, at, near, many)

pub loop-from-init : goal.loop-from-init
loop-from-init c = record { lanes = (0, refl); near = omega arith; none = λ i below. absurd (omega (arith, below)) }

pub returns-then-feeds-ne0 : goal.returns-then-feeds-ne0
returns-then-feeds-ne0 c = search (lanes_fit, ends_near, feeds_of_lanes)

pub loop-from-preserved : goal.loop-from-preserved
loop-from-preserved c =
    let (k, at) = c.loop-from.invariant.lanes in
    let room = lanes_fit (length c.args.bytes.now) c.loop-from.from k at c.loop-from-test.true
    c.if-bytes-lt-NEAR.false in
    record {
      lanes = (k + 1, omega (arith, at));
      near = omega (arith, at, c.loop-from-test.true);
      none = λ i below. no_feeds c.args.bytes.now c.loop-from.from i room
          (sym (feeds_of_lanes c.args.bytes.now c.loop-from.from room) ∙ c.if-feeds-ne0.false)
          c.loop-from.invariant.none below;
    }
