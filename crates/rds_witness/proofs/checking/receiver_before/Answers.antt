use Rattle.std.proofs.Common.{◌≡◌, arith}
use Rattle.rds_witness.specs.Lost.{got-none}
use Rattle.rds_witness.proofs.Mixes.{stands_more}
use Rattle.rds_witness.proofs.checking.receiver_before.Goals as goal

pub loop-n-init : goal.loop-n-init
loop-n-init c = rw (got-none c.args.lost.now c.args.log.now) (c.new-receiver.ensures.stands 0)

pub loop-n-preserved : goal.loop-n-preserved
loop-n-preserved c = stands_more _ _ _ _ _ _ c.received.ensures (c.slot_blocks.ensures.stands _ _ c.loop-n.invariant)

pub returns : goal.returns
returns c =
    let end : c.loop-n.n ≡ c.args.slot = omega (arith, c.loop-n.auto.n-end, c.loop-n-test.false) in
    grind (arith)
