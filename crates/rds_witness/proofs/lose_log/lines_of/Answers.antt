use Rattle.std.proofs.Common.{arith}
use Rattle.rds_receiver.specs.Receipts.{tuned}
use Rattle.rds_witness.specs.Lost.{got-none}
use Rattle.rds_witness.proofs.Mixes.{adds_first}
use Rattle.rds_witness.proofs.lose_log.lines_of.Goals as goal

pub loop-slot-init : goal.loop-slot-init
loop-slot-init c =
    let losing = c.args.losing.now in
    record {
      stands = rw (got-none losing.lost.now c.args.log.now) (c.new-receiver.ensures.stands 0);
      lines = adds_first (tuned losing.pi losing.dwell) losing.ahead _ losing.lost.now _ c.new-lines.ensures.items;
    }

pub loop-slot-preserved : goal.loop-slot-preserved
loop-slot-preserved c =
    grind (arith, c.play_slot.ensures.stands, c.in_ok-play_slot.ensures.lines, c.loop-slot.invariant.lines)
