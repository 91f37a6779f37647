use Rattle.std.proofs.Common.{arith}
use Rattle.rds_receiver.specs.Receipts.{tuned}
use Rattle.rds_witness.proofs.mix_lines.push_mixes.Goals as goal

pub push_mixes_of-requires-clause-around : goal.push_mixes_of-requires-clause-around
push_mixes_of-requires-clause-around c =
    let t = tuned c.args.pi c.args.dwell in
    record {
      inside = omega arith;
      was = c.view.ensures t _ c.receiver_before-before.ensures;
      is = c.view-2.ensures t _ c.receiver_before-after.ensures;
    }
