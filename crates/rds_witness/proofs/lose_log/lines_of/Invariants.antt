use Rattle.rds_receiver.specs.Receipts.{tuned}
use Rattle.rds_receiver.specs.ReceiverAt.{ReceiverAt}
use Rattle.rds_witness.specs.LossLines.{AreLossLines}
use Rattle.rds_witness.specs.Lost.{got}
use Rattle.rds_witness.proofs.lose_log.lines_of.Given as goal

abbrev pub invariant-loop-slot : goal.invariant-loop-slot
invariant-loop-slot l = record {
  stands : ReceiverAt (tuned l.losing.pi l.losing.dwell) l.receiver
      (got l.losing.lost.now l.log l.slot);
  lines : AreLossLines (tuned l.losing.pi l.losing.dwell) l.losing.ahead l.log l.losing.lost.now l.slot l.lines.items;
}
