use Rattle.rds_receiver.specs.Receipts.{tuned}
use Rattle.rds_receiver.specs.ReceiverAt.{ReceiverAt}
use Rattle.rds_witness.specs.Lost.{got}
use Rattle.rds_witness.proofs.checking.receiver_before.Given as goal

abbrev pub invariant-loop-n : goal.invariant-loop-n
invariant-loop-n l = ReceiverAt (tuned l.fn.pi l.fn.dwell) l.receiver (got l.lost l.log l.n)
