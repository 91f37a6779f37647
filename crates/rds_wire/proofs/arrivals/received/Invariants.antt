use Rattle.rds_wire.proofs.Delivered.{Delivered}
use Rattle.rds_wire.proofs.arrivals.received.Given as goal

abbrev pub invariant-loop-slot : goal.invariant-loop-slot
invariant-loop-slot l = record {
  delivered : Delivered l.late l.log l.got.items l.next l.slot;
}
