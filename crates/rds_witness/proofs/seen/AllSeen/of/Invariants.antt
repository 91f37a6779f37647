use Rattle.std.proofs.Common.{[], All}
use Rattle.rds_receiver.specs.Receipts.{tuned}
use Rattle.rds_receiver.specs.Shown.{IsView, ShownView}
use Rattle.rds_receiver.specs.ReceiverAt.{ReceiverAt}
use Rattle.rds_witness.specs.Lost.{got}
use Rattle.rds_witness.specs.Search.{HasViews, IsOfRun, IsSeen}
use Rattle.rds_witness.proofs.seen.AllSeen.of.Given as goal

abbrev pub invariant-loop-slot : goal.invariant-loop-slot
invariant-loop-slot l = record {
  stands : ReceiverAt (tuned l.fn.pi l.fn.dwell) l.whole (got [] l.log l.slot);
  view : (view : ShownView) × IsView (tuned l.fn.pi l.fn.dwell) (got [] l.log l.slot) view;
  views : HasViews (tuned l.fn.pi l.fn.dwell) l.log l.slot;
  seen : All (IsSeen (tuned l.fn.pi l.fn.dwell) l.log) l.all.seen.items;
  pairs : All (IsOfRun (tuned l.fn.pi l.fn.dwell) l.log l.slot) l.all.pairs.items;
}
