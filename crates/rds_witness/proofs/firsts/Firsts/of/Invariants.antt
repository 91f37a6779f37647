use Rattle.std.proofs.Common.{[]}
use Rattle.rds_receiver.specs.Receipts.{tuned}
use Rattle.rds_receiver.specs.ReceiverAt.{ReceiverAt}
use Rattle.rds_receiver.specs.Shown.{IsView, ShownView}
use Rattle.rds_witness.specs.Firsts.{AreFirsts}
use Rattle.rds_witness.specs.Lost.{got}
use Rattle.rds_witness.specs.Mix.{NeverShows, Thing, ViewHas}
use Rattle.rds_witness.proofs.firsts.Firsts.of.Given as goal

abbrev pub invariant-loop-slot : goal.invariant-loop-slot
invariant-loop-slot l = record {
  stands : ReceiverAt (tuned l.fn.pi l.fn.dwell) l.receiver (got [] l.log l.slot);
  view : (view : ShownView) × IsView (tuned l.fn.pi l.fn.dwell) (got [] l.log l.slot) view
      × ((thing : Thing) → NeverShows (tuned l.fn.pi l.fn.dwell) l.log l.slot thing → ViewHas view thing → ⊥);
  firsts : AreFirsts (tuned l.fn.pi l.fn.dwell) l.log l.slot l.firsts;
}
