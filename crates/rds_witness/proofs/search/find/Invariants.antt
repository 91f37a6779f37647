use Rattle.rds_receiver.specs.Receipts.{tuned}
use Rattle.rds_witness.specs.Mix.{until}
use Rattle.rds_witness.specs.Search.{NoMixesIn, ShowOnlySeen, StandsAfter}
use Rattle.rds_witness.proofs.search.find.Given as goal

abbrev pub invariant-loop-slot : goal.invariant-loop-slot
invariant-loop-slot l = record {
  stands : StandsAfter (tuned l.fn.pi l.fn.dwell) l.log l.slot l.sweep;
  losing : ShowOnlySeen (tuned l.fn.pi l.fn.dwell) l.log (until l.fn.dwell l.log l.slot) l.sweep.losing.items;
  hearing : ShowOnlySeen (tuned l.fn.pi l.fn.dwell) l.log (until l.fn.dwell l.log l.slot) l.sweep.hearing.items;
  none : NoMixesIn (tuned l.fn.pi l.fn.dwell) l.log l.slot;
}
