use Rattle.std.proofs.Common.{None, Some, arith, refl, subst, sym}
use Rattle.rds_wire.proofs.Delivered.{Delivered, deliver, lost_is_line, none_delivered, reaches}
use Rattle.rds_wire.proofs.arrivals.received.Goals.{in-Some+in_ok-extend_from_slice-in-Some}
use Rattle.rds_wire.proofs.arrivals.received.Goals.{in-None+in_ok-extend_from_slice-in-None}
use Rattle.rds_wire.proofs.arrivals.received.Goals as goal

pub loop-slot-init : goal.loop-slot-init
loop-slot-init c = record {
  delivered = subst (λ got. Delivered c.args.late c.args.log.now got 0 0) (sym c.new-got.ensures.items)
      (none_delivered c.args.late c.args.log.now);
}

pub loop-slot-preserved : goal.loop-slot-preserved
loop-slot-preserved c = record {
  delivered = elim c.match-came.branch [
    | in-Some+in_ok-extend_from_slice-in-Some w ↦
        rw (c.in_ok-push.ensures.items, w.got-is, w.in_ok-extend_from_slice-in-Some.ensures.items, w.next-is)
        (deliver c.args.late c.args.log.now c.loop-slot.got.items c.loop-slot.next c.loop-slot.slot _ _
        (Some w.in-Some.sent) c.loop-slot.invariant.delivered w.in-Some.ensures.is w.in-Some.ensures.is_slot
        (w.in-Some.ensures.line, w.in-Some.ensures.due.1, w.in-Some.ensures.due.2) (w.in-Some.ensures.due.0, refl))
    | in-None+in_ok-extend_from_slice-in-None w ↦
        rw (c.in_ok-push.ensures.items, w.got-is, w.in_ok-extend_from_slice-in-None.ensures.items, w.next-is)
        (deliver c.args.late c.args.log.now c.loop-slot.got.items c.loop-slot.next c.loop-slot.slot _ _ None
        c.loop-slot.invariant.delivered lost_is_line refl refl refl)
  ];
}

pub returns-clause-reaches : goal.returns-clause-reaches
returns-clause-reaches c pi =
    reaches c.args.late c.args.log.now c.loop-slot.got.items _ _ pi c.loop-slot.invariant.delivered (grind (arith))
