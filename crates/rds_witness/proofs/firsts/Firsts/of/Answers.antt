use Rattle.std.proofs.Common.{[], ◌≡◌, ◌+◌, arith, length, subst, ℕ}
use Rattle.rds_receiver.specs.Receipts.{tuned}
use Rattle.rds_receiver.specs.Borrowed.{view_of}
use Rattle.rds_receiver.specs.Shown.{IsView}
use Rattle.rds_view_lines.specs.NoChange.{view_of_none}
use Rattle.rds_witness.specs.Firsts.{AreFirsts}
use Rattle.rds_witness.specs.Lost.{got, got-none}
use Rattle.rds_witness.proofs.Mixes.{first_none, nothing_new, shows_none, got_next, stands_more}
use Rattle.rds_witness.proofs.firsts.Firsts.of.Goals.{then-changed+in_ok-note, else-changed}
use Rattle.rds_witness.proofs.firsts.Firsts.of.Goals as goal

pub loop-slot-init : goal.loop-slot-init
loop-slot-init c =
    let t = tuned c.args.pi c.args.dwell in
    let log = c.args.log.now in
    record {
      stands = rw (got-none [] log) (c.new-receiver.ensures.stands 0);
      view = rw (got-none [] log) (_, view_of_none t, λ thing never. shows_none thing);
      firsts = first_none t log (record { slots = c.new.result }) c.new.ensures.empty;
    }

pub loop-slot-preserved : goal.loop-slot-preserved
loop-slot-preserved c =
    let t = tuned c.args.pi c.args.dwell in
    let log = c.args.log.now in
    let n = c.loop-slot.slot in
    let before = c.loop-slot.invariant in
    let next = got_next [] log n _ c.received.ensures in
    let stands = stands_more t _ [] log n _ c.received.ensures (c.slot_blocks-changed.ensures.stands t _ before.stands) in
    elim c.if-changed.branch [
      | then-changed+in_ok-note w ↦ (
          let is = w.view.ensures t _ stands in
          record {
            stands = stands;
            view = (view_of w.view.result, is, λ thing never. never n (view_of w.view.result) (omega arith) is);
            firsts = rw w.firsts-is (w.in_ok-note.ensures t log is before.firsts);
          })
      | else-changed w ↦ (
          let view = before.view.0 in
          let same = c.slot_blocks-changed.ensures.same w.if-changed.false view t (got [] log n) before.stands
          before.view.1 in
          let is : IsView t (got [] log (n + 1)) view = rw next same in
          record {
            stands = stands;
            view = (view, is, λ thing never. never n view (omega arith) is);
            firsts = rw w.firsts-is (λ thing. nothing_new t log n view is before.view.2 thing _ (before.firsts thing));
          })
    ]

pub returns : goal.returns
returns c = grind (arith, tuned)
