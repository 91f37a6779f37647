use Rattle.std.proofs.Common.{[], ◌≡◌, ◌+◌, All, arith, inl, inr, subst, sym}
use Rattle.std.proofs.lemmas.Bool.{cases_lt}
use Rattle.std.proofs.lemmas.List.Elements.{All-nil}
use Rattle.rds_receiver.specs.Receipts.{tuned}
use Rattle.rds_receiver.specs.Shown.{IsView, ShownView}
use Rattle.rds_view_lines.specs.NoChange.{view_of_none}
use Rattle.rds_witness.specs.Lost.{got, got-none}
use Rattle.rds_witness.specs.Search.{HasViews, IsOfRun, IsSeen}
use Rattle.rds_witness.proofs.Mixes.{got_next, stands_more}
use Rattle.rds_witness.proofs.seen.AllSeen.of.Goals.{then-changed+in_ok-note, else-changed}
use Rattle.rds_witness.proofs.seen.AllSeen.of.Goals as goal

pub loop-slot-init : goal.loop-slot-init
loop-slot-init c =
    let t = tuned c.args.pi c.args.dwell in
    let log = c.args.log.now in
    record {
      stands = rw (got-none [] log) (c.new-whole.ensures.stands 0);
      view = rw (got-none [] log) (_, view_of_none t);
      views = λ slot less. absurd (omega arith);
      seen = rw c.new.ensures.items (All-nil (IsSeen t log));
      pairs = rw c.new-2.ensures.items (All-nil (IsOfRun t log 0));
    }

pub loop-slot-preserved : goal.loop-slot-preserved
loop-slot-preserved c =
    let t = tuned c.args.pi c.args.dwell in
    let log = c.args.log.now in
    let n = c.loop-slot.slot in
    let before = c.loop-slot.invariant in
    let next = got_next [] log n _ c.received.ensures in
    let stands = stands_more t _ [] log n _ c.received.ensures (c.slot_blocks-changed.ensures.stands t _ before.stands) in
    let pairs = c.drop_pairs.ensures.pairs c.args.pi c.args.dwell n log before.stands stands before.pairs in
    let seen = subst (λ v. All (IsSeen t log) v.items) (sym c.drop_pairs.ensures.seen) before.seen in
    let views : (view : ShownView) × IsView t (got [] log (n + 1)) view
    → HasViews t log (n + 1) = λ view slot less. elim (cases_lt slot n) [
      | inl earlier ↦ before.views slot earlier
      | inr from ↦ (let here : n ≡ slot = omega arith in rw here at view)
    ] in
    elim c.if-changed.branch [
      | then-changed+in_ok-note w ↦ (
          let noted = w.in_ok-note.ensures t log c.loop-slot-test.true stands seen pairs in
          record {
            stands = stands;
            view = noted.2;
            views = views noted.2;
            seen = rw w.all-is noted.0;
            pairs = rw w.all-is noted.1;
          })
      | else-changed w ↦ (
          let same = c.slot_blocks-changed.ensures.same w.if-changed.false before.view.0 t (got [] log n) before.stands
          before.view.1 in
          let view : (view : ShownView) × IsView t (got [] log (n + 1)) view = (before.view.0, rw next same) in
          record {
            stands = stands;
            view = view;
            views = views view;
            seen = rw w.all-is seen;
            pairs = rw w.all-is pairs;
          })
    ]

pub returns : goal.returns
returns c = (c.loop-slot.invariant.seen, λ slot less. c.loop-slot.invariant.views slot (omega arith))
