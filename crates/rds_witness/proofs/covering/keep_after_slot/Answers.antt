use Rattle.std.proofs.Common.{◌≡◌, ◌+◌, ◌∷◌, arith, get_or, inl, inr}
use Rattle.std.proofs.lemmas.Bool.{cases_lt}
use Rattle.rds_receiver.specs.Receipts.{tuned}
use Rattle.rds_witness.specs.declared.covering.Lossy.{Lossy}
use Rattle.rds_witness.proofs.HeldParts.{at_next, covers_next}
use Rattle.rds_witness.proofs.covering.keep_after_slot.Goals as goal

pub loop-place-init : goal.loop-place-init
loop-place-init c = grind (arith)

pub loop-place-preserved : goal.loop-place-preserved
loop-place-preserved c =
    let now = c.loop-place.place in
    let one = c.receiver_at.result.now in
    let is : (d : Lossy) → get_or c.args.receivers.now now d ≡ one = c.receiver_at.ensures in
    let later = c.take_slot.new.one in
    let step = c.take_slot.ensures in
    record {
      covers = λ pi m n at kept_at.
          let so_far = c.loop-place.invariant.covers pi m n at kept_at in
          let its = rw (is one) at (at now one (omega arith)) in
          let keeps = c.in_ok-keep.ensures.covers pi m (n + 1) so_far.at (at_next pi m n one later c.args.group.now
          step.stands its) in
          record {
            at = keeps.at;
            stays = λ input covered. keeps.stays input (so_far.stays input covered);
            more = λ place d input less long covers. elim (cases_lt place now) [
              | inl before ↦ keeps.stays (c.args.group.now ∷ input) (so_far.more place d input before long covers)
              | inr from ↦ (
                  let here : place ≡ now = omega arith in
                  let covers_here = rw (here, is d) at covers in
                  keeps.more (c.args.group.now ∷ input) (omega arith)
                  (covers_next pi m one later c.args.group.now input step.stands covers_here))
            ];
          };
      checked = λ pi m n k log at only checked.
          let its = rw (is one) at (at now one (omega arith)) in
          let only_here = rw (is one) at (only now one (omega arith)) in
          c.in_ok-keep.ensures.checked (tuned pi m) log k (c.loop-place.invariant.checked pi m n k log at only checked)
          (step.same (tuned pi m) log k its.input its.stands only_here);
    }

pub returns-clause-covers : goal.returns-clause-covers
returns-clause-covers c pi m n at kept_at =
    let all = c.loop-place.invariant.covers pi m n at kept_at in
    record {
      at = all.at;
      stays = all.stays;
      more = λ input long covered.
          let (place, inside, is) = covered.is_there in
          all.more place covered.by input (omega arith) long (rw (← is) at covered.covers);
    }
