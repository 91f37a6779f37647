use Rattle.circular_buffer.proofs.Places.{slice_get-set_other}
use Rattle.std.proofs.lemmas.List.{get_or-set_other, get_or-set_same, get_or_default, length-set}
use Rattle.std.proofs.Common.{◌≡◌, ◌∙◌, Some, arith, true, inl, inr, length, sym, slice_get, slice_index_or}
use Rattle.std.proofs.lemmas.Bool.{cases_lt}
use Rattle.std.proofs.lemmas.Option.{slice_get-get_or, slice_get_within}
use Rattle.rds_receiver.specs.declared.receiver.Receiver.{Receiver}
use Rattle.rds_world.specs.declared.event.Reception.TheVariants.{Lost}
use Rattle.rds_world.proofs.Received.{both_fail, marked, written}
use Rattle.rds_world.proofs.receivers.hand_out.Goals as goal

pub loop-i-preserved : goal.loop-i-preserved
loop-i-preserved c =
    let rs = c.loop-i.receivers in
    let i = c.loop-i.i in
    let new = c.receive-changed.new.receiver in
    let config = c.args.config.now in
    let long : length rs ≡ length c.args.receivers.now = c.loop-i.invariant.count in
    let given : length c.args.receptions.now ≡ length c.args.receivers.now = c.requires.same in
    let at : (d : Receiver) → slice_get rs i ≡ Some (slice_index_or rs i d) =
    λ d. slice_get-get_or rs i d (omega (arith, long, c.loop-i-test.true)) in
    let told : slice_index_or c.args.receptions.now i Lost ≡ c.index-receptions-i.result =
    search (arith, get_or_default) in
    record {
      count = length-set _ _ _ ∙ c.loop-i.invariant.count;
      rest = λ k h. grind (arith, slice_get-set_other rs i k new, c.loop-i.invariant.rest k);
      done = λ slot sent inputs last kept due all k r h e.
          let old = all.each i _ (sym (c.loop-i.invariant.rest i (omega arith)) ∙ at _) in
          let has = c.receive-changed.ensures.heard slot sent (inputs i) (last i) kept (rw told at (due i)) old in
          elim (cases_lt k i) [
            | inl less ↦ c.loop-i.invariant.done slot sent inputs last kept due all k r less
                (sym (slice_get-set_other rs i k new (λ e. omega arith)) ∙ e)
            | inr more ↦ (
                let here : k ≡ i = omega (arith, h, more) in
                let same : new ≡ r = written rs i new r (rw here at e) in
                rw (here, ← same, told) has)
          ];
      later = λ k h.
          grind (arith, get_or-set_other c.loop-i.each i k c.receive-changed.result true, c.loop-i.invariant.later k);
      same = λ slot sent inputs last kept due all k h is.
          let old = all.each i _ (sym (c.loop-i.invariant.rest i (omega arith)) ∙ at _) in
          let stay = c.receive-changed.ensures.same slot sent (inputs i) (last i) kept (rw told at (due i)) old in
          elim (cases_lt k i) [
            | inl less ↦ c.loop-i.invariant.same slot sent inputs last kept due all k less
                (sym (get_or-set_other c.loop-i.each i k c.receive-changed.result true (λ e. omega arith)) ∙ is)
            | inr more ↦ grind (arith, marked)
          ];
      eight = length-set _ _ _ ∙ c.loop-i.invariant.eight;
      any = λ every k below.
          search (arith, get_or-set_same, get_or-set_other, both_fail);
    }

pub returns-clause-same : goal.returns-clause-same
returns-clause-same c slot sent inputs last kept due all k is =
    grind (arith, c.loop-i.invariant.same slot sent inputs last kept due all k, c.loop-i.invariant.later k)

pub returns-clause-heard : goal.returns-clause-heard
returns-clause-heard c slot sent inputs last kept due all =
    grind (arith, slice_get_within, c.loop-i.invariant.done slot sent inputs last kept due all)
