use Rattle.std.proofs.Common.{◌≡◌, ◌<◌, ◌∙◌, ◌∷◌, ℕ, arith, false, get_or, inl, inr, length, map, refl, set, subst, sym}
use Rattle.std.proofs.lemmas.Grind.{common_steps}
use Rattle.std.proofs.lemmas.List.{get_or-set_same}
use Rattle.std.proofs.lemmas.Option.{get_or_from_slice_get, slice_get-get_or, slice_get_within}
use Rattle.rds_view_lines.specs.KeptView.{view_shown}
use Rattle.rds_view_lines.specs.declared.shown.Shown.{Shown}
use Rattle.rds_world.specs.Slots.{input_of}
use Rattle.rds_world.specs.State.{distance}
use Rattle.rds_world.specs.WorldAt.{ShowsStill}
use Rattle.rds_script.specs.Inside.Watched.{IsDisplayAt}
use Rattle.rds_script.specs.Outcomes.{whys_at}
use Rattle.rds_script.proofs.Displays.{other_display, plain_displays, plain_next}
use Rattle.rds_script.proofs.OneOutcome.{at_last, next_changes, no_changes, none_changes, other_set, stay_changes}
use Rattle.rds_script.proofs.watched.push_views.Goals as goal

pub loop-i-init : goal.loop-i-init
loop-i-init c = record {
  count = refl;
  room = omega arith;
  lines = λ count config events st. no_changes c.args.slot
      (whys_at c.args.form.now config c.args.event.now.receptions events) c.args.lines.now _ _;
  displays = λ count config before st are k s below at. absurd (omega (arith, below));
  later = λ k l. refl;
  same = λ k l. refl;
}

pub loop-i-preserved : goal.loop-i-preserved
loop-i-preserved c =
    let i = c.loop-i.i in
    let shown = c.loop-i.shown in
    let new = c.push_view.new.shown in
    let d = c.index-shown-i.result in
    let within : i < length shown = omega (arith, c.loop-i-test.true, c.loop-i.invariant.count) in
    record {
      count = grind (arith, common_steps);
      room = omega (arith, c.push_view.ensures.room, c.loop-i.invariant.room);
      lines = λ count config events st.
          let whys = whys_at c.args.form.now config c.args.event.now.receptions events in
          next_changes c.args.slot i whys (whys i) c.args.shown.now shown d new c.args.lines.now c.loop-i.lines
          c.push_view.new.lines within c.loop-i.invariant.later (c.loop-i.invariant.lines count config events st)
          (c.push_view.ensures.changes (omega (arith, c.loop-i-test.true, count)) config events st) refl;
      displays = λ count config before st are k s below at. elim (at_last k i below) [
        | inl less ↦ c.loop-i.invariant.displays count config before st are k s less
            (sym (other_display shown i k new (λ e. omega (arith, e, less))) ∙ at)
        | inr same ↦ (
            let here : new ≡ s = sym (get_or-set_same shown i new d within)
            ∙ get_or_from_slice_get (set shown i new) i s d (rw same at at) in
            let old = are i (get_or shown i d) (sym (c.loop-i.invariant.same i (omega arith))
            ∙ slice_get-get_or shown i d within) in
            let next = c.push_view.ensures.display (omega (arith, c.loop-i-test.true, count)) c.args.keep config before
            st old in
            subst (λ (m : ℕ). IsDisplayAt c.args.keep config
            (input_of (distance config) m (c.args.event.now ∷ before)) s) (sym same)
            (subst (λ (x : Shown). IsDisplayAt c.args.keep config
            (input_of (distance config) i (c.args.event.now ∷ before)) x) here next)
            )
      ];
      later = λ k l. other_set shown i k new (λ e. omega (arith, e, l))
          ∙ c.loop-i.invariant.later k (omega (arith, l));
      same = λ k l. other_display shown i k new (λ e. omega (arith, e, l))
          ∙ c.loop-i.invariant.same k (omega (arith, l));
    }

-- the display of a receiver that shows what it showed
pub loop-i-preserved-then-not-changed : goal.loop-i-preserved-then-not-changed
loop-i-preserved-then-not-changed c =
    let i = c.loop-i.i in
    let shown = c.loop-i.shown in
    let none : c.args.keep ≡ 0 = search arith in
    let calm : c.changed.result ≡ false = grind arith in
    record {
      count = c.loop-i.invariant.count;
      room = omega (arith, c.loop-i.invariant.room);
      lines = λ count config events st.
          let whys = whys_at c.args.form.now config c.args.event.now.receptions events in
          stay_changes c.args.slot i whys (map view_shown c.args.shown.now) (map view_shown shown) c.args.lines.now
          c.loop-i.lines (c.loop-i.invariant.later i (omega arith)) (c.loop-i.invariant.lines count config events st);
      displays = λ count config before st are k s below at. elim (at_last k i below) [
        | inl less ↦ c.loop-i.invariant.displays count config before st are k s less at
        | inr same ↦ plain_next c.args.keep config (input_of (distance config) k before)
            (input_of (distance config) k (c.args.event.now ∷ before)) s none
            (are k s (sym (c.loop-i.invariant.same k (omega (arith, same))) ∙ at))
            (subst (λ (m : ℕ). ShowsStill config m (c.args.event.now ∷ before)) (sym same)
            (c.changed.ensures calm config (c.args.event.now ∷ before) st))
      ];
      later = λ k l. c.loop-i.invariant.later k (omega (arith, l));
      same = λ k l. c.loop-i.invariant.same k (omega (arith, l));
    }

pub returns-then-not-any_changed-clause-lines : goal.returns-then-not-any_changed-clause-lines
returns-then-not-any_changed-clause-lines c same config events s = search none_changes

pub returns-then-not-any_changed-clause-displays : goal.returns-then-not-any_changed-clause-displays
returns-then-not-any_changed-clause-displays c count config before st are =
    let none : c.args.keep ≡ 0 = search arith in
    let calm : c.any_changed.result ≡ false = grind arith in
    plain_displays c.args.keep config c.args.event.now before c.args.shown.now none are
    (λ i within. c.any_changed.ensures calm config (c.args.event.now ∷ before) st i (rw count at within))

pub returns-clause-displays : goal.returns-clause-displays
returns-clause-displays c count config before st are k s at =
    c.loop-i.invariant.displays count config before st are k s
    (omega (arith, slice_get_within c.loop-i.shown k s at, c.loop-i.invariant.count)) at
