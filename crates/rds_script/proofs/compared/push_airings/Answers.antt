use Rattle.std.proofs.Common.{◌≡◌, ◌≢◌, ◌<◌, ◌∙◌, ◌++◌, ℕ, List, Option, Some, ap, ap₂, arith, inl, inr, length, map}
use Rattle.std.proofs.Common.{refl, set, sym, subst}
use Rattle.std.proofs.lemmas.Grind.{common_steps, get_or-set_at}
use Rattle.std.proofs.lemmas.List.{get_or-map, get_or-set_other, get_or_default}
use Rattle.rds_receiver.specs.Borrowed.{view_of}
use Rattle.rds_receiver.specs.Shown.{ShownView}
use Rattle.rds_view_lines.specs.KeptView.{view_shown}
use Rattle.rds_view_lines.specs.Output.{nothing_shown, receiver_prefix}
use Rattle.rds_world.specs.Event.{Event}
use Rattle.rds_world.specs.WorldAt.{WorldAt}
use Rattle.rds_world.specs.declared.world.Config.{Config}
use Rattle.rds_script.specs.declared.airing.Airings.{Airings}
use Rattle.rds_script.specs.Inside.Compared.{AirsStand, WereBefore, WereKept, airings_at, all_on_air}
use Rattle.rds_script.specs.OnAir.{airings}
use Rattle.rds_script.specs.Outcomes.{airings_change, view_at}
use Rattle.rds_script.proofs.OneOutcome.{at_last, next_airings, no_airings, none_before, still_before}
use Rattle.rds_script.proofs.compared.push_airings.Goals as goal
use Rattle.rds_script.proofs.compared.push_airings.Goals.{else-changed, then-changed}

pub loop-i-init : goal.loop-i-init
loop-i-init c = grind (arith, no_airings)

pub loop-i-preserved : goal.loop-i-preserved
loop-i-preserved c =
    let i = c.loop-i.i in
    let now = c.airings_of-now.result in
    let old = c.loop-i.kept in
    let new = set old i now in
    let within : i < length old = omega (arith, c.if-i-kept.false) in
    let other = λ (j : ℕ) (ne : j ≢ i). get_or-set_other old i j now all_on_air ne in
    let here : airings_at new i ≡ now = get_or-set_at old i i now all_on_air refl within in
    let view = c.view.ensures
    ∙ sym (get_or-map view_shown c.args.shown.now i c.index-shown-i.result nothing_shown
    (omega (arith, c.loop-i-test.true))) in
    let at = get_or_default old i _ all_on_air within ∙ c.loop-i.invariant.later i (omega arith) in
    let kept_before : (config : Config) (events : List Event) → WorldAt config c.args.world.now events
    → WereKept config (length c.args.shown.now) events c.args.kept.now (map view_shown c.args.shown.now)
    → WereBefore config events (view_of c.view.result) c.if-changed.before =
    λ config events st were. elim c.if-changed.branch [
      | then-changed w ↦ subst (λ (o : Option Airings). WereBefore config events (view_of c.view.result) o)
          (sym w.before-is) (none_before config events (view_of c.view.result))
      | else-changed w ↦ (
          let before = w.before-is ∙ ap Some at in
          let still = still_before config (length c.args.shown.now) i events (map view_shown c.args.shown.now)
          c.args.kept.now (c.changed.ensures w.if-changed.false config events st) were (omega (arith, c.loop-i-test.true)) in
          subst (λ (o : Option Airings). WereBefore config events (view_of c.view.result) o) (sym before)
          (subst (λ (v : ShownView). WereBefore config events v (Some (airings_at c.args.kept.now i))) (sym view) still)
          )
    ] in
    let shown : (config : Config) (events : List Event) → WorldAt config c.args.world.now events
    → AirsStand config events c.args.airs.now
    → WereKept config (length c.args.shown.now) events c.args.kept.now (map view_shown c.args.shown.now)
    → now ≡ airings config events (view_at (map view_shown c.args.shown.now) i) =
    λ config events st stand were. c.airings_of-now.ensures config events stand (kept_before config events st were)
    ∙ ap (λ (v : ShownView). airings config events v) view in
    record {
      count = grind (arith, common_steps);
      room = omega (arith, c.push_changed.ensures.room, c.loop-i.invariant.room);
      lines = next_airings c.args.slot i c.args.lines.now c.loop-i.lines c.push_changed.new.lines
          (airings_at c.args.kept.now) (airings_at old) (airings_at new)
          (λ j l. sym (other j (λ e. omega (arith, e, l)))) c.loop-i.invariant.lines
          (c.push_changed.ensures.lines
          ∙ ap₂ (λ (p q : Airings). c.loop-i.lines ++ airings_change (receiver_prefix c.args.slot i) p q)
          at (sym here));
      each = λ config events st stand were j below. elim (at_last j i below) [
        | inl less ↦ other j (λ e. omega (arith, e, less)) ∙ c.loop-i.invariant.each config events st stand were j less
        | inr same ↦ subst (λ (n : ℕ). airings_at new n ≡ airings config events
            (view_at (map view_shown c.args.shown.now) n)) (sym same) (here ∙ shown config events st stand were)
      ];
      later = λ j l. other j (λ e. omega (arith, e, l)) ∙ c.loop-i.invariant.later j (omega (arith, l));
    }
