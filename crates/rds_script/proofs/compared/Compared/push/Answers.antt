use Rattle.std.proofs.Common.{◌≡◌, ◌<◌, ◌∙◌, ◌∷◌, ◌++◌, [], ℕ, List, None, ap, ap₂, append_assoc, arith, drop, length}
use Rattle.std.proofs.Common.{map}
use Rattle.std.proofs.lemmas.List.{length-map, take_at}
use Rattle.arrayvec.specs.ArrayVec.{with_items}
use Rattle.rds_receiver.specs.Shown.{ShownView}
use Rattle.rds_view_lines.specs.KeptView.{view_shown}
use Rattle.rds_view_lines.specs.Output.{air_prefix, change}
use Rattle.rds_world.specs.Event.{Event}
use Rattle.rds_world.specs.OnAir.{air_of}
use Rattle.rds_world.specs.WorldAt.{WorldAt}
use Rattle.rds_world.specs.declared.world.Config.{Config}
use Rattle.rds_script.specs.Inside.Compared.{AirsStand, GoesOnCompared, airings_at, newest_of}
use Rattle.rds_script.specs.OnAir.{airings}
use Rattle.rds_script.specs.Outcomes.{airings_changes, view_at}
use Rattle.rds_script.proofs.Periods.{newest_air}
use Rattle.rds_script.proofs.OneOutcome.{airings_alike}
use Rattle.rds_script.proofs.compared.Compared.push.Goals as goal

pub returns : goal.returns
returns c = record { goes_on = by }
  where
    by : (config : Config) (events : List Event) → WorldAt config c.args.world.now events
        → GoesOnCompared (record { config = config; slot = c.args.slot; shown = map view_shown c.args.shown.now }) events
        c.args.self.now
        record { airs = c.step.new.self; airings = with_items c.args.self.now.airings c.push_airings.new.kept }
        c.args.lines.now c.push_airings.new.lines
    by config [] st = tt
    by config (e ∷ before) st = λ views were are old.
        let slot = c.args.slot in
        let shown = map view_shown c.args.shown.now in
        let had = c.args.self.now.airings.items in
        let new = c.push_airings.new.kept in
        let value = c.as_mut_slice.ensures.value in
        let long : length shown ≡ length c.args.shown.now = length-map c.args.shown.now view_shown in
        let as_many : length c.as_mut_slice.result.now ≡ length c.args.shown.now = ap length value ∙ old.count ∙ long in
        let airs : AirsStand config (e ∷ before) c.step.new.self = record {
          airs = c.step.ensures.airs config (e ∷ before) st ∙ ap (λ (l : List ShownView). air_of config (e ∷ before)
              ∷ l) old.airs.airs;
          spacing = c.step.ensures.spacing ∙ old.airs.spacing;
          some = omega (arith, c.step.ensures.spacing, old.airs.some);
        } in
        let was : (i : ℕ) → i < length shown
        → airings_at c.as_mut_slice.result.now i ≡ airings config before (view_at views i) =
        λ i below. rw value (old.each i below) in
        let each : (i : ℕ) → i < length shown → airings_at new i ≡ airings config (e ∷ before) (view_at shown i) =
        λ i below. c.push_airings.ensures.each as_many config (e ∷ before) st airs (
          views,
          (λ j l. were j (omega (arith, l, long))),
          (λ j l. are j (omega (arith, l, long))),
          (λ j l. was j (omega (arith, l, long))),
        ) i (omega (arith, below, long)) in
        let count : length new ≡ length had = c.push_airings.ensures.count ∙ ap length value in
        let back = take_at new (drop (length new) had) (length had) count in
        let air : c.step.new.lines ≡ c.args.lines.now ++ change (air_prefix slot) None (air_of config before)
        (air_of config (e ∷ before)) =
        c.step.ensures.lines config (e ∷ before) st
        ∙ ap (λ (v : ShownView). c.args.lines.now ++ change (air_prefix slot) None v (air_of config (e ∷ before)))
        (ap newest_of old.airs.airs ∙ newest_air config before) in
        let parts : airings_changes slot (length c.args.shown.now) (airings_at c.as_mut_slice.result.now)
        (airings_at new)
        ≡ airings_changes slot (length shown) (λ i. airings config before (view_at views i))
        (λ i. airings config (e ∷ before) (view_at shown i)) =
        rw (← long) (airings_alike slot (length shown) _ _ _ _ was each) in (
          record {
            airs = airs;
            count = ap length back ∙ count ∙ old.count;
            each = λ i below. rw back (each i below);
          },
          c.push_airings.ensures.lines as_many ∙ ap₂ (λ (x y : List ℕ). x ++ y) air parts
              ∙ append_assoc c.args.lines.now _ _,
        )
