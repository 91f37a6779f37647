use Rattle.std.proofs.Common.{◌≡◌, ◌∙◌, ◌∷◌, ◌++◌, ℕ, List, ap, append-nil, false, length, slice_index_or, sym}
use Rattle.rds_view_lines.specs.Output.{receiver_prefix}
use Rattle.rds_script.specs.Outcomes.{whys_at}
use Rattle.rds_view_lines.specs.KeptView.{view_shown}
use Rattle.rds_view_lines.specs.NoChange.{no_change}
use Rattle.rds_world.specs.Slots.{input_of, log, received}
use Rattle.rds_world.specs.State.{distance}
use Rattle.rds_world.specs.WorldAt.{StaysShown, tuned_to}
use Rattle.rds_world.specs.declared.event.Reception.TheVariants.{Lost}
use Rattle.rds_script.proofs.watched.push_view.Goals as goal

pub returns-in_default-end_slot-clause-changes : goal.returns-in_default-end_slot-clause-changes
returns-in_default-end_slot-clause-changes c within config events st =
    sym (ap (λ (l : List ℕ). c.args.lines.now ++ l) (no_change (receiver_prefix c.args.slot c.args.i)
    (whys_at c.args.form.now config c.args.event.now.receptions events c.args.i) (view_shown c.args.shown.now))
    ∙ append-nil c.args.lines.now)

pub returns-clause-display : goal.returns-clause-display
returns-clause-display c within n config before st d =
    let event = c.args.event.now in
    let input = input_of (distance config) c.args.i before in
    let sent = log (distance config) (event ∷ before) in
    let after = received (slice_index_or event.receptions c.args.i Lost) (length before) sent input in
    let has = c.in-Some.ensures.heard config (event ∷ before) st in
    let still : c.changed.result ≡ false → StaysShown config input after =
    λ calm. c.changed.ensures calm config (event ∷ before) st in
    let next = (rw c.reception_of-reception.ensures at (c.in-Some-end_slot.ensures n config (length before) sent input
    (view_shown c.args.shown.now))) has still d in
    let (now, view, shown) = c.show.ensures.shows (tuned_to config after) has.groups has.stands in
    rw shown (next now (rw (sym has.spelled) at view))
