use Rattle.std.proofs.Common.{◌≡◌, ◌∙◌, ◌∷◌, ◌++◌, ℕ, List, ap, ap₂, append_assoc, arith, drop, length, map, rules}
use Rattle.std.proofs.Common.{subst, sym, true}
use Rattle.std.proofs.lemmas.List.{length-map, take_at}
use Rattle.rds_world.specs.Event.{Event}
use Rattle.rds_world.specs.declared.world.Config.{Config}
use Rattle.rds_view_lines.specs.KeptView.{view_shown}
use Rattle.rds_script.specs.Inside.Watched.{AreDisplays, WatchedStandsAt, views_kept}
use Rattle.rds_script.specs.Inside.Compared.{AreShown, IsCompared}
use Rattle.rds_script.specs.Outcomes.{answer_lines, compared_lines, receiver_changes, whys_at}
use Rattle.rds_view_lines.specs.declared.shown.Shown.{Shown}
use Rattle.rds_script.proofs.Displays.{plain_shown, views_displayed}
use Rattle.rds_script.proofs.watched.Watched.play.Goals as goal

-- each display ended the slot
displays_now : (c : goal.After-compare) (config : Config) (receivers : ℕ) (events : List Event)
    → WatchedStandsAt config receivers c.args.self.now events
    → AreDisplays c.args.self.now.keep config (c.args.event.now ∷ events) c.push_views.new.shown
displays_now c config receivers events s =
    let old = c.args.self.now.shown.items in
    let world = c.in-Ok.ensures.stands config events s.world in
    let world_count : length c.step.new.self.receivers ≡ length c.args.self.now.world.receivers = c.in-Ok.ensures.count
    in
    let as_many : length old ≡ length c.step.new.self.receivers = s.kept ∙ sym s.count ∙ sym world_count in
    let shared = c.as_mut_slice.ensures.value in
    c.push_views.ensures.displays (ap length shared ∙ as_many) config events world (rw shared s.shown)

-- the views of this slot are compared with what is on air
comparing : (c : goal.After-compare) (config : Config) (receivers : ℕ) (events : List Event)
    → WatchedStandsAt config receivers c.args.self.now events
    → IsCompared config receivers (c.args.event.now ∷ events) (map view_shown c.push_views.new.shown)
    c.compare.new.compared
    × (c.compare.new.lines ≡ c.push_views.new.lines
    ++ compared_lines config c.args.slot (length (map view_shown c.push_views.new.shown)) c.args.event.now events
    (views_kept c.args.self.now) (map view_shown c.push_views.new.shown))
comparing c config receivers events s =
    let keep = c.args.self.now.keep in
    let old = c.args.self.now.shown.items in
    let new = c.push_views.new.shown in
    let world = c.in-Ok.ensures.stands config events s.world in
    let kept : length new ≡ length old = c.push_views.ensures.count ∙ ap length c.as_mut_slice.ensures.value in
    let told : c.as_slice.result.now ≡ new = c.as_slice.ensures.value ∙ take_at new (drop (length new) old) (length old)
    kept in
    let many : length (map view_shown c.as_slice.result.now) ≡ receivers = length-map c.as_slice.result.now view_shown
    ∙ ap length told ∙ kept ∙ s.kept in
    let had : config.kind.is_flag_alone ≡ true → AreShown config receivers events (views_kept c.args.self.now) =
    λ alone. plain_shown keep receivers config events old (s.plain alone) (sym s.kept) s.shown in
    let now : config.kind.is_flag_alone ≡ true
    → AreShown config receivers (c.args.event.now ∷ events) (map view_shown c.as_slice.result.now) =
    λ alone. rw (← told) at (plain_shown keep receivers config (c.args.event.now ∷ events) new (s.plain alone)
    (sym s.kept ∙ sym kept) (displays_now c config receivers events s)) in
    let (is, lines) = c.compare.ensures config (c.args.event.now ∷ events) world (views_kept c.args.self.now)
    (λ alone i l. had alone i (omega (arith, l, many))) (λ alone i l. now alone i (omega (arith, l, many)))
    (rw (← many) at s.compared) in
    (rw told at (rw many at is), (let here = lines in cc))

pub returns-in-Ok-clause-stands : goal.returns-in-Ok-clause-stands
returns-in-Ok-clause-stands c config receivers events s =
    let old = c.args.self.now.shown.items in
    let new = c.push_views.new.shown in
    let kept : length new ≡ length old = c.push_views.ensures.count ∙ ap length c.as_mut_slice.ensures.value in
    let back = take_at new (drop (length new) old) (length old) kept in
    record {
      world = c.in-Ok.ensures.stands config events s.world;
      count = c.in-Ok.ensures.count ∙ s.count;
      kept = ap length back ∙ kept ∙ s.kept;
      plain = s.plain;
      shown = rw (← back) at (displays_now c config receivers events s);
      compared = subst (λ (l : List Shown). IsCompared config receivers (c.args.event.now ∷ events) (map view_shown l)
          c.compare.new.compared) (sym back) (comparing c config receivers events s).0;
    }

pub returns-in-Ok-clause-taken : goal.returns-in-Ok-clause-taken
returns-in-Ok-clause-taken c config receivers events s = rw s.count at (c.in-Ok.ensures.refused config events s.world)

pub returns-in-Ok-clause-outcome : goal.returns-in-Ok-clause-outcome
returns-in-Ok-clause-outcome c config receivers events s =
    let old = c.args.self.now.shown.items in
    let new = c.push_views.new.shown in
    let views = map view_shown new in
    let command : c.event.inside.command ≡ c.args.event.now.command = ap (λ (e : Event). e.command) c.event.view_is in
    let taken = c.in-Ok.ensures.refused config events s.world in
    let world = c.in-Ok.ensures.stands config events s.world in
    let world_count : length c.step.new.self.receivers ≡ length c.args.self.now.world.receivers = c.in-Ok.ensures.count
    in
    let as_many : length old ≡ length c.step.new.self.receivers = s.kept ∙ sym s.count ∙ sym world_count in
    let shared = c.as_mut_slice.ensures.value in
    let kept : length new ≡ length old = c.push_views.ensures.count ∙ ap length shared in
    let shown : length views ≡ length old = length-map new view_shown ∙ kept in
    let back = take_at new (drop (length new) old) (length old) kept in
    let whys = whys_at c.args.form.now config c.args.event.now.receptions (c.args.event.now ∷ events) in
    let answer = answer_lines c.args.form.now c.args.slot c.event.inside.command c.in-Ok.answer.reply
    c.in-Ok.answer.sent in
    let compared = compared_lines config c.args.slot (length views) c.args.event.now events (views_kept c.args.self.now)
    views in
    let answered : c.push_answer.new.lines ≡ c.args.lines.now ++ answer = search rules in (
      record {
        command = c.event.inside.command;
        reply = c.in-Ok.answer.reply;
        sent = c.in-Ok.answer.sent;
        views = views;
      },
      record {
        command = command;
        reply = c.in-Ok.ensures.reply config events s.world;
        sent = c.in-Ok.ensures.sent config events s.world;
        receivers = shown ∙ s.kept ∙ sym s.count ∙ sym taken.count;
        views = λ i within. views_displayed c.args.self.now.keep config (c.args.event.now ∷ events) new
            (displays_now c config receivers events s) i (omega (arith, within, length-map new view_shown));
      },
      ap (λ (l : List Shown). map view_shown l) (sym back),
      (comparing c config receivers events s).1
          ∙ ap (λ (l : List ℕ). l ++ compared)
          (rw shared at (c.push_views.ensures.lines (ap length shared ∙ as_many) config (c.args.event.now ∷ events)
          world) ∙ ap₂ (λ (x y : List ℕ). x ++ y) answered
          (ap (λ n. receiver_changes c.args.slot n whys (map view_shown old) views) (sym shown))
          ∙ append_assoc c.args.lines.now answer (receiver_changes c.args.slot (length views) whys (map view_shown old)
          views))
          ∙ append_assoc c.args.lines.now (answer ++ receiver_changes c.args.slot (length views) whys
          (map view_shown old) views) compared,
    )
