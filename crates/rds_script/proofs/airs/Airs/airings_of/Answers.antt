use Rattle.std.proofs.Common.{arith, ◌∙◌, ap}
use Rattle.rds_receiver.specs.Borrowed.{view_of}
use Rattle.rds_view_lines.specs.Part.{same_parts}
use Rattle.rds_script.specs.OnAir.{airings_by}
use Rattle.rds_script.proofs.Periods.{all_lately, ever_before, ever_is, for_texts_is, lately_found}
use Rattle.rds_script.proofs.airs.Airs.airings_of.Goals as goal
use Rattle.rds_script.proofs.airs.Airs.airings_of.Goals.{in-None, in-Some}

pub returns-then-lately-4 : goal.returns-then-lately-4
returns-then-lately-4 c config events stand were =
    let view = view_of c.args.view in
    let lately = lately_found view config events c.args.self.now _ _ _ stand
    (c.same_parts.ensures ∙ ap (same_parts view) (c.view.ensures ∙ c.new-nothing.ensures)) c.parts_back.ensures
    c.either-lately.ensures in
    grind (arith, all_lately)

pub returns : goal.returns
returns c config events stand were =
    let view = view_of c.args.view in
    let a = c.args.self.now in
    let lately = lately_found view config events a _ _ _ stand
    (c.same_parts.ensures ∙ ap (same_parts view) (c.view.ensures ∙ c.new-nothing.ensures)) c.parts_back.ensures
    c.either-lately.ensures in
    let for_text = c.parts_back-for_text.ensures ∙ for_texts_is view config events a stand in
    elim c.match-before.branch [
      | in-Some w ↦ (
          let known = ever_before view config events a w.in-Some.before stand (rw w.in-Some.is at were) in
          let ever = w.ever-is ∙ w.ever-ever.ensures in
          c.by-2.ensures ∙ (λ i. airings_by (lately i) (for_text i) (ever i)) ∙ known
          )
      | in-None w ↦ (
          let ever = w.ever-is ∙ w.parts_back-ever.ensures ∙ ever_is view config events a stand in
          c.by-2.ensures ∙ (λ i. airings_by (lately i) (for_text i) (ever i))
          )
    ]
