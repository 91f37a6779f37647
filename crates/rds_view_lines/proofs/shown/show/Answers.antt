use Rattle.std.proofs.Common.{◌++◌, ap, ap₂, ◌∙◌, sym}
use Rattle.rds_receiver.specs.Borrowed.{view_of}
use Rattle.rds_receiver.specs.Counts.{keeping}
use Rattle.rds_receiver.specs.Shown.{ShownView}
use Rattle.rds_view_lines.specs.Output.{change}
use Rattle.rds_view_lines.specs.Part.{prefix_of}
use Rattle.rds_view_lines.proofs.shown.show.Goals as goal

pub returns-clause-changes : goal.returns-clause-changes
returns-clause-changes g c =
    c.push_changes.ensures.changes ∙ ap₂ (λ (v w : ShownView). c.args.lines.now ++ change (prefix_of c.args.prefix)
    c.args.whys v w) c.view-before.ensures (sym c.of.ensures)

pub returns-clause-shows : goal.returns-clause-shows
returns-clause-shows g c t input s = (
  view_of c.view.result,
  c.view.ensures t input s,
  c.of.ensures ∙ c.beside-now.ensures
      ∙ ap (λ (v : ShownView). keeping c.args.kept v (view_of c.view.result)) c.view-before.ensures,
)
