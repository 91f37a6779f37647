use Rattle.std.proofs.Common.{[], rules}
use Rattle.rds_receiver.specs.Counts.{DisplayOf}
use Rattle.rds_view_lines.specs.KeptView.{view_shown}
use Rattle.rds_view_lines.specs.declared.shown.Shown.{Shown}
use Rattle.rds_script.proofs.Displays.{display_pushed, nothing_pushed}
use Rattle.rds_script.proofs.watched.nothing_shown.Goals as goal

pub loop-preserved : goal.loop-preserved
loop-preserved c = record {
  count = search rules;
  displays = λ i s t at. display_pushed (λ (s : Shown). DisplayOf c.args.keep t s.keeping (view_shown s) [])
      c.loop.shown.items c.new.result (λ j u. c.loop.invariant.displays j u t) (c.new.ensures.stands t) i s
      (rw c.push.ensures.items at at);
  nothing = rw c.push.ensures.items (nothing_pushed c.loop.shown.items c.new.result c.loop.invariant.nothing
      c.new.ensures.nothing);
}
