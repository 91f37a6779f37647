use Rattle.rds_wire.proofs.Kept.{kept_was_displayed, kept_was_on_air, nothing_new_is_kept}
use Rattle.rds_wire.proofs.laws.what_is_kept_was_displayed.Goals as goal

pub returns-clause-displayed : goal.returns-clause-displayed
returns-clause-displayed c = kept_was_displayed

pub returns-clause-on_air : goal.returns-clause-on_air
returns-clause-on_air c = kept_was_on_air c.the_headline.ensures

pub returns-clause-nothing_new : goal.returns-clause-nothing_new
returns-clause-nothing_new c = nothing_new_is_kept c.nothing_new_is_displayed.ensures
