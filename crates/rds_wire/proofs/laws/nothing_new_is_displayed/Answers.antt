use Rattle.rds_wire.proofs.NothingNew.{nothing_new}
use Rattle.rds_wire.proofs.laws.nothing_new_is_displayed.Goals as goal

pub returns : goal.returns
returns c = nothing_new c.plan_laws.ensures c.safe_by_padded_plans.ensures.wider c.what_passes_is_safe.ensures
    c.what_passes_as_a_recording_is_safe.ensures.passes
