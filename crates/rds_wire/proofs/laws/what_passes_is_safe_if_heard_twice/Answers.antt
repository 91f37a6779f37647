use Rattle.rds_wire.proofs.Twice.{passed_is_safe_twice}
use Rattle.rds_wire.proofs.laws.what_passes_is_safe_if_heard_twice.Goals as goal

pub returns : goal.returns
returns c = passed_is_safe_twice record { safe = c.safe_if_confirmed.ensures.safe; source = c.one_source.ensures }
    c.what_passes_is_safe.ensures
