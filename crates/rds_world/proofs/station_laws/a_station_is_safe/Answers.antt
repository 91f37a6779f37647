use Rattle.std.proofs.Common.{◌+◌, arith}
use Rattle.rds_world.proofs.WorldSlots.{slots_of_a_world}
use Rattle.rds_world.proofs.station_laws.a_station_is_safe.Goals as goal

pub returns-clause-safe : goal.returns-clause-safe
returns-clause-safe c k m t told receivers some slots all =
    c.safe_by_plans.ensures.late m k t _ _ receivers (c.the_encoder_is_lawful.ensures.lawful (m + k) told (omega (arith, some))
    slots) all

pub returns-clause-world : goal.returns-clause-world
returns-clause-world c = slots_of_a_world
