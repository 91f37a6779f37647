use Rattle.std.proofs.Common.{◌+◌, arith}
use Rattle.rds_safety.specs.Confirmed.{lateness_of_two}
use Rattle.rds_world.proofs.station_laws.a_confirmed_station_is_safe.Goals as goal

pub returns : goal.returns
returns c w k m t told receivers some slots all =
    c.safe_if_confirmed.ensures.safe w k m t _ _ receivers (c.the_encoder_is_lawful.ensures.lawful (m + lateness_of_two w k)
    told (omega (arith, some)) slots) all
