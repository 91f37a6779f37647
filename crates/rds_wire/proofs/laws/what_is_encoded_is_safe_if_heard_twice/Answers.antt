use Rattle.rds_wire.proofs.Twice.{encoded_is_safe_twice}
use Rattle.rds_wire.proofs.laws.what_is_encoded_is_safe_if_heard_twice.Goals as goal

pub returns : goal.returns
returns c = encoded_is_safe_twice
    record { safe = c.safe_if_confirmed.ensures.safe; source = c.one_source.ensures }
    record {
      lawful = c.the_encoder_is_lawful.ensures.lawful;
      slots = c.a_station_is_safe.ensures.world;
      tags = c.sent_is_of_what_is_on_air.ensures.tags;
    }
