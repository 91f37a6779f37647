use Rattle.rds_safety.specs.Laws.{LawfulPlansAreSafeByOwnClocksAs}
use Rattle.rds_audit.proofs.PassedLogs.{by_form}
use Rattle.rds_wire.proofs.Wired.{encoded_is_safe}
use Rattle.rds_wire.proofs.laws.what_is_encoded_is_safe_on_the_wire.Goals as goal

pub returns : goal.returns
returns c = encoded_is_safe
    record {
      clocks = record { late = c.own_clocks.ensures.late; slow = c.own_clocks.ensures.slow };
      safe = by_form LawfulPlansAreSafeByOwnClocksAs c.safe_by_plans.ensures.own_clocks
          c.safe_by_padded_plans.ensures.own_clocks;
      recording = c.what_passes_as_a_recording_is_safe.ensures.by_plans;
      source = c.one_source.ensures;
    }
    record {
      lawful = c.the_encoder_is_lawful.ensures.lawful;
      slots = c.a_station_is_safe.ensures.world;
      tags = c.sent_is_of_what_is_on_air.ensures.tags;
    }
