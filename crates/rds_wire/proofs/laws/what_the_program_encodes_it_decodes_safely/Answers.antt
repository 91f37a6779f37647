use Rattle.rds_wire.proofs.Runs.{decoded_by_the_program, encoded_by_the_program, passed_by_the_program}
use Rattle.rds_wire.proofs.laws.what_the_program_encodes_it_decodes_safely.Goals as goal

pub returns-clause-encodes : goal.returns-clause-encodes
returns-clause-encodes c = encoded_by_the_program c.what_is_encoded_is_safe_on_the_wire.ensures
    record {
      lawful = c.the_encoder_is_lawful.ensures.lawful;
      slots = c.a_station_is_safe.ensures.world;
      tags = c.sent_is_of_what_is_on_air.ensures.tags;
    }

pub returns-clause-audits : goal.returns-clause-audits
returns-clause-audits c = passed_by_the_program c.what_passes_is_safe_on_the_wire.ensures

pub returns-clause-decodes : goal.returns-clause-decodes
returns-clause-decodes c = decoded_by_the_program
