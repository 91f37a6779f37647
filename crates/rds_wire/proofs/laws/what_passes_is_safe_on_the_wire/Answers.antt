use Rattle.rds_safety.specs.Laws.{LawfulPlansAreSafeByOwnClocksAs}
use Rattle.rds_audit.proofs.PassedLogs.{by_form}
use Rattle.rds_wire.proofs.Wired.{passed_is_safe}
use Rattle.rds_wire.proofs.laws.what_passes_is_safe_on_the_wire.Goals as goal

pub returns : goal.returns
returns c = passed_is_safe
    record {
      clocks = record { late = c.own_clocks.ensures.late; slow = c.own_clocks.ensures.slow };
      safe = by_form LawfulPlansAreSafeByOwnClocksAs c.safe_by_plans.ensures.own_clocks
          c.safe_by_padded_plans.ensures.own_clocks;
      recording = c.what_passes_as_a_recording_is_safe.ensures.by_plans;
      source = c.one_source.ensures;
    }
    record {
      complete = c.what_passes_is_safe.ensures;
      running = c.what_passes_as_a_recording_is_safe.ensures.passes;
    }
