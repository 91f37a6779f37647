use Rattle.rds_audit.proofs.ListingSteps.{slot_listed}
use Rattle.rds_audit.proofs.audit.Audit.end_slot.Goals as goal

pub returns-clause-holds : goal.returns-clause-holds
returns-clause-holds c judged newest h =
    slot_listed _ newest judged c.args.self.now _ _ c.grow_older.ensures c.grow_older-2.ensures h
