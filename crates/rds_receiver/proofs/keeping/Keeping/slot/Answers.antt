use Rattle.rds_receiver.proofs.Counting.{quiet_on}
use Rattle.rds_receiver.proofs.keeping.Keeping.slot.Goals as goal

pub returns-then-is_changed-clause-counts : goal.returns-then-is_changed-clause-counts
returns-then-is_changed-clause-counts c t input s now before is goes counts =
    c.look.ensures.counts t input s now before is counts

pub returns-then-self-eq0-2-clause-counts : goal.returns-then-self-eq0-2-clause-counts
returns-then-self-eq0-2-clause-counts c t input s now before is goes counts =
    quiet_on c.args.self.now now before (goes c.if-is_changed.false) counts c.if-self-eq0.true c.if-self-eq0-2.true

pub returns-clause-counts : goal.returns-clause-counts
returns-clause-counts c t input s now before is goes counts =
    c.count.ensures.counts t input s now before is (goes c.if-is_changed.false) counts
