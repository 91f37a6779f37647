use Rattle.std.proofs.Common.{◌≡◌, ◌∙◌, arith, false}
use Rattle.rds_receiver.specs.Counts.{kept_stored, none_kept}
use Rattle.rds_receiver.specs.Kept.{last_after}
use Rattle.rds_receiver.proofs.Counting.{ended, over}
use Rattle.rds_receiver.proofs.keeping.StoredKept.slot.Goals as goal
use Rattle.rds_receiver.proofs.keeping.StoredKept.slot.Goals.{then-left-eq0-via-else-left-eq0+then-is_ended_by}
use Rattle.rds_receiver.proofs.keeping.StoredKept.slot.Goals.{then-left-eq0-via-then-left-eq0}

pub returns-then-left-eq0-clause-counts : goal.returns-then-left-eq0-clause-counts
returns-then-left-eq0-clause-counts c last counts = rw c.if-is_shown.false (c.new.ensures 0 ∙ is)
  where
    is : none_kept ≡ kept_stored c.args.keep (last_after false c.args.held last)
    is = elim c.then-left-eq0.branch [
      | then-left-eq0-via-then-left-eq0 w ↦
          over c.args.keep _ c.args.self.now c.args.held last counts c.next_left-left.ensures w.if-left-eq0.true
      | then-left-eq0-via-else-left-eq0+then-is_ended_by w ↦
          ended c.args.keep c.args.self.now c.args.held last counts (search arith)
    ]
