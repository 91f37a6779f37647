use Rattle.std.proofs.Common.{[], arith}
use Rattle.std.proofs.lemmas.List.Elements.{All-nil}
use Rattle.rds_receiver.specs.Receipts.{tuned}
use Rattle.rds_witness.specs.Covered.{IsAt}
use Rattle.rds_witness.specs.Lost.{got-none}
use Rattle.rds_witness.proofs.sweep.Sweep.new.Goals as goal

pub returns-clause-stands : goal.returns-clause-stands
returns-clause-stands c log =
    let t = tuned c.args.pi c.args.dwell in
    record {
      whole = rw (got-none [] log) (c.new.ensures.stands 0);
      losing_at = rw c.new-2.ensures.items (All-nil (IsAt t 0));
      hearing_at = rw c.new-3.ensures.items (All-nil (IsAt t 0));
      lose = λ burst order behind. absurd (omega (arith, behind));
      hear = λ burst order behind. absurd (omega (arith, behind));
    }
