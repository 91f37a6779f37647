use Rattle.std.proofs.Common.{◌∙◌, arith}
use Rattle.rds_witness.proofs.HeldParts.{same_run_of_log}
use Rattle.rds_witness.proofs.seen.AllSeen.drop_pairs.Goals as goal

pub returns-else-not-goes_on-clause-pairs : goal.returns-else-not-goes_on-clause-pairs
returns-else-not-goes_on-clause-pairs c pi m n log was is all k d less =
    let its = all k d less in
    let going = c.if-not-goes_on.false in
    record {
      slot = its.slot;
      before = let before = its.before in omega (arith, before);
      held = its.held;
      same = its.same ∙ same_run_of_log pi m n log c.args.old.now c.args.new.now
          (c.goes_on.ensures.age going) (c.goes_on.ensures.flag going) was is;
    }
