use Rattle.std.proofs.Common.{length, ap, rules}
use Rattle.rds_assembly.specs.Value.{IsText}
use Rattle.rds_assembly.proofs.FilledLemmas.{written}
use Rattle.rds_assembly.proofs.text.Text.new.Goals as goal

pub invariant_of-result : goal.invariant_of-result
invariant_of-result c =
    let text : IsText c.args.bytes.now = search rules in
    written _ _ (ap length c.copy_from_slice.ensures.after) (rw c.copy_from_slice.ensures.after text)

pub returns-in-Some-clause-refused : goal.returns-in-Some-clause-refused
returns-in-Some-clause-refused c = search rules
