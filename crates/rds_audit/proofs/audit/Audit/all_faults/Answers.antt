use Rattle.std.proofs.Common.{◌∙◌, arith}
use Rattle.std.proofs.lemmas.Bool.Decides.{nat_tests}
use Rattle.rds_audit.specs.Listing.{none_broken}
use Rattle.rds_audit.proofs.ListingSteps.{takes_all}
use Rattle.rds_audit.proofs.audit.Audit.all_faults.Goals as goal

pub returns-in_default : goal.returns-in_default
returns-in_default c =
    let hears = c.in_default.ensures in
    let ends = c.end_slot.ensures in
    rw c.none.ensures
    (takes_all _ _ _ c.args.group none_broken hears.lists hears.keeps ends.holds ends.keeps
    (λ none. grind (arith))
    (λ fault some. ends.fault ∙ hears.fault ∙ some))

pub returns : goal.returns
returns c = grind (arith, nat_tests, takes_all)
