use Rattle.std.proofs.Common.{◌≡◌, ◌∷◌, false, refl, rules, true}
use Rattle.csv.specs.Records.{fields_of}
use Rattle.rds_script.proofs.PlayedRows.{has_records}
use Rattle.rds_script.proofs.play.play_next.Goals as goal

pub returns-then-not-branch-clause-plays : goal.returns-then-not-branch-clause-plays
returns-then-not-branch-clause-plays g c known played stands player =
    let none : c.in_ok-next.field-0 ≡ false = search rules in
    rw none at (c.in_ok-next.ensures.found known played.records stands)

pub returns-in-Err-NoRow-clause-plays : goal.returns-in-Err-NoRow-clause-plays
returns-in-Err-NoRow-clause-plays g c known played stands player =
    let some : c.in_ok-next.field-0 ≡ true = search rules in
    let after = rw some at (c.in_ok-next.ensures.found known played.records stands) in
    let refused = rw c.in-Err-NoRow.field-0-is at (c.in-Err-NoRow.ensures.refused played player) in
    record {
      number_is = refl;
      begins = has_records g.R.Read.remaining known c.next.new.self (fields_of c.next.new.row ∷ played.records) after;
      none = refused;
    }
