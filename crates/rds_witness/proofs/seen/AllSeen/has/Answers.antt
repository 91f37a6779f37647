use Rattle.std.proofs.lemmas.List.Elements.{All-contains}
use Rattle.rds_witness.specs.Search.{IsSeen}
use Rattle.rds_witness.proofs.seen.AllSeen.has.Goals as goal

pub returns-in-Some : goal.returns-in-Some
returns-in-Some c holds t log all =
    let seen = c.in-Some.seen.now in
    let (before, there) = c.in-Some.ensures in
    c.has.ensures holds t log c.args.slots
    (All-contains (IsSeen t log) c.args.self.now.seen.items seen all.0 there) before
