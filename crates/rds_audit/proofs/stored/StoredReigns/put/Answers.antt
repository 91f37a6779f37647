use Rattle.std.proofs.Common.{arith}
use Rattle.std.proofs.lemmas.List.{map-set}
use Rattle.rds_audit.proofs.stored.StoredReigns.put.Goals as goal

pub returns-clause-taken : goal.returns-clause-taken
returns-clause-taken g c = grind (arith, map-set)
