use Rattle.rds_script.proofs.OneOutcome.{alike, plays_bytes, same_script}
use Rattle.rds_script.proofs.laws.script_writes_one_output.Goals as goal

pub returns-clause-one_output : goal.returns-clause-one_output
returns-clause-one_output c how script written other p q = search same_script

pub returns-clause-written : goal.returns-clause-written
returns-clause-written c how most script w p = plays_bytes how most script w p

pub returns-clause-alike : goal.returns-clause-alike
returns-clause-alike c how most others script w v p q = search alike
