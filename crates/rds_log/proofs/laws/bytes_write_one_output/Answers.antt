use Rattle.rds_log.proofs.Decodes.{alike, same_output}
use Rattle.rds_lines.specs.OneLog.{same_said}
use Rattle.rds_log.proofs.laws.bytes_write_one_output.Goals as goal

pub returns-clause-one_said : goal.returns-clause-one_said
returns-clause-one_said c line said other p q = same_said line said other p q

pub returns-clause-one_output : goal.returns-clause-one_output
returns-clause-one_output c how text written other p q = same_output how text written other p q

pub returns-clause-alike : goal.returns-clause-alike
returns-clause-alike c how text r w q v given same a b = alike how text r w q v given same a b
