use Rattle.rds_script.proofs.OneEvent.{same_event}
use Rattle.rds_script.proofs.OneOutcome.{same_written}
use Rattle.rds_script.proofs.laws.rows_write_one_output.Goals as goal

pub returns-clause-one_event : goal.returns-clause-one_event
returns-clause-one_event c row e f p q = same_event c.text_is_read_one_way.ensures row e f p q

pub returns-clause-one_output : goal.returns-clause-one_output
returns-clause-one_output c how records written other p q = search same_written
