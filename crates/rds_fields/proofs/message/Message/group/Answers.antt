use Rattle.std.proofs.Common.{rules, ◌/◌, ◌%◌, ◌∙◌, sym, arith}
use Rattle.rds_fields.specs.OneMessage.{same_message}
use Rattle.rds_fields.proofs.message.Message.group.Goals as goal

pub returns-in-Text-clause-read_again : goal.returns-in-Text-clause-read_again
returns-in-Text-clause-read_again c = λ m h. same_message m _ c.group_of.result h (grind arith) ∙ sym c.in-Text.is

pub returns-in-Name-clause-read_again : goal.returns-in-Name-clause-read_again
returns-in-Name-clause-read_again c = λ m h. same_message m _ c.group_of-in-Name.result h (
  c.low_of-in-Name.result / 2 %
      8,
  grind arith,
) ∙ sym c.in-Name.is

pub returns-in-Name-clause-written : goal.returns-in-Name-clause-written
returns-in-Name-clause-written c = search rules

pub returns-in-Name-clause-one : goal.returns-in-Name-clause-one
returns-in-Name-clause-one c = search rules
