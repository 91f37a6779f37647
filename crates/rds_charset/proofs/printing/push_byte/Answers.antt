use Rattle.std.proofs.Common.{rules}
use Rattle.rds_charset.specs.Printed.{printed_byte}
use Rattle.rds_charset.proofs.printing.push_byte.Goals as goal

pub returns-in-Some : goal.returns-in-Some
unfolding printed_byte
returns-in-Some g c = search rules

pub returns-in-None : goal.returns-in-None
unfolding printed_byte
returns-in-None g c = search rules
