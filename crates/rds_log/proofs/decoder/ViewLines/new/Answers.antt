use Rattle.std.proofs.Common.{[], refl}
use Rattle.rds_log.proofs.decoder.ViewLines.new.Goals as goal

pub returns-clause-stands : goal.returns-clause-stands
returns-clause-stands c t begins = record {
  receiver = begins;
  says_why = refl;
  display = c.new.ensures.stands t;
  displays = [];
  are = tt;
  slot = refl;
  shown = c.new.ensures.nothing;
  changes = refl;
}
