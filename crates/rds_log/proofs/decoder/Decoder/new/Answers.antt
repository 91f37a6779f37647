use Rattle.std.proofs.Common.{[], refl}
use Rattle.rds_log.proofs.decoder.Decoder.new.Goals as goal

pub returns-clause-decoded : goal.returns-clause-decoded
returns-clause-decoded c = record {
  slots = [];
  say = refl;
  same = refl;
  views = c.new.ensures.stands _ (c.tuned-receiver.ensures.stands 0);
}
