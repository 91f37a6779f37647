use Rattle.std.proofs.Common.{[], refl}
use Rattle.rds_log.proofs.filler.Filler.new.Goals as goal

pub returns : goal.returns
returns c = record {
  filling = refl;
  so_far = record { came = []; told = 0; written = [] };
  fill = (refl, refl, refl);
  writes = refl;
  pace = c.new.ensures.stands;
  grain = c.new.ensures.grain;
  told = refl;
  left_out = (λ some. cc, λ none. absurd none);
}
