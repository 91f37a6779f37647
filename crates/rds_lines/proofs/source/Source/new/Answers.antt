use Rattle.std.proofs.Common.{[], refl, arith}
use Rattle.std.proofs.KnownBytes.{Consumes-nil}
use Rattle.std.proofs.lemmas.List.Elements.{All-nil}
use Rattle.rds_io.specs.Told.{count_none}
use Rattle.rds_lines.proofs.source.Source.new.Goals as goal

pub returns-clause-stands : goal.returns-clause-stands
returns-clause-stands c start = record {
  reads = record { made = 0; leaves = omega arith; counted = count_none start.reads; calm = refl };
  where_it_is = record {
    text = [];
    read = Consumes-nil start.left;
    enough = omega arith;
    holds = record { begun = []; cut = refl; cutter = c.new.ensures.stands; line = All-nil _ };
  };
}
