use Rattle.std.proofs.Common.{refl}
use Rattle.std.proofs.lemmas.List.Elements.{All-nil}
use Rattle.rds_lines.proofs.cutter.Cutter.new.Goals as goal

pub returns-clause-stands : goal.returns-clause-stands
returns-clause-stands c = record { kept = c.new.ensures; count = refl; lines = All-nil _; line = All-nil _ }
