use Rattle.std.proofs.Common.{arith, refl}
use Rattle.rds_lines.proofs.Cutting.{cuts_on, kept_in_room}
use Rattle.rds_lines.proofs.cutter.Cutter.keep.Goals as goal

pub returns-clause-kept : goal.returns-clause-kept
returns-clause-kept c = grind (arith, kept_in_room)

pub returns-clause-stands : goal.returns-clause-stands
returns-clause-stands c line closed begun s = cuts_on c.args.self.now _ closed begun c.args.bytes.now s line
    (returns-clause-kept c) refl
