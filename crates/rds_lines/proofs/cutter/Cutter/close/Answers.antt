use Rattle.std.proofs.Common.{◌+◌, ap}
use Rattle.rds_lines.proofs.Cutting.{closes_bad, closes_line}
use Rattle.rds_lines.proofs.cutter.Cutter.close.Goals as goal

pub returns-in_default-clause-closes : goal.returns-in_default-clause-closes
returns-in_default-clause-closes c line closed begun s =
    rw c.said.ensures.lines (closes_bad c.args.self.now closed begun c.args.last.now s line
    (c.in_default.ensures.none begun s.kept))

pub returns-clause-closes : goal.returns-clause-closes
returns-clause-closes c line closed begun s =
    closes_line c.args.self.now _ closed begun c.args.last.now _ s line (c.in-Some.ensures.some begun s.kept)
    (ap (λ n. n + 1) c.said.ensures.lines) c.clear.ensures
