use Rattle.std.proofs.Common.{◌*◌, rules}
use Rattle.rds_audit.proofs.LengthSets.{at_four}
use Rattle.rds_audit.proofs.audited.lengths_at.Goals as goal

pub returns : goal.returns
returns g c = rw (
  c.lengths_with.ensures,
  c.lengths_with-2.ensures,
  c.lengths_with-3.ensures,
  c.lengths_with-4.ensures,
)
    (at_four g.S.Audited.gauge (4 * c.args.address) c.args.bytes (search rules))
