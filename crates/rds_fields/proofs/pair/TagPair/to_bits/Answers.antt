use Rattle.std.proofs.Common.{arith}
use Rattle.rds_fields.specs.Tag.{PairFields}
use Rattle.rds_fields.specs.Bits.{sent_of}
use Rattle.rds_fields.proofs.Shifts.{fields_joined}
use Rattle.rds_fields.proofs.Written.{sent_of-fit}
use Rattle.rds_fields.proofs.pair.TagPair.to_bits.Goals as goal

pub returns : goal.returns
returns c =
    let x = c.self.inside in
    let p : PairFields = record { toggle = x.toggle; running = x.running; one = x.one; two = x.two } in
    let joined = fields_joined (sent_of p) (sent_of-fit p c.self.invariant) in
    grind (arith)
