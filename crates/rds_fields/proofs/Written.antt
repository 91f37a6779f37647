-- Lemmas: the number written for a pair is read as that pair.
use Rattle.std.proofs.Common.{arith}
use Rattle.rds_fields.specs.Tag.{PairFields, IsPair}
use Rattle.rds_fields.specs.Bits.{FitsBits, sent_of}

-- the fields of a pair of tags fit their bits
pub sent_of-fit : (p : PairFields) → IsPair p → FitsBits (sent_of p)
sent_of-fit p h = grind (arith)
