use Rattle.std.proofs.Common.{eqb, arith, w8}
use Rattle.std.proofs.lemmas.Simd.{bitmask_splat}
use Rattle.rds_assembly.proofs.LanesLemmas.{bit_at-mask}
use Rattle.rds_assembly.proofs.lanes.returns_in.Goals as goal

pub returns : goal.returns
returns c i =
    let bytes = c.args.bytes.now in
    rw (bitmask_splat w8 eqb bytes 64 13 c.told-bytes (omega arith)) (bit_at-mask bytes i)
