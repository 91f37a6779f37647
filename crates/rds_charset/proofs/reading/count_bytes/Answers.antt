use Rattle.std.proofs.Common.{arith}
use Rattle.rds_charset.proofs.Symbols.{IsReadUpTo-length, StopsAt-rest}
use Rattle.rds_charset.proofs.reading.count_bytes.Goals as goal

pub overflow_sub-text : goal.overflow_sub-text
overflow_sub-text c = grind (arith, IsReadUpTo-length)

pub fault_at-requires : goal.fault_at-requires
fault_at-requires c =
    let read = c.count_symbols-count.ensures.read in
    StopsAt-rest c.args.text.now read.0 c.count_symbols-count.result.1.now read.1 c.count_symbols-count.ensures.none
    (grind (arith))
