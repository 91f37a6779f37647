use Rattle.std.proofs.Common.{◌≡◌, drop, map}
use Rattle.rds_charset.specs.Ranges.{range_of}
use Rattle.rds_charset.specs.Table.{byte_in, byte_of}
use Rattle.rds_charset.proofs.table.byte_of.Given as goal

abbrev pub invariant-loop-range : goal.invariant-loop-range
invariant-loop-range l = byte_in (map range_of (drop l.range-index l.range-items)) l.character
    ≡ byte_of l.character
