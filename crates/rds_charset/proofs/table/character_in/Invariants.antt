use Rattle.std.proofs.Common.{◌≡◌, drop, map}
use Rattle.rds_charset.specs.Ranges.{range_of}
use Rattle.rds_charset.specs.Table.{character_in}
use Rattle.rds_charset.proofs.table.character_in.Given as goal

abbrev pub invariant-loop-range : goal.invariant-loop-range
invariant-loop-range l = character_in (map range_of (drop l.range-index l.ranges)) l.byte
    ≡ character_in (map range_of l.ranges) l.byte
