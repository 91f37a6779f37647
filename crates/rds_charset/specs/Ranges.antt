-- A range of the table in the code.
use Rattle.rds_charset.specs.declared.table.CodeRange.{CodeRange as HeldRange}
use Rattle.rds_charset.specs.Table.{CodeRange}

-- its first byte and its characters
abbrev pub range_of : HeldRange → CodeRange
range_of range = (range.first, range.characters.now)
