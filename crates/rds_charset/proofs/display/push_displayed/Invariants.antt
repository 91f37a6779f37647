use Rattle.std.proofs.Common.{◌≡◌, ◌++◌, take}
use Rattle.rds_charset.specs.Displays.{displayed}
use Rattle.rds_charset.proofs.display.push_displayed.Given as goal

abbrev pub invariant-loop-byte : goal.invariant-loop-byte
invariant-loop-byte g l = l.line ≡ l.initial.line ++ displayed (take l.byte-index l.text)
