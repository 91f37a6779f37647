use Rattle.std.proofs.Common.{◌≡◌, ◌++◌, take}
use Rattle.rds_charset.specs.Printed.{printed}
use Rattle.rds_charset.proofs.printing.push_text.Given as goal

abbrev pub invariant-loop-byte : goal.invariant-loop-byte
invariant-loop-byte g l = l.line ≡ l.initial.line ++ printed (take l.byte-index l.text)
