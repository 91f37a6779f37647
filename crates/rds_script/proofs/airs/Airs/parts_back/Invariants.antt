use Rattle.std.proofs.Common.{◌≡◌, ◌-◌, None, length, take, option_copied}
use Rattle.rds_receiver.specs.Borrowed.{view_of}
use Rattle.rds_script.specs.OnAir.{either, parts_among}
use Rattle.rds_script.specs.Inside.Compared.{airs_in, reached}
use Rattle.rds_script.proofs.airs.Airs.parts_back.Given as goal

abbrev pub invariant-loop-i : goal.invariant-loop-i
invariant-loop-i l =
    parts_among (view_of l.view) (reached l.lookback l.self.spacing None (airs_in l.self.periods.items))
    ≡ either l.found (parts_among (view_of l.view) (reached l.lookback l.left (option_copied l.text)
    (airs_in (take (length l.self.periods.items - l.i) l.self.periods.items))))
