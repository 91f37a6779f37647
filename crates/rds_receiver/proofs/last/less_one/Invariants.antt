use Rattle.std.proofs.Common.{◌≡◌, ◌-◌, length, map, take}
use Rattle.rds_receiver.proofs.last.less_one.Given as goal

abbrev pub invariant-loop-i : goal.invariant-loop-i
invariant-loop-i l = (length l.less ≡ 18) × (take l.i l.less ≡ map (λ n. n - 1) (take l.i l.left))
