use Rattle.std.proofs.Common.{take}
use Rattle.rds_witness.specs.Lost.{IsWhatIsLeft}
use Rattle.rds_witness.proofs.burst.received_of.Given as goal

-- the first bursts are lost
abbrev pub invariant-loop-place : goal.invariant-loop-place
invariant-loop-place l = IsWhatIsLeft (take l.place l.lost) l.log l.got.items
