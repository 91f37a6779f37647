use Rattle.std.proofs.Common.{◌≡◌, Some}
use Rattle.rds_witness.specs.Spans.{read, reading_of}
use Rattle.rds_witness.proofs.spans.bursts_of.Given as goal

abbrev pub invariant-loop-place : goal.invariant-loop-place
invariant-loop-place l = read l.text l.place ≡ Some (reading_of l.reader)
