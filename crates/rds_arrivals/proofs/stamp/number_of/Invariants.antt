use Rattle.std.proofs.Common.{◌≡◌, ◌<◌, ◌^◌}
use Rattle.rds_arrivals.specs.Stamps.{number_of}
use Rattle.rds_arrivals.proofs.stamp.number_of.Given as goal

abbrev pub invariant-loop-place : goal.invariant-loop-place
invariant-loop-place l = record {
  value : l.number ≡ number_of l.text l.place;
  small : l.number < 10 ^ l.place;
}
