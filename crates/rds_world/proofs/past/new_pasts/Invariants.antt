use Rattle.std.proofs.Common.{◌≡◌, [], length}
use Rattle.rds_world.specs.WorldAt.{HavePasts}
use Rattle.rds_world.proofs.past.new_pasts.Given as goal

abbrev pub invariant-loop : goal.invariant-loop
invariant-loop l = record {
  count : length l.pasts.items ≡ l.counter;
  empty : HavePasts l.window [] l.pasts.items;
}
