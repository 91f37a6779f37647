use Rattle.std.proofs.Common.{◌≡◌, ℕ, length}
use Rattle.rds_script.specs.Inside.Compared.{all_on_air, airings_at}
use Rattle.rds_script.proofs.compared.nothing_shown.Given as goal

abbrev pub invariant-loop : goal.invariant-loop
invariant-loop l = record {
  count : length l.all.items ≡ l.counter;
  each : (i : ℕ) → airings_at l.all.items i ≡ all_on_air;
}
