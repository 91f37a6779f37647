use Rattle.std.proofs.Common.{◌≡◌, ◌≤◌, ◌<◌, ◌+◌, ◌*◌, ◌++◌, ℕ, length, map}
use Rattle.rds_view_lines.specs.KeptView.{view_shown}
use Rattle.rds_world.specs.WorldAt.{WhereWorldStands}
use Rattle.rds_script.specs.Inside.Compared.{AirsStand, WereKept, airings_at}
use Rattle.rds_script.specs.OnAir.{airings}
use Rattle.rds_script.specs.Outcomes.{airings_changes, view_at}
use Rattle.rds_script.proofs.compared.push_airings.Given as goal

abbrev pub invariant-loop-i : goal.invariant-loop-i
invariant-loop-i l = record {
  count : length l.kept ≡ length l.initial.kept;
  room : length l.lines ≤ length l.initial.lines + l.i * 240;
  lines : l.lines ≡ l.initial.lines ++ airings_changes l.slot l.i (airings_at l.initial.kept) (airings_at l.kept);
  each : WhereWorldStands l.world (λ config events. AirsStand config events l.airs
      → WereKept config (length l.shown) events l.initial.kept (map view_shown l.shown) → (i : ℕ) → i < l.i
      → airings_at l.kept i ≡ airings config events (view_at (map view_shown l.shown) i));
  later : (i : ℕ) → l.i ≤ i → airings_at l.kept i ≡ airings_at l.initial.kept i;
}
