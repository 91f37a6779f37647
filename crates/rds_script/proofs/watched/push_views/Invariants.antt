use Rattle.std.proofs.Common.{◌≡◌, ◌≤◌, ◌<◌, ◌+◌, ◌*◌, ◌++◌, ◌∷◌, ℕ, List, Some, length, map, slice_get}
use Rattle.rds_world.specs.Event.{Event}
use Rattle.rds_world.specs.Slots.{input_of}
use Rattle.rds_world.specs.WorldAt.{WhereWorldStands, WorldAt}
use Rattle.rds_world.specs.State.{distance}
use Rattle.rds_world.specs.declared.world.Config.{Config}
use Rattle.rds_view_lines.specs.KeptView.{view_shown}
use Rattle.rds_view_lines.specs.declared.shown.Shown.{Shown}
use Rattle.rds_script.specs.Outcomes.{receiver_changes, view_at, whys_at}
use Rattle.rds_script.specs.Inside.Watched.{AreDisplays, IsDisplayAt}
use Rattle.rds_script.proofs.watched.push_views.Given as goal

abbrev pub invariant-loop-i : goal.invariant-loop-i
invariant-loop-i l = record {
  count : length l.shown ≡ length l.initial.shown;
  room : length l.lines ≤ length l.initial.lines + l.i * 1720;
  lines : length l.initial.shown ≡ length l.world.receivers → WhereWorldStands l.world (λ config events.
      l.lines ≡ l.initial.lines ++ receiver_changes l.slot l.i
      (whys_at l.form config l.event.receptions events) (map view_shown l.initial.shown) (map view_shown l.shown));
  displays : length l.initial.shown ≡ length l.world.receivers → (config : Config) (before : List Event)
      → WorldAt config l.world (l.event ∷ before) → AreDisplays l.keep config before l.initial.shown
      → (k : ℕ) (s : Shown) → k < l.i → slice_get l.shown k ≡ Some s
      → IsDisplayAt l.keep config (input_of (distance config) k (l.event ∷ before)) s;
  later : (k : ℕ) → l.i ≤ k → view_at (map view_shown l.shown) k ≡ view_at (map view_shown l.initial.shown) k;
  same : (k : ℕ) → l.i ≤ k → slice_get l.shown k ≡ slice_get l.initial.shown k;
}
