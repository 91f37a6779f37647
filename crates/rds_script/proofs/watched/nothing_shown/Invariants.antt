use Rattle.std.proofs.Common.{◌≡◌, ℕ, [], Some, length, map, slice_get}
use Rattle.rds_receiver.specs.Counts.{DisplayOf}
use Rattle.rds_receiver.specs.Receipts.{Tuning}
use Rattle.rds_view_lines.specs.KeptView.{view_shown}
use Rattle.rds_view_lines.specs.declared.shown.Shown.{Shown}
use Rattle.rds_script.specs.Inside.Watched.{AreKept}
use Rattle.rds_script.proofs.watched.nothing_shown.Given as goal

abbrev pub invariant-loop : goal.invariant-loop
invariant-loop l = record {
  count : length l.shown.items ≡ l.counter;
  displays : (i : ℕ) (s : Shown) (t : Tuning) → slice_get l.shown.items i ≡ Some s
      → DisplayOf l.keep t s.keeping (view_shown s) [];
  nothing : AreKept (map view_shown l.shown.items) [];
}
