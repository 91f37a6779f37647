use Rattle.std.proofs.Common.{◌≡◌, ◌<◌, ◌≤◌, ℕ, List, Option, Some, length, take, slice_get, slice_index_or}
use Rattle.circular_buffer.specs.Buffer.{Buffer, buffer}
use Rattle.rds_fields.specs.declared.message.Message.{Message}
use Rattle.rds_world.specs.declared.event.Reception.TheVariants.{Lost}
use Rattle.rds_world.specs.Event.{Event}
use Rattle.rds_world.specs.WorldAt.{HavePasts}
use Rattle.rds_world.specs.Wrong.{slots_back, with_wrong, wrong_of}
use Rattle.rds_world.proofs.past.note_wrong.Given as goal

abbrev pub invariant-loop-i : goal.invariant-loop-i
invariant-loop-i l = record {
  count : length l.pasts ≡ length l.fn.pasts;
  rest : (k : ℕ) → l.i ≤ k → slice_get l.pasts k ≡ slice_get l.fn.pasts k;
  done : (window : Option ℕ) (before : List Event) → HavePasts window before l.fn.pasts
      → (k : ℕ) (past : Buffer (Option Message)) → k < l.i → slice_get l.pasts k ≡ Some past
      → past ≡ buffer (take (slots_back window) (with_wrong (slice_index_or l.event.receptions k Lost)
      (wrong_of k before))) (slots_back window);
}
