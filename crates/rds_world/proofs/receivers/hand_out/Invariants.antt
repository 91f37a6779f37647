use Rattle.std.proofs.Common.{◌≡◌, ◌<◌, ◌≤◌, ℕ, List, Option, Some, false, length, true, slice_get, slice_index_or}
use Rattle.rds_fields.specs.declared.message.Message.{Message}
use Rattle.rds_receiver.specs.declared.receiver.Receiver.{Receiver}
use Rattle.rds_world.specs.declared.event.Reception.TheVariants.{Lost}
use Rattle.rds_world.specs.Due.{IsDue}
use Rattle.rds_safety.specs.Late.{Input}
use Rattle.rds_world.specs.Slots.{received}
use Rattle.rds_world.specs.WorldAt.{AllHaveHeard, AreLastSent, HasHeard, StaysShown}
use Rattle.rds_world.proofs.receivers.hand_out.Given as goal

abbrev pub invariant-loop-i : goal.invariant-loop-i
invariant-loop-i l = record {
  count : length l.receivers ≡ length l.fn.receivers;
  rest : (k : ℕ) → l.i ≤ k → slice_get l.receivers k ≡ slice_get l.fn.receivers k;
  done : (slot : ℕ) (sent : List (Option Message)) (inputs : ℕ → Input) (last : ℕ → Option ℕ)
      → AreLastSent l.config sent l.recent.items
      → ((k : ℕ) → IsDue l.config.late slot (last k) (slice_index_or l.receptions k Lost))
      → AllHaveHeard l.config inputs l.fn.receivers
      → (k : ℕ) (r : Receiver) → k < l.i → slice_get l.receivers k ≡ Some r
      → HasHeard l.config (received (slice_index_or l.receptions k Lost) slot sent (inputs k)) r;
  later : (k : ℕ) → l.i ≤ k → slice_index_or l.each k true ≡ true;
  same : (slot : ℕ) (sent : List (Option Message)) (inputs : ℕ → Input) (last : ℕ → Option ℕ)
      → AreLastSent l.config sent l.recent.items
      → ((k : ℕ) → IsDue l.config.late slot (last k) (slice_index_or l.receptions k Lost))
      → AllHaveHeard l.config inputs l.fn.receivers
      → (k : ℕ) → k < l.i → slice_index_or l.each k true ≡ false
      → StaysShown l.config (inputs k) (received (slice_index_or l.receptions k Lost) slot sent (inputs k));
  eight : length l.each ≡ 8;
  any : l.any ≡ false → (k : ℕ) → k < l.i → slice_index_or l.each k true ≡ false;
}
