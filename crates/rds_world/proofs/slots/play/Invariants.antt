use Rattle.std.proofs.Common.{◌≡◌, ◌<◌, ◌≤◌, ℕ, length, reverse, take}
use Rattle.rds_world.specs.Replies.{IsTaken}
use Rattle.rds_world.specs.SafeSlots.{OnlyWhatWasOnAirIsShown}
use Rattle.rds_world.specs.WorldAt.{WorldAt}
use Rattle.rds_world.proofs.slots.play.Given as goal

abbrev pub invariant-loop-i : goal.invariant-loop-i
invariant-loop-i l = record {
  stands : WorldAt l.fn.config l.world (reverse (take l.i l.events));
  safe : OnlyWhatWasOnAirIsShown l.fn.config (reverse (take l.i l.events)) l.world.receivers;
  count : length l.world.receivers ≡ l.fn.receivers;
  few : l.fn.receivers ≤ 8;
  good : (place : ℕ) → place < l.i → IsTaken l.fn.config l.fn.receivers l.events place;
}
