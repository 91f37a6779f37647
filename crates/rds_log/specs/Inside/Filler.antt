-- The state of the taker of `slots` after these lines, the newest first.
use Rattle.std.specs.Prelude.{◌≡◌, ◌≢◌, ◌↔◌, [], ℕ, IsTrue, List, None, Option, Some, max, option_map}
use Rattle.rds_arrivals.specs.Arrivals.{lost_between}
use Rattle.rds_lines.specs.LogLines.{Line}
use Rattle.rds_log.specs.Fill.{AreFilled, HasLeftOut, LinesFill, SoFar}
use Rattle.rds_log.specs.Inside.Pace.{PaceStandsAt}
use Rattle.rds_log.specs.declared.filler.Filler.{Filler}
use Rattle.rds_log.specs.declared.filler.Filling.{Filling}

-- the time of the last group
abbrev pub last_time : Filler → Option ℕ
last_time f = option_map (λ s. s.last) f.pace.stretch

-- the lost slots that are written since the last group, after this time
abbrev pub told_after : Filling → Option ℕ → ℕ → ℕ → ℕ
told_after f None told time = told
told_after f (Some last) told time = max told (lost_between f.grain f.dwell last time)

-- the filler took these lines, and this is their output
pub record HasFilled (how : Filling) (f : Filler) (lines : List Line) (total : List ℕ) : Type 0 where
  pub filling : f.filling ≡ how
  pub so_far : SoFar
  pub fill : AreFilled f.filling lines so_far
  pub writes : total ≡ so_far.written
  pub pace : PaceStandsAt f.pace so_far.came
  pub grain : f.pace.grain ≡ f.filling.grain
  pub told : f.told ≡ so_far.told
  pub left_out : IsTrue f.has_left_out ↔ HasLeftOut f.filling.pi lines

-- the output of the lines that it took
output_of : (how : Filling) (f : Filler) (lines : List Line) (total : List ℕ) → HasFilled how f lines total
    → LinesFill how lines total
output_of how f lines total has =
    record { so_far = has.so_far; fill = rw has.filling at has.fill; writes = has.writes }

pub filled_lines : (how : Filling) (f : Filler) (lines : List Line) (total : List ℕ) → HasFilled how f lines total
    → (⊥ → ⊥) → LinesFill how lines total
filled_lines how f lines total has wants = output_of how f lines total has

pub filled_part : (how : Filling) (f : Filler) (lines : List Line) (total : List ℕ) → HasFilled how f lines total
    → total ≢ [] → LinesFill how lines total
filled_part how f lines total has some = output_of how f lines total has

-- the same settings, and the same times
pub record KeepsTimes (before after : Filler) : Type 0 where
  pub filling : after.filling ≡ before.filling
  pub pace : after.pace ≡ before.pace
  pub left_out : after.has_left_out ≡ before.has_left_out
