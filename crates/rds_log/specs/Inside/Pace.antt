-- The state of the pace of a log after these arrivals, the newest first.
use Rattle.std.specs.Prelude.{◌≡◌, ◌↔◌, IsTrue, List, MatchOption, None, is_some, option_map}
use Rattle.rds_block.specs.declared.group.Group.{Group}
use Rattle.rds_arrivals.specs.Arrivals.{Arrival}
use Rattle.rds_arrivals.specs.Coarse.{AreCoarse, newest_stretch}
use Rattle.rds_log.specs.Fill.{HasBreak, newest_time}
use Rattle.rds_log.specs.declared.pace.Pace.{Pace}

-- these groups were added; a break is kept, and if they are not coarse, their newest stretch
pub record PaceStandsAt (p : Pace) (arrivals : List (Arrival Group)) : Type 0 where
  pub last : option_map (λ s. s.last) p.stretch ≡ newest_time arrivals
  pub coarse : MatchOption p.coarse (AreCoarse p.grain arrivals → ⊥) (λ s. AreCoarse p.grain arrivals)
  pub breaks : IsTrue (is_some p.breaks.first) ↔ HasBreak arrivals
  pub stretch : p.coarse ≡ None → p.stretch ≡ newest_stretch p.grain arrivals
