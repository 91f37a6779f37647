-- A chain of segments: all have one flag, neighbours are less than m slots apart, and the newest one came in slot t or
-- less than m slots before. Lists have the newest first.
use Rattle.std.specs.Prelude.{◌≡◌, ◌+◌, ◌<◌, ◌++◌, ℕ, Bool, List, ◌∷◌, All}
use Rattle.rds_receiver.specs.Receipts.{Segment}

pub record IsChained (m t : ℕ) (chain : List Segment) : Type 0 where
  pub flag : Bool
  pub one_flag : All (λ g. g.fragment.flag ≡ flag) chain
  pub near : (newer older : List Segment) (g h : Segment) → chain ≡ newer ++ g ∷ h ∷ older → g.slot < h.slot + m
  pub recent : (g : Segment) (older : List Segment) → chain ≡ g ∷ older → t < g.slot + m
