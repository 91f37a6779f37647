-- The source of a text or name shown (this project's own rule): the broadcast of the plan in which the last segment of
-- its run was sent. Lists have the newest first.
use Rattle.std.specs.Prelude.{ℕ, List, [], ◌∷◌}
use Rattle.rds_encoder.specs.Plan.{Broadcast, Covers, HasNumber}
use Rattle.rds_receiver.specs.Receipts.{Segment, name_fragment, text_fragment}
use Rattle.rds_receiver.specs.Run.{run_at}
use Rattle.rds_safety.specs.Late.{CameFrom, Input}

-- the run of texts at the end of an input, for a receiver of dwell m
abbrev pub text_run : ℕ → Input → List Segment
text_run m input = run_at text_fragment m input.first input.heard

-- the run of names, likewise
abbrev pub name_run : ℕ → Input → List Segment
name_run m input = run_at name_fragment m input.first input.heard

-- the last segment of the run was sent in this slot
abbrev pub LastWasSentIn : Input → List Segment → ℕ → Type 0
LastWasSentIn input [] slot = ⊥
LastWasSentIn input (newest ∷ older) slot = CameFrom input newest.slot slot

-- the broadcast with this number is the source of the run: it covers the slot in which the run's last segment was sent
pub record IsSource (plan : List Broadcast) (input : Input) (the_run : List Segment) (number : ℕ)
    (b : Broadcast) : Type 0 where
  pub planned : HasNumber plan number b
  pub slot : ℕ
  pub sent : LastWasSentIn input the_run slot
  pub covers : Covers b slot
