-- Why a text or a name is not shown (this project's own rule). Lists have the newest first.
use Rattle.std.specs.Prelude.{◌≡◌, ℕ, List, [], ◌∷◌, Option}
use Rattle.rds_block.specs.declared.group.Group.{Group}
use Rattle.rds_fields.specs.declared.message.Message.{Message}
use Rattle.rds_receiver.specs.Receipts.{Segment, Tuning, heard_of, name_fragment, segments, text_fragment}
use Rattle.rds_receiver.specs.Run.{run}
use Rattle.rds_receiver.specs.Holds.{newest_slot}
use Rattle.rds_receiver.specs.Confirmed.{counted}
use Rattle.rds_receiver.specs.declared.why.WhyNone.{WhyNone}
use Rattle.rds_receiver.specs.declared.why.WhyNone.TheVariants.{Dropped, Incomplete}
use Rattle.rds_receiver.specs.declared.why.Whys.{Whys}

-- the segments of a run that makes nothing whole are incomplete; without a run no segment came for as long as the dwell
abbrev pub why_of : List Segment → WhyNone
why_of [] = Dropped
why_of (g ∷ older) = Incomplete

-- why a text and a name are not shown in slot t, by the runs of what was heard
abbrev pub whys_in : ℕ → ℕ → ℕ → List (Option Message) → Whys
whys_in m t first heard = record {
  text = why_of (run m t (segments text_fragment first heard));
  name = why_of (run m t (segments name_fragment first heard));
}

-- the same in the newest slot, by what counts for this tuning
abbrev pub whys_of : Tuning → List (Option Message) → Whys
whys_of t heard = whys_in t.dwell (newest_slot t.first (counted t heard)) t.first (counted t heard)

-- the same at the end of an input
abbrev pub AreWhys : Tuning → List (Option Group) → Whys → Type 0
AreWhys t input whys = whys ≡ whys_of t (heard_of t.programme input)
