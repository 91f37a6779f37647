-- What a log that passes promises to receivers with the flag bit alone (this project's own rule). Lists have the newest
-- first.
use Rattle.std.specs.Prelude.{◌+◌, ◌<◌, ◌≤◌, ◌⊎◌, ℕ, List, [], ◌∷◌, Option, IfSome, length}
use Rattle.rds_fields.specs.declared.message.Message.{Message}
use Rattle.rds_receiver.specs.Receipts.{name_fragment, text_fragment}
use Rattle.rds_receiver.specs.declared.fragment.Fragment.{Fragment}
use Rattle.rds_safety.specs.FlagAlone.{HearsOneBetween, HearsTextBeforeTags, IsHeardFrom, ListensByFlag, run_by_flag}
use Rattle.rds_safety.specs.FlagLaws.{IsOfItsSource, ShowsEmptyText, ShowsTagsOfText}
use Rattle.rds_safety.specs.Late.{Input}
use Rattle.rds_safety.specs.Marks.{Mark, Nothing, Sends, Tagged, marks, name_mark, text_mark}
use Rattle.rds_safety.specs.Plans.{AreLawful, Plans}
use Rattle.rds_safety.specs.Safe.{Listener, ShowsNoTags}
use Rattle.rds_audit.specs.Dense.{AreDense}
use Rattle.rds_audit.specs.Reigns.{AlternateFlags, IsOfEachTwo, Reign, reigns}
use Rattle.rds_audit.specs.Rules.{LogPasses}
use Rattle.rds_audit.specs.declared.text_form.TextForm.TheVariants.{Plain}

-- once the receiver heard a segment, it heard one of each later reign that another one follows by slot `now`
abbrev pub HearsEachReign : (Message → Option Fragment) → ℕ → Input → List Reign → Type 0
HearsEachReign pick now input rs =
    IsOfEachTwo (λ r next. (t s : ℕ) → IsHeardFrom pick input t s → s < r.start → next.start ≤ now
    → HearsOneBetween pick input r.start (r.last + 1)) rs

-- the slot comes less than d slots after the last one of the newest reign
abbrev pub IsSoonAfter : ℕ → ℕ → List Reign → Type 0
IsSoonAfter d slot [] = Unit {0}
IsSoonAfter d slot (newest ∷ older) = slot < newest.last + d

-- each segment except the first comes less than d slots after a segment or tags
abbrev pub HasNoPause : ℕ → List Mark → Type 0
HasNoPause d [] = Unit {0}
HasNoPause d (Nothing ∷ before) = HasNoPause d before
HasNoPause d (Sends p ∷ before) = IsSoonAfter d (length before) (reigns d before) × HasNoPause d before
HasNoPause d (Tagged pair ∷ before) = HasNoPause d before

-- without a pause the flag turns from each reign to the next one
abbrev pub WithoutPauseFlagsAlternate : Type 0
WithoutPauseFlagsAlternate = (d : ℕ) (sent : List Mark) → HasNoPause d sent → AlternateFlags (reigns d sent)

-- some plans of the log are lawful and dense; if the flag turns from each reign to the next one, a receiver with the
-- flag bit alone that heard a segment of each reign shows only what these plans have
pub record IsSafeByFlag (d : ℕ) (log : List (Option Message)) : Type 0 where
  pub plans : Plans
  pub lawful : AreLawful d plans log
  pub dense : AreDense d plans log
  pub texts : AlternateFlags (reigns d (marks text_mark log)) → (now : ℕ) (r : Listener) → ListensByFlag now log r
      → HearsEachReign text_fragment now r.input (reigns d (marks text_mark log))
      → IfSome r.view.text (IsOfItsSource plans.text r.input (run_by_flag text_fragment r.input))
  pub names : AlternateFlags (reigns d (marks name_mark log)) → (now : ℕ) (r : Listener) → ListensByFlag now log r
      → HearsEachReign name_fragment now r.input (reigns d (marks name_mark log))
      → IfSome r.view.name (IsOfItsSource plans.name r.input (run_by_flag name_fragment r.input))
  pub tags : AlternateFlags (reigns d (marks text_mark log)) → (now : ℕ) (r : Listener) → ListensByFlag now log r
      → HearsEachReign text_fragment now r.input (reigns d (marks text_mark log))
      → HearsTextBeforeTags plans.text r.input
      → ShowsNoTags r.view ⊎ ShowsEmptyText r.view ⊎ ShowsTagsOfText d plans.text (marks text_mark log) r.view

-- some plans of the log are lawful and dense, and a receiver with the flag bit alone that heard a segment of each reign
-- of texts shows only texts and tags of these plans
pub record TextsAreSafeByFlag (d : ℕ) (log : List (Option Message)) : Type 0 where
  pub plans : Plans
  pub lawful : AreLawful d plans log
  pub dense : AreDense d plans log
  pub texts : (now : ℕ) (r : Listener) → ListensByFlag now log r
      → HearsEachReign text_fragment now r.input (reigns d (marks text_mark log))
      → IfSome r.view.text (IsOfItsSource plans.text r.input (run_by_flag text_fragment r.input))
  pub tags : (now : ℕ) (r : Listener) → ListensByFlag now log r
      → HearsEachReign text_fragment now r.input (reigns d (marks text_mark log))
      → HearsTextBeforeTags plans.text r.input
      → ShowsNoTags r.view ⊎ ShowsEmptyText r.view ⊎ ShowsTagsOfText d plans.text (marks text_mark log) r.view

-- the same for names
pub record NamesAreSafeByFlag (d : ℕ) (log : List (Option Message)) : Type 0 where
  pub plans : Plans
  pub lawful : AreLawful d plans log
  pub dense : AreDense d plans log
  pub names : (now : ℕ) (r : Listener) → ListensByFlag now log r
      → HearsEachReign name_fragment now r.input (reigns d (marks name_mark log))
      → IfSome r.view.name (IsOfItsSource plans.name r.input (run_by_flag name_fragment r.input))

-- this holds for each log that passes without padding
abbrev pub WhatPassesIsSafeByTheFlag : Type 0
WhatPassesIsSafeByTheFlag =
    (d : ℕ) (log : List (Option Message)) → 0 < d → LogPasses Plain d log → IsSafeByFlag d log
