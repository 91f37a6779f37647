-- When a plan is dense for the marks of a service (this project's own rule): within a broadcast, less than d slots pass
-- from a fragment or tags to the next fragment. So the fragments of one broadcast can be separated from those of two.
-- Lists have the newest first.
use Rattle.std.specs.Prelude.{◌≢◌, ◌≤◌, ◌<◌, ◌+◌, ℕ, List, Option}
use Rattle.rds_fields.specs.declared.message.Message.{Message}
use Rattle.rds_fields.specs.Tag.{PairFields}
use Rattle.rds_encoder.specs.Plan.{Broadcast, Covers, HasNumber}
use Rattle.rds_receiver.specs.declared.fragment.Fragment.{Fragment}
use Rattle.rds_safety.specs.Lawful.{IsAfterFragment, IsLawful, Kind}
use Rattle.rds_safety.specs.Marks.{IsMarkIn, Mark, Nothing, Sends, Tagged, marks, name_mark, text_mark}
use Rattle.rds_safety.specs.Plans.{AreLawfulAs, Plans}
use Rattle.rds_audit.specs.Forms.{text_kind}
use Rattle.rds_audit.specs.declared.text_form.TextForm.{TextForm}

-- a fragment or tags were sent in the slot
pub record IsMarked (sent : List Mark) (slot : ℕ) : Type 0 where
  pub mark : Mark
  pub some : mark ≢ Nothing
  pub is_sent : IsMarkIn sent slot mark

-- something was sent in slot u or later, before slot t and less than d slots before it
pub record IsBridged (d : ℕ) (sent : List Mark) (u t : ℕ) : Type 0 where
  pub slot : ℕ
  pub marked : IsMarked sent slot
  pub from : u ≤ slot
  pub before : slot < t
  pub near : t < slot + d

-- a fragment was sent in the broadcast before slot t
pub record HasFragmentBefore (sent : List Mark) (b : Broadcast) (t : ℕ) : Type 0 where
  pub slot : ℕ
  pub fragment : Fragment
  pub is_sent : IsMarkIn sent slot (Sends fragment)
  pub covers : Covers b slot
  pub before : slot < t

-- in each broadcast, each fragment except the first comes less than d slots after the fragment before it, or after tags
-- sent since; and tags come after a fragment
pub record IsDense (d : ℕ) (plan : List Broadcast) (sent : List Mark) : Type 0 where
  pub fragments : (k : ℕ) (b : Broadcast) (u t : ℕ) (earlier later : Fragment) → HasNumber plan k b → Covers b u
      → Covers b t → IsMarkIn sent u (Sends earlier) → IsMarkIn sent t (Sends later) → u < t → IsBridged d sent u t
  pub tags : (k : ℕ) (b : Broadcast) (t : ℕ) (pair : PairFields) → HasNumber plan k b → Covers b t
      → IsMarkIn sent t (Tagged pair) → HasFragmentBefore sent b t

-- tags come after a fragment
abbrev pub TagsAreAfter : List Mark → Type 0
TagsAreAfter sent = (t : ℕ) (pair : PairFields) → IsMarkIn sent t (Tagged pair) → IsAfterFragment sent t

-- both plans are dense for the log
pub record AreDense (d : ℕ) (plans : Plans) (log : List (Option Message)) : Type 0 where
  pub text : IsDense d plans.text (marks text_mark log)
  pub name : IsDense d plans.name (marks name_mark log)

-- the service has a plan that is lawful and dense for these marks, and its tags come after a fragment
pub record HasPlan (d : ℕ) (kind : Kind) (sent : List Mark) : Type 0 where
  pub plan : List Broadcast
  pub lawful : IsLawful d kind plan sent
  pub dense : IsDense d plan sent
  pub tagged : TagsAreAfter sent

-- the log has plans of texts of this form, and of names, that are lawful and dense, and its tags come after a fragment
pub record HasPlans (form : TextForm) (d : ℕ) (log : List (Option Message)) : Type 0 where
  pub plans : Plans
  pub lawful : AreLawfulAs (text_kind form) d plans log
  pub dense : AreDense d plans log
  pub tagged : TagsAreAfter (marks text_mark log)
