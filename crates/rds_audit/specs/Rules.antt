-- The rules of the audit (this project's own): when a log passes. A log passes if each of its reigns can be a
-- broadcast, from its start to its last slot, and tags come after a segment. Lists have the newest first.
use Rattle.std.specs.Prelude.{◌≤◌, ◌+◌, ℕ, List, Option, length}
use Rattle.std.specs.List.{AllByRecursion}
use Rattle.rds_fields.specs.declared.message.Message.{Message}
use Rattle.rds_fields.specs.Tag.{BothEndIn}
use Rattle.rds_receiver.specs.declared.fragment.Fragment.{Fragment}
use Rattle.rds_safety.specs.Lawful.{Kind, names}
use Rattle.rds_safety.specs.Marks.{Mark, marks, name_mark, text_mark}
use Rattle.rds_audit.specs.Dense.{TagsAreAfter}
use Rattle.rds_audit.specs.Forms.{text_kind}
use Rattle.rds_audit.specs.Reigns.{Reign, SentTags, reigns}
use Rattle.rds_audit.specs.declared.text_form.TextForm.{TextForm}

-- some valid value has all of the fragments, and all of the tags end in it
pub record HaveOneValue (kind : Kind) (fragments : List Fragment) (tags : List SentTags) : Type 0 where
  pub value : List ℕ
  pub valid : kind.IsValue value
  pub has : AllByRecursion (kind.HasPart value) fragments
  pub ends : AllByRecursion (λ (s : SentTags). BothEndIn (length value) s.pair) tags

-- the reign can be a broadcast from its start to its last slot: it starts no later than its first fragment, its tags
-- come at least d slots after its start, and all of it is of one value
pub record CanBeBroadcast (d : ℕ) (kind : Kind) (r : Reign) : Type 0 where
  pub begun : r.start ≤ r.opened
  pub lasted : AllByRecursion (λ (s : SentTags). r.start + d ≤ s.slot) r.tags
  pub one : HaveOneValue kind r.fragments r.tags

-- a service passes: each reign can be a broadcast, and tags come after a fragment
pub record Passes (d : ℕ) (kind : Kind) (sent : List Mark) : Type 0 where
  pub reigns : AllByRecursion (CanBeBroadcast d kind) (reigns d sent)
  pub tagged : TagsAreAfter sent

-- a log passes: its texts of this form pass, and its names pass
pub record LogPasses (form : TextForm) (d : ℕ) (log : List (Option Message)) : Type 0 where
  pub text : Passes d (text_kind form) (marks text_mark log)
  pub name : Passes d names (marks name_mark log)
