-- What a fault of each name means, over the rules of the audit (this project's own). Lists have the newest first.
use Rattle.std.specs.Prelude.{◌≡◌, ◌⊎◌, ◌≤◌, ◌<◌, ◌+◌, ◌++◌, ◌∷◌, [], ℕ, Bool, true, false, List, Option, length}
use Rattle.std.specs.List.{AllByRecursion}
use Rattle.rds_fields.specs.declared.message.Message.{Message}
use Rattle.rds_audit.specs.declared.audit.AuditFault.{AuditFault}
use Rattle.rds_audit.specs.declared.audit.AuditFault.TheVariants.{Changed, NotOneText, EarlyFlag, EarlyTag, TagOutside}
use Rattle.rds_receiver.specs.declared.fragment.Fragment.{Fragment}
use Rattle.rds_audit.specs.Forms.{text_kind}
use Rattle.rds_audit.specs.declared.text_form.TextForm.{TextForm}
use Rattle.rds_audit.specs.Lengths.{is_other, sent_last}
use Rattle.rds_audit.specs.Listing.{IsFaultOf}
use Rattle.rds_audit.specs.ListingLaws.{IsFormedMessage}
use Rattle.rds_audit.specs.Reigns.{Reign, reigns}
use Rattle.rds_audit.specs.Rules.{HaveOneValue, LogPasses}
use Rattle.rds_safety.specs.Lawful.{Kind, names}
use Rattle.rds_safety.specs.Marks.{Mark, Nothing, Sends, Tagged, marks, name_mark, text_mark}

-- the newest of these fragments has other bytes than its address was sent with last
abbrev pub has_other_bytes : List Fragment → Bool
has_other_bytes [] = false
has_other_bytes (p ∷ older) = is_other (sent_last p.address older) p.bytes

-- the rule that a fragment breaks first, by the newest reign with it: the reign opened before its broadcast can have
-- started; or else no value has its fragments, and the newest one has other bytes than its address was sent with last;
-- or else no value has them; or else one has, and tags end past each such value
abbrev pub BreaksByFragment : Kind → List Reign → AuditFault → Type 0
BreaksByFragment kind [] fault = ⊥
BreaksByFragment kind (r ∷ older) EarlyFlag = r.opened < r.start
BreaksByFragment kind (r ∷ older) Changed =
    (r.start ≤ r.opened) × (has_other_bytes r.fragments ≡ true) × (HaveOneValue kind r.fragments [] → ⊥)
BreaksByFragment kind (r ∷ older) NotOneText =
    (r.start ≤ r.opened) × (has_other_bytes r.fragments ≡ false) × (HaveOneValue kind r.fragments [] → ⊥)
BreaksByFragment kind (r ∷ older) TagOutside =
    (r.start ≤ r.opened) × HaveOneValue kind r.fragments [] × (HaveOneValue kind r.fragments r.tags → ⊥)
BreaksByFragment kind (r ∷ older) EarlyTag = ⊥

-- the rule that tags in this slot break first, by the newest reign with them: there is no reign, or they come less than
-- d slots after its start; or else no value has its fragments with all its tags
abbrev pub BreaksByTags : ℕ → Kind → ℕ → List Reign → AuditFault → Type 0
BreaksByTags d kind slot [] fault = fault ≡ EarlyTag
BreaksByTags d kind slot (r ∷ older) EarlyTag = slot < r.start + d
BreaksByTags d kind slot (r ∷ older) TagOutside =
    (r.start + d ≤ slot) × (HaveOneValue kind r.fragments r.tags → ⊥)
BreaksByTags d kind slot (r ∷ older) Changed = ⊥
BreaksByTags d kind slot (r ∷ older) EarlyFlag = ⊥
BreaksByTags d kind slot (r ∷ older) NotOneText = ⊥

-- the rule that the newest mark of a service breaks first
abbrev pub BreaksRule : ℕ → Kind → Mark → List Mark → AuditFault → Type 0
BreaksRule d kind Nothing before fault = ⊥
BreaksRule d kind (Sends p) before fault = BreaksByFragment kind (reigns d (Sends p ∷ before)) fault
BreaksRule d kind (Tagged pair) before fault =
    BreaksByTags d kind (length before) (reigns d (Tagged pair ∷ before)) fault

-- the log passes up to some slot, and this is the rule that its next slot breaks first, for texts of this form or for
-- names
pub record FailsBy (form : TextForm) (d : ℕ) (log : List (Option Message)) (fault : AuditFault) : Type 0 where
  pub later : List (Option Message)
  pub newest : Option Message
  pub before : List (Option Message)
  pub slots : log ≡ later ++ newest ∷ before
  pub passed : LogPasses form d before
  pub breaks : BreaksRule d (text_kind form) (text_mark newest) (marks text_mark before) fault
      ⊎ BreaksRule d names (name_mark newest) (marks name_mark before) fault

-- the fault of a log of messages in the form that is sent has the name of the rule that its first failing slot breaks
-- first
abbrev pub FaultsBreakTheirRules : Type 0
FaultsBreakTheirRules =
    (form : TextForm) (d : ℕ) (log : List (Option Message)) (fault : AuditFault) → AllByRecursion IsFormedMessage log
    → IsFaultOf form d log fault → FailsBy form d log fault
