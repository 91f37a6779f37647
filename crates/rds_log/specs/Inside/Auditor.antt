-- The state of the taker of `audit` after these lines, the newest first.
use Rattle.std.specs.Prelude.{◌≡◌, ◌≢◌, [], ℕ, Bool, List, MatchOption, None, Option, false, length, refl, true}
use Rattle.std.proofs.Common.{subst}
use Rattle.rds_block.specs.declared.group.Group.{Group}
use Rattle.rds_audit.specs.AuditAt.{FollowsLog}
use Rattle.rds_audit.specs.Stored.{fault_of, form_of, start_of}
use Rattle.rds_log.specs.Audit.{SlotsPass, spacing}
use Rattle.rds_log.specs.FaultList.{LinesAnswer, LinesGoOn, SaysNo, SlotsList}
use Rattle.rds_lines.specs.LogLines.{Line}
use Rattle.rds_lines.specs.LogSlots.{AreSlots}
use Rattle.rds_log.specs.declared.audit_log.Auditing.{Auditing}
use Rattle.rds_log.specs.declared.audit_log.Stop.TheVariants.{FirstFault}
use Rattle.rds_log.specs.declared.auditor.Auditor.{Auditor}

-- the auditor took these lines, and this is their list
pub record HasAudited (a : Auditing) (l : Auditor) (lines : List Line) (total : List ℕ) : Type 0 where
  pub slots : List (Option Group)
  pub say : AreSlots a.rtplus lines slots
  pub rtplus : l.rtplus ≡ a.rtplus
  pub count : l.slots ≡ length slots
  pub stop : l.stop ≡ a.stop
  pub audit : FollowsLog a.pi (spacing a) l.audit slots
  pub begins : start_of l.audit ≡ a.start
  pub form : form_of l.audit ≡ a.form
  pub list : SlotsList a slots total
  pub first : MatchOption (fault_of l.audit) (SlotsPass a slots × (total ≡ []))
      (λ fault. SaysNo a.stop a fault slots total)
  pub wants : l.is_done ≡ false → a.stop ≡ FirstFault → fault_of l.audit ≡ None
  pub done : l.is_done ≡ true → (a.stop ≡ FirstFault) × (fault_of l.audit ≢ None)

pub audited_lines : (a : Auditing) (l : Auditor) (lines : List Line) (total : List ℕ) → HasAudited a l lines total
    → (l.is_done ≡ true → ⊥) → LinesGoOn a lines total
audited_lines a l lines total has wants = record {
  list = record { slots = has.slots; say = has.say; list = has.list };
  goes_on = λ first.
      subst (λ o. MatchOption o (SlotsPass a has.slots × (total ≡ [])) (λ fault. SaysNo a.stop a fault has.slots total))
      (has.wants (by l.is_done wants) first) has.first;
}
  where
    by : (b : Bool) → (b ≡ true → ⊥) → b ≡ false
    by true never = absurd (never refl)
    by false never = refl

pub audited_part : (a : Auditing) (l : Auditor) (lines : List Line) (total : List ℕ) → HasAudited a l lines total
    → total ≢ [] → LinesAnswer a lines total
audited_part a l lines total has some =
    record { list = record { slots = has.slots; say = has.say; list = has.list }; some = some }
