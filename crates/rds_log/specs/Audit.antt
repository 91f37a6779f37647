-- When the slots and the bytes of a log pass the audit, and what that means. Lists of slots and of lines have the
-- newest first. a says how the log is judged: its programme and the group type of its tags, M, K, whether it begins
-- with its station, the form of its texts, and where the audit stops.
use Rattle.std.specs.Prelude.{◌≡◌, ◌+◌, ◌∷◌, ℕ, List, Option, length}
use Rattle.rds_block.specs.declared.group.Group.{Group}
use Rattle.rds_fields.specs.declared.message.Message.{Message}
use Rattle.rds_receiver.specs.Receipts.{heard_of}
use Rattle.rds_audit.specs.AuditLaws.{IsSafeLog, IsSafeRecording}
use Rattle.rds_audit.specs.Dense.{HasPlans}
use Rattle.rds_audit.specs.Listing.{IsFaultOf}
use Rattle.rds_audit.specs.Recording.{judged_as}
use Rattle.rds_audit.specs.Rules.{LogPasses}
use Rattle.rds_audit.specs.declared.audit.AuditFault.{AuditFault}
use Rattle.rds_audit.specs.declared.log_start.LogStart.{LogStart}
use Rattle.rds_audit.specs.declared.text_form.TextForm.{TextForm}
use Rattle.rds_audit.specs.declared.text_form.TextForm.TheVariants.{Plain}
use Rattle.rds_audit.specs.declared.log_start.LogStart.TheVariants.{Complete, Running}
use Rattle.rds_lines.specs.LogLines.{AreLines, Line}
use Rattle.rds_lines.specs.LogSlots.{AreSlots}
use Rattle.rds_lines.specs.Reads.{BeginsWith}
use Rattle.rds_log.specs.declared.audit_log.Auditing.{Auditing}
use Rattle.rds_log.specs.declared.audit_log.Stop.TheVariants.{FirstFault}

-- ---- settings

-- M + K, the number of slots that keeps broadcasts apart
abbrev pub spacing : Auditing → ℕ
spacing a = a.dwell + a.late

-- the settings for the first fault of a complete log with tags in groups 11A
abbrev pub complete : ℕ → ℕ → ℕ → Auditing
complete pi m k =
    record { pi = pi; rtplus = 11; dwell = m; late = k; start = Complete; form = Plain; stop = FirstFault }

-- what is judged of the messages of these slots
abbrev pub judged : Auditing → List (Option Group) → List (Option Message)
judged a slots = judged_as a.start (spacing a) (heard_of a.pi slots)

-- ---- slots

-- the slots pass the audit of this programme
pub record SlotsPass (a : Auditing) (slots : List (Option Group)) : Type 0 where
  pub passes : LogPasses a.form (spacing a) (judged a slots)

-- the newest slot has number t, those before it pass, and this is the fault of all
pub record SlotsFail (a : Auditing) (t : ℕ) (fault : AuditFault) (slots : List (Option Group)) : Type 0 where
  pub newest : Option Group
  pub before : List (Option Group)
  pub cut : slots ≡ newest ∷ before
  pub number : t ≡ length before
  pub passed : SlotsPass a before
  pub fault_is : IsFaultOf a.form (spacing a) (judged a slots) fault

-- a log that begins so, with texts of this form, is safe as it is
abbrev pub IsSafe : LogStart → TextForm → ℕ → ℕ → List (Option Message) → Type 0
IsSafe Complete form m k heard = IsSafeLog form m k heard
IsSafe Running form m k heard = IsSafeRecording form m k heard

-- no receiver of this dwell breaks any part of the promise over these slots, provided that no group reaches it later
-- than the settings allow; it may lose groups and restart at any time
pub record SlotsAreSafe (a : Auditing) (slots : List (Option Group)) : Type 0 where
  pub safe : IsSafe a.start a.form a.dwell a.late (heard_of a.pi slots)

-- these slots, as they are judged, have no lawful and dense plans
pub record SlotsHaveNoPlans (a : Auditing) (slots : List (Option Group)) : Type 0 where
  pub none : HasPlans a.form (spacing a) (judged a slots) → ⊥

-- ---- bytes

-- all lines of the text are good, n of them are slots, and these pass
pub record WholePasses (a : Auditing) (n : ℕ) (text : List ℕ) : Type 0 where
  pub lines : List Line
  pub are : AreLines text lines
  pub slots : List (Option Group)
  pub say : AreSlots a.rtplus lines slots
  pub number : n ≡ length slots
  pub pass : SlotsPass a slots

-- the text begins with good lines. The newest slot of these has number t, and the slots before it pass
pub record StopsAtSlot (a : Auditing) (t : ℕ) (fault : AuditFault) (text : List ℕ)
    (left : Option (List ℕ)) : Type 0 where
  pub lines : List Line
  pub begins : BeginsWith text left lines
  pub slots : List (Option Group)
  pub say : AreSlots a.rtplus lines slots
  pub fail : SlotsFail a t fault slots
