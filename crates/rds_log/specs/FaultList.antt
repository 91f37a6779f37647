-- What `audit` writes: a line for the first fault of a log, after which it stops, or a line for each fault; or the line
-- of a yes. Lists of slots, of lines and of the faults of slots have the newest first. a says how the log is judged. r
-- is the traffic with the reader, w the traffic with the writer.
use Rattle.std.specs.Prelude.{◌≡◌, ◌≢◌, ◌⊎◌, ◌++◌, [], ◌∷◌, ℕ, Bool, List, Option, None, Some, Ok, Err, Result, codes}
use Rattle.std.specs.Prelude.{decimal, false, if◌then◌else◌, length, true}
use Rattle.std.specs.Io.KnownBytes.{Appends, Consumes, IsAtEnd}
use Rattle.rds_block.specs.declared.group.Group.{Group}
use Rattle.rds_io.specs.Told.{AppendsPrefix, HasFailed, IsCalm, Traffic}
use Rattle.rds_fields.specs.declared.message.Message.{Message}
use Rattle.rds_audit.specs.declared.audit.AuditFault.{AuditFault}
use Rattle.rds_audit.specs.declared.audit.AuditFault.TheVariants.{Changed, NotOneText, EarlyFlag, EarlyTag, TagOutside}
use Rattle.rds_audit.specs.declared.fault_set.FaultSet.{FaultSet}
use Rattle.rds_audit.specs.Listing.{first_of, slot_adds}
use Rattle.rds_audit.specs.declared.text_form.TextForm.{TextForm}
use Rattle.rds_log.specs.Audit.{SlotsAreSafe, SlotsFail, SlotsHaveNoPlans, SlotsPass, StopsAtSlot, WholePasses, judged}
use Rattle.rds_log.specs.Audit.{spacing}
use Rattle.rds_lines.specs.LogLines.{AreLines, Line}
use Rattle.rds_lines.specs.LogSlots.{AreSlots}
use Rattle.rds_lines.specs.Outputs.{StopsAtWrite, StopsBy}
use Rattle.rds_lines.specs.Reads.{BeginsWith}
use Rattle.rds_log.specs.declared.audit_log.Auditing.{Auditing}
use Rattle.rds_log.specs.declared.audit_log.Stop.{Stop}
use Rattle.rds_log.specs.declared.audit_log.Stop.TheVariants.{FirstFault, LogEnd}
use Rattle.rds_io.specs.declared.fault.LogFault.{LogFault}
use Rattle.rds_io.specs.declared.fault.LogFault.TheVariants.{BadLine, BadRow, Read, Write, TooLong, Memory}

-- ---- lines

abbrev pub fault_name : AuditFault → List ℕ
fault_name Changed = codes "Changed"
fault_name NotOneText = codes "NotOneText"
fault_name EarlyFlag = codes "EarlyFlag"
fault_name EarlyTag = codes "EarlyTag"
fault_name TagOutside = codes "TagOutside"

-- the line of a yes, for a log with so many slots
abbrev pub yes_line : ℕ → List ℕ
yes_line n = codes "yes " ++ decimal n ++ codes "\n"

-- the line of a no: a fault of slot t
abbrev pub no_line : ℕ → AuditFault → List ℕ
no_line t fault = codes "no " ++ decimal t ++ codes " " ++ fault_name fault ++ codes "\n"

-- the line of a fault of slot t, if the slot has it
abbrev pub line_if : Bool → ℕ → AuditFault → List ℕ
line_if has t fault = if has then no_line t fault else []

-- the lines of the faults of slot t, in their order
abbrev pub fault_lines : ℕ → FaultSet → List ℕ
fault_lines t f =
    line_if f.changed t Changed
    ++ (line_if f.early_flag t EarlyFlag
    ++ (line_if f.not_one_text t NotOneText
    ++ (line_if f.early_tag t EarlyTag
    ++ line_if f.tag_outside t TagOutside)))

-- the line of the first of these faults of slot t
abbrev pub first_line : ℕ → Option AuditFault → List ℕ
first_line t None = []
first_line t (Some fault) = no_line t fault

-- the lines of these faults of slot t that an audit writes which stops there
abbrev pub lines_for : Stop → ℕ → FaultSet → List ℕ
lines_for FirstFault t f = first_line t (first_of f)
lines_for LogEnd t f = fault_lines t f

-- the lines of the faults of these slots, the oldest first
abbrev pub list_lines : Stop → List FaultSet → List ℕ
list_lines stop [] = []
list_lines stop (f ∷ before) = list_lines stop before ++ lines_for stop (length before) f

-- ---- the faults of slots

-- these are the faults that the newest slots of a log add to its list, one set for each of them
abbrev pub AreAdded : TextForm → ℕ → List (Option Message) → List FaultSet → Type 0
AreAdded form d judged [] = Unit {0}
AreAdded form d [] (f ∷ older) = ⊥
AreAdded form d (newest ∷ before) (f ∷ older) =
    (f ≡ slot_adds form d newest before) × AreAdded form d before older

-- these are the faults that each of the slots adds to the list of its log, as the log is judged
pub record AreFaultsOf (a : Auditing) (slots : List (Option Group)) (faults : List FaultSet) : Type 0 where
  pub each : length faults ≡ length slots
  pub added : AreAdded a.form (spacing a) (judged a slots) faults

-- ---- the list of slots

-- the first of these slots up to one fail with this fault, and the output begins with the line of that
pub record BeginsWithNo (a : Auditing) (fault : AuditFault) (slots : List (Option Group)) (written : List ℕ)
    : Type 0 where
  pub newer : List (Option Group)
  pub failed : List (Option Group)
  pub cut : slots ≡ newer ++ failed
  pub number : ℕ
  pub fail : SlotsFail a number fault failed
  pub further : List ℕ
  pub lines : written ≡ no_line number fault ++ further

-- the slots fail with this fault at the newest one, and the output is the line of that
pub record IsNo (a : Auditing) (fault : AuditFault) (slots : List (Option Group)) (written : List ℕ) : Type 0 where
  pub number : ℕ
  pub fail : SlotsFail a number fault slots
  pub line : written ≡ no_line number fault

-- this is the first fault of the slots, and the output says so; an audit that stops at the first fault stopped there
abbrev pub SaysNo : Stop → Auditing → AuditFault → List (Option Group) → List ℕ → Type 0
SaysNo FirstFault a fault slots written = IsNo a fault slots written
SaysNo LogEnd a fault slots written = BeginsWithNo a fault slots written

-- these are the lines of the faults of the slots: none if the slots pass
pub record SlotsList (a : Auditing) (slots : List (Option Group)) (written : List ℕ) : Type 0 where
  pub faults : List FaultSet
  pub are : AreFaultsOf a slots faults
  pub lines : written ≡ list_lines a.stop faults
  pub answer : (SlotsPass a slots × (written ≡ [])) ⊎ ((fault : AuditFault) × SaysNo a.stop a fault slots written)

-- the lines are good, and these are the lines of their faults
pub record LinesList (a : Auditing) (lines : List Line) (written : List ℕ) : Type 0 where
  pub slots : List (Option Group)
  pub say : AreSlots a.rtplus lines slots
  pub list : SlotsList a slots written

-- and the audit goes on: if it stops at the first fault, the slots pass so far
pub record LinesGoOn (a : Auditing) (lines : List Line) (written : List ℕ) : Type 0 where
  pub list : LinesList a lines written
  pub goes_on : a.stop ≡ FirstFault → SlotsPass a list.slots × (written ≡ [])

-- or at least one line is to be written
pub record LinesAnswer (a : Auditing) (lines : List Line) (written : List ℕ) : Type 0 where
  pub list : LinesList a lines written
  pub some : written ≢ []

-- ---- the run

-- the reader was read to its end, its slots pass, and the line of a yes was written
pub record AnswersYes (a : Auditing) (r w : Traffic) : Type 0 where
  pub text : List ℕ
  pub read : Consumes r.before r.after text
  pub end : IsAtEnd r.after
  pub number : ℕ
  pub passes : WholePasses a number text
  pub wrote : Appends w.before w.after (yes_line number)
  pub read_calm : IsCalm r
  pub write_calm : IsCalm w

-- the reader was read up to a slot that does not pass, and the line of that was written
pub record AnswersNo (a : Auditing) (r w : Traffic) : Type 0 where
  pub text : List ℕ
  pub read : Consumes r.before r.after text
  pub number : ℕ
  pub fault : AuditFault
  pub stops : StopsAtSlot a number fault text r.after
  pub wrote : Appends w.before w.after (no_line number fault)
  pub read_calm : IsCalm r
  pub write_calm : IsCalm w

-- the reader was read to its end, and the lines of its faults were written, of which there are some
pub record ListsFaults (a : Auditing) (r w : Traffic) : Type 0 where
  pub text : List ℕ
  pub read : Consumes r.before r.after text
  pub end : IsAtEnd r.after
  pub lines : List Line
  pub are : AreLines text lines
  pub written : List ℕ
  pub list : LinesList a lines written
  pub some : (fault : AuditFault) × BeginsWithNo a fault list.slots written
  pub wrote : Appends w.before w.after written
  pub read_calm : IsCalm r
  pub write_calm : IsCalm w

-- the writer failed at the line of a yes
pub record LosesYes (a : Auditing) (text : List ℕ) (left : Option (List ℕ)) (w : Traffic) : Type 0 where
  pub end : IsAtEnd left
  pub number : ℕ
  pub passes : WholePasses a number text
  pub wrote : AppendsPrefix w.before w.after (yes_line number)
  pub failed : HasFailed w

-- the audit found a fault
abbrev pub FindsFaults : Stop → Auditing → Traffic → Traffic → Type 0
FindsFaults FirstFault a r w = AnswersNo a r w
FindsFaults LogEnd a r w = ListsFaults a r w

-- the result of `audit` with at most this many reads
abbrev pub Audits : Auditing → ℕ → Traffic → Traffic → Result Bool LogFault → Type 0
Audits a reads r w (Ok true) = AnswersYes a r w
Audits a reads r w (Ok false) = FindsFaults a.stop a r w
Audits a reads r w (Err Write) = (text : List ℕ) × Consumes r.before r.after text
    × (StopsAtWrite (LinesAnswer a) text r.after w ⊎ LosesYes a text r.after w) × IsCalm r
Audits a reads r w (Err (BadLine n)) = StopsBy (LinesGoOn a) (LinesAnswer a) reads r w (BadLine n)
Audits a reads r w (Err (BadRow n)) = ⊥
Audits a reads r w (Err Read) = StopsBy (LinesGoOn a) (LinesAnswer a) reads r w Read
Audits a reads r w (Err TooLong) = StopsBy (LinesGoOn a) (LinesAnswer a) reads r w TooLong
Audits a reads r w (Err Memory) = ⊥

-- ---- the meaning of an answer

-- the log was read to its end, its lines are good, and their slots are safe
pub record WholeIsSafe (a : Auditing) (r : Traffic) : Type 0 where
  pub text : List ℕ
  pub read : Consumes r.before r.after text
  pub end : IsAtEnd r.after
  pub lines : List Line
  pub are : AreLines text lines
  pub slots : List (Option Group)
  pub say : AreSlots a.rtplus lines slots
  pub safe : SlotsAreSafe a slots

-- the log begins with good lines, and the first of their slots have no plans
pub record BeginsWithNoPlans (a : Auditing) (r : Traffic) : Type 0 where
  pub text : List ℕ
  pub read : Consumes r.before r.after text
  pub lines : List Line
  pub begins : BeginsWith text r.after lines
  pub slots : List (Option Group)
  pub say : AreSlots a.rtplus lines slots
  pub newer : List (Option Group)
  pub failed : List (Option Group)
  pub cut : slots ≡ newer ++ failed
  pub none : SlotsHaveNoPlans a failed

-- after a yes, the whole log as it is is safe for every receiver of this dwell whose groups come at most so late;
-- after a no, the first slots of the log, as they are judged, have no lawful and dense plans
abbrev pub Means : Auditing → Traffic → Result Bool LogFault → Type 0
Means a r (Ok true) = WholeIsSafe a r
Means a r (Ok false) = BeginsWithNoPlans a r
Means a r (Err fault) = Unit {0}
