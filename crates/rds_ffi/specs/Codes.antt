-- The codes that the calls return, by their names in C, and the number of this interface (this project's own).
use Rattle.std.specs.Prelude.{◌≡◌, ◌==◌, ◌||◌, ℕ, List, Option, Some, None, Result, Ok, Err, MatchOption}
use Rattle.rds_fields.specs.declared.message.Message.{Message}
use Rattle.rds_audit.specs.Listing.{IsFaultOf}
use Rattle.rds_audit.specs.Rules.{LogPasses}
use Rattle.rds_audit.specs.AuditState.{form_if, start_if}
use Rattle.rds_audit.specs.declared.log_start.LogStart.{LogStart}
use Rattle.rds_audit.specs.declared.text_form.TextForm.{TextForm}
use Rattle.rds_fields.specs.declared.pair.Which.TheVariants.{One, Two}
use Rattle.rds_assembly.specs.declared.text.TextRefused.{TextRefused}
use Rattle.rds_assembly.specs.declared.text.TextRefused.TheVariants.{TooLong, BadByte}
use Rattle.rds_encoder.specs.declared.reply.Refusal.TheVariants.{Silent, Held, NoText, OutOfText}
use Rattle.rds_encoder.specs.Reply.{Reply}
use Rattle.rds_audit.specs.declared.audit.AuditFault.{AuditFault}
use Rattle.rds_audit.specs.declared.audit.AuditFault.TheVariants.{Changed, NotOneText, EarlyFlag, EarlyTag, TagOutside}
use Rattle.rds_ffi.specs.declared.reply.RdsrtReply.{RdsrtReply}

-- it changes with every size, offset, code or call of the header
abbrev pub RDSRT_ABI : ℕ
RDSRT_ABI = 10

-- the times do not tell how many slots were lost
abbrev pub RDSRT_UNKNOWN : ℕ
RDSRT_UNKNOWN = 4294967295

abbrev pub RDSRT_OK : ℕ
RDSRT_OK = 0

abbrev pub RDSRT_CHANGED : ℕ
RDSRT_CHANGED = 1

abbrev pub RDSRT_SENT : ℕ
RDSRT_SENT = 1

abbrev pub RDSRT_BAD_ARGUMENT : ℕ
RDSRT_BAD_ARGUMENT = 2

abbrev pub RDSRT_SILENT : ℕ
RDSRT_SILENT = 3

abbrev pub RDSRT_HELD : ℕ
RDSRT_HELD = 4

abbrev pub RDSRT_NO_TEXT : ℕ
RDSRT_NO_TEXT = 5

abbrev pub RDSRT_OUT_OF_TEXT_1 : ℕ
RDSRT_OUT_OF_TEXT_1 = 6

abbrev pub RDSRT_OUT_OF_TEXT_2 : ℕ
RDSRT_OUT_OF_TEXT_2 = 7

abbrev pub RDSRT_TOO_LONG : ℕ
RDSRT_TOO_LONG = 8

abbrev pub RDSRT_BAD_BYTE : ℕ
RDSRT_BAD_BYTE = 9

abbrev pub RDSRT_BAD_TAGS : ℕ
RDSRT_BAD_TAGS = 10

abbrev pub RDSRT_NOT_UTF8 : ℕ
RDSRT_NOT_UTF8 = 11

abbrev pub RDSRT_BAD_ESCAPE : ℕ
RDSRT_BAD_ESCAPE = 12

abbrev pub RDSRT_NO_CHARACTER : ℕ
RDSRT_NO_CHARACTER = 13

abbrev pub RDSRT_NO_ROOM : ℕ
RDSRT_NO_ROOM = 14

abbrev pub RDSRT_FAULT_CHANGED : ℕ
RDSRT_FAULT_CHANGED = 17

abbrev pub RDSRT_FAULT_NOT_ONE_TEXT : ℕ
RDSRT_FAULT_NOT_ONE_TEXT = 18

abbrev pub RDSRT_FAULT_EARLY_FLAG : ℕ
RDSRT_FAULT_EARLY_FLAG = 19

abbrev pub RDSRT_FAULT_EARLY_TAG : ℕ
RDSRT_FAULT_EARLY_TAG = 20

abbrev pub RDSRT_FAULT_TAG_OUTSIDE : ℕ
RDSRT_FAULT_TAG_OUTSIDE = 21

-- ---- the flags of an audit

-- the station was on air before the log began
abbrev pub RDSRT_AUDIT_RUNNING : ℕ
RDSRT_AUDIT_RUNNING = 1

-- texts may have padding
abbrev pub RDSRT_AUDIT_PADDED : ℕ
RDSRT_AUDIT_PADDED = 2

-- both
abbrev pub all_flags : ℕ
all_flags = 3

-- where a log with these flags begins, and the form of its texts
abbrev pub start_by : ℕ → LogStart
start_by flags = start_if (flags == RDSRT_AUDIT_RUNNING || flags == all_flags)

abbrev pub form_by : ℕ → TextForm
form_by flags = form_if (flags == RDSRT_AUDIT_PADDED || flags == all_flags)

-- ---- replies

-- the code of an encoder's reply, with the slots to wait
abbrev pub reply_of : Reply → RdsrtReply
reply_of (Ok done) = record { code = RDSRT_OK; number = 0 }
reply_of (Err (Silent k)) = record { code = RDSRT_SILENT; number = k }
reply_of (Err (Held k)) = record { code = RDSRT_HELD; number = k }
reply_of (Err NoText) = record { code = RDSRT_NO_TEXT; number = 0 }
reply_of (Err (OutOfText One)) = record { code = RDSRT_OUT_OF_TEXT_1; number = 0 }
reply_of (Err (OutOfText Two)) = record { code = RDSRT_OUT_OF_TEXT_2; number = 0 }

-- the numbers are those of some reply of this kind
abbrev pub IsReplyOf : (Reply → Type 0) → RdsrtReply → Type 0
IsReplyOf IsKind r = (reply : Reply) × IsKind reply × (r ≡ reply_of reply)

-- the code of bytes that are not a valid text or name, with the place of the first byte that is refused
abbrev pub refusal_of : TextRefused → RdsrtReply
refusal_of TooLong = record { code = RDSRT_TOO_LONG; number = 0 }
refusal_of (BadByte place) = record { code = RDSRT_BAD_BYTE; number = place }

-- the code of an audit's fault, or of none
abbrev pub code_of : Option AuditFault → ℕ
code_of None = RDSRT_OK
code_of (Some Changed) = RDSRT_FAULT_CHANGED
code_of (Some NotOneText) = RDSRT_FAULT_NOT_ONE_TEXT
code_of (Some EarlyFlag) = RDSRT_FAULT_EARLY_FLAG
code_of (Some EarlyTag) = RDSRT_FAULT_EARLY_TAG
code_of (Some TagOutside) = RDSRT_FAULT_TAG_OUTSIDE

-- the fault of a result
abbrev pub fault_in : Result (Unit {0}) AuditFault → Option AuditFault
fault_in (Ok done) = None
fault_in (Err fault) = Some fault

-- the code is that of the fault of the log, or says that it passes
abbrev pub Tells : TextForm → ℕ → ℕ → List (Option Message) → Type 0
Tells form code d heard = (found : Option AuditFault) × (code ≡ code_of found)
    × MatchOption found (LogPasses form d heard) (λ fault. IsFaultOf form d heard fault)

-- the code is that of a fault, or the code for no fault
abbrev pub IsFaultCode : ℕ → Type 0
IsFaultCode code = (found : Option AuditFault) × (code ≡ code_of found)
