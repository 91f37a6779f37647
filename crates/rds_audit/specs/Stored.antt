-- What the numbers of an audit mean (this project's own form).
use Rattle.std.specs.Prelude.{ℕ, ◌+◌, ◌*◌, ◌^◌, ◌≤◌, ◌==◌, List, Option, Some, None, map, slice_index, if◌then◌else◌}
use Rattle.rds_fields.specs.Stored.{is_set}
use Rattle.rds_audit.specs.Ages.{Ages}
use Rattle.rds_audit.specs.ReignsState.{ContentState, ReignsState}
use Rattle.rds_audit.specs.AuditState.{SpansState, form_if, start_if}
use Rattle.rds_audit.specs.declared.audit.Audit.{Audit}
use Rattle.rds_audit.specs.declared.audit.AuditFault.{AuditFault}
use Rattle.rds_audit.specs.declared.audit.AuditFault.TheVariants.{Changed, NotOneText, EarlyFlag, EarlyTag, TagOutside}
use Rattle.rds_audit.specs.declared.stored.StoredCell.{StoredCell}
use Rattle.rds_audit.specs.declared.fault_set.FaultSet.{FaultSet}
use Rattle.rds_audit.specs.declared.log_start.LogStart.{LogStart}
use Rattle.rds_audit.specs.declared.stored.StoredFaults.{StoredFaults}
use Rattle.rds_audit.specs.declared.stored.StoredReigns.{StoredReigns}
use Rattle.rds_audit.specs.declared.stored.StoredSpans.{StoredSpans}
use Rattle.rds_audit.specs.declared.text_form.TextForm.{TextForm}

abbrev pub cell_stored : StoredCell → Option (List ℕ)
cell_stored c = if is_set c.is_sent then Some c.bytes else None

abbrev pub ages_stored : StoredReigns → Ages
ages_stored s = record {
  is_open = is_set s.is_open;
  flag = is_set s.flag;
  since_last = s.since_last;
  since_before = s.since_before;
  since_start = s.since_start;
  turns = is_set s.turns;
}

-- the set of lengths: two numbers of 64 bits
abbrev pub lengths_stored : StoredReigns → ℕ
lengths_stored s = slice_index s.lengths 1 * 2 ^ 64 + slice_index s.lengths 0

abbrev pub content_stored : StoredReigns → ContentState
content_stored s = record {
  cells = map cell_stored s.cells;
  lengths = lengths_stored s;
  tags_end = s.tags_end;
}

abbrev pub reigns_stored : StoredReigns → ReignsState
reigns_stored s = record { ages = ages_stored s; content = content_stored s }

-- the code of a fault, 0 if there is none
abbrev pub code_of_fault : Option AuditFault → ℕ
code_of_fault None = 0
code_of_fault (Some Changed) = 17
code_of_fault (Some NotOneText) = 18
code_of_fault (Some EarlyFlag) = 19
code_of_fault (Some EarlyTag) = 20
code_of_fault (Some TagOutside) = 21

-- the fault with this code; each other number but 0 is the last one too
abbrev pub fault_stored : ℕ → Option AuditFault
fault_stored n =
    if n == 0 then None else if n == 17 then Some Changed else if n == 18 then Some NotOneText
    else if n == 19 then Some EarlyFlag else if n == 20 then Some EarlyTag else Some TagOutside

abbrev pub faults_stored : StoredFaults → FaultSet
faults_stored f = record {
  changed = is_set f.changed;
  early_flag = is_set f.early_flag;
  not_one_text = is_set f.not_one_text;
  early_tag = is_set f.early_tag;
  tag_outside = is_set f.tag_outside;
}

abbrev pub spans_stored : StoredSpans → SpansState
spans_stored s = record {
  count = s.count;
  reigns = reigns_stored s.reigns;
  broken = faults_stored s.broken;
}

-- the first fault that the audit found, if it found one
abbrev pub fault_of : Audit → Option AuditFault
fault_of a = fault_stored a.fault

-- where the log of the audit begins
abbrev pub start_of : Audit → LogStart
start_of a = start_if (is_set a.is_running)

-- the form of its texts
abbrev pub form_of : Audit → TextForm
form_of a = form_if (is_set a.is_padded)

-- each number is 0 or 1
pub record AreBits (f : StoredFaults) : Type 0 where
  pub changed : f.changed ≤ 1
  pub early_flag : f.early_flag ≤ 1
  pub not_one_text : f.not_one_text ≤ 1
  pub early_tag : f.early_tag ≤ 1
  pub tag_outside : f.tag_outside ≤ 1
