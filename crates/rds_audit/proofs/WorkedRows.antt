-- Short logs calculated by hand, and the faults of each one. Lists have the newest first, except the faults: they stand
-- in the order in which `audit --all` prints them.
use Rattle.std.proofs.Common.{◌≡◌, ◌++◌, ℕ, true, false, List, [], ◌∷◌, Option, Some, None, length, map, refl}
use Rattle.std.specs.Prelude.{if◌then◌else◌}
use Rattle.rds_fields.specs.declared.message.Message.{Message}
use Rattle.rds_fields.specs.declared.message.Message.TheVariants.{Text, Tags}
use Rattle.rds_fields.specs.Tag.{TagFields}
use Rattle.rds_audit.specs.declared.audit.AuditFault.{AuditFault}
use Rattle.rds_audit.specs.declared.audit.AuditFault.TheVariants.{Changed, NotOneText, EarlyFlag, EarlyTag, TagOutside}
use Rattle.rds_audit.specs.declared.fault_set.FaultSet.{FaultSet}
use Rattle.rds_audit.specs.declared.log_start.LogStart.TheVariants.{Running}
use Rattle.rds_audit.specs.declared.text_form.TextForm.TheVariants.{Plain}
use Rattle.rds_audit.specs.Lengths.{measure, those}
use Rattle.rds_audit.specs.Listing.{first_fault, slot_adds}
use Rattle.rds_audit.specs.Recording.{judged_as}
use Rattle.std.proofs.Common.{All, arith, ◌+◌, ◌≤◌}
use Rattle.rds_audit.specs.AuditLaws.{IsSafeLog}
use Rattle.rds_audit.specs.Broken.{BreaksByFragment}
use Rattle.rds_audit.specs.Reigns.{Reign}
use Rattle.rds_audit.specs.declared.text_form.TextForm.{TextForm}
use Rattle.rds_safety.specs.Lawful.{Kind}
use Rattle.rds_safety.specs.Plans.{Plans}
use Rattle.rds_safety.specs.Safe.{AreSafeViews, Listener, ListensTo}

abbrev Log : Type 0
Log = List (Option Message)

-- the bytes of segments; `end` is a carriage return, `nul` the byte 0
abbrev nul_bcd : List ℕ
nul_bcd = 0x00 ∷ 0x42 ∷ 0x43 ∷ 0x44 ∷ []

abbrev spaces : List ℕ
spaces = 0x20 ∷ 0x20 ∷ 0x20 ∷ 0x20 ∷ []

abbrev a_nul_b_end : List ℕ
a_nul_b_end = 0x41 ∷ 0x00 ∷ 0x42 ∷ 0x0D ∷ []

abbrev abcd : List ℕ
abcd = 0x41 ∷ 0x42 ∷ 0x43 ∷ 0x44 ∷ []

abbrev e_end : List ℕ
e_end = 0x45 ∷ 0x0D ∷ 0x20 ∷ 0x20 ∷ []

abbrev efgh : List ℕ
efgh = 0x45 ∷ 0x46 ∷ 0x47 ∷ 0x48 ∷ []

abbrev hi : List ℕ
hi = 0x48 ∷ 0x49 ∷ 0x0D ∷ 0x20 ∷ []

abbrev i_end : List ℕ
i_end = 0x49 ∷ 0x0D ∷ 0x20 ∷ 0x20 ∷ []

abbrev ijkl : List ℕ
ijkl = 0x49 ∷ 0x4A ∷ 0x4B ∷ 0x4C ∷ []

abbrev mn_end : List ℕ
mn_end = 0x4D ∷ 0x4E ∷ 0x0D ∷ 0x20 ∷ []

abbrev x_end_y : List ℕ
x_end_y = 0x58 ∷ 0x0D ∷ 0x59 ∷ 0x20 ∷ []

abbrev yo : List ℕ
yo = 0x59 ∷ 0x4F ∷ 0x0D ∷ 0x20 ∷ []

-- a segment with flag 0, and one with flag 1
abbrev off : ℕ → List ℕ → Option Message
off address bytes = Some (Text false address bytes)

abbrev on : ℕ → List ℕ → Option Message
on address bytes = Some (Text true address bytes)

-- a tag of a class, with its first place and its length minus one
abbrev tag : ℕ → ℕ → ℕ → TagFields
tag class start extra = record { class = class; start = start; extra = extra }

abbrev no_tag : TagFields
no_tag = tag 0 0 0

abbrev pair : TagFields → TagFields → Option Message
pair one two = Some (Tags record { toggle = false; running = true; one = one; two = two })

-- the faults of a set, in their order
abbrev faults_in : FaultSet → List AuditFault
faults_in f =
    (if f.changed then Changed ∷ [] else [])
    ++ ((if f.early_flag then EarlyFlag ∷ [] else [])
    ++ ((if f.not_one_text then NotOneText ∷ [] else [])
    ++ ((if f.early_tag then EarlyTag ∷ [] else [])
    ++ (if f.tag_outside then TagOutside ∷ [] else []))))

-- the slots of the faults of a log, and the faults
abbrev faults : ℕ → Log → List (ℕ × AuditFault)
faults d [] = []
faults d (newest ∷ before) =
    faults d before ++ map (λ (f : AuditFault). (length before, f)) (faults_in (slot_adds Plain d newest before))

-- an address is sent with other bytes
changed : faults 4 (off 0 yo ∷ off 0 hi ∷ []) ≡ (1, Changed) ∷ []
unfolding measure those
changed = refl

-- a letter comes after the carriage return
not_one_text : faults 4 (off 0 x_end_y ∷ []) ≡ (0, NotOneText) ∷ []
unfolding measure those
not_one_text = refl

-- the first flag again: its text can begin in slot 4
early_flag : faults 4 (off 0 hi ∷ on 0 yo ∷ off 0 hi ∷ []) ≡ (2, EarlyFlag) ∷ []
unfolding measure those
early_flag = refl

-- tags in slot 1, for a text that can have started in slot 0
early_tag : faults 4 (pair (tag 1 0 1) no_tag ∷ off 0 hi ∷ []) ≡ (1, EarlyTag) ∷ []
unfolding measure those
early_tag = refl

-- in slot 4 they do not come too early, and end at 15 in a text of two characters
tag_outside : faults 4 (pair (tag 4 0 3) (tag 1 7 7) ∷ None ∷ None ∷ None ∷ off 0 hi ∷ []) ≡ (4, TagOutside) ∷ []
unfolding measure those
tag_outside = refl

-- a second text can have started in slot 4, so a tag in slot 5 comes too early
early_tag_again : faults 4 (
    pair (tag 1 0 1) no_tag ∷ off 0 hi ∷ None ∷ None ∷ None ∷ off 0 hi ∷ []
    )
    ≡ (5, EarlyTag) ∷ []
unfolding measure those
early_tag_again = refl

-- one wrong segment is two changes, to it and back
one_wrong_segment : faults 4 (
    off 0 hi ∷ off 0 mn_end ∷ off 0 hi ∷ off 0 hi ∷ on 0 yo ∷ []
    )
    ≡ (3, Changed) ∷ (3, EarlyFlag) ∷ (4, Changed) ∷ (4, EarlyFlag) ∷ []
unfolding measure those
one_wrong_segment = refl

-- a flip that comes after the first segment of its text
flip_too_late : faults 4 (on 0 yo ∷ off 0 yo ∷ off 0 hi ∷ []) ≡ (1, Changed) ∷ (2, EarlyFlag) ∷ []
unfolding measure those
flip_too_late = refl

-- a text has each fault once, also if it breaks the rule again
each_fault_once : faults 4 (
    off 0 x_end_y ∷ pair (tag 1 0 1) no_tag ∷ pair (tag 1 0 1) no_tag ∷ off 0 hi ∷ []
    )
    ≡ (1, EarlyTag) ∷ (3, Changed) ∷ (3, NotOneText) ∷ []
unfolding measure those
each_fault_once = refl

-- a text that changed ends in its last slot, 3, and not in slot 0, in which address 0 had its old bytes last: the new
-- text starts in slot 4, so a tag in slot 7 comes too early
changed_ends_last : faults 4 (
    pair (tag 1 0 1) no_tag ∷ None ∷ None ∷ off 0 efgh ∷ off 1 efgh ∷ off 1 efgh ∷ off 1 efgh ∷ off 0 abcd ∷ []
    )
    ≡ (4, Changed) ∷ (7, EarlyTag) ∷ []
unfolding measure those
changed_ends_last = refl

-- and a tag in slot 8 does not
changed_lasts : faults 4 (
    pair (tag 1 0 1) no_tag ∷ None ∷ None ∷ None ∷ off 0 efgh ∷ off 1 efgh ∷ off 1 efgh ∷ off 1 efgh ∷ off 0 abcd
    ∷ []
    )
    ≡ (4, Changed) ∷ []
unfolding measure those
changed_lasts = refl

-- tags before any text are one fault, which is of no text
tags_of_no_text : faults 4 (
    pair no_tag no_tag ∷ None ∷ None ∷ None ∷ off 0 hi ∷ pair no_tag no_tag ∷ pair no_tag no_tag ∷ []
    )
    ≡ (0, EarlyTag) ∷ []
unfolding measure those
tags_of_no_text = refl

-- the example of FORMATS, a recording: its first slot is slot 128 of what is judged
formats : faults 128 (judged_as Running 128 (off 0 hi ∷ pair (tag 1 0 1) no_tag ∷ on 0 yo ∷ off 0 hi ∷ []))
    ≡ (130, EarlyTag) ∷ (131, EarlyFlag) ∷ []
unfolding measure those
formats = refl

-- the fault of a log is the first one
first_of_a_log : first_fault Plain 4 (off 0 hi ∷ pair (tag 1 0 1) no_tag ∷ on 0 yo ∷ off 0 hi ∷ []) ≡ Some EarlyTag
unfolding measure those
first_of_a_log = refl

-- a log by chance
random_one : faults 3 (
    on 0 abcd ∷ on 2 i_end ∷ on 1 efgh ∷ pair (tag 1 3 0) no_tag ∷ None ∷ on 0 abcd ∷ off 0 hi ∷ off 0 a_nul_b_end
    ∷ pair (tag 1 1 4) (tag 1 0 2) ∷ None ∷ on 0 hi ∷ off 0 hi ∷ None ∷ None ∷ []
    )
    ≡ (5, EarlyTag) ∷ (5, TagOutside) ∷ (6, NotOneText) ∷ (7, Changed) ∷ (7, EarlyFlag) ∷ (8, EarlyFlag)
    ∷ (10, EarlyTag) ∷ []
unfolding measure those
random_one = refl

-- a log by chance
random_three : faults 5 (
    None ∷ pair (tag 1 2 0) no_tag ∷ None ∷ off 0 e_end ∷ off 1 spaces ∷ None ∷ None ∷ off 1 efgh ∷ None ∷ None
    ∷ on 1 nul_bcd ∷ off 2 mn_end ∷ None ∷ None ∷ []
    )
    ≡ (3, NotOneText) ∷ (6, EarlyFlag) ∷ (9, Changed) ∷ (10, NotOneText) ∷ (12, EarlyTag) ∷ []
unfolding measure those
random_three = refl

-- a log by chance
random_six : faults 5 (
    on 0 e_end ∷ pair (tag 1 3 5) no_tag ∷ on 2 abcd ∷ pair (tag 1 0 0) no_tag ∷ None ∷ None ∷ None
    ∷ pair no_tag no_tag ∷ pair no_tag no_tag ∷ None ∷ pair (tag 4 3 3) no_tag ∷ off 2 spaces ∷ on 1 mn_end
    ∷ off 1 efgh ∷ []
    )
    ≡ (2, EarlyFlag) ∷ (3, EarlyTag) ∷ (12, EarlyTag) ∷ (13, NotOneText) ∷ []
unfolding measure those
random_six = refl

-- ---- what a yes and a fault say

-- a safe log makes each slot safe by some plans
safe_log : (form : TextForm) (m k : ℕ) (log : List (Option Message)) → IsSafeLog form m k log
    → (t : ℕ) (receivers : List Listener) → All (ListensTo k m t log) receivers
    → (plans : Plans) × AreSafeViews (m + k) m t plans log receivers
safe_log form m k log is t receivers listen = (is.plans, is.safe t receivers listen)

-- a broadcast that can have started when its reign opened has no early flag
not_early : (kind : Kind) (r : Reign) (older : List Reign) → r.start ≤ r.opened
    → BreaksByFragment kind (r ∷ older) EarlyFlag → ⊥
not_early kind r older started early = omega (arith, started, early)
