-- The bytes of a log have one answer of an audit.
use Rattle.std.proofs.lemmas.Bool.Decides.{eqb_tells}
use Rattle.std.proofs.Common.{◌≡◌, ◌≢◌, ◌⊎◌, ◌<◌, ◌∙◌, ◌∷◌, [], ◌++◌, ℕ, List, Bool, true, false, Option, Some, Ok}
use Rattle.std.proofs.Common.{append_assoc, ap, arith, inl, inr, length, refl, sym, All}
use Rattle.std.specs.Io.KnownBytes.{Consumes}
use Rattle.std.proofs.lemmas.List.{append-nil}
use Rattle.std.proofs.lemmas.List.Elements.{All-append, All-cons, All-nil}
use Rattle.rds_block.specs.declared.group.Group.{Group}
use Rattle.rds_fields.specs.TagGroup.{exchanged_in}
use Rattle.rds_io.specs.Told.{Traffic}
use Rattle.rds_fields.specs.declared.message.Message.{Message}
use Rattle.rds_receiver.specs.Receipts.{heard_in, heard_of}
use Rattle.rds_audit.specs.AuditLaws.{WhatHasAFaultDoesNotPass}
use Rattle.rds_audit.specs.Judging.{judged_more}
use Rattle.rds_audit.specs.declared.text_form.TextForm.{TextForm}
use Rattle.rds_audit.specs.Listing.{IsFaultOf}
use Rattle.rds_audit.specs.declared.audit.AuditFault.{AuditFault}
use Rattle.rds_audit.specs.declared.fault_set.FaultSet.{FaultSet}
use Rattle.rds_io.specs.Alike.{WriteAlike}
use Rattle.rds_log.specs.Audit.{SlotsFail, SlotsPass, StopsAtSlot, WholePasses, judged, spacing}
use Rattle.rds_log.specs.FaultList.{AnswersYes, AreAdded, Audits, FindsFaults, LinesList, no_line, yes_line}
use Rattle.rds_lines.specs.LogSlots.{AreSlots}
use Rattle.rds_lines.specs.Reads.{BeginsWith}
use Rattle.rds_lines.specs.LogLines.{AreLines, IsLine, Line, line_feed, text_of}
use Rattle.rds_log.specs.declared.audit_log.Auditing.{Auditing}
use Rattle.rds_log.specs.declared.audit_log.Stop.{Stop}
use Rattle.rds_log.specs.declared.audit_log.Stop.TheVariants.{FirstFault, LogEnd}
use Rattle.rds_lines.proofs.Cutting.{text_of-more}
use Rattle.rds_lines.specs.OneLog.{same_lines, same_slots}
use Rattle.rds_lines.proofs.Runs.{read_and_left, read_whole}

-- ---- lines

-- bytes after these lines are cut into lines that go on after them
record GoesOn (closed : List Line) (begun : Line) (rest : List ℕ) : Type 0 where
  pub newer : List Line
  pub last : Line
  pub text : text_of closed begun ++ rest ≡ text_of (newer ++ closed) last
  pub lines : All IsLine (newer ++ closed)
  pub line : IsLine last

goes_on : (rest : List ℕ) (closed : List Line) (begun : Line) → All IsLine closed → IsLine begun
    → GoesOn closed begun rest
goes_on [] closed begun all is = record {
  newer = [];
  last = begun;
  text = append-nil (text_of closed begun);
  lines = all;
  line = is;
}
goes_on (b ∷ rest) closed begun all is = elim (eqb_tells b line_feed) [
  | inl (test, feed) ↦
      let more = goes_on rest (begun ∷ closed) [] (All-cons IsLine begun closed is all)
      (All-nil (λ (x : ℕ). x ≢ line_feed)) in
      let joined : (more.newer ++ (begun ∷ [])) ++ closed ≡ more.newer ++ (begun ∷ closed) = append_assoc more.newer
      (begun ∷ []) closed in
      record {
        newer = more.newer ++ (begun ∷ []);
        last = more.last;
        text = cc (append_assoc (text_of closed begun) (line_feed ∷ []) rest, more.text);
        lines = rw joined more.lines;
        line = more.line;
      }
  | inr (test, other) ↦
      let one : All (λ (x : ℕ). x ≢ line_feed) (b ∷ []) = All-cons (λ (x : ℕ). x ≢ line_feed) b [] other
      (All-nil (λ (x : ℕ). x ≢ line_feed)) in
      let more = goes_on rest closed (begun ++ (b ∷ [])) all (All-append (λ (x : ℕ). x ≢ line_feed) begun (b ∷ []) is
      one) in
      record {
        newer = more.newer;
        last = more.last;
        text = cc (append_assoc (text_of closed begun) (b ∷ []) rest, text_of-more closed begun (b ∷ []), more.text);
        lines = more.lines;
        line = more.line;
      }
]

-- the lines of all bytes go on after those that the bytes begin with
all_lines : (bytes : List ℕ) (lines : List Line) → BeginsWith bytes (Some []) lines
    → (newer : List Line) × AreLines bytes (newer ++ lines)
all_lines bytes lines (inr (end, are)) = ([], are)
all_lines bytes lines (inl (line, rest, cut, all, is)) =
    let more = goes_on rest lines line all is in
    closing more.newer more.last (cut ∙ more.text) more.lines more.line
  where
    closing : (newer : List Line) (last : Line) → bytes ≡ text_of (newer ++ lines) last → All IsLine (newer ++ lines)
        → IsLine last → (more : List Line) × AreLines bytes (more ++ lines)
    closing newer [] text each line = (newer, (newer ++ lines, [], text, each, line, inl (refl, refl)))
    closing newer (b ∷ last) text each line =
        ((b ∷ last) ∷ newer, (newer ++ lines, b ∷ last, text, each, line, inr ((λ e. (cc)), refl)))

-- of two ends of a list one is an end of the other
two_ends : (a b x y : List Line) → a ++ x ≡ b ++ y → ((c : List Line) × (x ≡ c ++ y)) ⊎ ((c : List Line) × (y ≡ c ++ x))
two_ends [] b x y e = inl (b, e)
two_ends (l ∷ a) [] x y e = inr (l ∷ a, sym e)
two_ends (l ∷ a) (l' ∷ b) x y e = grind (arith, two_ends a b x y)

-- ---- slots

-- the slots of lines that go on after others go on after theirs
more_slots : (n : ℕ) (newer lines : List Line) (all slots : List (Option Group)) → AreSlots n (newer ++ lines) all
    → AreSlots n lines slots → (more : List (Option Group)) × (all ≡ more ++ slots)
more_slots n [] lines all slots p q = ([], same_slots n lines all slots p q)
more_slots n (line ∷ newer) lines all slots (inl (skip, p)) q = more_slots n newer lines all slots p q
more_slots n (line ∷ newer) lines all slots (inr (slot, older, says, e, p)) q =
    (let (more, is) = more_slots n newer lines older slots p q in (exchanged_in n slot ∷ more, cc))

more_heard : (pi : ℕ) (more slots : List (Option Group))
    → heard_of pi (more ++ slots) ≡ heard_of pi more ++ heard_of pi slots
more_heard pi [] slots = refl
more_heard pi (s ∷ more) slots = ap (λ (l : List (Option Message)). heard_in pi s ∷ l) (more_heard pi more slots)

-- a log that goes on after a fault has it
fault_stays : (form : TextForm) (d : ℕ) (newer log : List (Option Message)) (fault : AuditFault)
    → IsFaultOf form d log fault → IsFaultOf form d (newer ++ log) fault
fault_stays form d [] log fault p = p
fault_stays form d (m ∷ newer) log fault p = search (fault_stays form d newer log fault p)

-- slots that go on after a fault do not pass
fails_for_good : WhatHasAFaultDoesNotPass
    → (a : Auditing) (t : ℕ) (fault : AuditFault) (more slots : List (Option Group)) → 0 < spacing a
    → SlotsFail a t fault slots → SlotsPass a (more ++ slots) → ⊥
fails_for_good fails a t fault more slots some fail pass =
    let (later, e) = judged_more a.start (spacing a) (heard_of a.pi more) (heard_of a.pi slots) in
    fails a.form (spacing a) (judged a (more ++ slots)) fault some
    (rw (more_heard a.pi more slots, e) (fault_stays a.form (spacing a) later (judged a slots) fault fail.fault_is))
    pass.passes

-- and those that do not pass fail at one slot, with one fault
fails_once : WhatHasAFaultDoesNotPass
    → (a : Auditing) (t u : ℕ) (f g : AuditFault) (more slots all : List (Option Group))
    → 0 < spacing a → all ≡ more ++ slots → SlotsFail a t f slots → SlotsFail a u g all → no_line t f ≡ no_line u g
fails_once fails a t u f g [] slots all some same p q = grind arith
fails_once fails a t u f g (s ∷ more) slots all some same p q =
    let before : q.before ≡ more ++ slots = cc q.cut in
    absurd (fails_for_good fails a t f more slots some p (rw before at q.passed))

-- ---- the answer

-- what is read up to a slot that fails begins all bytes
stops_in_all : (a : Auditing) (t : ℕ) (fault : AuditFault) (before after : Option (List ℕ)) (bytes text : List ℕ)
    → before ≡ Some bytes → Consumes before after text → StopsAtSlot a t fault text after
    → StopsAtSlot a t fault bytes (Some [])
stops_in_all a t fault before after bytes text given read stops = record {
  lines = stops.lines;
  begins = begins_all stops.lines stops.begins;
  slots = stops.slots;
  say = stops.say;
  fail = stops.fail;
}
  where
    begins_all : (lines : List Line) → BeginsWith text after lines → BeginsWith bytes (Some []) lines
    begins_all lines (inl (line, rest, cut, all, is)) =
        let (left, known, whole) = read_and_left before after bytes text given read in
        inl (line, rest ++ left, cc (append_assoc (text_of lines line) rest left), all, is)
    begins_all lines (inr (end, are)) = inr (refl, rw (read_whole before after bytes text given read end) at are)

-- all lines are good and pass, or some of them fail
not_both : WhatHasAFaultDoesNotPass → (a : Auditing) (n t : ℕ) (fault : AuditFault) (bytes : List ℕ) → 0 < spacing a
    → WholePasses a n bytes → StopsAtSlot a t fault bytes (Some []) → ⊥
not_both fails a n t fault bytes some p q =
    let (newer, are) = all_lines bytes q.lines q.begins in
    let lines = same_lines bytes p.lines (newer ++ q.lines) p.are are in
    let (more, slots) = more_slots a.rtplus newer q.lines p.slots q.slots (rw lines at p.say) q.say in
    fails_for_good fails a t fault more q.slots some q.fail (rw slots at p.pass)

-- the lines that fail last go on after those that fail first
stops_once : WhatHasAFaultDoesNotPass → (a : Auditing) (t u : ℕ) (f g : AuditFault) (bytes : List ℕ) → 0 < spacing a
    → (p : StopsAtSlot a t f bytes (Some [])) (q : StopsAtSlot a u g bytes (Some []))
    → (c : List Line) × (q.lines ≡ c ++ p.lines) → no_line t f ≡ no_line u g
stops_once fails a t u f g bytes some p q (c, lines) =
    let (more, slots) = more_slots a.rtplus c p.lines q.slots p.slots (rw lines at q.say) p.say in
    fails_once fails a t u f g more p.slots q.slots some slots p.fail q.fail

one_no : WhatHasAFaultDoesNotPass → (a : Auditing) (t u : ℕ) (f g : AuditFault) (bytes : List ℕ) → 0 < spacing a
    → StopsAtSlot a t f bytes (Some []) → StopsAtSlot a u g bytes (Some []) → no_line t f ≡ no_line u g
one_no fails a t u f g bytes some p q =
    let (newer, are) = all_lines bytes p.lines p.begins in
    let (newer', are') = all_lines bytes q.lines q.begins in
    elim (two_ends newer newer' p.lines q.lines (same_lines bytes (newer ++ p.lines) (newer' ++ q.lines) are are')) [
      | inl later ↦ sym (stops_once fails a u t g f bytes some q p later)
      | inr later ↦ stops_once fails a t u f g bytes some p q later
    ]

-- the bytes have one number of slots, if all of them pass
one_number : (a : Auditing) (n m : ℕ) (bytes : List ℕ) → WholePasses a n bytes → WholePasses a m bytes → n ≡ m
one_number a n m bytes p q =
    let lines : p.lines ≡ q.lines = same_lines bytes p.lines q.lines p.are q.are in
    let slots : p.slots ≡ q.slots = same_slots a.rtplus q.lines p.slots q.slots (rw lines at p.say) q.say in
    p.number ∙ ap length slots ∙ sym q.number

-- a log has one list of faults
one_list : (form : TextForm) (d : ℕ) (log : List (Option Message)) (fs gs : List FaultSet) → length fs ≡ length gs
    → AreAdded form d log fs → AreAdded form d log gs → fs ≡ gs
one_list form d log [] [] same p q = refl
one_list form d (m ∷ log) (f ∷ fs) (g ∷ gs) same p q = grind (arith, one_list form d log fs gs)
one_list form d _ _ _ same p q = grind arith

-- lines have one output
one_output : (a : Auditing) (lines : List Line) (written other : List ℕ) → LinesList a lines written
    → LinesList a lines other → written ≡ other
one_output a lines written other p q = grind (arith, same_slots, one_list)

-- what passes has no fault
no_fault : WhatHasAFaultDoesNotPass → (a : Auditing) (stop : Stop) (bytes : List ℕ) (r w q v : Traffic) → 0 < spacing a
    → r.before ≡ Some bytes → q.before ≡ Some bytes → AnswersYes a r w → FindsFaults stop a q v → ⊥
no_fault fails a FirstFault bytes r w q v some given same pass find =
    not_both fails a pass.number find.number find.fault bytes some
    (rw (read_whole r.before r.after bytes pass.text given pass.read pass.end) at pass.passes)
    (stops_in_all a find.number find.fault q.before q.after bytes find.text same find.read find.stops)
no_fault fails a LogEnd bytes r w q v some given same pass find =
    let (fault, has) = find.some in
    let first = read_whole r.before r.after bytes pass.text given pass.read pass.end in
    let second = read_whole q.before q.after bytes find.text same find.read find.end in
    let p = pass.passes in
    let lines = same_lines bytes p.lines find.lines (rw first at p.are) (rw second at find.are) in
    let slots = same_slots a.rtplus find.lines p.slots find.list.slots (rw lines at p.say) find.list.say in
    fails_for_good fails a has.number fault has.newer has.failed some has.fail (rw (slots ∙ has.cut) at p.pass)

-- two calls that found faults wrote the same
same_faults : WhatHasAFaultDoesNotPass → (a : Auditing) (stop : Stop) (bytes : List ℕ) (r w q v : Traffic)
    → 0 < spacing a → r.before ≡ Some bytes → q.before ≡ Some bytes → FindsFaults stop a r w → FindsFaults stop a q v
    → WriteAlike w v
same_faults fails a FirstFault bytes r w q v some given same p u = record {
  written = no_line u.number u.fault;
  one = rw (one_no fails a p.number u.number p.fault u.fault bytes some
      (stops_in_all a p.number p.fault r.before r.after bytes p.text given p.read p.stops)
      (stops_in_all a u.number u.fault q.before q.after bytes u.text same u.read u.stops)) at p.wrote;
  other = u.wrote;
}
same_faults fails a LogEnd bytes r w q v some given same p u =
    let first = read_whole r.before r.after bytes p.text given p.read p.end in
    let second = read_whole q.before q.after bytes u.text same u.read u.end in
    let lines = same_lines bytes p.lines u.lines (rw first at p.are) (rw second at u.are) in
    let one = one_output a u.lines p.written u.written (rw lines at p.list) u.list in
    record { written = u.written; one = rw one at p.wrote; other = u.wrote }

-- two calls over the same bytes
pub alike : WhatHasAFaultDoesNotPass → (a : Auditing) (reads others : ℕ) (bytes : List ℕ) (r w q v : Traffic)
    (passed other : Bool) → 0 < spacing a → r.before ≡ Some bytes → q.before ≡ Some bytes
    → Audits a reads r w (Ok passed) → Audits a others q v (Ok other) → (passed ≡ other) × WriteAlike w v
alike fails a reads others bytes r w q v true true some given same p u =
    let first : p.text ≡ bytes = read_whole r.before r.after bytes p.text given p.read p.end in
    let second : u.text ≡ bytes = read_whole q.before q.after bytes u.text same u.read u.end in
    let one = one_number a p.number u.number bytes (rw first at p.passes) (rw second at u.passes) in
    (refl, record { written = yes_line u.number; one = rw one at p.wrote; other = u.wrote })
alike fails a reads others bytes r w q v true false some given same p u =
    absurd (no_fault fails a a.stop bytes r w q v some given same p u)
alike fails a reads others bytes r w q v false true some given same p u =
    absurd (no_fault fails a a.stop bytes q v r w some same given u p)
alike fails a reads others bytes r w q v false false some given same p u =
    (refl, same_faults fails a a.stop bytes r w q v some given same p u)
