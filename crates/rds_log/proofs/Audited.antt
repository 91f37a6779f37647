-- What the taker of `audit` takes, and what it has written at the end.
use Rattle.std.proofs.lemmas.Bool.Decides.{nat_tests}
use Rattle.std.proofs.Common.{◌≡◌, ◌≢◌, ◌⊎◌, ◌++◌, ◌+◌, ◌↔◌, ◌∙◌, ℕ, Bool, true, false, List, [], ◌∷◌, length, Option}
use Rattle.std.proofs.Common.{Some, None, append_assoc, ap, arith, inl, inr, refl, subst, sym}
use Rattle.std.specs.Prelude.{MatchOption, MatchResult, OnOk, Result, Err}
use Rattle.std.proofs.lemmas.List.{append-nil}
use Rattle.rds_block.specs.declared.group.Group.{Group}
use Rattle.rds_io.specs.Told.{Traffic}
use Rattle.rds_io.specs.Waits.{IsLost, Waits}
use Rattle.rds_io.specs.declared.told.WriteFault.{WriteFault}
use Rattle.rds_io.proofs.Waiting.{waits_more, wrote_all}
use Rattle.rds_audit.specs.Judging.{judged_step}
use Rattle.rds_fields.specs.TagGroup.{exchanged_in}
use Rattle.rds_audit.specs.AuditAt.{AuditAt, FollowsLog, TakesAll}
use Rattle.rds_audit.specs.Stored.{fault_of, form_of, start_of}
use Rattle.rds_audit.specs.declared.audit.Audit.{Audit}
use Rattle.rds_audit.specs.Recording.{judged_as}
use Rattle.rds_receiver.specs.Receipts.{heard_in, heard_of}
use Rattle.rds_audit.specs.Listing.{IsFaultOf, first_of, none_broken}
use Rattle.rds_audit.specs.declared.audit.AuditFault.{AuditFault}
use Rattle.rds_audit.specs.declared.audit.AuditFault.TheVariants.{Changed, NotOneText, EarlyFlag, EarlyTag, TagOutside}
use Rattle.rds_audit.specs.declared.fault_set.FaultSet.{FaultSet}
use Rattle.rds_log.specs.Audit.{SlotsFail, SlotsPass, spacing}
use Rattle.rds_log.specs.FaultList.{AreFaultsOf, AnswersYes, Audits, BeginsWithNo, FindsFaults, IsNo, LinesAnswer}
use Rattle.rds_log.specs.FaultList.{LinesGoOn, SaysNo, fault_lines, lines_for, no_line, yes_line}
use Rattle.rds_log.specs.Inside.Auditor.{HasAudited}
use Rattle.rds_lines.specs.LineSays.{LineSays}
use Rattle.rds_lines.specs.LogLines.{Line}
use Rattle.rds_lines.specs.Outputs.{HasTaken, Pushed, RunsAll, RunsUpTo, StopsBy}
use Rattle.rds_io.specs.declared.fault.LogFault.{LogFault}
use Rattle.rds_io.specs.declared.fault.LogFault.TheVariants as faults
use Rattle.rds_log.specs.declared.audit_log.Auditing.{Auditing}
use Rattle.rds_log.specs.declared.audit_log.Stop.{Stop}
use Rattle.rds_log.specs.declared.audit_log.Stop.TheVariants.{FirstFault, LogEnd}
use Rattle.rds_log.specs.declared.auditor.Auditor.{Auditor}
use Rattle.rds_lines.specs.declared.log_line.LogLine.TheVariants.{Skip, Slot}

-- ---- the slots

-- what an audit without a fault took passes
pub slots_pass : (a : Auditing) (state : Audit) (slots : List (Option Group))
    → AuditAt a.pi (spacing a) state slots → start_of state ≡ a.start → form_of state ≡ a.form → fault_of state ≡ None
    → SlotsPass a slots
slots_pass a state slots s begins form none = grind arith

-- slots that fail with the newest one
pub fails_at : (a : Auditing) (state after : Audit) (number : ℕ) (slots : List (Option Group))
    (slot : Option Group) (fault : AuditFault)
    → AuditAt a.pi (spacing a) state slots → start_of state ≡ a.start → form_of state ≡ a.form → fault_of state ≡ None
    → number ≡ length slots
    → start_of after ≡ a.start → form_of after ≡ a.form
    → IsFaultOf (form_of after) (spacing a) (judged_as (start_of after) (spacing a) (heard_of a.pi (slot ∷ slots)))
    fault
    → SlotsFail a number fault (slot ∷ slots)
fails_at a state after number slots slot fault s begins form passed count start same is = grind arith

-- ---- the lines of a slot

-- the lines of a slot with a first fault begin with the line of that
begins_with_first : (t : ℕ) (f : FaultSet) (fault : AuditFault) → first_of f ≡ Some fault
    → (rest : List ℕ) × (fault_lines t f ≡ no_line t fault ++ rest)
begins_with_first t f fault some = by f.changed f.early_flag f.not_one_text f.early_tag f.tag_outside fault some
  where
    by : (c e n g o : Bool) (h : AuditFault)
        → first_of record { changed = c; early_flag = e; not_one_text = n; early_tag = g; tag_outside = o } ≡ Some h
        → (rest : List ℕ)
        × (fault_lines t record { changed = c; early_flag = e; not_one_text = n; early_tag = g; tag_outside = o }
        ≡ no_line t h ++ rest)
    by true e n g o h is = (let here : h ≡ Changed = cc in rw here (_, refl))
    by false true n g o h is = (let here : h ≡ EarlyFlag = cc in rw here (_, refl))
    by false false true g o h is = (let here : h ≡ NotOneText = cc in rw here (_, refl))
    by false false false true o h is = (let here : h ≡ EarlyTag = cc in rw here (_, refl))
    by false false false false true h is = (let here : h ≡ TagOutside = cc in rw here ([], sym (append-nil _)))
    by false false false false false h is = absurd (cc)

-- ---- the auditor

-- what the list says of the slots, as far as the audit knows their first fault
abbrev Says : Stop → Auditing → Option AuditFault → List (Option Group) → List ℕ → Type 0
Says stop a known slots total =
    MatchOption known (SlotsPass a slots × (total ≡ [])) (λ fault. SaysNo stop a fault slots total)

-- what it says with one slot more
adds : (a : Auditing) (stop : Stop) (before after : Option AuditFault) (t : ℕ) (slots : List (Option Group))
    (slot : Option Group) (all : List ℕ) (found : FaultSet)
    → (stop ≡ FirstFault → before ≡ None) → Says stop a before slots all
    → (before ≡ None → after ≡ first_of found)
    → ((fault : AuditFault) → before ≡ Some fault → after ≡ Some fault)
    → (after ≡ None → SlotsPass a (slot ∷ slots))
    → ((fault : AuditFault) → before ≡ None → after ≡ Some fault → SlotsFail a t fault (slot ∷ slots))
    → Says stop a after (slot ∷ slots) (all ++ lines_for stop t found)
adds a FirstFault None None t slots slot all found wants had first again passes fails = grind arith
adds a FirstFault None (Some fault) t slots slot all found wants had first again passes fails = grind arith
adds a FirstFault (Some fault) after t slots slot all found wants had first again passes fails = grind arith
adds a LogEnd None None t slots slot all found wants had first again passes fails = grind arith
adds a LogEnd None (Some fault) t slots slot all found wants had first again passes fails =
    let (rest, is) = begins_with_first t found fault (sym (first refl)) in
    record {
      newer = [];
      failed = slot ∷ slots;
      cut = refl;
      number = t;
      fail = fails fault refl refl;
      further = rest;
      lines = ap (λ (l : List ℕ). l ++ fault_lines t found) had.1 ∙ is;
    }
adds a LogEnd (Some fault) None t slots slot all found wants had first again passes fails = grind arith
adds a LogEnd (Some fault) (Some other) t slots slot all found wants had first again passes fails =
    let one : fault ≡ other = (let e : Some other ≡ Some fault = again fault refl in cc) in
    subst (λ x. BeginsWithNo a x (slot ∷ slots) (all ++ fault_lines t found)) one
    record {
      newer = slot ∷ had.newer;
      failed = had.failed;
      cut = ap (λ l. slot ∷ l) had.cut;
      number = had.number;
      fail = had.fail;
      further = had.further ++ fault_lines t found;
      lines = ap (λ l. l ++ fault_lines t found) had.lines
          ∙ append_assoc (no_line had.number fault) had.further (fault_lines t found);
    }

-- what one more slot adds
faults_of_more : (a : Auditing) (l after : Audit) (slots : List (Option Group)) (slot : Option Group)
    (faults : List FaultSet) (found : FaultSet) → FollowsLog a.pi (spacing a) l slots → start_of l ≡ a.start
    → form_of l ≡ a.form → TakesAll l after slot found → AreFaultsOf a slots faults
    → AreFaultsOf a (slot ∷ slots) (found ∷ faults)
faults_of_more a l after slots slot faults found s begins form takes of =
    let step = judged_step a.start (spacing a) (heard_in a.pi slot) (heard_of a.pi slots) in
    let one = takes.adds a.pi (spacing a) slots s in
    grind arith

-- the answer that the list gives
answer_of : (a : Auditing) (known : Option AuditFault) (slots : List (Option Group)) (total : List ℕ)
    → Says a.stop a known slots total
    → (SlotsPass a slots × (total ≡ [])) ⊎ ((fault : AuditFault) × SaysNo a.stop a fault slots total)
answer_of a known slots total says = grind arith

-- what is not true is false
not_true : (b : Bool) → (b ≡ true → ⊥) → b ≡ false
not_true b never = grind arith

-- a slot with these faults
pub takes_slot : (a : Auditing) (l after : Auditor) (w : Traffic) (out now : List ℕ) (lines : List Line) (line : Line)
    (said slot : Option Group) (found : FaultSet) → LineSays line (Slot said) → slot ≡ exchanged_in l.rtplus said
    → after.rtplus ≡ l.rtplus
    → HasTaken (HasAudited a l) w out lines → (l.is_done ≡ true → ⊥) → TakesAll l.audit after.audit slot found
    → now ≡ out ++ lines_for l.stop l.slots found → after.slots ≡ l.slots + 1 → after.stop ≡ l.stop
    → (after.is_done ≡ true) ↔ ((l.stop ≡ FirstFault) × (first_of found ≢ None))
    → HasTaken (HasAudited a after) w now (line ∷ lines)
takes_slot a l after w out now lines line said slot found says read rtplus taken goes_on takes output slots keeps done =
    let s = taken.took in
    let begins = takes.start ∙ s.begins in
    let form = takes.form ∙ s.form in
    let count = s.count in
    let each = s.list.are.each in
    let wanted = λ (first : a.stop ≡ FirstFault). s.wants (not_true l.is_done goes_on) first in
    let stands = takes.stands a.pi (spacing a) s.slots s.audit.at in
    let known = fault_of after.audit in
    let further : Says a.stop a known (slot ∷ s.slots) (taken.total ++ lines_for a.stop l.slots found) =
    adds a a.stop (fault_of l.audit) known l.slots s.slots slot taken.total found wanted s.first takes.first
    takes.again (slots_pass a after.audit (slot ∷ s.slots) stands begins form)
    (λ fault none some. fails_at a l.audit after.audit l.slots s.slots slot fault s.audit.at s.begins s.form none
    s.count begins form (simp some at stands.holds)) in
    record {
      total = taken.total ++ lines_for a.stop l.slots found;
      took = record {
        slots = slot ∷ s.slots;
        say = inr (said, s.slots, says, rw (read, s.rtplus) refl, s.say);
        rtplus = rtplus ∙ s.rtplus;
        count = omega (arith, count, slots);
        stop = keeps ∙ s.stop;
        audit = takes.follows a.pi (spacing a) s.slots s.audit;
        begins = begins;
        form = form;
        list = record {
          faults = found ∷ s.list.faults;
          are = faults_of_more a l.audit after.audit s.slots slot s.list.faults found s.audit s.begins s.form
              takes s.list.are;
          lines = rw (s.list.lines, count, each) refl;
          answer = answer_of a known (slot ∷ s.slots) _ further;
        };
        first = further;
        wants = λ going first. grind (arith, takes.first (wanted first));
        done = λ yes. (
            let (stop, some) = done.0 yes in
            let first = sym s.stop ∙ stop in
            (first, λ none. some (sym (takes.first (wanted first)) ∙ none))
            );
      };
      waits = waits_more w out now taken.total (lines_for a.stop l.slots found) taken.waits (rw s.stop at output);
    }

-- a slot without a fault
pub takes_good_slot : (a : Auditing) (l after : Auditor) (w : Traffic) (out : List ℕ) (lines : List Line) (line : Line)
    (said slot : Option Group) (found : FaultSet) → LineSays line (Slot said) → slot ≡ exchanged_in l.rtplus said
    → after.rtplus ≡ l.rtplus
    → HasTaken (HasAudited a l) w out lines → (l.is_done ≡ true → ⊥) → TakesAll l.audit after.audit slot found
    → found ≡ none_broken → after.slots ≡ l.slots + 1 → after.stop ≡ l.stop → after.is_done ≡ l.is_done
    → HasTaken (HasAudited a after) w out (line ∷ lines)
takes_good_slot a l after w out lines line said slot found says read rtplus taken goes_on takes none slots keeps same =
    takes_slot a l after w out out lines line said slot found says read rtplus taken goes_on takes
    (rw (nothing l.stop) (sym (append-nil out))) slots keeps
    (λ yes. absurd (goes_on (sym same ∙ yes)), λ some. absurd (some.1 (ap first_of none)))
  where
    nothing : (stop : Stop) → lines_for stop l.slots found ≡ []
    nothing FirstFault = rw none refl
    nothing LogEnd = rw none refl

-- a line that is skipped
pub takes_skip : (a : Auditing) (l after : Auditor) (w : Traffic) (out : List ℕ) (lines : List Line) (line : Line)
    → LineSays line Skip → after.audit ≡ l.audit → after.slots ≡ l.slots → after.stop ≡ l.stop
    → after.is_done ≡ l.is_done → after.rtplus ≡ l.rtplus
    → HasTaken (HasAudited a l) w out lines → HasTaken (HasAudited a after) w out (line ∷ lines)
takes_skip a l after w out lines line says audit slots keeps same rtplus taken =
    let s = taken.took in
    record {
      total = taken.total;
      took = record {
        slots = s.slots;
        say = inl (says, s.say);
        rtplus = rtplus ∙ s.rtplus;
        count = slots ∙ s.count;
        stop = keeps ∙ s.stop;
        audit = rw audit s.audit;
        begins = rw audit s.begins;
        form = rw audit s.form;
        list = s.list;
        first = rw audit s.first;
        wants = λ going first. rw audit (s.wants (sym same ∙ going) first);
        done = λ yes. rw audit (s.done (sym same ∙ yes));
      };
      waits = taken.waits;
    }

-- before the first line
pub audited_none : (a : Auditing) (l : Auditor) → FollowsLog a.pi (spacing a) l.audit [] → start_of l.audit ≡ a.start
    → form_of l.audit ≡ a.form → fault_of l.audit ≡ None → l.slots ≡ 0 → l.stop ≡ a.stop → l.is_done ≡ false
    → l.rtplus ≡ a.rtplus
    → HasAudited a l [] []
audited_none a l follows begins form none slots keeps going rtplus =
    let passes = slots_pass a l.audit [] follows.at begins form none in
    record {
      slots = [];
      say = refl;
      rtplus = rtplus;
      count = slots;
      stop = keeps;
      audit = follows;
      begins = begins;
      form = form;
      list = record {
        faults = [];
        are = record { each = refl; added = tt };
        lines = refl;
        answer = inl (passes, refl);
      };
      first = rw none (passes, refl);
      wants = λ _ _. none;
      done = λ yes. (let bad : false ≡ true = sym going ∙ yes in absurd (cc));
    }

-- ---- the end

-- the waiting line was written, or the writer failed at it
pub flushed : (w : Traffic) (now total : List ℕ) (r : Result (Unit {0}) WriteFault) → OnOk r (now ≡ [])
    → MatchResult r (λ _. Waits w now total) (λ _. IsLost w total) → Pushed w [] total r
flushed w now total r none waits = grind arith

-- the run stopped at a fault
pub stops : (a : Auditing) (reads : ℕ) (r w : Traffic) (fault : LogFault)
    → StopsBy (LinesGoOn a) (LinesAnswer a) reads r w fault → Audits a reads r w (Err fault)
stops a reads r w fault stopped = grind arith

-- how a run ended over the lines of a log that an auditor took
abbrev Ended : Auditing → Auditor → Traffic → Traffic → Type 0
Ended a l r w =
    (RunsAll (HasAudited a l) r w × (l.is_done ≡ true → ⊥)) ⊎ (RunsUpTo (HasAudited a l) r w × (l.is_done ≡ true))

-- the audit found a fault
pub finds : (a : Auditing) (l : Auditor) (r w : Traffic) → fault_of l.audit ≢ None → Ended a l r w
    → FindsFaults a.stop a r w
finds a l r w some ended = by a.stop refl (fault_of l.audit) refl ended
  where
    by : (stop : Stop) → a.stop ≡ stop → (known : Option AuditFault) → fault_of l.audit ≡ known → Ended a l r w
        → FindsFaults stop a r w
    by stop is None e ended = absurd (some e)
    by FirstFault is (Some fault) e (inl (all, wants)) =
        absurd (some (all.run.took.wants (not_true l.is_done wants) is))
    by FirstFault is (Some fault) e (inr (run, done)) =
        let says : IsNo a fault run.took.slots run.written =
        subst (λ (st : Stop). Says st a (Some fault) run.took.slots run.written) is
        (subst (λ (o : Option AuditFault). Says a.stop a o run.took.slots run.written) e run.took.first) in
        record {
          text = run.text;
          read = run.read;
          number = says.number;
          fault = fault;
          stops = record {
            lines = run.lines;
            begins = run.begins;
            slots = run.took.slots;
            say = run.took.say;
            fail = says.fail;
          };
          wrote = rw says.line at run.wrote;
          read_calm = run.read_calm;
          write_calm = run.write_calm;
        }
    by LogEnd is (Some fault) e (inl (all, wants)) =
        let first = all.run.took.first in
        record {
          text = all.run.text;
          read = all.run.read;
          end = all.end;
          lines = all.run.lines;
          are = all.are;
          written = all.run.written;
          list = record { slots = all.run.took.slots; say = all.run.took.say; list = all.run.took.list };
          some = (fault, grind arith);
          wrote = all.run.wrote;
          read_calm = all.run.read_calm;
          write_calm = all.run.write_calm;
        }
    by LogEnd is (Some fault) e (inr (run, done)) = absurd (let first = (run.took.done done).0 in cc)

-- the log was read to its end, and its slots pass: nothing was written
passed_all : (a : Auditing) (l : Auditor) (r w : Traffic) → fault_of l.audit ≡ None → Ended a l r w
    → (all : RunsAll (HasAudited a l) r w) × SlotsPass a all.run.took.slots × (all.run.written ≡ [])
passed_all a l r w none (inl (all, wants)) = (let says = rw none at all.run.took.first in (all, says.0, says.1))
passed_all a l r w none (inr (run, done)) = absurd ((run.took.done done).1 none)

-- nothing waits before the line of a yes
pub before_yes : (a : Auditing) (l : Auditor) (r w : Traffic) → fault_of l.audit ≡ None → Ended a l r w → Waits w [] []
before_yes a l r w none ended = grind arith

-- the line of a yes was written
pub says_yes : (a : Auditing) (l : Auditor) (r w v : Traffic) → fault_of l.audit ≡ None → Ended a l r w
    → Waits v [] (yes_line l.slots) → AnswersYes a r v
says_yes a l r w v none ended waits =
    let (all, pass, nothing) = passed_all a l r w none ended in
    record {
      text = all.run.text;
      read = all.run.read;
      end = all.end;
      number = l.slots;
      passes = record {
        lines = all.run.lines;
        are = all.are;
        slots = all.run.took.slots;
        say = all.run.took.say;
        number = all.run.took.count;
        pass = pass;
      };
      wrote = wrote_all v [] (yes_line l.slots) waits refl;
      read_calm = all.run.read_calm;
      write_calm = waits.calm;
    }

-- the writer failed at it
pub loses_yes : (a : Auditing) (reads : ℕ) (l : Auditor) (r w v : Traffic) → fault_of l.audit ≡ None → Ended a l r w
    → IsLost v (yes_line l.slots) → Audits a reads r v (Err faults.Write)
loses_yes a reads l r w v none ended lost = grind (arith, nat_tests, passed_all)
