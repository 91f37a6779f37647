-- What the taker of `decode` takes, and what it has written at the end of a log.
use Rattle.std.proofs.Common.{◌≡◌, ◌+◌, ◌++◌, ℕ, Bool, true, false, List, [], ◌∷◌, None, Option, Some, refl, ◌∙◌, arith}
use Rattle.std.proofs.Common.{ap, ap₂, inr, Result, sym, Ok, Err}
use Rattle.std.proofs.lemmas.List.{append-nil}
use Rattle.rds_block.specs.declared.group.Group.{Group}
use Rattle.rds_receiver.specs.Counts.{DisplayAt}
use Rattle.rds_receiver.specs.Kept.{displayed}
use Rattle.rds_receiver.specs.NotShown.{whys_of}
use Rattle.rds_receiver.specs.Receipts.{Tuning, heard_of}
use Rattle.rds_receiver.specs.ReceiverAt.{ReceiverAt}
use Rattle.rds_receiver.specs.declared.why.Whys.{Whys}
use Rattle.rds_receiver.proofs.Counting.{same_showings}
use Rattle.rds_view_lines.specs.NoChange.{no_change}
use Rattle.rds_view_lines.specs.Output.{Display, change, slot_prefix, changes_of}
use Rattle.rds_log.specs.LogWrites.{AreDisplays, IsDisplay, SayWhys, LinesWrite, tuning_of, LogWrites}
use Rattle.rds_view_lines.specs.KeptView.{view_kept}
use Rattle.rds_log.specs.Inside.ViewLines.{ViewsStandAt, GivesChange}
use Rattle.rds_log.specs.declared.decoder.ViewLines.{ViewLines}
use Rattle.rds_fields.specs.TagGroup.{exchanged_in}
use Rattle.rds_io.specs.Told.{Traffic}
use Rattle.rds_io.proofs.Waiting.{waits_more}
use Rattle.rds_log.specs.Decode.{Decodes, DecodesAll}
use Rattle.rds_lines.specs.LogLines.{Line}
use Rattle.rds_lines.specs.LineSays.{LineSays}
use Rattle.rds_log.specs.Inside.Decoder.{HasDecoded}
use Rattle.rds_lines.specs.Outputs.{HasTaken, Runs}
use Rattle.rds_log.specs.declared.decode_log.Decoding.{Decoding}
use Rattle.rds_io.specs.declared.fault.LogFault.{LogFault}
use Rattle.rds_lines.specs.declared.log_line.LogLine.TheVariants.{Skip, Slot}
use Rattle.rds_io.specs.Alike.{WriteAlike}
use Rattle.rds_lines.specs.OneLog.{same_lines, same_slots}
use Rattle.rds_lines.proofs.Runs.{read_whole}
use Rattle.rds_audit.specs.declared.audit.AuditFault.{AuditFault}
use Rattle.rds_log.specs.Audit.{SlotsAreSafe, SlotsFail, SlotsHaveNoPlans, SlotsPass}
use Rattle.rds_log.specs.FaultList.{Audits, BeginsWithNoPlans, FindsFaults, Means}
use Rattle.rds_log.specs.declared.audit_log.Auditing.{Auditing}
use Rattle.rds_log.specs.declared.audit_log.Stop.{Stop}
use Rattle.rds_log.specs.declared.audit_log.Stop.TheVariants.{FirstFault, LogEnd}

-- ---- how the displays and their changes go on by a slot

-- a slot that was handled: its display, and the changes that it appends
pub slot_given : (why : Bool) (n : ℕ) (t : Tuning) (v after : ViewLines) (slots : List (Option Group))
    (written before now : List ℕ) (group : Option Group) (whys : Option Whys)
    → ViewsStandAt n why t v slots written → ReceiverAt t after.receiver (group ∷ slots)
    → DisplayAt n t after.shown.keeping (view_kept after.shown.view) (group ∷ slots)
    → SayWhys why t (group ∷ slots) whys → after.says_why ≡ v.says_why → after.slot ≡ v.slot + 1
    → now ≡ before ++ change (slot_prefix v.slot) whys (view_kept v.shown.view) (view_kept after.shown.view)
    → (added : List ℕ) × (now ≡ before ++ added)
    × ViewsStandAt n why t after (group ∷ slots) (written ++ added)
slot_given why n t v after slots written before now group whys s receiver display say says slot gave = (
  _,
  gave,
  record {
    receiver = receiver;
    says_why = says ∙ s.says_why;
    display = display;
    displays = record { view = view_kept after.shown.view; whys = whys } ∷ s.displays;
    are = (
      record {
        view = record { showings = display.showings; are = display.are; shows = display.shows };
        whys = say;
      },
      s.are,
    );
    slot = omega (arith, s.slot);
    shown = refl;
    changes = (let number = s.slot in let view = s.shown in let bytes = s.changes in cc);
  },
)

-- a slot has reasons, whether the lines say them or not
some_whys : (why : Bool) (t : Tuning) (input : List (Option Group)) → (whys : Option Whys) × SayWhys why t input whys
some_whys false t input = (None, refl)
some_whys true t input = (Some (whys_of t (heard_of t.programme input)), refl)

-- a slot that shows what the one before it showed
pub slot_same : (why : Bool) (n : ℕ) (t : Tuning) (v after : ViewLines) (slots : List (Option Group))
    (written before : List ℕ) (group : Option Group) → ViewsStandAt n why t v slots written
    → ReceiverAt t after.receiver (group ∷ slots)
    → DisplayAt n t after.shown.keeping (view_kept after.shown.view) (group ∷ slots)
    → after.says_why ≡ v.says_why → after.slot ≡ v.slot + 1 → view_kept after.shown.view ≡ view_kept v.shown.view
    → (added : List ℕ) × (before ≡ before ++ added)
    × ViewsStandAt n why t after (group ∷ slots) (written ++ added)
slot_same why n t v after slots written before group s receiver display says slot same =
    let (whys, say) = some_whys why t (group ∷ slots) in
    let none = no_change (slot_prefix v.slot) whys (view_kept v.shown.view) in
    slot_given why n t v after slots written before before group whys s receiver display say says slot
    (let shown = same in let nothing = append-nil before in cc)

-- ---- what the taker of `decode` takes, and what it has written at the end of a log

-- a line that is a slot
pub takes_slot : (how : Decoding) (v after : ViewLines) (n m : ℕ) (w : Traffic) (before now : List ℕ)
    (lines : List Line) (line : Line) (slot read : Option Group) → LineSays line (Slot slot)
    → read ≡ exchanged_in n slot → GivesChange v after read before now → m ≡ n
    → HasTaken (HasDecoded how v n) w before lines → HasTaken (HasDecoded how after m) w now (line ∷ lines)
takes_slot how v after n m w before now lines line slot read says is gives kept has =
    let (added, output, views) = gives how.keep how.says_why (tuning_of how) has.took.slots has.total has.took.views in
    record {
      total = _;
      took = record {
        slots = read ∷ has.took.slots;
        say = inr (
          slot,
          has.took.slots,
          says,
          (let same = has.took.same in cc is),
          has.took.say,
        );
        same = kept ∙ has.took.same;
        views = views;
      };
      waits = waits_more w before now has.total added has.waits output;
    }

-- a line that is skipped
pub takes_skip : (how : Decoding) (v after : ViewLines) (n m : ℕ) (w : Traffic) (output : List ℕ)
    (lines : List Line) (line : Line) → LineSays line Skip → after ≡ v → m ≡ n
    → HasTaken (HasDecoded how v n) w output lines → HasTaken (HasDecoded how after m) w output (line ∷ lines)
takes_skip how v after n m w output lines line says views kept has = grind (arith)

-- the result of the run is that of `decode`
pub decoded : (how : Decoding) (v : ViewLines) (n reads : ℕ) (r w : Traffic)
    (result : Result (Unit {0}) LogFault) → Runs (LinesWrite how) (LinesWrite how) (HasDecoded how v n) ⊥ reads r w result
    → Decodes how reads r w result
decoded how v n reads r w result stops = grind arith

-- ---- slots have one list of displays, so the bytes of a log write one output

-- an input has one display
same_display : (n : ℕ) (why : Bool) (t : Tuning) (input : List (Option Group)) (d e : Display)
    → IsDisplay n why t input d → IsDisplay n why t input e → d ≡ e
same_display n why t input d e p q =
    let one = same_showings t (heard_of t.programme input) p.view.showings q.view.showings p.view.are q.view.are in
    let view : d.view ≡ e.view = p.view.shows ∙ ap (displayed n) one ∙ sym q.view.shows in
    grind arith

same_displays : (n : ℕ) (why : Bool) (t : Tuning) (slots : List (Option Group)) (displays other : List Display)
    → AreDisplays n why t slots displays → AreDisplays n why t slots other → displays ≡ other
same_displays n why t [] [] [] p q = refl
same_displays n why t (slot ∷ before) (d ∷ displays) (e ∷ other) p q =
    ap₂ (λ x xs. x ∷ xs) (same_display n why t (slot ∷ before) d e p.0 q.0)
    (same_displays n why t before displays other p.1 q.1)
same_displays n why t _ _ _ p q = grind arith

-- the bytes of a log write one output
pub same_output : (how : Decoding) (text written other : List ℕ) → LogWrites how text written → LogWrites how text other
    → written ≡ other
same_output how text written other p q =
    let lines = same_lines text p.cut q.cut p.are q.are in
    let slots = same_slots how.rtplus q.cut p.write.slots q.write.slots (rw lines at p.write.say) q.write.say in
    let displays = same_displays how.keep how.says_why (tuning_of how) q.write.slots p.write.write.displays
    q.write.write.displays (rw slots at p.write.write.are) q.write.write.are in
    p.write.write.changes ∙ ap changes_of displays ∙ sym q.write.write.changes

-- two calls over the same bytes
pub alike : (how : Decoding) (text : List ℕ) (r w q v : Traffic) → r.before ≡ Some text → q.before ≡ Some text
    → DecodesAll how r w → DecodesAll how q v → WriteAlike w v
alike how text r w q v given same a b =
    let first = read_whole r.before r.after text a.text given a.read a.end in
    let second = read_whole q.before q.after text b.text same b.read b.end in
    let one = same_output how text a.written b.written (rw first at a.write) (rw second at b.write) in
    record { written = b.written; one = rw one at a.wrote; other = b.wrote }

-- ---- what the answer of an audit means

-- a yes goes with slots that pass, and a no with slots that fail
pub meaning : (a : Auditing) (reads : ℕ) (r w : Traffic) (result : Result Bool LogFault)
    → ((slots : List (Option Group)) → SlotsPass a slots → SlotsAreSafe a slots)
    → ((t : ℕ) (fault : AuditFault) (slots : List (Option Group)) → SlotsFail a t fault slots
    → SlotsHaveNoPlans a slots)
    → Audits a reads r w result → Means a r result
meaning a reads r w (Err fault) safe none audits = tt
meaning a reads r w (Ok true) safe none audits = search
meaning a reads r w (Ok false) safe none audits = by a.stop audits
  where
    by : (stop : Stop) → FindsFaults stop a r w → BeginsWithNoPlans a r
    by FirstFault finds = record {
      text = finds.text;
      read = finds.read;
      lines = finds.stops.lines;
      begins = finds.stops.begins;
      slots = finds.stops.slots;
      say = finds.stops.say;
      newer = [];
      failed = finds.stops.slots;
      cut = refl;
      none = none finds.number finds.fault finds.stops.slots finds.stops.fail;
    }
    by LogEnd finds =
        let (fault, fails) = finds.some in
        record {
          text = finds.text;
          read = finds.read;
          lines = finds.lines;
          begins = inr (finds.end, finds.are);
          slots = finds.list.slots;
          say = finds.list.say;
          newer = fails.newer;
          failed = fails.failed;
          cut = fails.cut;
          none = none fails.number fault fails.failed fails.fail;
        }
