-- The wire laws for runs of the program.
use Rattle.std.proofs.Common.{ℕ, List, Option, inl, inr, refl, ◌≡◌, ◌⊎◌, ◌∙◌, ◌++◌, ◌∷◌, ◌^◌, [], Some, ap}
use Rattle.std.proofs.Common.{append_assoc, arith, codes, decimal, get_or, subst, sym, Contains, All, Bool, Err, Ok}
use Rattle.std.proofs.Common.{Result, false, true}
use Rattle.rds_io.specs.Told.{traffic, Failed, Traffic}
use Rattle.rds_program.specs.Run.{listening, EndsWith, PutsLine, auditing_of, decoding_of, done, script_in}
use Rattle.rds_program.specs.Run.{verdict_status}
use Rattle.rds_program.specs.RunsBy.{task_by}
use Rattle.rds_wire.specs.Program.{WhatIsAskedForRan, Ran, WhatTheProgramDecodesIsPrinted, WhatTheProgramEncodesIsSafe}
use Rattle.rds_wire.specs.Program.{WhatTheProgramPassesIsSafe, over}
use Rattle.std.specs.Io.KnownBytes.{Appends}
use Rattle.std.proofs.lemmas.List.Elements.{All-cons}
use Rattle.rds_block.specs.declared.group.Group.{Group}
use Rattle.rds_cli.specs.declared.request.Programme.{Programme}
use Rattle.rds_cli.specs.declared.request.Task.TheVariants.{Audit, Decode, Encode}
use Rattle.rds_io.specs.declared.fault.LogFault.{LogFault}
use Rattle.rds_io.specs.declared.fault.LogFault.TheVariants.{BadLine, BadRow, Memory, Read, TooLong, Write}
use Rattle.rds_log.specs.Audit.{WholePasses}
use Rattle.rds_fields.specs.declared.head.Head.{Head}
use Rattle.rds_log.specs.Decode.{Decodes}
use Rattle.rds_log.specs.FaultList.{Audits}
use Rattle.rds_lines.specs.LogSlots.{IsLogOf}
use Rattle.rds_lines.specs.LineSays.{IsSkipped}
use Rattle.rds_lines.specs.LogLines.{AreLines, IsLine, Line, text_of}
use Rattle.rds_log.specs.LogWrites.{LinesWrite, LogWrites}
use Rattle.rds_lines.specs.OneLog.{same_lines, same_log}
use Rattle.rds_lines.specs.Outputs.{StopsBetween, WroteLines}
use Rattle.rds_log.specs.declared.audit_log.Auditing.{Auditing}
use Rattle.rds_log.specs.declared.decode_log.Decoding.{Decoding}
use Rattle.rds_log.proofs.Filled.{more_text}
use Rattle.rds_lines.proofs.Runs.{read_and_left, read_whole}
use Rattle.rds_script.specs.Play.{Plays, WroteRows, with_form}
use Rattle.rds_script.specs.Rows.{Record}
use Rattle.rds_script.specs.declared.form.Form.TheVariants.{Log}
use Rattle.rds_script.specs.declared.play.Playing.{Playing}
use Rattle.rds_view_lines.specs.Output.{Display, changes_of}
use Rattle.rds_view_lines.specs.ViewParts.{Part, line_in}
use Rattle.rds_wire.specs.Printed.{Prints, Shows}
use Rattle.rds_wire.specs.Received.{IsReceived}
use Rattle.rds_wire.specs.Wire.{Encodes, HasSafePlans, IsHead, WhatIsEncodedIsSafeOnTheWire, WhatPassesIsSafeOnTheWire}
use Rattle.rds_wire.specs.Wire.{complete_in, station_of}
use Rattle.rds_wire.proofs.Logs.{HasCut, is_log_of, with_comment, decimal_line, empty_line, feedless, join_lines}
use Rattle.rds_wire.proofs.Reading.{all_lines, are_lines, changes_text, contains_from_in, in_from_contains, lines_of}
use Rattle.rds_wire.proofs.Reading.{prefix_lacks}
use Rattle.rds_wire.proofs.Wired.{EncoderLaws, log_of_script}

-- ---- a run whose arguments ask for a task is a run of this task

pub asked_for_ran : {R : Type 0} (remaining : R → Option (List ℕ)) (failures reads : R → ℕ)
    → WhatIsAskedForRan remaining failures reads
asked_for_ran remaining failures reads words old new w status asked pi input output did is given known fresh wrote
    calm =
    elim (did.runs asked pi is given) [
      | inl memory ↦ inl memory.0
      | inr ran ↦
          let r = traffic remaining failures old new in
          inr (
            record {
              lose = asked.lose;
              status = status;
              r = r;
              w = w;
              given = known;
              fresh = fresh;
              wrote = wrote;
              unfailed = calm;
              ran = task_by (λ failed. tt) (λ rests. tt) asked.task asked.lose
                  (listening asked.rtplus pi asked.dwell) r w status ran;
            },
            refl,
          )
    ]

-- ---- bytes of a run

-- a call that ended calmly wrote its bytes to a fresh writer
fresh_has : (before after : Option (List ℕ)) (written : List ℕ) → before ≡ Some [] → Appends before after written
    → after ≡ Some written
fresh_has before after written fresh is = grind arith

-- and then a line
has_more : (before after : Option (List ℕ)) (written line output : List ℕ) → before ≡ Some written
    → after ≡ Some output → Appends before after line → output ≡ written ++ line
has_more before after written line output had has is = grind arith

same_known : (a : Option (List ℕ)) (x y : List ℕ) → a ≡ Some x → a ≡ Some y → x ≡ y
same_known a x y p q = grind arith

-- a count of 0 failures has no failure before it
no_failure : (f g : ℕ) → g ≡ 0 → Failed f g → ⊥
no_failure f g none up = grind arith

-- without a failure the whole line was written
puts_whole : (w : Traffic) (line : List ℕ) → w.failures_after ≡ 0 → PutsLine line w → Appends w.before w.after line
puts_whole w line none (r, puts) = grind arith

-- ---- `encode`

-- the output is the log, or the log and a comment
abbrev EndsAs : List ℕ → List ℕ → Type 0
EndsAs log output =
    (output ≡ log) ⊎ ((line : List ℕ) × IsLine line × IsSkipped line × (output ≡ log ++ (line ++ codes "\n")))

-- what a run of `encode` wrote
record Wrote (how : Playing) (script output : List ℕ) : Type 0 where
  log : List ℕ
  encoded : Encodes how script log
  ends : EndsAs log output

module _ (how : Playing) (script output : List ℕ) (known : Option (List ℕ)) (w mid : Traffic)
    (given : known ≡ Some script)
    (fresh : w.before ≡ Some []) (between : mid.before ≡ w.after) (has : mid.after ≡ Some output)
    (none : mid.failures_after ≡ 0) where
  wrote_rows : (records : List Record) (rows : WroteRows how known w records) → EndsAs rows.written output
      → Wrote how script output
  wrote_rows records rows ends = grind arith

  with_fault : (records : List Record) (rows : WroteRows how known w records) (text : List ℕ) → IsLine text
      → PutsLine ((codes "# " ++ text) ++ codes "\n") mid → Wrote how script output
  with_fault records rows text is told =
      let had = between ∙ fresh_has w.before w.after rows.written fresh rows.wrote in
      wrote_rows records rows (inr (
        codes "# " ++ text,
        join_lines (codes "# ") text (feedless (codes "# ") refl) is,
        inr (inr (inl refl)),
        has_more mid.before mid.after rows.written ((codes "# " ++ text) ++ codes "\n") output had has
            (puts_whole mid ((codes "# " ++ text) ++ codes "\n") none told),
      ))

-- a run of `encode` wrote the log of the first records, and the line of its fault
wrote : (programme : Programme) (n pi m k : ℕ) (script output : List ℕ)
    → Ran (Encode programme k) (listening n pi m) script output
    → Wrote (with_form (Log n) (station_of (record { pi = pi; tp = programme.tp; pty = programme.pty }) m k)) script
    output
wrote programme n pi m k script output ran = by ran.ran.outcome ran.ran.ran ran.ran.ended
  where
    how : Playing
    how = with_form (Log n) (station_of (record { pi = pi; tp = programme.tp; pty = programme.pty }) m k)

    first : Traffic
    first = record ran.w { after = ran.ran.mid; failures_after = ran.ran.failures }

    rest : Traffic
    rest = record ran.w { before = ran.ran.mid; failures_before = ran.ran.failures }

    fault : (records : List Record) (rows : WroteRows how ran.r.before first records) (text : List ℕ) → IsLine text
        → PutsLine ((codes "# " ++ text) ++ codes "\n") rest → Wrote how script output
    fault = with_fault how script output ran.r.before first rest ran.given ran.fresh refl ran.wrote ran.unfailed

    by : (outcome : Result (Unit {0}) LogFault) → Plays how (2 ^ 32) (script_in (over ran.r)) first outcome
        → EndsWith done (Encode programme k) outcome rest ran.status → Wrote how script output
    by (Ok done) plays ended =
        wrote_rows how script output ran.r.before first rest ran.given ran.fresh refl ran.wrote ran.unfailed
        plays.records plays.wrote (inl (same_known ran.w.after output plays.wrote.written ran.wrote
        (ended.1.bytes ∙ fresh_has ran.w.before ran.ran.mid plays.wrote.written ran.fresh plays.wrote.wrote)))
    by (Err (BadLine line)) plays ended = absurd plays
    by (Err (BadRow row)) plays ended =
        fault plays.0.records plays.0.wrote (codes "fault row " ++ decimal row)
        (join_lines (codes "fault row ") (decimal row) (feedless (codes "fault row ") refl) (decimal_line row)) ended.1
    by (Err Read) plays ended =
        fault plays.0 plays.1 (codes "fault read") (feedless (codes "fault read") refl) ended.1
    by (Err Memory) plays ended =
        fault plays.0 plays.1 (codes "fault memory") (feedless (codes "fault memory") refl) ended.1
    by (Err TooLong) plays ended =
        fault plays.0 plays.1 (codes "fault too long") (feedless (codes "fault too long") refl) ended.1
    by (Err Write) plays ended =
        absurd (no_failure ran.w.failures_before ran.ran.failures (sym ended.1.calm ∙ ran.unfailed) plays.failed)

-- a receiver of the output is one of the log
of_log : (n : ℕ) (log output : List ℕ) (sent : List (Option Group)) → HasCut n log sent → EndsAs log output
    → HasCut n output sent
of_log n log output sent had same = grind (arith, with_comment)

received_of : (a : Auditing) (log output : List ℕ) (sent got : List (Option Group)) (t now : ℕ)
    → HasCut a.rtplus log sent
    → HasCut a.rtplus output sent → IsReceived a output got t now → IsReceived a log got t now
received_of a log output sent got t now had has r =
    let same = same_log a.rtplus output sent r.sent (is_log_of a.rtplus output sent has) r.log_has in
    record {
      sent = r.sent;
      log_has = subst (IsLogOf a.rtplus log) same (is_log_of a.rtplus log sent had);
      reached = r.reached;
      few = r.few;
      origins = r.origins;
      came = r.came;
    }

-- what a run of `encode` writes is safe on the wire
pub encoded_by_the_program : WhatIsEncodedIsSafeOnTheWire → EncoderLaws → WhatTheProgramEncodesIsSafe
encoded_by_the_program law encoder programme n pi m k script output may fits type some ran =
    let head : Head = record { pi = pi; tp = programme.tp; pty = programme.pty } in
    let is_head : IsHead head = record { pi = fits; pty = type } in
    let it = wrote programme n pi m k script output ran in
    let has = log_of_script encoder n head m k script it.log may is_head some it.encoded in
    let all = of_log n it.log output has.sent has.cut it.ends in
    let a = complete_in n pi m k in (
      it.log,
      it.encoded,
      λ x p y q t u now one other ra rb. law n head m k script it.log may is_head some it.encoded x p y q t u now one
          other
          (received_of a it.log output has.sent one.write.slots t now has.cut all ra)
          (received_of a it.log output has.sent other.write.slots u now has.cut all rb),
    )

-- ---- lines of faults

-- a line of the output is one of the lines before the fault
not_fault : (line : Line) (u : ℕ) (part : Part) (content : List ℕ) (lines : List Line) → get_or line 0 0 ≡ 102
    → Contains (line ∷ lines) (line_in u part content) → Contains lines (line_in u part content)
not_fault line u part content lines f is = grind (arith, in_from_contains, prefix_lacks, contains_from_in)

or_later : (line : Line) (u : ℕ) (part : Part) (content : List ℕ) (lines : List Line)
    → Contains lines (line_in u part content) → Contains (line ∷ lines) (line_in u part content)
or_later line u part content lines is = search (contains_from_in, in_from_contains, inl, inr)

-- the line of a fault changes nothing that is shown
shows_before : (displays : List Display) (printed output : List ℕ) (line : Line) (t : ℕ) (part : Part)
    (content : List ℕ)
    → printed ≡ changes_of displays → IsLine line → get_or line 0 0 ≡ 102 → output ≡ printed ++ (line ++ codes "\n")
    → Shows output t part content → Shows printed t part content
shows_before displays printed output line t part content is single f all sh = by sh
  where
    before : AreLines printed (lines_of displays)
    before = are_lines displays printed is

    whole : AreLines output (line ∷ lines_of displays)
    whole = (
      line ∷ lines_of displays,
      [],
      all ∙ more_text printed line (lines_of displays) (is ∙ changes_text displays),
      All-cons IsLine line (lines_of displays) single (all_lines displays),
      empty_line,
      inl (refl, refl),
    )

    by : Shows output t part content → Shows printed t part content
    by (inl s) =
        let same = same_lines output s.lines (line ∷ lines_of displays) s.are whole in
        inl (record {
          lines = lines_of displays;
          are = before;
          slot = s.slot;
          past = s.past;
          line = not_fault line s.slot part content (lines_of displays) f (rw same at s.line);
          newest = λ u other after upto has. s.newest u other after upto
              (subst (λ (l : List Line). Contains l (line_in u part other)) (sym same)
              (or_later line u part other (lines_of displays) has));
        })
    by (inr (s, none)) =
        let same = same_lines output s.lines (line ∷ lines_of displays) s.are whole in
        inr (
          record {
            lines = lines_of displays;
            are = before;
            none = λ u other upto has. s.none u other upto
                (subst (λ (l : List Line). Contains l (line_in u part other)) (sym same)
                (or_later line u part other (lines_of displays) has));
          },
          none,
        )

-- ---- `audit`

-- a log to which a run of `audit` says yes has safe plans
pub passed_by_the_program : WhatPassesIsSafeOnTheWire → WhatTheProgramPassesIsSafe
passed_by_the_program law n pi m k running padded all log output some ran zero_is = by ran.ran.outcome ran.ran.ran
    ran.ran.ended
  where
    a : Auditing
    a = auditing_of (listening n pi m) k running padded all

    first : Traffic
    first = record ran.w { after = ran.ran.mid; failures_after = ran.ran.failures }

    rest : Traffic
    rest = record ran.w { before = ran.ran.mid; failures_before = ran.ran.failures }

    by : (outcome : Result Bool LogFault) → Audits a (2 ^ 32) ran.r first outcome
        → EndsWith verdict_status (Audit k running padded all) outcome rest ran.status → HasSafePlans a log
    by (Ok true) answers ended =
        let whole = read_whole ran.r.before ran.r.after log answers.text ran.given answers.read answers.end in
        law a answers.number log some (subst (λ
        (text : List ℕ). WholePasses a answers.number text) whole answers.passes)
    by (Ok false) answers ended = absurd (let status = ended.0 in omega (arith, status, zero_is))
    by (Err fault) answers ended = absurd (let status = ended.0 in omega (arith, status, zero_is))

-- ---- `decode`

-- what a run of `decode` with this status printed
abbrev Shown : Option ℕ → ℕ → ℕ → ℕ → List ℕ → List ℕ → ℕ → Type 0
Shown window n pi m received output status = (printed : List ℕ) × (prints : Prints n pi m window received printed)
    × (status ≡ 0 → AreLines received prints.lines)
    × ((t : ℕ) (part : Part) (content : List ℕ) → Shows output t part content → Shows printed t part content)

-- what a run of `decode` writes is printed for its log
pub decoded_by_the_program : WhatTheProgramDecodesIsPrinted
decoded_by_the_program window why n pi m received output ran = by ran.ran.outcome ran.ran.ran ran.ran.ended
  where
    how : Decoding
    how = decoding_of (listening n pi m) window why 0

    first : Traffic
    first = record ran.w { after = ran.ran.mid; failures_after = ran.ran.failures }

    rest : Traffic
    rest = record ran.w { before = ran.ran.mid; failures_before = ran.ran.failures }

    fault : (lines : List Line) (line : Line) (more : List ℕ) (wrote : WroteLines (LinesWrite how) first lines)
        (text : List ℕ) → received ≡ text_of lines line ++ more → All IsLine lines → IsLine line → IsLine text
        → get_or text 0 0 ≡ 102 → ran.status ≡ 1 → PutsLine (text ++ codes "\n") rest
        → Shown window n pi m received output ran.status
    fault lines line more wrote text cut are is single f one told =
        let all = has_more ran.ran.mid ran.w.after wrote.written (text ++ codes "\n") output
        (fresh_has ran.w.before ran.ran.mid wrote.written ran.fresh wrote.wrote) ran.wrote
        (puts_whole rest (text ++ codes "\n") ran.unfailed told) in (
          wrote.written,
          record { lines = lines; begins = inl (line, more, cut, are, is); why = why; write = wrote.write },
          λ zero. absurd (omega (arith, one, zero)),
          λ t part content sh. shows_before wrote.write.write.displays wrote.written output text t part content
              wrote.write.write.changes single f all sh,
        )

    between : (least : ℕ) (stops : StopsBetween (LinesWrite how) ran.r first least) (text : List ℕ) → IsLine text
        → get_or text 0 0 ≡ 102 → ran.status ≡ 1 → PutsLine (text ++ codes "\n") rest
        → Shown window n pi m received output ran.status
    between least stops text single f one told =
        let read = read_and_left ran.r.before ran.r.after received (text_of stops.closed stops.reads.begun) ran.given
        stops.reads.read in
        fault stops.closed stops.reads.begun read.0 stops.wrote text read.2 stops.reads.lines_are stops.reads.line_is
        single f one told

    by : (outcome : Result (Unit {0}) LogFault) → Decodes how (2 ^ 32) ran.r first outcome
        → EndsWith done (Decode window why 0) outcome rest ran.status → Shown window n pi m received output ran.status
    by (Ok done) all ended =
        let text = read_whole ran.r.before ran.r.after received all.text ran.given all.read all.end in
        let same = same_known ran.w.after output all.written ran.wrote
        (ended.1.bytes ∙ fresh_has ran.w.before ran.ran.mid all.written ran.fresh all.wrote) in
        let writes : LogWrites how received all.written = rw text at all.write in (
          all.written,
          record { lines = writes.cut; begins = inr (refl, writes.are); why = why; write = writes.write },
          λ zero. writes.are,
          λ t part content sh. subst (λ (l : List ℕ). Shows l t part content) same sh,
        )
    by (Err (BadLine number)) (text, read, stops, calm) ended =
        let bytes = read_and_left ran.r.before ran.r.after received text ran.given read in
        fault stops.lines stops.next.line (stops.next.rest ++ bytes.0) stops.wrote (codes "fault line " ++ decimal
        number)
        (bytes.2 ∙ ap (λ (l : List ℕ). l ++ bytes.0) stops.next.cut
        ∙ append_assoc (text_of stops.lines stops.next.line) stops.next.rest bytes.0) stops.next.bad.lines
        stops.next.bad.is_line
        (join_lines (codes "fault line ") (decimal number) (feedless (codes "fault line ") refl)
        (decimal_line number)) refl ended.0 ended.1
    by (Err Read) (stops, failed) ended =
        between 0 stops (codes "fault read") (feedless (codes "fault read") refl) refl ended.0 ended.1
    by (Err TooLong) (stops, calm) ended =
        between (2 ^ 32) stops (codes "fault too long") (feedless (codes "fault too long") refl) refl ended.0 ended.1
    by (Err Write) (text, read, stops, calm) ended =
        absurd (no_failure ran.w.failures_before ran.ran.failures (sym ended.1.calm ∙ ran.unfailed) stops.wrote.failed)
    by (Err (BadRow row)) all ended = absurd all
    by (Err Memory) all ended = absurd all
