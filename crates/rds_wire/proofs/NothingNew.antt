-- The headline of audits.
use Rattle.std.proofs.Common.{◌≡◌, ◌<◌, ◌≤◌, ◌+◌, ◌-◌, ◌^◌, ◌∙◌, ℕ, false, List, Option, None, Some, ap, arith, length}
use Rattle.std.proofs.Common.{refl, inl, inr, subst, sym, map}
use Rattle.rds_receiver.specs.Shown.{ShownView, IsShown, ShowsView}
use Rattle.rds_receiver.specs.declared.why.Whys.{Whys}
use Rattle.rds_safety.specs.Late.{HasEntry, InputOf}
use Rattle.rds_safety.specs.Laws.{LawfulIsLawfulPadded, PlanLaws}
use Rattle.rds_audit.specs.AuditLaws.{WhatPassesAsARecordingIsSafe, WhatPassesIsSafe}
use Rattle.rds_audit.specs.declared.log_start.LogStart.{LogStart}
use Rattle.rds_audit.specs.declared.log_start.LogStart.TheVariants.{Complete, Running}
use Rattle.rds_audit.specs.Recording.{from_first_text, judged_as, preceded}
use Rattle.rds_audit.specs.Rules.{LogPasses}
use Rattle.rds_view_lines.specs.Output.{Display, quoted, text_content, why_name, why_text}
use Rattle.rds_view_lines.specs.ViewParts.{Name, Part, Text, part_content, part_name}
use Rattle.std.specs.Prelude.{drop}
use Rattle.std.proofs.lemmas.List.{drop-map}
use lib.ListN.{length-map}
use Rattle.rds_block.specs.declared.group.Group.{Group}
use Rattle.rds_fields.specs.declared.message.Message.{Message}
use Rattle.rds_charset.specs.Printed.{printed}
use Rattle.rds_assembly.specs.Cells.{Cells}
use Rattle.rds_receiver.specs.Receipts.{heard_in, heard_of, name_fragment, text_fragment}
use Rattle.rds_receiver.specs.Run.{cells_of, run_at}
use Rattle.rds_receiver.specs.declared.fragment.Fragment.{Fragment}
use Rattle.rds_receiver.specs.declared.why.WhyNone.{WhyNone}
use Rattle.rds_safety.specs.Lawful.{IsLawful, names, padded_texts}
use Rattle.rds_safety.specs.Plans.{AreLawfulAs, Plans}
use Rattle.rds_safety.proofs.Padded.{padded_service}
use Rattle.rds_safety.proofs.Safety.{name_fragments_marked, text_fragments_marked}
use Rattle.rds_assembly.specs.Whole.{IsWholeName, IsWholeText}
use Rattle.rds_audit.specs.Forms.{text_kind}
use Rattle.rds_audit.specs.declared.text_form.TextForm.{TextForm}
use Rattle.rds_audit.specs.declared.text_form.TextForm.TheVariants.{Padded, Plain}
use Rattle.rds_lines.specs.OneLog.{same_log}
use Rattle.rds_safety.specs.Marks.{marks, name_mark, text_mark}
use Rattle.rds_safety.proofs.OneBroadcast.{name_service}
use Rattle.rds_log.specs.Audit.{WholePasses, spacing}
use Rattle.rds_log.specs.LogWrites.{AreDisplays, LogWrites, tuning_of}
use Rattle.rds_log.specs.declared.audit_log.Auditing.{Auditing}
use Rattle.rds_lines.specs.LogSlots.{IsLogOf}
use Rattle.rds_wire.specs.Headline.{Displays, Reaches, in_quotes, slots}
use Rattle.rds_wire.specs.NothingNew.{NothingNew, decoding}
use Rattle.rds_wire.specs.Received.{first_entries, own_group}
use Rattle.rds_wire.proofs.Headline.{displays_shows, newest_displays, not_nothing, same_printed}
use Rattle.rds_wire.proofs.MissesNothing.{IsShownByWhole, TagsSendNothing, by_whole, by_whole_recorded, names_agree}
use Rattle.rds_wire.proofs.MissesNothing.{texts_agree}
use Rattle.rds_wire.proofs.Reached.{heard_late, origins_of, slots_long}
use Rattle.rds_wire.proofs.Reading.{IsContentOf, HasNewest, newest_line}
use Rattle.rds_wire.proofs.Receiving.{displays_long, first_length, late_groups, own_heard, view_in}
use Rattle.rds_wire.proofs.Wired.{entry_at, shown as shown_by}

-- ---- one part

-- what is shown between quotation marks is a value
pub has_value : (why : Option WhyNone) (o : Option (List ℕ)) (shown : List ℕ)
    → in_quotes shown ≡ text_content why o
    → (x : List ℕ) × (o ≡ Some x) × (shown ≡ printed x)
has_value why None shown e = absurd (not_nothing shown (why, e))
has_value why (Some x) shown e = (x, refl, same_printed shown x e)

pub heard_first : (pi n : ℕ) (slots : List (Option Group))
    → heard_of pi (first_entries n slots) ≡ first_entries n (heard_of pi slots)
heard_first pi n slots =
    sym (drop-map (heard_in pi) (length slots - n) slots)
    ∙ ap (λ j. drop (j - n) (heard_of pi slots)) (sym (length-map slots (heard_in pi)))

module _ (part : Part) (value : ShownView → Option (List ℕ)) (why : Option Whys → Option WhyNone)
    (is : (whys : Option Whys) (view : ShownView) → part_content part whys view ≡ text_content (why whys) (value view))
    (pick : Message → Option Fragment) (IsWhole : Cells → List ℕ → Type 0)
    (shows : (m first : ℕ) (heard : List (Option Message)) (view : ShownView) → ShowsView m first heard view
    → IsShown IsWhole (cells_of (run_at pick m first heard)) (value view)) where
  -- what the display of a slot shows of the part
  shows_here : (a : Auditing) (m : ℕ) (slots : List (Option Group)) (displays : List Display)
      → AreDisplays 0 false (tuning_of (decoding a m)) slots displays → (t : ℕ) (d : Display) → HasEntry 0 displays t d
      → IsShown IsWhole (cells_of (run_at pick m 0 (heard_of a.pi (first_entries (t + 1) slots)))) (value d.view)
  shows_here a m slots displays are t d at =
      shows m 0 (heard_of a.pi (first_entries (t + 1) slots)) d.view
      (view_in false (tuning_of (decoding a m)) slots displays t d are at).0

  of_part : (a : Auditing) (n : ℕ) (log : List ℕ) (passes : WholePasses a n log) → n < 2 ^ 64
      → IsShownByWhole pick IsWhole a.dwell a.late (heard_of a.pi passes.slots)
      → (received output whole : List ℕ) → Reaches a.pi a.late log received
      → LogWrites (decoding a a.dwell) received output → LogWrites (decoding a (spacing a)) log whole
      → (shown : List ℕ) (t : ℕ) → t < length (slots received) → Displays output t (part_name part) (in_quotes shown)
      → (u : ℕ) × (u ≤ t) × (t < u + spacing a) × Displays whole u (part_name part) (in_quotes shown)
  of_part a n log passes few by received output whole reaches r w shown t below d = (
    core.0,
    core.1,
    core.2,
    subst (λ l. Displays whole core.0 (part_name part) (in_quotes l)) (sym val.2)
        (newest_displays w.write.write.displays whole w.write.write.changes core.0 part (quoted val.0) line),
  )
    where
      sent : IsLogOf a.rtplus log passes.slots
      sent = record { lines = passes.lines; are = passes.are; say = passes.say }

      t_long : t < length r.write.slots
      t_long = omega (arith, below, slots_long a.rtplus received r.cut r.write.slots r.are r.write.say)

      at_t : (d : Display) × HasEntry 0 r.write.write.displays t d
      at_t = entry_at r.write.write.displays t
          (omega (arith, t_long, displays_long 0 false (tuning_of (decoding a a.dwell)) r.write.slots _ r.write.write.are))

      content : IsContentOf part at_t.0.view (in_quotes shown)
      content = shown_by r.write.write.displays output t part (in_quotes shown) at_t.0
          r.write.write.changes
          (omega (
            arith,
            reaches.few,
            slots_long a.rtplus received r.cut r.write.slots r.are r.write.say,
            displays_long 0 false (tuning_of (decoding a a.dwell)) r.write.slots _ r.write.write.are,
          )) at_t.1
          (displays_shows r.write.write.displays output r.write.write.changes t part (in_quotes shown) d)

      val : (x : List ℕ) × (value at_t.0.view ≡ Some x) × (shown ≡ printed x)
      val = has_value (why content.0) (value at_t.0.view) shown (content.1 ∙ is content.0 at_t.0.view)

      groups : InputOf Group
      groups = record {
        first = 0;
        heard = map (own_group a.pi) (first_entries (t + 1) r.write.slots);
        origins = origins_of reaches.origin (map (own_group a.pi) (first_entries (t + 1) r.write.slots));
      }

      messages : List (Option Message)
      messages = heard_of a.pi passes.slots

      core : (u : ℕ) × (u ≤ t) × (t < u + (a.dwell + a.late)) × (u < length (heard_of a.pi passes.slots))
          × ((shown : Option (List ℕ))
          → IsShown IsWhole (cells_of (run_at pick (a.dwell + a.late) 0 (first_entries (u + 1) (heard_of a.pi passes.slots)))) shown
          → shown ≡ Some val.0)
      core = by t (heard_of a.pi (first_entries (t + 1) r.write.slots)) groups.origins val.0
          (late_groups a.pi a.late a.late passes.slots messages (heard_of a.pi (first_entries (t + 1) r.write.slots))
          groups refl (own_heard a.pi (first_entries (t + 1) r.write.slots)
          (heard_of a.pi (first_entries (t + 1) r.write.slots)) refl) (omega arith)
          (heard_late a log received passes.slots r.write.slots passes.lines r.cut passes.are r.are passes.say
          r.write.say reaches (t + 1)))
          (omega (
            arith,
            length-map (first_entries (t + 1) r.write.slots) (heard_in a.pi),
            first_length (t + 1) r.write.slots (omega (arith, t_long)),
          ))
          (subst (IsShown IsWhole (cells_of (run_at pick a.dwell 0 (heard_of a.pi (first_entries (t + 1) r.write.slots)))))
          val.1 (shows_here a a.dwell r.write.slots r.write.write.displays r.write.write.are t at_t.0 at_t.1))

      same : w.write.slots ≡ passes.slots
      same = same_log a.rtplus log w.write.slots passes.slots
          record { lines = w.cut; are = w.are; say = w.write.say } sent

      w_long : length w.write.write.displays ≡ length passes.slots
      w_long = sym (displays_long 0 false (tuning_of (decoding a (spacing a))) w.write.slots _ w.write.write.are)
          ∙ ap length same

      at_u : (d : Display) × HasEntry 0 w.write.write.displays core.0 d
      at_u = entry_at w.write.write.displays core.0
          (omega (arith, core.3, w_long, length-map passes.slots (heard_in a.pi)))

      value_u : value at_u.0.view ≡ Some val.0
      value_u = core.4 (value at_u.0.view)
          (subst (λ h. IsShown IsWhole (cells_of (run_at pick (a.dwell + a.late) 0 h)) (value at_u.0.view))
          (heard_first a.pi (core.0 + 1) w.write.slots
          ∙ ap (λ l. first_entries (core.0 + 1) (heard_of a.pi l)) same)
          (shows_here a (spacing a) w.write.slots w.write.write.displays w.write.write.are core.0 at_u.0 at_u.1))

      line : HasNewest w.write.write.displays part (quoted val.0) core.0
      line = newest_line w.write.write.displays part (quoted val.0) core.0 at_u.0 at_u.1
          (omega (arith, w_long, few, passes.number))
          (λ whys. is whys at_u.0.view ∙ ap (text_content (why whys)) value_u)
          (λ e. not_nothing (printed val.0) (None, e))

-- ---- texts and names

padded : LawfulIsLawfulPadded → (form : TextForm) (d : ℕ) (plans : Plans) (log : List (Option Message))
    → AreLawfulAs (text_kind form) d plans log → IsLawful d padded_texts plans.text (marks text_mark log)
padded wider Plain d plans log lawful = (wider d plans log record { text = lawful.text; name = lawful.name }).text
padded wider Padded d plans log lawful = lawful.text

text_tags : TagsSendNothing text_mark
text_tags pair p e = grind arith

name_tags : TagsSendNothing name_mark
name_tags pair p e = grind arith

-- who misses nothing shows the texts and the names of a log that passes
record HasWhole (m k : ℕ) (messages : List (Option Message)) : Type 0 where
  text : IsShownByWhole text_fragment IsWholeText m k messages
  name : IsShownByWhole name_fragment IsWholeName m k messages

whole_of : PlanLaws → LawfulIsLawfulPadded → WhatPassesIsSafe → WhatPassesAsARecordingIsSafe → (start : LogStart)
    (form : TextForm) (m k : ℕ) (messages : List (Option Message)) → 0 < m
    → LogPasses form (m + k) (judged_as start (m + k) messages) → HasWhole m k messages
whole_of laws wider passes recorded Complete form m k messages some pass =
    let safe = passes form m k messages some pass in
    record {
      text = by_whole laws m k some padded_texts text_fragment text_mark IsWholeText text_fragments_marked padded_service
          texts_agree safe.plans.text messages (padded wider form (m + k) safe.plans messages safe.lawful);
      name = by_whole laws m k some names name_fragment name_mark IsWholeName name_fragments_marked name_service
          names_agree safe.plans.name messages safe.lawful.name;
    }
whole_of laws wider passes recorded Running form m k messages some pass =
    let safe = recorded form m k messages some pass in
    let judged = from_first_text (preceded (m + k) messages) in
    record {
      text = by_whole_recorded laws m k some padded_texts text_fragment text_mark IsWholeText text_fragments_marked
          padded_service texts_agree safe.plans.text messages text_tags
          (padded wider form (m + k) safe.plans judged safe.lawful);
      name = by_whole_recorded laws m k some names name_fragment name_mark IsWholeName name_fragments_marked name_service
          names_agree safe.plans.name messages name_tags safe.lawful.name;
    }

pub nothing_new : PlanLaws → LawfulIsLawfulPadded → WhatPassesIsSafe → WhatPassesAsARecordingIsSafe → NothingNew
nothing_new laws wider passes recorded a n log some few whole_log received output whole reaches r w word shown t is below
    d =
    let has = whole_of laws wider passes recorded a.start a.form a.dwell a.late (heard_of a.pi whole_log.slots) some
    whole_log.pass.passes in
    elim is [
      | inl e ↦ subst (λ it. (u : ℕ) × (u ≤ t) × (t < u + spacing a) × Displays whole u it (in_quotes shown)) (sym e)
          (of_part Text (λ v. v.text) why_text (λ whys view. refl) text_fragment IsWholeText
          (λ m first heard view so. so.text) a n log whole_log few has.text received output whole reaches r w shown t
          below (subst (λ it. Displays output t it (in_quotes shown)) e d))
      | inr e ↦ subst (λ it. (u : ℕ) × (u ≤ t) × (t < u + spacing a) × Displays whole u it (in_quotes shown)) (sym e)
          (of_part Name (λ v. v.name) why_name (λ whys view. refl) name_fragment IsWholeName
          (λ m first heard view so. so.name) a n log whole_log few has.name received output whole reaches r w shown t
          below (subst (λ it. Displays output t it (in_quotes shown)) e d))
    ]
