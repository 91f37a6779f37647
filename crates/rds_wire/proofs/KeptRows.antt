-- Worked rows of what `decode --keep` displays, for each definition of its page. Those that end in ⊥ say no.
use Rattle.std.proofs.Common.{◌≡◌, ◌≢◌, ◌<◌, ◌≤◌, ◌+◌, ◌^◌, ℕ, zero, suc, false, List, None, ap, arith, codes, get_or, inl}
use Rattle.std.proofs.Common.{length, refl, subst, Contains}
use Rattle.std.specs.Fmt.{digits}
use Rattle.rds_fields.specs.declared.head.Head.{Head}
use Rattle.rds_log.specs.Audit.{WholePasses}
use Rattle.rds_log.specs.LogWrites.{LogWrites}
use Rattle.rds_log.specs.declared.audit_log.Auditing.{Auditing}
use Rattle.rds_script.specs.Play.{ScriptWrites, with_form}
use Rattle.rds_script.specs.declared.form.Form.TheVariants.{Log}
use Rattle.rds_wire.specs.Headline.{Displays, Reaches, WasOnAir, change_line, in_quotes, lines, slots}
use Rattle.rds_wire.specs.Kept.{IsRecent, NothingNewIsKept, WasDisplayed, WhatIsKeptWasDisplayed, WhatIsKeptWasOnAir}
use Rattle.rds_wire.specs.Wire.{IsHead, station_of}
use Rattle.rds_wire.proofs.HeadlineRows.{early, early_line, is_gone, mixed, mixed_line, not_another, not_lately, output}
use Rattle.rds_wire.proofs.HeadlineRows.{script, shown_in, tags_too_early}

-- ---- what was displayed

abbrev in_1 : List ℕ
in_1 = codes "1 text \"HI\"\n"

line_of_1 : Contains (lines in_1) (change_line 1 (codes "text") (codes " \"HI\""))
unfolding digits
line_of_1 = (0, omega arith, refl)

-- HI in slot 1 is too old for n = 0: without `--keep` it was displayed in slot 0 alone
kept_too_long : WasDisplayed 0 1 in_1 output → ⊥
kept_too_long was =
    let it = was.values (codes "text") (codes "HI") (inl refl) (shown_in 1 in_1 (codes "text") (codes " \"HI\"") line_of_1)
    in
    let past = it.1 in
    let recent = it.2 in
    let now : it.0 ≡ 1 = omega (arith, past, recent) in
    is_gone (subst (λ u. Displays output u (codes "text") (codes " \"HI\"")) now it.3)

-- in slots 0 and 1 the text has no tag
no_tag : (slot : ℕ) (content : List ℕ) → slot ≤ 1 → Contains (lines in_1) (change_line slot (codes "tag1") content) → ⊥
unfolding digits
no_tag zero content few (zero, within, is) =
    (let bad : 49 ≡ 48 = ap (λ (l : List ℕ). get_or l 0 0) is in omega (arith, bad))
no_tag (suc zero) content few (zero, within, is) =
    (let bad : 101 ≡ 97 = ap (λ (l : List ℕ). get_or l 3 0) is in omega (arith, bad))
no_tag zero content few (suc zero, within, is) =
    (let bad : 0 ≡ 48 = ap (λ (l : List ℕ). get_or l 0 0) is in omega (arith, bad))
no_tag (suc zero) content few (suc zero, within, is) =
    (let bad : 0 ≡ 49 = ap (λ (l : List ℕ). get_or l 0 0) is in omega (arith, bad))
no_tag slot content few (suc (suc k), within, is) = omega (arith, within)
no_tag (suc (suc slot)) content few has = omega (arith, few)

abbrev title : List ℕ
title = codes " ITEM.TITLE \"HI\""

is_tag : title ≢ codes " none"
is_tag e = (let bad : 73 ≡ 110 = ap (λ (l : List ℕ). get_or l 1 0) e in omega (arith, bad))

-- a tag that was not displayed
tag_of_nothing : WasDisplayed 1 1 early in_1 → ⊥
tag_of_nothing was =
    let it = was.tags (codes "tag1") title (inl refl) (shown_in 1 early (codes "tag1") title early_line) is_tag in
    let shown = it.6 in
    let upto = it.2 in
    let past = shown.past in no_tag shown.slot title (omega (arith, upto, past)) shown.line

-- ---- what is recent

-- a text that was never on air
never : IsRecent 1 1 1 script mixed → ⊥
never is =
    let it = is.values (codes "text") (codes "YO") (inl refl)
    (shown_in 1 mixed (codes "text") (codes " \"YO\"") mixed_line) in
    not_another it.0 it.1.slot (omega (arith, it.1.past)) it.1.on_air

abbrev in_3 : List ℕ
in_3 = codes "3 text \"HI\"\n"

line_of_3 : Contains (lines in_3) (change_line 3 (codes "text") (codes " \"HI\""))
unfolding digits
line_of_3 = (0, omega arith, refl)

-- a text that went off air in slot 2, in slot 3 with d = 1 and n = 0
too_old : IsRecent 1 0 3 script in_3 → ⊥
too_old is =
    let it = is.values (codes "text") (codes "HI") (inl refl) (shown_in 3 in_3 (codes "text") (codes " \"HI\"") line_of_3)
    in not_lately it.0 (codes "HI") it.1

-- tags less than d slots after the start of their text
too_early : IsRecent 1 1 1 script early → ⊥
too_early is =
    let it = is.tags (codes "tag1") title (inl refl) (shown_in 1 early (codes "tag1") title early_line) is_tag in
    tags_too_early it.1 it.0 title it.4

-- ---- the laws say so of whatever reaches a receiver

says_displayed : WhatIsKeptWasDisplayed → (pi m n t : ℕ) (received output unkept shown : List ℕ)
    → length (slots received) < 2 ^ 64
    → LogWrites (record { pi = pi; rtplus = 11; dwell = m; window = None; says_why = false; keep = n }) received output
    → LogWrites (record { pi = pi; rtplus = 11; dwell = m; window = None; says_why = false; keep = 0 }) received unkept
    → t < length (slots received) → Displays output t (codes "text") (in_quotes shown)
    → (u : ℕ) × (u ≤ t) × (t ≤ u + n) × Displays unkept u (codes "text") (in_quotes shown)
says_displayed law pi m n t received output unkept shown few one other below shows =
    (law _ received output unkept few one other t below).values (codes "text") shown (inl refl) shows

says_on_air : WhatIsKeptWasOnAir → (head : Head) (m k n t : ℕ) (script log received output shown : List ℕ) → IsHead head
    → 0 < m → ScriptWrites (with_form (Log 11) (station_of head m k)) script log → Reaches head.pi k log received
    → LogWrites (record { pi = head.pi; rtplus = 11; dwell = m; window = None; says_why = false; keep = n }) received output
    → t < length (slots received) → Displays output t (codes "text") (in_quotes shown)
    → (i : ℕ) × WasOnAir (codes "text") (m + k) (m + k + n) t script shown i
says_on_air law head m k n t script log received output shown is_head some writes reaches decodes below shows =
    (law head m k n script log is_head some writes received output reaches decodes t below).values (codes "text") shown
    (inl refl) shows

says_nothing_new_is_kept : NothingNewIsKept → (a : Auditing) (n count t : ℕ) (log received output whole shown : List ℕ)
    → 0 < a.dwell → count < 2 ^ 64 → WholePasses a count log → Reaches a.pi a.late log received
    → LogWrites (record { pi = a.pi; rtplus = a.rtplus; dwell = a.dwell; window = None; says_why = false; keep = n }) received
    output
    → LogWrites
    (record { pi = a.pi; rtplus = a.rtplus; dwell = a.dwell + a.late; window = None; says_why = false; keep = 0 }) log whole
    → t < length (slots received) → Displays output t (codes "text") (in_quotes shown)
    → (u : ℕ) × (u ≤ t) × (t < u + (a.dwell + a.late + n)) × Displays whole u (codes "text") (in_quotes shown)
says_nothing_new_is_kept law a n count t log received output whole shown some few passes reaches one other below shows =
    law a n count log some few passes received output whole reaches one other (codes "text") shown t (inl refl) below shows
