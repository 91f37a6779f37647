-- Worked rows of the headline, for each definition of its page. Those that end in ⊥ say no: so a wider definition would be
-- seen, and an empty one too.
use Rattle.std.specs.Char.{encode_utf8}
use Rattle.std.proofs.Common.{◌≡◌, ◌≢◌, ◌<◌, ◌≤◌, ◌+◌, ◌^◌, ◌∷◌, [], ◌∙◌, ℕ, zero, suc, true, false, List, None, Option}
use Rattle.std.proofs.Common.{Some, ap, arith, codes, get_or, inl, length, refl, subst, sym, slice_get, Contains}
use Rattle.std.proofs.lemmas.List.Elements.{All-cons, All-nil}
use Rattle.std.specs.Prelude.{MatchOption}
use Rattle.std.proofs.lemmas.Option.{same_Some}
use Rattle.std.specs.Fmt.{digits}
use Rattle.csv.specs.Machine.{next_record}
use Rattle.csv.specs.Reading.{records_from, strip_bom}
use Rattle.rds_charset.specs.Printed.{printed, printed_byte}
use Rattle.rds_charset.specs.ReadAs.{IsReadAs}
use Rattle.rds_charset.specs.Table.{character_of}
use Rattle.rds_charset.proofs.PrintedText.{IsReadAs-printed}
use Rattle.rds_charset.proofs.Symbols.{IsReadAs-same}
use Rattle.rds_fields.specs.Tag.{TagFields}
use Rattle.rds_fields.specs.declared.head.Head.{Head}
use Rattle.rds_log.specs.Audit.{WholePasses}
use Rattle.rds_log.specs.LogWrites.{LogWrites, plain}
use Rattle.rds_log.specs.declared.audit_log.Auditing.{Auditing}
use Rattle.rds_script.specs.Play.{ScriptWrites, with_form}
use Rattle.rds_script.specs.Rows.{AreNumbers, numbers_of_pair}
use Rattle.rds_script.specs.declared.form.Form.TheVariants.{Log}
use Rattle.rds_wire.specs.Headline.{Displays, EndsIn, Headline, IsSafe, OnAir, Reaches, Row, WasOnAir, WentWith, air}
use Rattle.rds_wire.specs.Headline.{air_in, argument_of, change_line, filled, has_word, in_quotes, is_group, lines}
use Rattle.rds_wire.specs.Headline.{rows, slots, tag_shown}
use Rattle.rds_wire.specs.NothingNew.{NothingNew}
use Rattle.rds_wire.specs.Wire.{IsHead, station_of}

-- ---- a log, and what reaches a receiver

are_lines : lines (codes "A\nB") ≡ codes "A" ∷ codes "B" ∷ []
are_lines = refl

-- comments and empty lines are no slots. The case of letters, the end of a line and what stands behind the blocks do not
-- matter
are_slots : slots (codes "# one\n\nc201 2140 4849 0d20 12:00\r\n\r\n---- ---- ---- ----\n")
    ≡ codes "C201 2140 4849 0D20" ∷ codes "---- ---- ---- ----" ∷ []
are_slots = refl

abbrev hi : List ℕ
hi = codes "C201 2140 4849 0D20"

is_of_pi : is_group 0xC201 hi ≡ true
is_of_pi = refl

is_of_another : is_group 0xC202 hi ≡ false
is_of_another = refl

is_damaged : is_group 0xC201 (codes "C201 2140 ---- 0D20") ≡ false
is_damaged = refl

-- who gets all slots is reached
gets_all : (pi k : ℕ) (log : List ℕ) → length (slots log) < 2 ^ 64 → Reaches pi k log log
gets_all pi k log few = record {
  origin = λ t. Some t;
  each = λ t slot is. (is, omega arith, omega arith);
  rising = λ t u r s p q before. grind arith;
  few = few;
}

-- and who gets nothing
gets_nothing : (pi k : ℕ) (log : List ℕ) → Reaches pi k log []
gets_nothing pi k log = record {
  origin = λ t. None;
  each = λ t slot is. absurd (cc);
  rising = λ t u r s p q before. absurd (cc);
  few = omega arith;
}

-- a log of HI in slot 0
abbrev one_group : List ℕ
one_group = codes "C201 2140 4849 0D20\n"

-- so a group that a receiver gets is HI, from slot 0
from_zero : (k : ℕ) (received slot : List ℕ) (r : Reaches 0xC201 k one_group received) (t : ℕ)
    → slice_get (slots received) t ≡ Some slot → is_group 0xC201 slot ≡ true
    → (r.origin t ≡ Some 0) × (t ≤ k) × (hi ≡ slot)
from_zero k received slot r t at group = by (r.origin t) refl (r.each t slot at)
  where
    by : (from : Option ℕ) → r.origin t ≡ from → MatchOption from (is_group 0xC201 slot ≡ false)
        (λ s. (slice_get (hi ∷ []) s ≡ Some slot) × (s ≤ t) × (t ≤ s + k))
        → (r.origin t ≡ Some 0) × (t ≤ k) × (hi ≡ slot)
    by None from lost = absurd (cc)
    by (Some zero) from came = (from, omega (arith, came.2), same_Some hi slot came.0)
    by (Some (suc s)) from came = absurd (cc)

-- with K = 1 it does not come two slots late
two_late : Reaches 0xC201 1 one_group (codes "----\n----\nC201 2140 4849 0D20\n") → ⊥
two_late r = omega (arith, (from_zero 1 (codes "----\n----\nC201 2140 4849 0D20\n") hi r 2 refl refl).1)

-- nor twice
comes_twice : Reaches 0xC201 1 one_group (codes "C201 2140 4849 0D20\nC201 2140 4849 0D20\n") → ⊥
comes_twice r =
    let twice : List ℕ = codes "C201 2140 4849 0D20\nC201 2140 4849 0D20\n" in
    omega (arith, r.rising 0 1 0 0 (from_zero 1 twice hi r 0 refl refl).0 (from_zero 1 twice hi r 1 refl refl).0)

-- nor does another group of the programme
another_group : Reaches 0xC201 1 one_group (codes "C201 2140 594F 0D20\n") → ⊥
another_group r =
    let same = (from_zero 1 (codes "C201 2140 594F 0D20\n") (codes "C201 2140 594F 0D20") r 0 refl refl).2 in
    let bad : 52 ≡ 53 = ap (λ (l : List ℕ). get_or l 10 0) same in omega (arith, bad)

-- ---- what rows have on air

abbrev free : Row
free = codes "-" ∷ [] ∷ codes "1" ∷ [] ∷ []

abbrev says : List ℕ → List ℕ → Row
says word argument = word ∷ argument ∷ codes "1" ∷ [] ∷ []

-- with d = 2 a text is silent in slots 0 and 1, accepted in slot 2, and held in slots 3 to 5
is_silent : (air (codes "text") 2 (says (codes "text") (codes "A") ∷ free ∷ [])).set ≡ None
is_silent = refl

is_accepted : air (codes "text") 2 (says (codes "text") (codes "A") ∷ free ∷ free ∷ [])
    ≡ record { number = 1; started = 0; set = Some (2, codes "A") }
is_accepted = refl

is_held : air (codes "text") 2 (says (codes "text") (codes "B") ∷ free ∷ free ∷ says (codes "text") (codes "A") ∷ free
    ∷ free ∷ []) ≡ record { number = 1; started = 0; set = Some (2, codes "A") }
is_held = refl

is_second : air (codes "text") 2 (says (codes "text") (codes "B") ∷ free ∷ free ∷ free ∷ says (codes "text") (codes "A")
    ∷ free ∷ free ∷ []) ≡ record { number = 2; started = 0; set = Some (6, codes "B") }
is_second = refl

-- a restart ends it
is_ended : air (codes "text") 2 (says (codes "restart") [] ∷ says (codes "text") (codes "A") ∷ free ∷ free ∷ [])
    ≡ record { number = 1; started = 3; set = None }
is_ended = refl

-- a name is another service
is_other : (air (codes "name") 2 (says (codes "text") (codes "A") ∷ free ∷ free ∷ [])).set ≡ None
is_other = refl

is_filled : filled (codes "name") (codes "FM") ≡ codes "FM      "
is_filled = refl

-- ---- a script with d = 1: HI from slot 1, its tags from slot 2, and a restart in slot 3

abbrev pub script : List ℕ
script = codes "-,,1,\ntext,HI,1,\ntags,1 1 1 0 1 0 0 0,1,\nrestart,,1,\n"

set_in : (slot : ℕ) (s : ℕ × List ℕ) → (air_in (codes "text") 1 script slot).set ≡ Some s → slot ≤ 3
    → (1 ≤ slot) × (slot ≤ 2) × ((1, codes "HI") ≡ s)
unfolding next_record records_from strip_bom
set_in zero s is few = absurd (cc)
set_in (suc zero) s is few = (omega arith, omega arith, same_Some (1, codes "HI") s is)
set_in (suc (suc zero)) s is few = (omega arith, omega arith, same_Some (1, codes "HI") s is)
set_in (suc (suc (suc zero))) s is few = absurd (cc)
set_in (suc (suc (suc (suc n)))) s is few = absurd (omega (arith, few))

-- the argument HI gives the bytes of HI, and is printed as HI
reads_hi : (given : List ℕ) → IsReadAs (codes "HI") given → codes "HI" ≡ given
unfolding printed_byte character_of encode_utf8
reads_hi given read =
    IsReadAs-same (codes "HI") (codes "HI") given
    (IsReadAs-printed (codes "HI") (search (arith, All-cons, All-nil))) read

prints_hi : printed (codes "HI") ≡ codes "HI"
unfolding printed_byte character_of encode_utf8
prints_hi = refl

-- so in slots 1 and 2 HI is on air
is_hi : (slot k : ℕ) (shown : List ℕ) → slot ≤ 3 → (o : OnAir (codes "text") 1 script slot shown k)
    → (1 ≤ slot) × (slot ≤ 2) × (o.start ≡ 1) × (o.given ≡ codes "HI") × (shown ≡ codes "HI")
is_hi slot k shown few o =
    let it = set_in slot (o.start, o.argument) o.set few in
    let argument : codes "HI" ≡ o.argument = ap (λ (s : ℕ × List ℕ). s.1) it.2 in
    let given = reads_hi o.given (subst (λ a. IsReadAs a o.given) (sym argument) o.read) in
    (it.0, it.1, ap (λ (s : ℕ × List ℕ). s.0) (sym it.2), sym given, o.is ∙ ap printed (sym given) ∙ prints_hi)

not_before : (k : ℕ) (shown : List ℕ) → OnAir (codes "text") 1 script 0 shown k → ⊥
not_before k shown o = omega (arith, (is_hi 0 k shown (omega arith) o).0)

pub not_another : (k slot : ℕ) → slot ≤ 3 → OnAir (codes "text") 1 script slot (codes "YO") k → ⊥
not_another k slot few o =
    let bad : 89 ≡ 72 = ap (λ (l : List ℕ). get_or l 0 0) (is_hi slot k (codes "YO") few o).4 in omega (arith, bad)

not_second : (shown : List ℕ) → OnAir (codes "text") 1 script 1 shown 2 → ⊥
unfolding next_record records_from strip_bom
not_second shown o = (let bad : 1 ≡ 2 = o.number in omega (arith, bad))

-- with n = 1 not in the slot of the restart, and in no slot before the text
pub not_lately : (k : ℕ) (shown : List ℕ) → WasOnAir (codes "text") 1 1 3 script shown k → ⊥
not_lately k shown w =
    let it = is_hi w.slot k shown w.past w.on_air in omega (arith, it.1, w.recent)

not_yet : (k : ℕ) (shown : List ℕ) → WasOnAir (codes "text") 1 8 0 script shown k → ⊥
not_yet k shown w =
    let it = is_hi w.slot k shown (omega (arith, w.past)) w.on_air in omega (arith, it.0, w.past)

-- ---- tags

abbrev title : TagFields
title = record { class = 1; start = 3; extra = 1 }

ends_outside : EndsIn (codes "HI Y") title → ⊥
ends_outside is = grind arith

in_marks : in_quotes (codes "HI") ≡ codes " \"HI\""
in_marks = refl

shows_title : tag_shown (codes "HI YO") title ≡ codes " ITEM.TITLE \"YO\""
unfolding printed_byte character_of encode_utf8
shows_title = refl

-- the tags of slot 2 are not for slot 1
pub tags_too_early : (k : ℕ) (text content : List ℕ) → WentWith (codes "tag1") 1 1 script text content k → ⊥
tags_too_early k text content w =
    let it = is_hi w.slot k text (omega (arith, w.past)) w.on_air in omega (arith, it.2, w.lasted)

-- nor does a slot without a row of tags have any
row_of_tags : (slot : ℕ) (row : Row) → 1 ≤ slot → slot ≤ 2 → slice_get (rows script) slot ≡ Some row
    → has_word (codes "tags") row ≡ true → says (codes "tags") (codes "1 1 1 0 1 0 0 0") ≡ row
unfolding next_record records_from strip_bom
row_of_tags zero row from to is tags = absurd (omega (arith, from))
row_of_tags (suc zero) row from to is tags = absurd (let same = same_Some (says (codes "text") (codes "HI")) row is in
    let bad : false ≡ true = ap (has_word (codes "tags")) same ∙ tags in cc)
row_of_tags (suc (suc zero)) row from to is tags = same_Some (says (codes "tags") (codes "1 1 1 0 1 0 0 0")) row is
row_of_tags (suc (suc (suc n))) row from to is tags = absurd (omega (arith, to))

-- they have the numbers of this row, and both end in HI
of_the_row : (word : List ℕ) (t k : ℕ) (text content : List ℕ) → t ≤ 3 → (w : WentWith word 1 t script text content k)
    → AreNumbers (codes "1 1 1 0 1 0 0 0") (numbers_of_pair w.pair) × EndsIn (codes "HI") w.pair.one
    × EndsIn (codes "HI") w.pair.two
of_the_row word t k text content few w =
    let it = is_hi w.slot k text (omega (arith, w.past, few)) w.on_air in
    let row = row_of_tags w.slot w.row it.0 it.1 w.is_row w.is_tags in (
      subst (λ (r : Row). AreNumbers (argument_of r) (numbers_of_pair w.pair)) (sym row) w.numbers,
      subst (λ x. EndsIn x w.pair.one) it.3 w.fits.0,
      subst (λ x. EndsIn x w.pair.two) it.3 w.fits.1,
    )

-- tag1 is the first of them, with its piece, and none of class 0
first_tag : (t k : ℕ) (text content : List ℕ) → t ≤ 3 → (w : WentWith (codes "tag1") 1 t script text content k)
    → (0 < w.pair.one.class) × (content ≡ tag_shown (codes "HI") w.pair.one)
first_tag t k text content few w =
    let it = is_hi w.slot k text (omega (arith, w.past, few)) w.on_air in
    let tag = w.is_tag in
    (subst (λ (x : TagFields). 0 < x.class) tag w.some, w.is ∙ ap (λ x. tag_shown x w.tag) it.3 ∙ ap (tag_shown (codes "HI")) tag)

-- ---- the output

is_line : change_line 12 (codes "text") (codes " \"HI\"") ≡ codes "12 text \"HI\""
unfolding digits
is_line = refl

abbrev pub output : List ℕ
output = codes "0 text \"HI\"\n1 text none\n"

is_shown : Displays output 0 (codes "text") (codes " \"HI\"")
unfolding digits
is_shown = record {
  slot = 0;
  past = omega arith;
  line = (0, omega arith, refl);
  newest = λ u other after upto has. omega (arith, after, upto);
}

line_in_1 : Contains (lines output) (change_line 1 (codes "text") (codes " \"HI\"")) → ⊥
unfolding digits
line_in_1 (zero, within, is) = (let bad : 48 ≡ 49 = ap (λ (l : List ℕ). get_or l 0 0) is in omega (arith, bad))
line_in_1 (suc zero, within, is) = (let bad : 110 ≡ 34 = ap (λ (l : List ℕ). get_or l 7 0) is in omega (arith, bad))
line_in_1 (suc (suc zero), within, is) = (let bad : 0 ≡ 49 = ap (λ (l : List ℕ). get_or l 0 0) is in omega (arith, bad))
line_in_1 (suc (suc (suc k)), within, is) = omega (arith, within)

none_in_1 : Contains (lines output) (change_line 1 (codes "text") (codes " none"))
unfolding digits
none_in_1 = (1, omega arith, refl)

-- a newer line ends it
pub is_gone : Displays output 1 (codes "text") (codes " \"HI\"") → ⊥
is_gone d = by d.slot d.past d.line d.newest
  where
    by : (slot : ℕ) → slot ≤ 1 → Contains (lines output) (change_line slot (codes "text") (codes " \"HI\""))
        → ((u : ℕ) (other : List ℕ) → slot < u → u ≤ 1 → Contains (lines output) (change_line u (codes "text") other) → ⊥)
        → ⊥
    by zero past line newest = newest 1 (codes " none") (omega arith) (omega arith) none_in_1
    by (suc zero) past line newest = line_in_1 line
    by (suc (suc n)) past line newest = omega (arith, past)

-- and a line of a later slot does not count yet
no_line_in_0 : (content : List ℕ) → Contains (lines (codes "1 text \"HI\"\n")) (change_line 0 (codes "text") content) → ⊥
unfolding digits
no_line_in_0 content (zero, within, is) =
    (let bad : 49 ≡ 48 = ap (λ (l : List ℕ). get_or l 0 0) is in omega (arith, bad))
no_line_in_0 content (suc zero, within, is) =
    (let bad : 0 ≡ 48 = ap (λ (l : List ℕ). get_or l 0 0) is in omega (arith, bad))
no_line_in_0 content (suc (suc k), within, is) = omega (arith, within)

is_later : (content : List ℕ) → Displays (codes "1 text \"HI\"\n") 0 (codes "text") content → ⊥
is_later content d =
    let at : d.slot ≡ 0 = omega (arith, d.past) in
    no_line_in_0 content (subst (λ s. Contains (lines (codes "1 text \"HI\"\n")) (change_line s (codes "text") content)) at d.line)

-- ---- what is safe

-- in a slot the output has this line of a part
pub shown_in : (t : ℕ) (output word content : List ℕ) → Contains (lines output) (change_line t word content)
    → Displays output t word content
shown_in t output word content line =
    record { slot = t; past = omega arith; line = line; newest = λ u other after upto has. omega (arith, after, upto) }

abbrev pub mixed : List ℕ
mixed = codes "1 text \"YO\"\n"

pub mixed_line : Contains (lines mixed) (change_line 1 (codes "text") (codes " \"YO\""))
unfolding digits
mixed_line = (0, omega arith, refl)

-- a text that was never on air
is_mix : IsSafe 1 1 script mixed mixed → ⊥
is_mix safe =
    let shown = shown_in 1 mixed (codes "text") (codes " \"YO\"") mixed_line in
    let it = safe.values (codes "text") (codes "YO") (codes "YO") (inl refl) shown shown in
    not_another it.0 it.2.slot (omega (arith, it.2.past)) it.2.on_air

abbrev pub early : List ℕ
early = codes "1 text \"HI\"\n1 tag1 ITEM.TITLE \"HI\"\n"

pub early_line : Contains (lines early) (change_line 1 (codes "tag1") (codes " ITEM.TITLE \"HI\""))
unfolding digits
early_line = (1, omega arith, refl)

-- tags less than d slots after the start of their text
is_early : IsSafe 1 1 script early early → ⊥
is_early safe =
    let content : List ℕ = codes " ITEM.TITLE \"HI\"" in
    let full : content ≢ codes " none" = λ e. (let bad : 73 ≡ 110 = ap (λ (l : List ℕ). get_or l 1 0) e in omega (arith, bad)) in
    let it = safe.tags (codes "tag1") content (inl refl) (shown_in 1 early (codes "tag1") content early_line) full in
    tags_too_early it.1 it.0 content it.4

-- the headline says so of whatever reaches two receivers
says_so : Headline → (head : Head) (m k t : ℕ) (script log received other output other_output : List ℕ) → IsHead head
    → 0 < m → ScriptWrites (with_form (Log 11) (station_of head m k)) script log → Reaches head.pi k log received
    → Reaches head.pi k log other → LogWrites (plain head.pi m) received output
    → LogWrites (plain head.pi m) other other_output → t < length (slots received) → t < length (slots other)
    → IsSafe (m + k) t script output other_output
says_so headline head m k t script log received other output other_output is_head some writes reaches too decodes also =
    headline head m k script log is_head some writes
    (record { received = received; output = output; reaches = reaches; decodes = decodes })
    (record { received = other; output = other_output; reaches = too; decodes = also }) t

-- and that of audits
says_nothing_new : NothingNew → (a : Auditing) (n t : ℕ) (log received output whole shown : List ℕ) → 0 < a.dwell
    → n < 2 ^ 64 → WholePasses a n log → Reaches a.pi a.late log received
    → LogWrites (record { pi = a.pi; rtplus = a.rtplus; dwell = a.dwell; window = None; says_why = false; keep = 0 }) received output
    → LogWrites (record { pi = a.pi; rtplus = a.rtplus; dwell = a.dwell + a.late; window = None; says_why = false; keep = 0 }) log whole
    → t < length (slots received) → Displays output t (codes "text") (in_quotes shown)
    → (u : ℕ) × (u ≤ t) × (t < u + (a.dwell + a.late)) × Displays whole u (codes "text") (in_quotes shown)
says_nothing_new law a n t log received output whole shown some few passes reaches one other below shows =
    law a n log some few passes received output whole reaches one other (codes "text") shown t (inl refl) below shows
