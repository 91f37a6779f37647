-- The headline.
use Rattle.std.proofs.lemmas.Bool.Decides.{nat_tests}
use Rattle.std.proofs.Common.{Bool, true, false, ◌≡◌, ◌⊎◌, ◌<◌, ◌≤◌, ◌+◌, ◌-◌, ◌++◌, ◌∷◌, [], ◌∙◌, ℕ, zero, suc, List}
use Rattle.std.proofs.Common.{Option, None, Some, ap, arith, codes, decimal, length, refl, inl, inr, subst, sym}
use Rattle.std.proofs.Common.{Contains, append_assoc, get_or}
use Rattle.std.proofs.lemmas.Bool.{cases_lt}
use Rattle.std.proofs.lemmas.Grind.{reverse_onto}
use Rattle.std.proofs.lemmas.List.{append_cancel_right, get_or-reverse, length-reverse, reverse-reverse, take-append-le}
use Rattle.std.proofs.lemmas.Option.{same_Some}
use Rattle.std.specs.Prelude.{◌≢◌, bytes_eq, if◌then◌else◌, reverse, slice_get, take}
use Rattle.csv.specs.Machine.{Read, next_record, step, fields_after, field_after}
use Rattle.csv.specs.Reading.{AreRecords, Reached, default_config, records_from, records_next, strip_bom}
use Rattle.csv.specs.declared.parser.Config.{Config}
use Rattle.csv.specs.declared.parser.State.{State}
use Rattle.csv.specs.declared.parser.State.TheVariants.{StartRecord}
use Rattle.rds_charset.specs.Printed.{printed}
use Rattle.rds_encoder.specs.Plan.{Broadcast, Covers, HasNumber, plan_of}
use Rattle.rds_view_lines.specs.Output.{Display, changes_of, none_content, quoted, tag_content}
use Rattle.rds_fields.specs.Tag.{PairFields, TagFields}
use Rattle.rds_receiver.specs.Shown.{view_with}
use Rattle.rds_receiver.specs.Tags.{cut_by}
use Rattle.rds_view_lines.specs.ViewParts.{IsNothing, Item, Name, Part, Tag1, Tag2, Text, line_in, part_content}
use Rattle.rds_view_lines.specs.ViewParts.{part_name}
use Rattle.rds_log.specs.LogWrites.{LogWrites, plain, tuning_of}
use Rattle.rds_lines.specs.LogLines.{Line}
use Rattle.rds_wire.specs.Headline.{Air, Displays, Headline, OnAir, Receiver, Row, WasOnAir, WentWith, air, air_in}
use Rattle.rds_wire.specs.Headline.{change_line, filled, in_quotes, lines, rows, slots, tag_shown}
use Rattle.rds_wire.specs.Printed.{Prints, Shows}
use Rattle.rds_wire.specs.Received.{IsReceived, first_entries}
use Rattle.rds_wire.specs.Safe.{AreSafe, IsOfPair, ShowNeighbours, ShowsBroadcast, StationPlans}
use Rattle.rds_wire.specs.Wire.{Encodes, complete_in, WhatIsEncodedIsSafeOnTheWire, aired, station_of}
use Rattle.rds_wire.proofs.ByRows.{Act, Do, acts, moves_of, on_air_by_rows, rows_do, same_moves, word_of, HasPair}
use Rattle.rds_wire.proofs.ByRows.{pair_row}
use Rattle.rds_world.specs.Event.{Event}
use Rattle.rds_world.specs.Slots.{plans_of}
use Rattle.rds_safety.specs.Plans.{Plans}
use Rattle.rds_script.specs.Rows.{AreRows}
use Rattle.rds_script.specs.Play.{RecordsUpTo, with_form}
use Rattle.rds_script.specs.declared.form.Form.TheVariants.{Log}
use Rattle.rds_fields.specs.TagGroup.{MayCarryTags}
use Rattle.rds_lines.specs.LogSlots.{IsLogOf}
use Rattle.rds_receiver.specs.declared.why.WhyNone.{WhyNone}
use Rattle.rds_wire.proofs.Wired.{entry_at, rows_name_none}
use Rattle.rds_wire.proofs.Reading.{HasNewest, contains_from_in, in_from_contains, shows_some, all_lines, are_lines, changes_text, lines_of}
use Rattle.rds_safety.specs.Late.{HasEntry}
use Rattle.rds_wire.proofs.Reached.{get_of_entry, lines_are, reaches_is_received, slots_long}
use Rattle.rds_wire.proofs.Logs.{empty_line, encoded_cut, groups_sent, is_log_of}
use Rattle.rds_wire.proofs.Receiving.{displays_long, entry_in_first, first_all, first_more}
use Rattle.rds_wire.specs.Safe as wire
use Rattle.rds_world.specs.declared.world.Config as world

-- ---- what the output displays

contains_reverse : {X : Type 0} (xs : List X) (x : X) → Contains (reverse xs) x → Contains xs x
contains_reverse xs x (k, within, is) = grind (arith, nat_tests, length-reverse, get_or-reverse)

in_reverse : {X : Type 0} (xs : List X) (x : X) → Contains xs x → Contains (reverse xs) x
in_reverse xs x is = contains_reverse (reverse xs) x (subst (λ l. Contains l x) (sym (reverse-reverse xs)) is)

-- the line of a change is that of a part
same_line : (slot : ℕ) (part : Part) (content : List ℕ)
    → line_in slot part content ≡ change_line slot (part_name part) content
same_line slot part content = append_assoc (decimal slot) (codes " ") (part_name part ++ content)

no_empty : (digits rest : List ℕ) → ◌≡◌ {A = List ℕ} [] (digits ++ 32 ∷ rest) → ⊥
no_empty [] rest e = absurd (cc)
no_empty (d ∷ digits) rest e = absurd (cc)

not_first : (slot : ℕ) (word content : List ℕ) (cut : List Line) → Contains ([] ∷ cut) (change_line slot word content)
    → Contains cut (change_line slot word content)
not_first slot word content cut (zero, within, is) = absurd (no_empty (decimal slot) (word ++ content) is)
not_first slot word content cut (suc k, within, is) = (k, omega (arith, within), is)

cut_of : (displays : List Display) (output : List ℕ) → output ≡ changes_of displays
    → lines output ≡ reverse ([] ∷ lines_of displays)
cut_of displays output is = grind (arith, nat_tests, changes_text, lines_are, lines_of, all_lines, empty_line)

-- a line of the output is one of the lines of the displays
pub of_output : (displays : List Display) (output : List ℕ) → output ≡ changes_of displays → (slot : ℕ) (part : Part)
    (content : List ℕ) → Contains (lines output) (change_line slot (part_name part) content)
    → Contains (lines_of displays) (line_in slot part content)
of_output displays output is slot part content has =
    let line = change_line slot (part_name part) content in
    subst (Contains (lines_of displays)) (sym (same_line slot part content))
    (not_first slot (part_name part) content (lines_of displays)
    (contains_reverse ([] ∷ lines_of displays) line (subst (λ l. Contains l line) (cut_of displays output is) has)))

-- and the other way round
pub in_output : (displays : List Display) (output : List ℕ) → output ≡ changes_of displays → (slot : ℕ) (part : Part)
    (content : List ℕ) → Contains (lines_of displays) (line_in slot part content)
    → Contains (lines output) (change_line slot (part_name part) content)
in_output displays output is slot part content has =
    let line = change_line slot (part_name part) content in
    subst (λ l. Contains l line) (sym (cut_of displays output is)) (in_reverse ([] ∷ lines_of displays) line
    (subst (Contains ([] ∷ lines_of displays)) (same_line slot part content) (suc has.0, omega (arith, has.1), has.2)))

-- what the output displays of a part it shows
pub displays_shows : (displays : List Display) (output : List ℕ) → output ≡ changes_of displays → (t : ℕ) (part : Part)
    (content : List ℕ) → Displays output t (part_name part) content → Shows output t part content
displays_shows displays output is t part content d = inl record {
  lines = lines_of displays;
  are = are_lines displays output is;
  slot = d.slot;
  past = d.past;
  line = of_output displays output is d.slot part content d.line;
  newest = λ u other later upto has. d.newest u other later upto (in_output displays output is u part other has);
}

-- the newest line of a part is what the output displays
pub newest_displays : (displays : List Display) (output : List ℕ) → output ≡ changes_of displays → (t : ℕ) (part : Part)
    (content : List ℕ) → HasNewest displays part content t → Displays output t (part_name part) content
newest_displays displays output is t part content (s, past, line, none) = record {
  slot = s;
  past = past;
  line = in_output displays output is s part content (contains_from_in (line_in s part content) (lines_of displays) line);
  newest = λ v other after upto has. none v other after upto
      (in_from_contains (line_in v part other) (lines_of displays) (of_output displays output is v part other has));
}

-- what stands between quotation marks is not nothing
second_byte : (why : Option WhyNone) → get_or (none_content why) 1 0 ≡ 110
second_byte None = refl
second_byte (Some why) = refl

pub not_nothing : (shown : List ℕ) → IsNothing (in_quotes shown) → ⊥
not_nothing shown (why, is) = grind (arith, nat_tests, second_byte)

pub same_printed : (shown bytes : List ℕ) → in_quotes shown ≡ quoted bytes → shown ≡ printed bytes
same_printed shown bytes e = grind (arith, nat_tests, append_cancel_right)

-- ---- the records of a script

-- a record takes a byte, or it is the last one
takes : (cfg : Config) (s : State) (fields : List (List ℕ)) (field xs : List ℕ) (q : Read)
    → next_record cfg s fields field xs ≡ Some q
    → (length q.2 < length xs) ⊎ ((q.2 ≡ []) × (q.1 ≡ StartRecord) × (xs ≡ []))
unfolding next_record
takes cfg s fields field [] q is = grind arith
takes cfg s fields field (c ∷ rest) q is =
    search (arith, takes cfg (step cfg s c).0 (fields_after (step cfg s c).1 fields field) (field_after (step cfg s c).1 c field) rest q)

none_left : (n : ℕ) (rows : List Row) → AreRecords default_config StartRecord [] rows
    → records_from default_config n StartRecord [] ≡ rows
unfolding records_from Reached next_record
none_left zero [] are = refl
none_left (suc n) [] are = refl
none_left n (r ∷ rs) (s2, ys, (p, next, is, rest), none) = absurd (cc)

all_records : (n : ℕ) (s : State) (xs : List ℕ) (rows : List Row) → AreRecords default_config s xs rows → length xs < n
    → records_from default_config n s xs ≡ rows
unfolding records_from Reached
all_records zero s xs rows are some = absurd (omega (arith, some))
all_records (suc n) s xs [] (s2, ys, (same_s, same_xs), none) some = grind (arith, nat_tests)
all_records (suc n) s xs (r ∷ rs) (s2, ys, (p, next, is, rest), none) some =
    ap (records_next (records_from default_config n)) next
    ∙ ap (λ l. p.0 ∷ l) (by (takes default_config s [] [] xs p next) (all_records n p.1 p.2 rs (s2, ys, rest, none)))
    ∙ ap (λ x. x ∷ rs) (sym is)
  where
    by : (length p.2 < length xs) ⊎ ((p.2 ≡ []) × (p.1 ≡ StartRecord) × (xs ≡ []))
        → (length p.2 < n → records_from default_config n p.1 p.2 ≡ rs)
        → records_from default_config n p.1 p.2 ≡ rs
    by (inl less) earlier = earlier (omega (arith, less, some))
    by (inr (empty, start, last)) earlier =
        rw (start, empty)
        (none_left n rs
        (subst (λ x. AreRecords default_config StartRecord x rs) empty
        (subst (λ x. AreRecords default_config x p.2 rs) start (s2, ys, rest, none))))

take_all : {X : Type 0} (n : ℕ) (xs : List X) → length xs ≤ n → take n xs ≡ xs
take_all zero [] few = refl
take_all (suc n) [] few = refl
take_all zero (x ∷ xs) few = absurd (omega (arith, few))
take_all (suc n) (x ∷ xs) few = ap (λ l. x ∷ l) (take_all n xs (omega (arith, few)))

-- the first rows, the newest first
first_rows : {X : Type 0} (n : ℕ) (xs : List X) → reverse (take n (reverse xs)) ≡ first_entries n xs
first_rows zero [] = refl
first_rows (suc n) [] = sym (first_all (suc n) [] (omega arith))
first_rows n (x ∷ xs) = elim (cases_lt (length xs) n) [
  | inl all ↦
      ap reverse (take_all n (reverse (x ∷ xs)) (omega (arith, all, length-reverse (x ∷ xs))))
      ∙ reverse-reverse (x ∷ xs) ∙ sym (first_all n (x ∷ xs) (omega (arith, all)))
  | inr more ↦
      ap (λ l. reverse (take n l)) (reverse_onto xs x [])
      ∙ ap reverse (take-append-le n (reverse xs) (x ∷ []) (omega (arith, more, length-reverse xs)))
      ∙ first_rows n xs ∙ sym (first_more n x xs more)
]

-- ---- what was on air

rows_long : (config : world.Config) (n : ℕ) (rows : List Row) (events : List Event) → AreRows config n rows events
    → length rows ≡ length events
rows_long config n [] [] are = refl
rows_long config n (row ∷ before) (e ∷ older) are = ap suc (rows_long config n before older are.2)
rows_long config n _ _ are = absurd are

-- a broadcast of the plan is on air in a slot
record IsOnAir (word : List ℕ) (d : ℕ) (script : List ℕ) (slot : ℕ) (shown : List ℕ) (k : ℕ) (b : Broadcast) : Type 0
  where
    on_air : OnAir word d script slot shown (k + 1)
    start : on_air.start ≡ b.start
    bytes : b.bytes ≡ filled word on_air.given

module _ (word : List ℕ) (d : ℕ) (script : List ℕ) (its : List Row) (acts : List Act) (end : ℕ)
    (do_so : Do word its acts)
    (are : AreRecords default_config StartRecord (strip_bom script) (reverse its)) (few : length its ≤ end + 1) where
  -- the rows of the script
  rows_are : rows script ≡ reverse its
  rows_are = all_records (length (strip_bom script) + 1) StartRecord (strip_bom script) (reverse its) are (omega arith)

  air_is : (slot : ℕ) → air_in word d script slot ≡ air word d (first_entries (slot + 1) its)
  air_is slot =
      ap (λ l. air word d (reverse (take (slot + 1) l))) rows_are ∙ ap (air word d) (first_rows (slot + 1) its)

  on_air_in : (shown : List ℕ) (k slot : ℕ) (b : Broadcast) → HasNumber (plan_of d end (moves_of acts)) k b
      → Covers b slot → in_quotes shown ≡ quoted b.bytes → IsOnAir word d script slot shown k b
  on_air_in shown k slot b planned covers says =
      let o = on_air_by_rows word d its acts do_so end k slot b few planned covers in
      record {
        on_air = record {
          start = o.start;
          argument = o.argument;
          set = ap (λ (a : Air). a.set) (air_is slot) ∙ o.set;
          number = ap (λ (a : Air). a.number) (air_is slot) ∙ o.number;
          given = o.given;
          read = o.read;
          is = same_printed shown b.bytes says ∙ ap printed o.is;
        };
        start = o.begins;
        bytes = o.is;
      }

  -- what was on air by the plan was on air by the rows
  was_on_air : (t : ℕ) (shown : List ℕ) (k : ℕ)
      → wire.WasOnAir d t (plan_of d end (moves_of acts)) (in_quotes shown) k
      → WasOnAir word d d t script shown (k + 1)
  was_on_air t shown k was = record {
    slot = was.slot;
    past = was.past;
    recent = was.recent;
    on_air = (on_air_in shown k was.slot was.broadcast was.planned was.covers was.says).on_air;
  }

  -- two receivers show one text or two that follow each other; names likewise
  both : (t : ℕ) (shown other : List ℕ) (One Other : List ℕ → Type 0)
      → ShowNeighbours (ShowsBroadcast d t (plan_of d end (moves_of acts)) One)
      (ShowsBroadcast d t (plan_of d end (moves_of acts)) Other) → One (in_quotes shown) → Other (in_quotes other)
      → (i j : ℕ) × WasOnAir word d d t script shown i × WasOnAir word d d t script other j × (i ≤ j + 1) × (j ≤ i + 1)
  both t shown other One Other n one two =
      by (n.first (in_quotes shown) one) (n.second (in_quotes other) two)
    where
      by : IsNothing (in_quotes shown) ⊎ wire.WasOnAir d t (plan_of d end (moves_of acts)) (in_quotes shown) n.k
          → IsNothing (in_quotes other) ⊎ wire.WasOnAir d t (plan_of d end (moves_of acts)) (in_quotes other) n.l
          → (i j : ℕ) × WasOnAir word d d t script shown i × WasOnAir word d d t script other j
          × (i ≤ j + 1) × (j ≤ i + 1)
      by (inl none) b = absurd (not_nothing shown none)
      by (inr was) (inl none) = absurd (not_nothing other none)
      by (inr was) (inr too) = (
        n.k + 1,
        n.l + 1,
        was_on_air t shown n.k was,
        was_on_air t other n.l too,
        omega (arith, n.near.0),
        omega (arith, n.near.1),
      )

-- the part of a service, and the plan of it
abbrev pub part_of : Bool → Part
part_of names = if names then Name else Text

abbrev plan_in : Bool → Plans → List Broadcast
plan_in names plans = if names then plans.name else plans.text

shown_near : (names : Bool) (d now : ℕ) (air : StationPlans) (One Other : Part → List ℕ → Type 0)
    → AreSafe d now air One Other → ShowNeighbours (ShowsBroadcast d now (plan_in names air.plans) (One (part_of names)))
    (ShowsBroadcast d now (plan_in names air.plans) (Other (part_of names)))
shown_near false d now air One Other safe = grind (arith, nat_tests)
shown_near true d now air One Other safe = safe.names

same_plan : (names : Bool) (d : ℕ) (events : List Event)
    → plan_in names (plans_of d events) ≡ plan_of d (length events - 1) (moves_of (acts names events))
same_plan false d events = ap (plan_of d (length events - 1)) (same_moves false events)
same_plan true d events = ap (plan_of d (length events - 1)) (same_moves true events)

pub which : (word : List ℕ) → (word ≡ codes "text") ⊎ (word ≡ codes "name") → (names : Bool) × (word_of names ≡ word)
which word (inl e) = (false, sym e)
which word (inr e) = (true, sym e)

pub same_name : (names : Bool) → word_of names ≡ part_name (part_of names)
same_name false = refl
same_name true = refl

-- ---- tags

-- one of the two tags
abbrev tag_word : Bool → List ℕ
tag_word two = if two then codes "tag2" else codes "tag1"

abbrev tag_part : Bool → Part
tag_part two = if two then Tag2 else Tag1

which_tag : (word : List ℕ) → (word ≡ codes "tag1") ⊎ (word ≡ codes "tag2") → (two : Bool) × (tag_word two ≡ word)
which_tag word (inl e) = (false, sym e)
which_tag word (inr e) = (true, sym e)

tag_name : (two : Bool) → tag_word two ≡ part_name (tag_part two)
tag_name false = refl
tag_name true = refl

-- contents of the parts, with this one of a tag
abbrev with_tag : Bool → List ℕ → (Part → List ℕ) → Part → List ℕ
with_tag false content others Tag1 = content
with_tag true content others Tag2 = content
with_tag two content others part = others part

with_same : (two : Bool) (content : List ℕ) (others : Part → List ℕ) → with_tag two content others (tag_part two) ≡ content
with_same false content others = refl
with_same true content others = refl

of_pair : (two : Bool) → IsOfPair (tag_part two)
of_pair false = tt
of_pair true = tt

with_shown : (Shown : Part → List ℕ → Type 0) (two : Bool) (content : List ℕ) → Shown (tag_part two) content
    → (some : (part : Part) → (c : List ℕ) × Shown part c) (part : Part) → IsOfPair part
    → Shown part (with_tag two content (λ p. (some p).0) part)
with_shown Shown two content is some Text of = absurd of
with_shown Shown two content is some Name of = absurd of
with_shown Shown false content is some Item of = (some Item).1
with_shown Shown true content is some Item of = (some Item).1
with_shown Shown false content is some Tag1 of = is
with_shown Shown true content is some Tag1 of = (some Tag1).1
with_shown Shown false content is some Tag2 of = (some Tag2).1
with_shown Shown true content is some Tag2 of = is

cut_shows : (tag : TagFields) (x content : List ℕ) → content ≡ tag_content (cut_by tag x) → content ≢ codes " none"
    → (0 < tag.class) × (content ≡ tag_shown x tag)
cut_shows tag x content is some = grind (arith, nat_tests)

abbrev its_tag : Bool → PairFields → TagFields
its_tag two pair = if two then pair.two else pair.one

shows_cut : (two : Bool) (x : List ℕ) (pair : PairFields)
    → part_content (tag_part two) None (view_with (Some x) None (Some pair)) ≡ tag_content (cut_by (its_tag two pair) x)
shows_cut false x pair = refl
shows_cut true x pair = refl

by_word : (two : Bool) (pair : PairFields)
    → its_tag two pair ≡ (if bytes_eq (tag_word two) (codes "tag1") then pair.one else pair.two)
by_word false pair = refl
by_word true pair = refl

rows_first : (config : world.Config) (n m : ℕ) (rows : List Row) (events : List Event) → AreRows config n rows events
    → AreRows config n (first_entries m rows) (first_entries m events)
rows_first config n m [] [] are = let none : List Row = [] in let empty : List Event = [] in rw (first_all m none (omega arith), first_all m empty (omega arith)) tt
rows_first config n m (row ∷ before) (e ∷ older) are =
    grind (arith, nat_tests, rows_first config n m before older are.2, first_all, first_more, rows_long)
rows_first config n m _ _ are = absurd are

first_first : {X : Type 0} (n m : ℕ) (xs : List X) → n ≤ m → first_entries n (first_entries m xs) ≡ first_entries n xs
first_first n m [] less = ap (first_entries n) (first_all m [] (omega arith))
first_first n m (x ∷ xs) less = grind (arith, nat_tests, first_first n m xs less, first_all, first_more)

module _ (d t : ℕ) (script : List ℕ) (config : world.Config) (n : ℕ) (its : List Row) (events : List Event)
    (are : AreRows config n its events)
    (records_are : AreRecords default_config StartRecord (strip_bom script) (reverse its))
    (few : length its ≤ length events - 1 + 1) where
  do_texts : Do (codes "text") its (acts false events)
  do_texts = rows_do false config n its events are

  -- tags that went with a text by the plan went with it by the rows
  went_with : (two : Bool) (text content : List ℕ) (k : ℕ) (contents : Part → List ℕ)
      → contents (tag_part two) ≡ content → content ≢ codes " none"
      → wire.WentWith d t (aired d events) (in_quotes text) contents k
      → WasOnAir (codes "text") d d t script text (k + 1) × WentWith (tag_word two) d t script text content (k + 1)
  went_with two text content k contents same some w = (
    was_on_air (codes "text") d script its (acts false events) (length events - 1) do_texts records_are few t text k
        (subst (λ plan. wire.WasOnAir d t plan (in_quotes text) k) (same_plan false d events) w.on_air),
    record {
      slot = h.slot;
      past = omega (arith, h_entry.1, w.by_now);
      on_air = record {
        start = o.on_air.start;
        argument = o.on_air.argument;
        set = ap (λ (a : Air). a.set) still ∙ o.on_air.set;
        number = ap (λ (a : Air). a.number) still ∙ o.on_air.number;
        given = o.on_air.given;
        read = o.on_air.read;
        is = o.on_air.is;
      };
      lasted = omega (arith, o.start, w.lasted, w.by_now);
      row = h.row;
      is_row = ap (λ l. slice_get l h.slot) (rows_are (codes "text") d script its (acts false events) (length events - 1) do_texts records_are few)
          ∙ get_of_entry its h.slot h.row h_entry.0;
      is_tags = h.is_tags;
      pair = w.pair;
      numbers = h.numbers;
      fits = h.fits o.on_air.start o.on_air.argument o.on_air.given
          (ap (λ (a : Air). a.set) (sym (at w.slot)) ∙ o.on_air.set) o.on_air.read;
      tag = its_tag two w.pair;
      is_tag = by_word two w.pair;
      some = shown.0;
      is = shown.1 ∙ ap (λ x. tag_shown x (its_tag two w.pair)) o.bytes;
    },
  )
    where
      at : (slot : ℕ) → air_in (codes "text") d script slot ≡ air (codes "text") d (first_entries (slot + 1) its)
      at = air_is (codes "text") d script its (acts false events) (length events - 1) do_texts records_are few

      b : Broadcast
      b = w.on_air.broadcast

      planned : HasNumber (plan_of d (length events - 1) (moves_of (acts false events))) k b
      planned = subst (λ plan. HasNumber plan k b) (same_plan false d events) w.on_air.planned

      o : IsOnAir (codes "text") d script w.slot text k b
      o = on_air_in (codes "text") d script its (acts false events) (length events - 1) do_texts records_are few text k w.slot b
          planned (record { from = omega (arith, w.lasted); to = w.to }) w.on_air.says

      h : HasPair d (first_entries (w.slot + 1) its) w.pair
      h = pair_row d config n (first_entries (w.slot + 1) its) (first_entries (w.slot + 1) events)
          (rows_first config n (w.slot + 1) its events are) w.pair w.went

      h_entry : HasEntry 0 its h.slot h.row × (h.slot < w.slot + 1)
      h_entry = entry_in_first (w.slot + 1) its h.slot h.row h.is_row

      still : air_in (codes "text") d script h.slot ≡ air_in (codes "text") d script w.slot
      still = at h.slot
          ∙ ap (air (codes "text") d) (sym (first_first (h.slot + 1) (w.slot + 1) its (omega (arith, h_entry.1))))
          ∙ h.same ∙ sym (at w.slot)

      cut : content ≡ tag_content (cut_by (its_tag two w.pair) b.bytes)
      cut = elim (w.cut (tag_part two) (of_pair two)) [
        | inl none ↦ absurd (some (sym same ∙ none))
        | inr it ↦ sym same ∙ it ∙ shows_cut two b.bytes w.pair
      ]

      shown : (0 < (its_tag two w.pair).class) × (content ≡ tag_shown b.bytes (its_tag two w.pair))
      shown = cut_shows (its_tag two w.pair) b.bytes content cut some

  -- a tag that a receiver displays went with the text that it displays
  tag_is_safe : (Shown : Part → List ℕ → Type 0) (Displayed : List ℕ → Type 0) (k : ℕ)
      → wire.ShowsText d t (aired d events) Shown k → (all : (part : Part) → (c : List ℕ) × Shown part c)
      → Displayed (all Text).0 ⊎ ((all Text).0 ≡ codes " none") → (two : Bool) (content : List ℕ)
      → Shown (tag_part two) content → content ≢ codes " none"
      → (text : List ℕ) × (k : ℕ) × Displayed (in_quotes text) × WasOnAir (codes "text") d d t script text k
      × WentWith (tag_word two) d t script text content k
  tag_is_safe Shown Displayed k s all has two content tag some =
      let contents : Part → List ℕ = with_tag two content (λ p. (all p).0) in
      let same = with_same two content (λ p. (all p).0) in
      elim (s.tags (all Text).0 contents (all Text).1 (with_shown Shown two content tag all)) [
        | inl none ↦ absurd (some (sym same ∙ none (tag_part two) (of_pair two)))
        | inr w ↦
            let text : List ℕ = printed w.on_air.broadcast.bytes in
            let it = went_with two text content k contents same some
            (subst (λ x. wire.WentWith d t (aired d events) x contents k) w.on_air.says w) in
            elim has [
              | inl shown ↦ (text, k + 1, subst Displayed w.on_air.says shown, it.0, it.1)
              | inr none ↦ absurd (not_nothing text (None, sym w.on_air.says ∙ none))
            ]
      ]

-- ---- the headline

pub headline : WhatIsEncodedIsSafeOnTheWire → Headline
headline safe head m k script log is_head some writes one other t below under = record { values = values; tags = tags }
  where
    may : MayCarryTags 11
    may = record { least = omega arith; most = omega arith; free = omega arith }

    config : world.Config
    config = station_of head m k

    events : List Event
    events = writes.write.events

    rows_say : AreRows (station_of head m k) writes.write.say.receivers writes.records writes.write.events
    rows_say = writes.write.say.rows

    few : length writes.records ≤ length writes.write.events - 1 + 1
    few = omega (arith, rows_long (station_of head m k) writes.write.say.receivers writes.records writes.write.events rows_say)

    encoded : Encodes (with_form (Log 11) (station_of head m k)) script log
    encoded = record {
      records = writes.records;
      begins = λ given e.
          subst (λ x. (state : State) × (rest : List ℕ) × RecordsUpTo x writes.records state rest)
          (same_Some script given e) (writes.are.0, writes.are.1, record { reached = writes.are.2 });
      write = writes.write;
    }

    sent : IsLogOf 11 log (groups_sent writes.write.write.outcomes)
    sent = is_log_of 11 log (groups_sent writes.write.write.outcomes)
        (encoded_cut 11 head m k writes.write.events writes.write.write.outcomes log may is_head
        (rows_name_none (station_of head m k) writes.write.say.receivers writes.records writes.write.events
        writes.write.say.allowed writes.write.say.rows) writes.write.write.are writes.write.write.lines)

    prints : (received output : List ℕ) → LogWrites (plain head.pi m) received output
        → Prints 11 head.pi m None received output
    prints received output w = record { lines = w.cut; begins = inr (refl, w.are); why = false; write = w.write }

    got : (it : Receiver head.pi m k log) → t < length (slots it.received)
        → IsReceived (complete_in 11 head.pi m k) log it.decodes.write.slots t t
    got it before = reaches_is_received (complete_in 11 head.pi m k) log it.received _ it.decodes.write.slots it.decodes.cut sent
        it.reaches it.decodes.are it.decodes.write.say t before

    safe_so : AreSafe (m + k) t (aired (m + k) writes.write.events) (Shows one.output t) (Shows other.output t)
    safe_so = safe 11 head m k script log may is_head some encoded one.received one.output other.received other.output
        t t t (prints one.received one.output one.decodes) (prints other.received other.output other.decodes)
        (got one below) (got other under)

    shows : (it : Receiver head.pi m k log) (part : Part) (content : List ℕ)
        → Displays it.output t (part_name part) content → Shows it.output t part content
    shows it part content d =
        displays_shows it.decodes.write.write.displays it.output it.decodes.write.write.changes t part content d

    values : (word shown other_shown : List ℕ) → (word ≡ codes "text") ⊎ (word ≡ codes "name")
        → Displays one.output t word (in_quotes shown) → Displays other.output t word (in_quotes other_shown)
        → (i j : ℕ) × WasOnAir word (m + k) (m + k) t script shown i × WasOnAir word (m + k) (m + k) t script other_shown j
        × (i ≤ j + 1) × (j ≤ i + 1)
    values word shown other_shown is first second =
        let names = (which word is).0 in
        let name = sym (which word is).1 ∙ same_name names in
        let d = m + k in
        subst (λ w. (i j : ℕ) × WasOnAir w d d t script shown i × WasOnAir w d d t script other_shown j
        × (i ≤ j + 1) × (j ≤ i + 1)) (which word is).1
        (both (word_of names) d script writes.records (acts names writes.write.events) (length writes.write.events - 1)
        (rows_do names (station_of head m k) writes.write.say.receivers writes.records writes.write.events rows_say)
        writes.are few t shown other_shown (Shows one.output t (part_of names)) (Shows other.output t (part_of names))
        (subst (λ plan. ShowNeighbours (ShowsBroadcast d t plan (Shows one.output t (part_of names)))
        (ShowsBroadcast d t plan (Shows other.output t (part_of names)))) (same_plan names d writes.write.events)
        (shown_near names d t (aired d writes.write.events) (Shows one.output t) (Shows other.output t) safe_so))
        (shows one (part_of names) (in_quotes shown)
        (subst (λ w. Displays one.output t w (in_quotes shown)) name first))
        (shows other (part_of names) (in_quotes other_shown)
        (subst (λ w. Displays other.output t w (in_quotes other_shown)) name second)))

    -- the receiver shows something of each part
    all : (part : Part) → (c : List ℕ) × Shows one.output t part c
        × (HasNewest one.decodes.write.write.displays part c t ⊎ (c ≡ codes " none"))
    all part =
        let displays = one.decodes.write.write.displays in
        let long = displays_long 0 false (tuning_of (plain head.pi m)) one.decodes.write.slots displays
        one.decodes.write.write.are in
        let same = slots_long 11 one.received one.decodes.cut one.decodes.write.slots one.decodes.are
        one.decodes.write.say in
        let few = one.reaches.few in
        let at = entry_at displays t (omega (arith, below, same, long)) in
        shows_some displays one.output one.decodes.write.write.changes part t at.0 at.1 (omega (arith, few, same, long))

    -- the text of the display
    its_text : Displays one.output t (codes "text") (all Text).0 ⊎ ((all Text).0 ≡ codes " none")
    its_text = elim (all Text).2 [
      | inl newest ↦
          inl (newest_displays one.decodes.write.write.displays one.output one.decodes.write.write.changes t Text
          (all Text).0 newest)
      | inr none ↦ inr none
    ]

    tags : (word content : List ℕ) → (word ≡ codes "tag1") ⊎ (word ≡ codes "tag2") → Displays one.output t word content
        → content ≢ codes " none" → (text : List ℕ) × (k' : ℕ) × Displays one.output t (codes "text") (in_quotes text)
        × WasOnAir (codes "text") (m + k) (m + k) t script text k' × WentWith word (m + k) t script text content k'
    tags word content is tag full =
        let two = (which_tag word is).0 in
        let e = (which_tag word is).1 in
        subst (λ w. (text : List ℕ) × (k' : ℕ) × Displays one.output t (codes "text") (in_quotes text)
        × WasOnAir (codes "text") (m + k) (m + k) t script text k' × WentWith w (m + k) t script text content k') e
        (tag_is_safe (m + k) t script (station_of head m k) writes.write.say.receivers writes.records writes.write.events
        rows_say writes.are few (Shows one.output t) (Displays one.output t (codes "text")) safe_so.texts.k
        safe_so.texts.first (λ part. ((all part).0, (all part).1)) its_text two content
        (shows one (tag_part two) content (subst (λ w. Displays one.output t w content) (sym e ∙ tag_name two) tag)) full)
