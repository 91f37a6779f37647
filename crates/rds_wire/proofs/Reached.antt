-- What reaches a receiver of a log, line by line, is received slot by slot.
use Rattle.std.proofs.Common.{◌≡◌, ◌≢◌, ◌⊎◌, ◌<◌, ◌≤◌, ◌+◌, ◌==◌, ◌++◌, ◌∷◌, [], ◌∙◌, ℕ, zero, suc, Bool, true, false}
use Rattle.std.proofs.Common.{cond, List, Option, None, Some, ap, arith, length, refl, inl, inr, subst, append-nil, sym}
use Rattle.std.proofs.Common.{All, map, get_or, slice_get}
use Rattle.std.proofs.lemmas.Bool.Decides.{nat_tests}
use Rattle.std.proofs.lemmas.Grind.{reverse_onto}
use Rattle.std.proofs.lemmas.List.{length-map, length-reverse, length-take-le, map-append}
use Rattle.std.proofs.lemmas.List.Elements.{filter-append, All-head, All-tail, All-nil}
use Rattle.std.proofs.lemmas.List.Splits.{slice_split_none, length-slice_split}
use Rattle.std.proofs.lemmas.Option.{slice_get_within}
use Rattle.std.proofs.lemmas.Slice.Eq.{bytes_eq-Decides}
use Rattle.std.specs.Char.{digit_value, to_ascii_uppercase}
use Rattle.std.specs.List.{AllZip, onto_first}
use Rattle.std.specs.Prelude.{◌/◌, ◌%◌, MatchOption, filter, reverse, slice_index, take, bytes_eq}
use Rattle.rds_block.specs.declared.group.Group.{Group}
use Rattle.rds_block.specs.Words.{second_word_of}
use Rattle.rds_fields.specs.TagGroup.{exchanged, exchanged_in}
use Rattle.rds_io.specs.Digits.{HasWord, upper_digit, word_digits}
use Rattle.rds_lines.specs.LineSays.{IsLaidOut, LineSays, SaysSlot}
use Rattle.rds_lines.specs.LogLines.{AreLines, IsLine, Line, content_length, text_of}
use Rattle.rds_lines.specs.LogSlots.{AreSlots, IsLogOf}
use Rattle.rds_lines.specs.OneLog.{same_said}
use Rattle.rds_lines.specs.declared.log_line.LogLine.TheVariants.{Skip, Slot}
use Rattle.rds_lines.proofs.Cutting.{content_near}
use Rattle.rds_log.specs.declared.audit_log.Auditing.{Auditing}
use Rattle.rds_safety.specs.Late.{HasEntry, IsHeardLate, IsOfItsOrigin}
use Rattle.rds_safety.proofs.Entries.{before_end}
use Rattle.rds_wire.specs.Headline.{Reaches, blocks, is_group, is_slot, lines, slots}
use Rattle.rds_wire.specs.Received.{IsReceived, first_entries, own_group}
use Rattle.rds_wire.proofs.Receiving.{entry_in_first, entry_left, zip_long}
use Rattle.rds_wire.proofs.Twice.{entry_of_map}
use Rattle.rds_wire.proofs.Wired.{entry_at}

-- ---- the lines of a text

first_joined : (x : ℕ) (parts others : List (List ℕ)) → 0 < length parts
    → onto_first x (parts ++ others) ≡ onto_first x parts ++ others
first_joined x [] others some = absurd (omega (arith, some))
first_joined x (part ∷ parts) others some = refl

pub lines_joined : (xs ys : List ℕ) → lines (xs ++ 10 ∷ ys) ≡ lines xs ++ lines ys
lines_joined [] ys = refl
lines_joined (x ∷ xs) ys = by (lines_joined xs ys) (x == 10)
  where
    by : lines (xs ++ 10 ∷ ys) ≡ lines xs ++ lines ys → (b : Bool)
        → cond b ([] ∷ lines (xs ++ 10 ∷ ys)) (onto_first x (lines (xs ++ 10 ∷ ys)))
        ≡ cond b ([] ∷ lines xs) (onto_first x (lines xs)) ++ lines ys
    by rest true = ap (λ l. [] ∷ l) rest
    by rest false = ap (onto_first x) rest
        ∙ first_joined x (lines xs) (lines ys) (omega (arith, length-slice_split (λ b. b == 10) xs))

pub no_feed : (line : Line) → IsLine line → All (λ b. (b == 10) ≡ false) line
no_feed [] is = All-nil (λ b. (b == 10) ≡ false)
no_feed (b ∷ rest) is = grind (arith, nat_tests, no_feed rest)

-- the lines are the closed ones and the begun one
pub lines_are : (closed : List Line) (begun : Line) → All IsLine closed → IsLine begun
    → lines (text_of closed begun) ≡ reverse (begun ∷ closed)
lines_are [] begun all is = slice_split_none (λ b. b == 10) begun (no_feed begun is)
lines_are (line ∷ before) begun all is =
    lines_joined (text_of before line) begun
    ∙ ap (λ l. l ++ lines begun)
    (lines_are before line (All-tail IsLine line before all) (All-head IsLine line before all))
    ∙ ap (λ l. reverse (line ∷ before) ++ l) (slice_split_none (λ b. b == 10) begun (no_feed begun is))
    ∙ sym (reverse_onto (line ∷ before) begun [])

filter_reverse : {X : Type 0} (p : X → Bool) (xs : List X) → filter p (reverse xs) ≡ reverse (filter p xs)
filter_reverse p [] = refl
filter_reverse p (x ∷ xs) =
    ap (filter p) (reverse_onto xs x []) ∙ filter-append p (reverse xs) (x ∷ [])
    ∙ ap (λ l. l ++ filter p (x ∷ [])) (filter_reverse p xs) ∙ by (p x)
  where
    by : (b : Bool) → reverse (filter p xs) ++ cond b (x ∷ []) [] ≡ reverse (cond b (x ∷ filter p xs) (filter p xs))
    by true = sym (reverse_onto (filter p xs) x [])
    by false = append-nil (reverse (filter p xs))

map_reverse : {X Y : Type 0} (f : X → Y) (xs : List X) → map f (reverse xs) ≡ reverse (map f xs)
map_reverse f [] = refl
map_reverse f (x ∷ xs) = grind (arith, nat_tests, map_reverse f xs, reverse_onto, map-append)

-- the blocks of the lines of the slots
abbrev slots_of : List Line → List Line
slots_of cut = map blocks (filter is_slot cut)

slots_are : (text : List ℕ) (cut : List Line) → AreLines text cut → slots text ≡ reverse (slots_of cut)
slots_are text cut (closed, begun, is, a, p, ends) =
    ap slots is ∙ ap (λ l. map blocks (filter is_slot l)) (lines_are closed begun a p)
    ∙ ap (map blocks) (filter_reverse is_slot (begun ∷ closed)) ∙ map_reverse blocks (filter is_slot (begun ∷ closed))
    ∙ ap reverse (by ends)
  where
    by : ((begun ≡ []) × (cut ≡ closed)) ⊎ ((begun ≢ []) × (cut ≡ begun ∷ closed))
        → slots_of (begun ∷ closed) ≡ slots_of cut
    by (inl (empty, same)) = rw (empty, same) refl
    by (inr (some, same)) = ap slots_of (sym same)

-- ---- an entry from the oldest on

get_here : {X : Type 0} (xs : List X) (x : X) → slice_get (xs ++ x ∷ []) (length xs) ≡ Some x
get_here [] x = refl
get_here (y ∷ xs) x = get_here xs x

get_before : {X : Type 0} (xs : List X) (x : X) (t : ℕ) → t < length xs → slice_get (xs ++ x ∷ []) t ≡ slice_get xs t
get_before [] x t below = absurd (omega (arith, below))
get_before (y ∷ xs) x zero below = refl
get_before (y ∷ xs) x (suc t) below = get_before xs x t (omega (arith, below))

pub get_of_entry : {X : Type 0} (xs : List X) (t : ℕ) (x : X) → HasEntry 0 xs t x → slice_get (reverse xs) t ≡ Some x
get_of_entry [] t x has = absurd has
get_of_entry (y ∷ xs) t x (inl (at, is)) =
    ap (λ l. slice_get l t) (reverse_onto xs y [])
    ∙ ap (slice_get (reverse xs ++ y ∷ [])) (omega (arith, at, length-reverse xs)) ∙ get_here (reverse xs) y
    ∙ ap Some (sym is)
get_of_entry (y ∷ xs) t x (inr there) =
    ap (λ l. slice_get l t) (reverse_onto xs y [])
    ∙ get_before (reverse xs) y t (omega (arith, before_end 0 xs t x there, length-reverse xs))
    ∙ get_of_entry xs t x there

entry_of_get : {X : Type 0} (xs : List X) (t : ℕ) (x : X) → slice_get (reverse xs) t ≡ Some x → HasEntry 0 xs t x
entry_of_get xs t x is =
    let below = slice_get_within (reverse xs) t x is in
    let it = entry_at xs t (omega (arith, below, length-reverse xs)) in
    let same : it.0 ≡ x = (let got = get_of_entry xs t it.0 it.1 in cc) in
    subst (HasEntry 0 xs t) same it.1

-- beside each entry of the first list is one of the second
entry_right : {A B : Type 0} (R : A → B → Type 0) (first : ℕ) (xs : List A) (ys : List B) (t : ℕ) (x : A)
    → AllZip R xs ys → HasEntry first xs t x → (y : B) × HasEntry first ys t y × R x y
entry_right R first [] [] t x all at = absurd at
entry_right R first (a ∷ xs) (b ∷ ys) t x all here = grind (arith, entry_right R first xs ys t x all.1, zip_long)
entry_right R first _ _ t x all at = absurd all

-- ---- the lines of the slots say the slots

-- the line says this slot, and its blocks are a group of the programme of their PI
abbrev Says : ℕ → Line → Option Group → Type 0
Says n line slot = (said : Option Group) × LineSays line (Slot said) × (slot ≡ exchanged_in n said)
    × ((pi : ℕ) (g : Group) → said ≡ Some g → g.pi ≡ pi → is_group pi line ≡ true)

first_byte : (line : Line) (said : Option Group) → LineSays line (Slot said)
    → (digit_value (get_or line 0 0) < 16) ⊎ (get_or line 0 0 ≡ 45)
first_byte line said says = grind arith

differs : (b c : ℕ) → (digit_value b < 16) ⊎ (b ≡ 45) → (digit_value c < 16 → ⊥) → c ≢ 45 → (b == c) ≡ false
differs b c (inl digit) none other = grind (arith, nat_tests)
differs b c (inr dash) none other = grind (arith, nat_tests)

-- the line of a slot is one
slot_line : (line : Line) (said : Option Group) → LineSays line (Slot said) → is_slot line ≡ true
slot_line [] said says = absurd (omega (arith, says.0.at_least))
slot_line (b ∷ rest) said says = grind (arith, nat_tests, first_byte, differs)

-- a line that is skipped is none
skipped_line : (line : Line) → LineSays line Skip → is_slot line ≡ false
skipped_line [] says = refl
skipped_line (b ∷ []) (inl empty) = grind (arith, nat_tests)
skipped_line (b ∷ c ∷ rest) (inl empty) = absurd (omega (arith, empty, content_near (b ∷ c ∷ rest)))
skipped_line (b ∷ rest) (inr mark) = grind (arith, nat_tests)

-- ---- the blocks of a line say what it says

same_digit : (c : ℕ) → digit_value (to_ascii_uppercase c) ≡ digit_value c
same_digit c = grind (arith, nat_tests)

digit_again : (c : ℕ) → digit_value c < 16 → upper_digit (digit_value c) ≡ to_ascii_uppercase c
digit_again c is = grind (arith, nat_tests)

-- a byte of the blocks
block_at : (n i : ℕ) (line : Line) → i < n → i < length line
    → slice_index (map to_ascii_uppercase (take n line)) i ≡ to_ascii_uppercase (slice_index line i)
block_at zero i line below within = absurd (omega (arith, below))
block_at (suc n) i [] below within = absurd (omega (arith, within))
block_at (suc n) zero (b ∷ rest) below within = refl
block_at (suc n) (suc i) (b ∷ rest) below within = block_at n i rest (omega (arith, below)) (omega (arith, within))

-- the same 19 bytes, in capital letters
abbrev AreCapitals : Line → Line → Type 0
AreCapitals line other = (i : ℕ) → i < 19 → slice_index other i ≡ to_ascii_uppercase (slice_index line i)

said_so : (line other : Line) (slot : Option Group) → AreCapitals line other → SaysSlot line slot
    → SaysSlot other slot
said_so line other slot same s = grind (arith, nat_tests, same_digit)

-- the words of a group
says_words : (line : Line) (g : Group) → SaysSlot line (Some g)
    → HasWord line 0 g.pi × HasWord line 5 (second_word_of g) × HasWord line 10 g.c × HasWord line 15 g.d
says_words line g s = grind arith

-- the last byte of the blocks is no carriage return
last_byte : (line : Line) (said : Option Group) → SaysSlot line said
    → (digit_value (slice_index line 18) < 16) ⊎ (slice_index line 18 ≡ 45)
last_byte line said s = grind arith

no_return : (c : ℕ) → (digit_value c < 16) ⊎ (c ≡ 45) → (to_ascii_uppercase c == 13) ≡ false
no_return c is = grind (arith, nat_tests)

no_dash : (c : ℕ) → digit_value c < 16 → (to_ascii_uppercase c == 45) ≡ false
no_dash c is = grind (arith, nat_tests)

first_four : (xs : List ℕ) → 4 ≤ length xs
    → take 4 xs ≡ slice_index xs 0 ∷ slice_index xs 1 ∷ slice_index xs 2 ∷ slice_index xs 3 ∷ []
first_four (a ∷ b ∷ c ∷ d ∷ rest) some = refl
first_four _ some = absurd (omega (arith, some))

module _ (line other : Line) (said : Option Group) (same : AreCapitals line other) (long : length other ≡ 19)
    (says : LineSays line (Slot said)) where
  laid : IsLaidOut other
  laid =
      let ends : (slice_index other 18 == 13) ≡ false =
      ap (λ c. c == 13) (same 18 (omega arith)) ∙ no_return (slice_index line 18) (last_byte line said says.1) in
      let content : content_length other ≡ 19 = rw (long, ends) refl in
      record {
        at_least = omega (arith, content);
        spaces = record {
          first = same 4 (omega arith) ∙ ap to_ascii_uppercase says.0.spaces.first;
          second = same 9 (omega arith) ∙ ap to_ascii_uppercase says.0.spaces.second;
          third = same 14 (omega arith) ∙ ap to_ascii_uppercase says.0.spaces.third;
        };
        ends = inl content;
      }

  -- the digits of a word are those of the line
  word_is : (w : ℕ) → HasWord line 0 w → word_digits w ≡ take 4 other
  word_is w h =
      let a : w / 4096 ≡ digit_value (slice_index line 0) =
      omega (arith, h.first, h.second, h.third, h.fourth, h.word) in
      let b : w / 256 % 16 ≡ digit_value (slice_index line 1) =
      omega (arith, h.first, h.second, h.third, h.fourth, h.word) in
      let c : w / 16 % 16 ≡ digit_value (slice_index line 2) =
      omega (arith, h.first, h.second, h.third, h.fourth, h.word) in
      let d : w % 16 ≡ digit_value (slice_index line 3) =
      omega (arith, h.first, h.second, h.third, h.fourth, h.word) in
      let one : upper_digit (w / 4096) ≡ slice_index other 0 =
      ap upper_digit a ∙ digit_again (slice_index line 0) h.first ∙ sym (same 0 (omega arith)) in
      let two : upper_digit (w / 256 % 16) ≡ slice_index other 1 =
      ap upper_digit b ∙ digit_again (slice_index line 1) h.second ∙ sym (same 1 (omega arith)) in
      let three : upper_digit (w / 16 % 16) ≡ slice_index other 2 =
      ap upper_digit c ∙ digit_again (slice_index line 2) h.third ∙ sym (same 2 (omega arith)) in
      let four : upper_digit (w % 16) ≡ slice_index other 3 =
      ap upper_digit d ∙ digit_again (slice_index line 3) h.fourth ∙ sym (same 3 (omega arith)) in
      (λ i. one i ∷ two i ∷ three i ∷ four i ∷ []) ∙ sym (first_four other (omega (arith, long)))

  -- so the first block of a group is its PI, and no other block is lost
  own : (pi : ℕ) (g : Group) → said ≡ Some g → g.pi ≡ pi → is_group pi other ≡ true
  own pi g some is =
      let words = says_words line g (rw some at says.1) in
      let first : bytes_eq (take 4 other) (word_digits pi) ≡ true =
      (bytes_eq-Decides (take 4 other) (word_digits pi)).1 (sym (rw is at (word_is g.pi words.0))) in
      let second : (slice_index other 5 == 45) ≡ false =
      ap (λ c. c == 45) (same 5 (omega arith)) ∙ no_dash (slice_index line 5) words.1.first in
      let third : (slice_index other 10 == 45) ≡ false =
      ap (λ c. c == 45) (same 10 (omega arith)) ∙ no_dash (slice_index line 10) words.2.first in
      let fourth : (slice_index other 15 == 45) ≡ false =
      ap (λ c. c == 45) (same 15 (omega arith)) ∙ no_dash (slice_index line 15) words.3.first in
      rw (first, second, third, fourth) refl

content_within : (line : Line) → content_length line ≤ length line
content_within line = grind arith

blocks_say : (n : ℕ) (line : Line) (said : Option Group) → LineSays line (Slot said)
    → Says n (blocks line) (exchanged_in n said)
blocks_say n line said says =
    let enough : 19 ≤ length line = omega (arith, says.0.at_least, content_within line) in
    let long : length (blocks line) ≡ 19 =
    length-map (take 19 line) to_ascii_uppercase ∙ length-take-le 19 line enough in
    let same : AreCapitals line (blocks line) = λ i below. block_at 19 i line below (omega (arith, below, enough)) in (
      said,
      (laid line (blocks line) said same long says, said_so line (blocks line) said same says.1),
      refl,
      own line (blocks line) said same long says,
    )

-- the blocks of the lines of the slots say the slots
said_by : (n : ℕ) (cut : List Line) (got : List (Option Group)) → AreSlots n cut got
    → AllZip (Says n) (slots_of cut) got
said_by n [] got none = subst (AllZip (Says n) []) (sym none) tt
said_by n (line ∷ before) got (inl (says, rest)) = grind (arith, nat_tests, said_by n before got rest, skipped_line)
said_by n (line ∷ before) got (inr (said, older, says, is, rest)) =
    rw (slot_line line said says, is) (blocks_say n line said says, said_by n before older rest)

same_says : (n : ℕ) (line : Line) (one other : Option Group) → Says n line one → Says n line other → one ≡ other
same_says n line one other (said, says, is, own) (also, too, equal, its) =
    let same = same_said line (Slot said) (Slot also) says too in
    grind arith

-- ---- the origins

-- the origin of each entry; nothing has none
abbrev pub origins_of : {X : Type 0} → (ℕ → Option ℕ) → List (Option X) → List (Option ℕ)
origins_of origin [] = []
origins_of origin (None ∷ before) = None ∷ origins_of origin before
origins_of origin (Some x ∷ before) = origin (length before) ∷ origins_of origin before

origins_long : {X : Type 0} (origin : ℕ → Option ℕ) (got : List (Option X))
    → length (origins_of origin got) ≡ length got
origins_long origin [] = refl
origins_long origin (None ∷ before) = ap suc (origins_long origin before)
origins_long origin (Some x ∷ before) = ap suc (origins_long origin before)

-- an entry and its origin
beside : {X : Type 0} (origin : ℕ → Option ℕ) (got : List (Option X)) (t : ℕ) (from : Option ℕ) (entry : Option X)
    → HasEntry 0 (origins_of origin got) t from → HasEntry 0 got t entry
    → ((from ≡ None) × (entry ≡ None)) ⊎ ((from ≡ origin t) × ((x : X) × (entry ≡ Some x)))
beside origin [] t from entry p q = absurd p
beside origin (None ∷ before) t from entry p q =
    grind (arith, nat_tests, beside origin before t from entry, origins_long, before_end)
beside origin (Some x ∷ before) t from entry p q =
    grind (arith, nat_tests, beside origin before t from entry, origins_long, before_end)

-- an origin is that of the slot, which has an entry
of_slot : {X : Type 0} (origin : ℕ → Option ℕ) (got : List (Option X)) (t s : ℕ)
    → HasEntry 0 (origins_of origin got) t (Some s) → (origin t ≡ Some s) × (t < length got)
of_slot origin [] t s from = absurd from
of_slot origin (None ∷ before) t s from = grind (arith, of_slot origin before t s, origins_long)
of_slot origin (Some x ∷ before) t s from = grind (arith, of_slot origin before t s, origins_long)

-- a group that a receiver of the programme got is one of its groups
got_own : (pi : ℕ) (slot : Option Group) (g : Group) → own_group pi slot ≡ Some g → (slot ≡ Some g) × (g.pi ≡ pi)
got_own pi slot g is = grind (arith, nat_tests)

-- the line of such a group is one of the programme
of_another : (pi n : ℕ) (line : Line) (slot : Option Group) (g : Group) → Says n line slot → slot ≡ Some g → g.pi ≡ pi
    → is_group pi line ≡ false → ⊥
of_another pi n line slot g (None, says, is, own) some its none = absurd (cc)
of_another pi n line slot g (Some h, says, is, own) some its none =
    let e : Some (exchanged n h) ≡ Some g = sym is ∙ some in
    let same : h.pi ≡ g.pi = grind arith in
    let yes = own pi h refl (omega (arith, same, its)) in
    absurd (cc)

module _ (a : Auditing) (log received : List ℕ) (sent got : List (Option Group)) (log_cut cut : List Line)
    (log_is : AreLines log log_cut) (is : AreLines received cut) (log_says : AreSlots a.rtplus log_cut sent)
    (says : AreSlots a.rtplus cut got) (reaches : Reaches a.pi a.late log received) where
  -- the line of a slot that the receiver got
  line_of : (t : ℕ) (slot : Option Group) → HasEntry 0 got t slot
      → (line : Line) × (slice_get (slots received) t ≡ Some line) × Says a.rtplus line slot
  line_of t slot has =
      let it = entry_left (Says a.rtplus) 0 (slots_of cut) got t slot (said_by a.rtplus cut got says) has in
      (it.0, ap (λ l. slice_get l t) (slots_are received cut is) ∙ get_of_entry (slots_of cut) t it.0 it.1, it.2)

  -- the slot of a line of the log
  slot_of_line : (s : ℕ) (line : Line) → slice_get (slots log) s ≡ Some line
      → (slot : Option Group) × HasEntry 0 sent s slot × Says a.rtplus line slot
  slot_of_line s line at =
      entry_right (Says a.rtplus) 0 (slots_of log_cut) sent s line (said_by a.rtplus log_cut sent log_says)
      (entry_of_get (slots_of log_cut) s line (ap (λ l. slice_get l s) (sym (slots_are log log_cut log_is)) ∙ at))

  -- a group that was got was sent in its origin
  was_sent : (t : ℕ) (slot : Option Group) (g : Group) → HasEntry 0 got t slot → slot ≡ Some g → g.pi ≡ a.pi
      → (s : ℕ) × (reaches.origin t ≡ Some s) × HasEntry 0 sent s (Some g)
  was_sent t slot g has some own =
      let line = line_of t slot has in
      by (reaches.origin t) refl line.0 line.2 (reaches.each t line.0 line.1)
    where
      by : (from : Option ℕ) → reaches.origin t ≡ from → (line : Line) → Says a.rtplus line slot
          → MatchOption from (is_group a.pi line ≡ false)
          (λ s. (slice_get (slots log) s ≡ Some line) × (s ≤ t) × (t ≤ s + a.late))
          → (s : ℕ) × (reaches.origin t ≡ Some s) × HasEntry 0 sent s (Some g)
      by None from line said lost = absurd (of_another a.pi a.rtplus line slot g said some own lost)
      by (Some s) from line said came =
          let it = slot_of_line s line came.0 in
          let same = same_says a.rtplus line slot it.0 said it.2 in
          (s, from, subst (HasEntry 0 sent s) (sym same ∙ some) it.1)

  -- the entries up to a slot, with their origins
  abbrev heard : ℕ → List (Option Group)
  heard n = map (own_group a.pi) (first_entries n got)

  -- an entry was got
  got_in : (n t : ℕ) (entry : Option Group) → HasEntry 0 (heard n) t entry
      → (slot : Option Group) × HasEntry 0 got t slot × (entry ≡ own_group a.pi slot)
  got_in n t entry has =
      let it = entry_of_map (own_group a.pi) (first_entries n got) t entry has in
      (it.0, (entry_in_first n got t it.0 it.1).0, it.2)

  of_origin : (n t : ℕ) (from : Option ℕ) (entry : Option Group)
      → HasEntry 0 (origins_of reaches.origin (heard n)) t from → HasEntry 0 (heard n) t entry
      → IsOfItsOrigin sent from entry
  of_origin n t from entry p q = by (beside reaches.origin (heard n) t from entry p q)
    where
      by : ((from ≡ None) × (entry ≡ None)) ⊎ ((from ≡ reaches.origin t) × ((x : Group) × (entry ≡ Some x)))
          → IsOfItsOrigin sent from entry
      by (inl (lost, nothing)) = subst (λ o. IsOfItsOrigin sent o entry) (sym lost) nothing
      by (inr (origin, g)) =
          let some = g.1 in
          let it = got_in n t entry q in
          let whole = got_own a.pi it.0 g.0 (sym it.2 ∙ some) in
          let was = was_sent t it.0 g.0 it.1 whole.0 whole.1 in
          subst (λ o. IsOfItsOrigin sent o entry) (sym (origin ∙ was.1))
          (subst (HasEntry 0 sent was.0) (sym some) was.2)

  in_time : (n t s : ℕ) → HasEntry 0 (origins_of reaches.origin (heard n)) t (Some s) → (s ≤ t) × (t ≤ s + a.late)
  in_time n t s from =
      let of = of_slot reaches.origin (heard n) t s from in
      let entry = entry_at (heard n) t of.1 in
      let it = got_in n t entry.0 entry.1 in
      let line = line_of t it.0 it.1 in
      let came = subst (λ o. MatchOption o (is_group a.pi line.0 ≡ false)
      (λ s. (slice_get (slots log) s ≡ Some line.0) × (s ≤ t) × (t ≤ s + a.late))) of.0 (reaches.each t line.0 line.1) in
      (came.1, came.2)

  pub heard_late : (n : ℕ) → IsHeardLate a.late sent record {
    first = 0;
    heard = heard n;
    origins = origins_of reaches.origin (heard n);
  }
  heard_late n = record {
    order = record {
      beside = origins_long reaches.origin (heard n);
      each = of_origin n;
      rising = λ t u r s from to before.
          reaches.rising t u r s (of_slot reaches.origin (heard n) t r from).0
          (of_slot reaches.origin (heard n) u s to).0 before;
    };
    past = λ t s from. (in_time n t s from).0;
    late = λ t s from. (in_time n t s from).1;
  }

-- a log has a slot for each line of a slot
pub slots_long : (n : ℕ) (text : List ℕ) (cut : List Line) (got : List (Option Group)) → AreLines text cut
    → AreSlots n cut got → length (slots text) ≡ length got
slots_long n text cut got is says =
    ap length (slots_are text cut is) ∙ length-reverse (slots_of cut)
    ∙ zip_long (Says n) (slots_of cut) got (said_by n cut got says)

-- what reaches a receiver is received
pub reaches_is_received : (a : Auditing) (log received : List ℕ) (sent got : List (Option Group)) (cut : List Line)
    → IsLogOf a.rtplus log sent → Reaches a.pi a.late log received → AreLines received cut → AreSlots a.rtplus cut got
    → (t : ℕ) → t < length (slots received) → IsReceived a log got t t
reaches_is_received a log received sent got cut is reaches are says t below =
    let long = slots_long a.rtplus received cut got are says in
    record {
      sent = sent;
      log_has = is;
      reached = omega (arith, below, long);
      few = omega (arith, reaches.few, long);
      origins = origins_of reaches.origin (map (own_group a.pi) (first_entries (t + 1) got));
      came = inl (heard_late a log received sent got is.lines cut is.are are is.say says reaches (t + 1), refl);
    }
