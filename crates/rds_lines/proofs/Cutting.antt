-- How the cutter of a log goes on: what it keeps, and the lines that its bytes make.
use Rattle.std.proofs.lemmas.Bool.Decides.{nat_tests}
use Rattle.std.proofs.Common.{◌≡◌, ◌⊎◌, ◌+◌, ◌<◌, ◌≤◌, ℕ, Option, take, length, get_or, sym, subst, arith, inl, inr}
use Rattle.std.proofs.Common.{◌≢◌, ◌%◌, ◌^◌, Bool, true, false, List, [], ◌∷◌, cond, map, replicate, slice_index, eqb}
use Rattle.std.proofs.Common.{not, w8, min, ◌++◌, append_assoc, ap, ◌∙◌, refl, IfNone}
use Rattle.std.specs.Prelude.{IfSome}
use Rattle.std.proofs.lemmas.List.{take_all, length-take, get_or-take, get_or_default, length-take-le, take-append-le}
use Rattle.rds_block.specs.declared.group.Group.{Group}
use Rattle.rds_lines.specs.LogLines.{Line, content_length, EndsAt, IsLine, line_feed, text_of}
use Rattle.rds_lines.specs.LineSays.{IsBad, IsLaidOut, LineSays, SaysSlot, IsSkipped}
use Rattle.rds_lines.specs.declared.log_line.LogLine.{LogLine}
use Rattle.rds_lines.specs.declared.log_line.LogLine.TheVariants.{Slot, Skip}
use Rattle.std.proofs.lemmas.Bool.{cases_lt}
use Rattle.std.proofs.lemmas.Simd.{bitmask_splat, length-chunk, none_from_empty_mask, run_in_chunk_fails}
use Rattle.std.proofs.lemmas.Simd.{run_in_chunk_stops, trailing_mask_l}
use Rattle.std.specs.List.{prefix_len}
use lib.Count.{count_trailing_zeros}
use lib.Lanes.{chunk, mask_l, top, zip2}
use Rattle.std.proofs.lemmas.List.Elements.{All-append, All-cons, All-nil}
use Rattle.std.proofs.Math.Seq.{take-append-add}
use Rattle.rds_lines.specs.Inside.Cutter.{Closes, CutterStandsAt, IsBadLine}
use Rattle.rds_lines.specs.declared.cutter.Cutter.{Cutter}

-- ---- the first 60 bytes of a line say what the line says

-- the first bytes are the same
abbrev pub SameBytes : Line → Line → Type 0
SameBytes p q = (i : ℕ) → i < 20 → get_or p i 0 ≡ get_or q i 0

-- both lines go on after the blocks, and their first bytes are the same
record SameStart (p q : Line) : Type 0 where
  pub from : 20 ≤ content_length p
  pub to : 20 ≤ content_length q
  pub bytes : SameBytes p q

same_slot : (p q : Line) (slot : Option Group) → SameBytes p q → SaysSlot p slot → SaysSlot q slot
same_slot p q slot s says = grind arith

same_layout : (p q : Line) → 20 ≤ content_length p → 19 ≤ content_length q → SameBytes p q → IsLaidOut p → IsLaidOut q
same_layout p q from to s laid = grind arith

-- a line that begins with the same blocks and a space is the same slot
pub same_slot_line : (p q : Line) (slot : Option Group) → 20 ≤ content_length p → 19 ≤ content_length q → SameBytes p q
    → LineSays p (Slot slot) → LineSays q (Slot slot)
same_slot_line p q slot from to s says = (same_layout p q from to s says.0, same_slot p q slot s says.1)

same_said : (p q : Line) (said : LogLine) → SameStart p q → LineSays p said → LineSays q said
same_said p q said s says = grind (arith, nat_tests)

-- a line has at most one byte more than its content
pub content_near : (line : Line) → length line ≤ content_length line + 1
content_near line = grind arith

either : (n : ℕ) → (n ≤ 60) ⊎ (60 < n)
either n = grind arith

start_of : (line : Line) → 60 < length line → SameStart line (take 60 line)
start_of line long = record {
  from = omega (arith, long, content_near line);
  to = omega (arith, long, content_near (take 60 line), length-take 60 line);
  bytes = λ i h. sym (get_or-take 60 line i 0 (omega arith));
}

back : (p q : Line) → SameStart p q → SameStart q p
back p q s = record { from = s.to; to = s.from; bytes = λ i h. sym (s.bytes i h) }

pub said_of_first : (line : Line) (said : LogLine) → LineSays (take 60 line) said → LineSays line said
said_of_first line said says = elim (either (length line)) [
  | inl short ↦ subst (λ (l : Line). LineSays l said) (take_all 60 line short) says
  | inr long ↦ same_said (take 60 line) line said (back line (take 60 line) (start_of line long)) says
]

first_of_said : (line : Line) (said : LogLine) → LineSays line said → LineSays (take 60 line) said
first_of_said line said says = elim (either (length line)) [
  | inl short ↦ subst (λ (l : Line). LineSays l said) (sym (take_all 60 line short)) says
  | inr long ↦ same_said line (take 60 line) said (start_of line long) says
]

pub bad_by_first : (line : Line) → IsBad (take 60 line) → IsBad line
bad_by_first line bad said says = bad said (first_of_said line said says)

-- what the first bytes of a line say, the line says
pub some_by_first : (line : Line) (said : Option LogLine) → IfSome said (LineSays (take 60 line))
    → IfSome said (LineSays line)
some_by_first line said says = grind (arith, said_of_first)

-- a line whose first bytes are malformed is malformed
pub none_by_first : (line : Line) (said : Option LogLine) → IfNone said (IsBad (take 60 line))
    → IfNone said (IsBad line)
none_by_first line said bad = grind (arith, bad_by_first)

-- ---- what is said of a line that nothing fits, and what the first bytes of a line tell of the whole

-- a line that is not skipped and says no slot says nothing
pub bad_by_slot : (line : Line) → (IsSkipped line → ⊥) → ((slot : Option Group) → SaysSlot line slot → ⊥)
    → (said : LogLine) → LineSays line said → ⊥
bad_by_slot line no_mark no_slot Skip h = no_mark h
bad_by_slot line no_mark no_slot (Slot slot) h = no_slot slot h.1

-- ---- the first line feed of the bytes that are asked at once

no_feed : (b : ℕ) → eqb b 10 ≡ false → b ≢ 10
no_feed b e = grind (arith)

a_feed : (b : ℕ) → eqb b 10 ≡ true → b ≡ 10
a_feed b e = grind (arith)

-- the mask of sixteen bytes: a bit for each line feed
abbrev pub feeds : List ℕ → ℕ → ℕ
feeds bytes from = mask_l (map (λ b. eqb b 10) (chunk from 16 bytes))

-- the mask of sixteen lanes is the mask of the line feeds in them
pub feeds_of_lanes : (bytes : List ℕ) (from : ℕ) → from + 16 ≤ length bytes
    → mask_l (map (top 7) (zip2 (λ a b. cond (eqb a b) 255 0) (chunk from 16 bytes) (replicate 16 10))) % 2 ^ 64
    ≡ feeds bytes from
feeds_of_lanes bytes from long = bitmask_splat w8 eqb (chunk from 16 bytes) 16 10 (length-chunk from 16 bytes long)
    (omega arith)

-- no line feed in sixteen bytes more
pub no_feeds : (bytes : List ℕ) (from i : ℕ) → from + 16 ≤ length bytes → feeds bytes from ≡ 0
    → ((k : ℕ) → k < from → slice_index bytes k ≢ 10) → i < from + 16 → slice_index bytes i ≢ 10
no_feeds bytes from i long none before below = elim (cases_lt i from) [
  | inl less ↦ before i less
  | inr more ↦ grind (arith, none_from_empty_mask (λ b. eqb b 10) bytes from 16 0 long none i more below)
]

some_lane : (p : ℕ → Bool) (xs : List ℕ) → 0 < mask_l (map p xs) → prefix_len (λ x. not (p x)) xs < length xs
some_lane p [] set = absurd (omega (arith, set))
some_lane p (x ∷ xs) set = grind (arith, some_lane p xs)

-- the first of them
pub ends_near : (bytes : List ℕ) (from mask : ℕ) → from + 16 ≤ length bytes → mask ≡ feeds bytes from → mask ≢ 0
    → ((k : ℕ) → k < from → slice_index bytes k ≢ 10)
    → EndsAt bytes (from + count_trailing_zeros 64 mask)
ends_near bytes from mask long is some before =
    let n = count_trailing_zeros 64 mask in
    let lanes = length-chunk from 16 bytes long in
    let set : 0 < mask_l (map (λ b. eqb b 10) (chunk from 16 bytes)) = omega arith in
    let counted : n ≡ prefix_len (λ b. not (eqb b 10)) (chunk from 16 bytes) =
    rw is (trailing_mask_l (λ b. eqb b 10) 64 (chunk from 16 bytes) (omega (arith, lanes)) set) in
    let there = some_lane (λ b. eqb b 10) (chunk from 16 bytes) set in
    let less : n < 16 = omega arith in
    record {
      within = omega arith;
      line = λ i d below. (let inside : i < from + n = omega (arith, length-take-le (from + n) bytes (omega arith)) in
          rw (get_or-take (from + n) bytes i d inside) (elim (cases_lt i from) [
            | inl earlier ↦ rw (← get_or_default bytes i d 0 (omega arith)) at (before i earlier)
            | inr later ↦ no_feed _ (run_in_chunk_fails (λ b. eqb b 10) bytes from 16 n d long counted i later inside)
          ]));
      feed = a_feed _ (run_in_chunk_stops (λ b. eqb b 10) bytes from 16 n 0 long counted less);
    }

-- ---- how the cutter of a log goes on: what it keeps, and the lines that its bytes make

-- more bytes of the line that is begun
pub text_of-more : (closed : List Line) (begun bytes : Line)
    → text_of closed begun ++ bytes ≡ text_of closed (begun ++ bytes)
text_of-more [] begun bytes = refl
text_of-more (line ∷ before) begun bytes = append_assoc (text_of before line) (line_feed ∷ begun) bytes

-- the bytes that are kept of a line stay the same if more come
pub kept_of_more : (begun bytes : Line) → take 60 (take 60 begun ++ bytes) ≡ take 60 (begun ++ bytes)
kept_of_more begun bytes = elim (few_or_many (length begun)) [
  | inl few ↦ ap (λ (l : Line). take 60 (l ++ bytes)) (take_all 60 begun few)
  | inr many ↦
      let full : 60 ≤ length (take 60 begun) = omega (arith, length-take 60 begun, many) in
      let long : 60 ≤ length begun = omega (arith, many) in
      let most : length (take 60 begun) ≤ 60 = omega (arith, length-take 60 begun) in
      take-append-le 60 (take 60 begun) bytes full ∙ take_all 60 (take 60 begun) most
      ∙ sym (take-append-le 60 begun bytes long)
]
  where
    few_or_many : (n : ℕ) → (n ≤ 60) ⊎ (60 < n)
    few_or_many n = grind arith

-- as many bytes as there is room for
pub kept_in_room : (kept bytes : Line) (room : ℕ) → room + length kept ≡ 60
    → kept ++ take (min (length bytes) room) bytes ≡ take 60 (kept ++ bytes)
kept_in_room kept bytes room fits =
    let all : length kept + room ≡ 60 = omega arith in
    let both = take-append-add kept bytes room in
    elim (by_room (length bytes)) [
      | inl few ↦
          let least : min (length bytes) room ≡ length bytes = omega (arith, few) in
          let one = take_all (length bytes) bytes (omega arith) in
          cc (take_all room bytes few)
      | inr many ↦
          let least : min (length bytes) room ≡ room = omega (arith, many) in
          cc
    ]
  where
    by_room : (n : ℕ) → (n ≤ room) ⊎ (room < n)
    by_room n = grind arith

-- what is kept where nothing is said is kept in any case
pub kept_either : (said : Option LogLine) (kept first : Line) → kept ≡ first → IfNone said (kept ≡ first)
kept_either said kept first same = grind arith

-- more bytes of the line that is begun were kept
pub cuts_on : (c after : Cutter) (closed : List Line) (begun bytes : Line) → CutterStandsAt c closed begun
    → IsLine bytes
    → after.kept.items ≡ take 60 (c.kept.items ++ bytes) → after.lines ≡ c.lines
    → CutterStandsAt after closed (begun ++ bytes)
cuts_on c after closed begun bytes s line kept lines = record {
  kept = rw (kept, s.kept) (kept_of_more begun bytes);
  count = lines ∙ s.count;
  lines = s.lines;
  line = All-append (λ x. x ≢ line_feed) begun bytes s.line line;
}

-- the end of a line
pub closes_line : (c after : Cutter) (closed : List Line) (begun last : Line) (said : LogLine)
    → CutterStandsAt c closed begun → IsLine last
    → LineSays (begun ++ last) said → after.lines ≡ c.lines + 1 → after.kept.items ≡ []
    → Closes after closed (begun ++ last) said
closes_line c after closed begun last said s line says lines kept =
    let all = All-append (λ x. x ≢ line_feed) begun last s.line line in
    let closes = All-cons IsLine (begun ++ last) closed all s.lines in
    let none = All-nil (λ (x : ℕ). x ≢ line_feed) in
    grind arith

-- the end of a bad line
pub closes_bad : (c : Cutter) (closed : List Line) (begun last : Line) → CutterStandsAt c closed begun → IsLine last
    → IsBad (begun ++ last) → IsBadLine (c.lines + 1) closed (begun ++ last)
closes_bad c closed begun last s line bad =
    let all = All-append (λ x. x ≢ line_feed) begun last s.line line in
    grind arith
