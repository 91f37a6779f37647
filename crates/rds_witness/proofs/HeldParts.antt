-- When what a receiver holds is a part of what another one holds, its runs are parts of the other's.
use Rattle.std.proofs.Common.{◌≡◌, ◌⊎◌, ◌≤◌, ◌∷◌, [], ◌∙◌, ℕ, true, List, Option, Some, ap, arith, cond, inr, length}
use Rattle.std.proofs.Common.{nat_eq, refl, sym, ◌+◌, ◌<◌, Bool, false, inl, None, subst, ◌++◌, zero, suc, All}
use Rattle.std.specs.FinMap.{empty, get, get-empty, get-insert, insert}
use Rattle.std.specs.Cmp.{unsigned_tied}
use Rattle.std.specs.Ordering.{nat_cmp, eq_by_cmp}
use Rattle.std.proofs.lemmas.Bool.Decides.{nat_tests}
use Rattle.std.proofs.lemmas.Cmp.{nat_cmp_total}
use Rattle.rds_assembly.specs.Held.{held_cells}
use Rattle.rds_assembly.proofs.HeldLemmas.{nothing_held}
use Rattle.rds_block.specs.declared.group.Group.{Group}
use Rattle.rds_fields.specs.Stored.{is_set}
use Rattle.rds_fields.specs.declared.message.Message.{Message}
use Rattle.rds_receiver.specs.Receipts.{tuned, heard_of, name_fragment, Segment, segments, text_fragment, heard_in}
use Rattle.rds_receiver.specs.Receipts.{Tuning}
use Rattle.rds_receiver.specs.declared.fragment.Fragment.{Fragment}
use Rattle.rds_receiver.specs.Run.{cells_of, run, run_at, run_before, begins_in}
use Rattle.rds_receiver.specs.Holds.{HoldsRun, newest_slot, HasAge, HasFlag}
use Rattle.rds_receiver.specs.ReceiverAt.{ReceiverAt, TakesSlot}
use Rattle.rds_receiver.specs.State.{DisplayState, HeldSegments}
use Rattle.rds_receiver.specs.declared.receiver.Receiver.{Receiver}
use Rattle.rds_receiver.specs.Stored.{age_stored, display_stored, segments_stored}
use Rattle.rds_receiver.specs.Tags.{pair_held, is_known, pair_from, pair_since, says_of_rtplus, unless_contrary}
use Rattle.rds_receiver.specs.declared.display.StoredSegments.{StoredSegments}
use Rattle.rds_receiver.proofs.Runs.{run_at_newest, before_other, before_same, equal_or_not, run_recent, test_true}
use Rattle.rds_receiver.proofs.Runs.{run_over, AllBelow, pair_goes_on, run_below, segments_below}
use Rattle.rds_witness.specs.Covered.{IsInputPart, CoversInput, IsAt, IsCovered, Keeps}
use Rattle.rds_witness.specs.Part.{HasCells, IsPairPart, IsPart, IsTagPart}
use Rattle.rds_assembly.specs.Cells.{Cells}
use Rattle.rds_assembly.specs.Whole.{IsWholeName, IsWholeText}
use Rattle.rds_fields.specs.declared.message.Message.TheVariants.{Text, Announce, Tags}
use Rattle.rds_fields.specs.Tag.{PairFields}
use Rattle.std.proofs.lemmas.Bool.{cases_lt}
use Rattle.rds_witness.specs.Lost.{got, got-more, group_left}
use Rattle.std.specs.List.{Contains}
use Rattle.std.proofs.lemmas.List.Elements.{All-contains, All-push, Contains-append_left, Contains-append_right}
use Rattle.rds_witness.specs.declared.covering.Lossy.{Lossy}

-- the first one holds a part of what the second one holds
pub record HoldsPart (one other : HeldSegments) : Type 0 where
  pub cells : HasCells one.cells other.cells
  pub newer : (one.cells ≡ empty) ⊎ ((one.flag ≡ other.flag) × (other.age ≤ one.age))

-- what `is_part` finds
pub part_stored : (d e rest rest_other : ℕ) (one other : StoredSegments)
    → HasCells (held_cells one.mask one.bytes) (held_cells other.mask other.bytes)
    → (one.mask ≡ 0) ⊎ ((is_set one.flag ≡ is_set other.flag) × (age_stored e rest_other other ≤ age_stored d rest one))
    → HoldsPart (segments_stored d rest one) (segments_stored e rest_other other)
part_stored d e rest rest_other one other cells newer = grind (arith, nothing_held)

newest_cell : (g : Segment) (older : List Segment)
    → get (cells_of (g ∷ older)) g.fragment.address ≡ Some g.fragment.bytes
newest_cell g older =
    let a = g.fragment.address in
    let same : nat_eq a a ≡ true = grind (arith) in
    get-insert nat_cmp_total (cells_of older) a g.fragment.bytes a
    ∙ ap (λ is. cond is (Some g.fragment.bytes) (get (cells_of older) a)) (unsigned_tied a a ∙ same)

pub held_part : (m t : ℕ) (r s : List Segment) (one other : HeldSegments) → HoldsPart one other → HoldsRun m t r one
    → HoldsRun m t s other → IsPart r s
held_part m t [] s one other part mine theirs = tt
held_part m t (g ∷ older) [] one other part mine theirs =
    let held = newest_cell g older in
    let none = get-empty {X = List ℕ} nat_cmp g.fragment.address in
    grind (arith, part.cells g.fragment.address g.fragment.bytes)
held_part m t (g ∷ older) (h ∷ later) one other part mine theirs =
    let held = newest_cell g older in
    let none = get-empty {X = List ℕ} nat_cmp g.fragment.address in
    grind arith

same_newest : (first : ℕ) (h k : List (Option Message)) → length h ≡ length k
    → newest_slot first h ≡ newest_slot first k
same_newest first h k long = grind (arith)

-- a log has as many messages as slots
heard_long : (pi : ℕ) (input : List (Option Group)) → length input ≡ length (heard_of pi input)
heard_long pi [] = refl
heard_long pi (slot ∷ input) = let rest = heard_long pi input in omega (arith, rest)

-- logs of one length have messages of one length
pub as_long : (pi : ℕ) (one other : List (Option Group)) → length one ≡ length other
    → length (heard_of pi one) ≡ length (heard_of pi other)
as_long pi one other long = sym (heard_long pi one) ∙ long ∙ heard_long pi other

heard_part : (pick : Message → Option Fragment) (m : ℕ) (one other : HeldSegments) (h k : List (Option Message))
    → HoldsPart one other → length h ≡ length k
    → HoldsRun m (newest_slot 0 h) (run m (newest_slot 0 h) (segments pick 0 h)) one
    → HoldsRun m (newest_slot 0 k) (run m (newest_slot 0 k) (segments pick 0 k)) other
    → IsPart (run_at pick m 0 h) (run_at pick m 0 k)
heard_part pick m one other h k part long holds other_holds =
    grind (arith, same_newest, run_at_newest, held_part)

-- ---- whole receivers

-- what `is_receiver_part` finds
pub record HoldsPartOf (one other : DisplayState) : Type 0 where
  pub text : HoldsPart one.text other.text
  pub name : HoldsPart one.name other.name
  pub pair : IsPairPart one.pair other.pair
  pub known : one.is_known ≡ true → other.is_known ≡ true

holds_itself : (s : HeldSegments) → HoldsPart s s
holds_itself s = record { cells = λ a b held. held; newer = inr (refl, omega arith) }

module _ (pi m : ℕ) (one other : Receiver)
    (part : HoldsPartOf (display_stored one.display) (display_stored other.display))
    (input more : List (Option Group)) (mine : ReceiverAt (tuned pi m) one input)
    (theirs : ReceiverAt (tuned pi m) other more) (long : length input ≡ length more) where
  same_pair : IsPairPart (display_stored one.display).pair (display_stored other.display).pair
      → IsPairPart (pair_held m 0 (heard_of pi input)) (pair_held m 0 (heard_of pi more))
  same_pair held = grind (arith)

  -- a receiver that lost more heard a part
  pub holds_part : IsInputPart (tuned pi m) input more
  holds_part =
      let heard_long = as_long pi input more long in
      record {
        long = long;
        texts = heard_part text_fragment m (display_stored one.display).text (display_stored other.display).text _ _
            part.text heard_long mine.holds.display.text theirs.holds.display.text;
        names = heard_part name_fragment m (display_stored one.display).name (display_stored other.display).name _ _
            part.name heard_long mine.holds.display.name theirs.holds.display.name;
        tags = (
          same_pair part.pair,
          λ is. sym theirs.holds.display.known ∙ part.known (mine.holds.display.known ∙ is),
        );
      }

-- one receiver at two inputs
pub same_part : (pi m : ℕ) (r : Receiver) (input more : List (Option Group)) → ReceiverAt (tuned pi m) r input
    → ReceiverAt (tuned pi m) r more → length input ≡ length more → IsInputPart (tuned pi m) input more
same_part pi m r input more mine theirs long =
    let held = display_stored r.display in
    let part : HoldsPartOf held held = grind (arith, holds_itself) in
    holds_part pi m r r part input more mine theirs long

-- ---- cells

no_cells : (other : Cells) → HasCells empty other
no_cells other a b held = let none = get-empty {X = List ℕ} nat_cmp a in absurd (cc)

more_cells : (one other : Cells) (address : ℕ) (bytes : List ℕ) → HasCells one other
    → HasCells (insert one address bytes) (insert other address bytes)
more_cells one other address bytes has a b held =
    by_address (eq_by_cmp nat_cmp a address) (sym (get-insert nat_cmp_total one address bytes a) ∙ held)
    (get-insert nat_cmp_total other address bytes a)
  where
    by_address : (is : Bool) → cond is (Some bytes) (get one a) ≡ Some b
        → get (insert other address bytes) a ≡ cond is (Some bytes) (get other a)
        → get (insert other address bytes) a ≡ Some b
    by_address true mine theirs = theirs ∙ mine
    by_address false mine theirs = theirs ∙ has a b mine

-- ---- runs

-- the cells of a part are among the cells of the whole
pub part_cells : (one other : List Segment) → IsPart one other → HasCells (cells_of one) (cells_of other)
part_cells one other part = grind (arith, no_cells)

-- a part of a part is a part
pub part_through : (one two three : List Segment) → IsPart one two → IsPart two three → IsPart one three
part_through one two three p q = grind (arith)

-- once both took a segment
pub part_taken : (m n : ℕ) (p : Fragment) (one other : List Segment) → 0 < m → IsPart (run m n one) (run m n other)
    → IsPart (run m n (record { slot = n; fragment = p } ∷ one)) (run m n (record { slot = n; fragment = p } ∷ other))
part_taken m n p one other some part =
    grind (arith, nat_tests, run_recent, more_cells, before_same, no_cells, equal_or_not, before_other)

-- ---- what is shown

-- a text that is whole in some of the cells is whole in all
pub whole_text : (one other : Cells) (x : List ℕ) → HasCells one other → IsWholeText one x → IsWholeText other x
whole_text one other x has w = grind (arith)

-- a name that is whole in some of the cells is whole in all
pub whole_name : (one other : Cells) (x : List ℕ) → HasCells one other → IsWholeName one x → IsWholeName other x
whole_name one other x has w = grind (arith)

-- ---- what was heard

-- both runs in the next slot, before it brings something
pub part_aged : (pick : Message → Option Fragment) (m : ℕ) (one other : List (Option Message))
    → length one ≡ length other → IsPart (run_at pick m 0 one) (run_at pick m 0 other)
    → IsPart (run m (0 + length one) (segments pick 0 one)) (run m (0 + length one) (segments pick 0 other))
part_aged pick m one other long part = grind (arith)

-- whatever both hear in the next slot
pub part_heard : (pick : Message → Option Fragment) (m : ℕ) (x : Option Message) (one other : List (Option Message))
    → 0 < m → length one ≡ length other
    → IsPart (run_at pick m 0 one) (run_at pick m 0 other)
    → IsPart (run_at pick m 0 (x ∷ one)) (run_at pick m 0 (x ∷ other))
part_heard pick m x one other some long part = grind (arith, part_aged, part_taken)

-- ---- one receiver

-- the pair that is held in the next slot if it brings nothing
abbrev aged : ℕ → List (Option Message) → Option PairFields
aged m heard = pair_from 0 (begins_in (run m (0 + length heard) (segments text_fragment 0 heard))) heard

-- only a receiver that knows RadioText Plus holds a pair
none_unknown : (since : ℕ) (heard : List (Option Message)) → is_known heard ≡ false → pair_since 0 since heard ≡ None
none_unknown since [] unknown = refl
none_unknown since (x ∷ before) unknown = grind (arith, none_unknown since before)

unless_none : (says : Option Bool) → unless_contrary says None ≡ None
unless_none says = grind (arith)

from_announced : (begins : Option ℕ) (heard : List (Option Message)) (code bits aid : ℕ)
    → pair_from 0 begins (Some (Announce code bits aid) ∷ heard) ≡ unless_contrary (says_of_rtplus code aid)
    (pair_from 0 begins heard)
from_announced begins heard code bits aid = grind (arith)

-- tags that come in a run while RadioText Plus is known are held
from_tags : (g : Segment) (older : List Segment) (heard : List (Option Message)) (pair : PairFields)
    → AllBelow (0 + length heard) (g ∷ older) → is_known heard ≡ true
    → pair_from 0 (begins_in (g ∷ older)) (Some (Tags pair) ∷ heard) ≡ Some pair
from_tags g [] heard pair all known = rw (known, test_true g.slot (0 + length heard) all.0) refl
from_tags g (o ∷ older) heard pair all known = from_tags o older heard pair all.1 known

-- other tags leave the pair
from_tags_unknown : (begins : Option ℕ) (heard : List (Option Message)) (pair : PairFields) → is_known heard ≡ false
    → pair_from 0 begins (Some (Tags pair) ∷ heard) ≡ None
from_tags_unknown begins heard pair unknown = grind (arith, none_unknown)

-- ---- two receivers

-- no pair, or the same one: so after both moved on
moved : (a b c d : Option PairFields) → a ≡ b → c ≡ d → IsPairPart a c → IsPairPart b d
moved a b c d one other part = grind (arith)

known_next : (x : Option Message) (one other : List (Option Message)) → (is_known one ≡ true → is_known other ≡ true)
    → is_known (x ∷ one) ≡ true → is_known (x ∷ other) ≡ true
known_next x one other known is = grind (arith)

module _ (m : ℕ) (one other : List (Option Message)) (some : 0 < m)
    (part : IsPart (run m (0 + length one) (segments text_fragment 0 one))
    (run m (0 + length other) (segments text_fragment 0 other))) (tags : IsTagPart m 0 one other) where
  aged_part : IsPairPart (aged m one) (aged m other)
  aged_part = grind (arith, nat_tests)

  same_announced : (code bits aid : ℕ) → IsPairPart (aged m one) (aged m other)
      → IsPairPart (pair_held m 0 (Some (Announce code bits aid) ∷ one)) (pair_held m 0 (Some (Announce code bits aid)
      ∷ other))
  same_announced code bits aid held = grind (arith, from_announced, unless_none)

  below : (heard : List (Option Message)) (g : Segment) (older : List Segment)
      → run m (0 + length heard) (segments text_fragment 0 heard) ≡ g ∷ older → AllBelow (0 + length heard) (g ∷ older)
  below heard g older is = grind (arith, run_below, segments_below)

  held_tags : (heard : List (Option Message)) (g : Segment) (older : List Segment) (pair : PairFields)
      → run m (0 + length heard) (segments text_fragment 0 heard) ≡ g ∷ older → is_known heard ≡ true
      → pair_held m 0 (Some (Tags pair) ∷ heard) ≡ Some pair
  held_tags heard g older pair is known =
      ap (λ (r : List Segment). pair_from 0 (begins_in r) (Some (Tags pair) ∷ heard)) is ∙ from_tags g older heard pair
      (below heard g older is) known

  same_tags : (pair : PairFields)
      → IsPairPart (pair_held m 0 (Some (Tags pair) ∷ one)) (pair_held m 0 (Some (Tags pair) ∷ other))
  same_tags pair = by _ _ _ refl refl refl part
    where
      by : (known : Bool) (r s : List Segment) → is_known one ≡ known
          → run m (0 + length one) (segments text_fragment 0 one) ≡ r
          → run m (0 + length other) (segments text_fragment 0 other) ≡ s → IsPart r s
          → IsPairPart (pair_held m 0 (Some (Tags pair) ∷ one)) (pair_held m 0 (Some (Tags pair) ∷ other))
      by false r s unknown is_r is_s p = inl (from_tags_unknown _ one pair unknown)
      by true [] s known is_r is_s p = grind arith
      by true (g ∷ older) [] known is_r is_s p = absurd p
      by true (g ∷ older) (h ∷ rest) known is_r is_s p =
          inr (held_tags one g older pair is_r known ∙ sym (held_tags other h rest pair is_s (tags.1 known)))

  -- a text segment keeps the pair of the run before it
  with_text : (heard : List (Option Message)) (f : Bool) (a : ℕ) (b : List ℕ) (r : List Segment)
      → run_before m f (0 + length heard) (segments text_fragment 0 heard) ≡ r
      → pair_from 0 (begins_in r) heard ≡ pair_held m 0 (Some (Text f a b) ∷ heard)
  with_text heard f a b r is = grind (arith, pair_goes_on, run_recent)

  same_text : (f : Bool) (a : ℕ) (b : List ℕ)
      → IsPairPart (pair_held m 0 (Some (Text f a b) ∷ one)) (pair_held m 0 (Some (Text f a b) ∷ other))
  same_text f a b = by _ _ refl refl part
    where
      by : (r s : List Segment) → run m (0 + length one) (segments text_fragment 0 one) ≡ r
          → run m (0 + length other) (segments text_fragment 0 other) ≡ s → IsPart r s
          → IsPairPart (pair_held m 0 (Some (Text f a b) ∷ one)) (pair_held m 0 (Some (Text f a b) ∷ other))
      by [] s is_r is_s p =
          let none = before_same m (0 + length one) f (segments text_fragment 0 one) (rw is_r tt) ∙ is_r in
          inl (sym (with_text one f a b [] none))
      by (g ∷ older) [] is_r is_s p = absurd p
      by (g ∷ older) (h ∷ rest) is_r is_s p = elim (equal_or_not f g.fragment.flag) [
        | inl same ↦
            let mine = before_same m (0 + length one) f (segments text_fragment 0 one) (rw is_r same) in
            let theirs = before_same m (0 + length other) f (segments text_fragment 0 other) (rw is_s (same ∙ p.0)) in
            moved _ _ _ _ (with_text one f a b _ mine) (with_text other f a b _ theirs) aged_part
        | inr apart ↦
            let none = before_other m (0 + length one) f g.fragment.flag (segments text_fragment 0 one) (rw is_r refl)
            apart in
            inl (sym (with_text one f a b [] none))
      ]

  same_next : (x : Option Message) → IsPairPart (pair_held m 0 (x ∷ one)) (pair_held m 0 (x ∷ other))
  same_next (Some (Announce code bits aid)) = same_announced code bits aid aged_part
  same_next (Some (Tags pair)) = same_tags pair
  same_next (Some (Text f a b)) = same_text f a b
  same_next x = grind (arith, nat_tests)

-- whatever both hear in the next slot
pub tag_part_heard : (m : ℕ) (x : Option Message) (one other : List (Option Message)) → 0 < m
    → length one ≡ length other → IsPart (run_at text_fragment m 0 one) (run_at text_fragment m 0 other)
    → IsTagPart m 0 one other → IsTagPart m 0 (x ∷ one) (x ∷ other)
tag_part_heard m x one other some long part tags =
    let aged = part_aged text_fragment m one other long part in
    let both : IsPart (run m (0 + length one) (segments text_fragment 0 one))
    (run m (0 + length other) (segments text_fragment 0 other)) = grind arith in
    (same_next m one other some both tags x, known_next x one other tags.1)

-- ---- when the run goes on

-- the run of texts begins in the same slot as before, if it did not end and the newest segment has its flag
pub begins_on : (m : ℕ) (x : Option Message) (heard : List (Option Message)) (g : Segment) (older : List Segment)
    → 0 < m → run m (0 + length heard) (segments text_fragment 0 heard) ≡ g ∷ older
    → ((f : Bool) (a : ℕ) (b : List ℕ) → x ≡ Some (Text f a b) → f ≡ g.fragment.flag)
    → begins_in (run_at text_fragment m 0 heard) ≡ begins_in (run_at text_fragment m 0 (x ∷ heard))
begins_on m x heard g older some is flag = grind (arith, nat_tests)

-- ---- pairs of tags of a run of texts that goes on

-- held segments that are younger than the dwell are a run that the next slot still has
record Goes (m : ℕ) (heard : List (Option Message)) (flag : Bool) : Type 0 where
  g : Segment
  older : List Segment
  is : run m (0 + length heard) (segments text_fragment 0 heard) ≡ g ∷ older
  same : flag ≡ g.fragment.flag

goes : (m : ℕ) (heard : List (Option Message)) (held : HeldSegments)
    → HoldsRun m (newest_slot 0 heard) (run m (newest_slot 0 heard) (segments text_fragment 0 heard)) held
    → held.age + 1 < m → Goes m heard held.flag
goes m [] held holds young = absurd (omega (arith, holds.age))
goes m (y ∷ before) held holds young = by (segments text_fragment 0 (y ∷ before)) refl
  where
    by : (segs : List Segment) → segments text_fragment 0 (y ∷ before) ≡ segs → Goes m (y ∷ before) held.flag
    by [] are = (let age : HasAge m (0 + length before) [] held.age = rw are at holds.age in absurd (omega arith))
    by (g ∷ older) are =
        let n = 0 + length before in
        let here : HoldsRun m n (run m n (g ∷ older)) held = rw are at holds in
        elim (cases_lt n (g.slot + m)) [
          | inl soon ↦ (
              let rest = run_before m g.fragment.flag g.slot older in
              let now : HoldsRun m n (g ∷ rest) held = rw (run_recent m n g older soon) at here in
              let age : n ≡ g.slot + held.age = now.age in
              let is = run_recent m (0 + length (y ∷ before)) g older (omega arith) in
              record { g = g; older = rest; is = ap (run m (0 + length (y ∷ before))) are ∙ is; same = now.flag })
          | inr over ↦ (
              let age : HasAge m n [] held.age = rw (run_over m n g older over) at here.age in
              absurd (omega arith))
        ]

-- the flag of a segment that came in the newest slot
newest_flag : (m : ℕ) (heard : List (Option Message)) (f : Bool) (a : ℕ) (b : List ℕ) (held : HeldSegments) → 0 < m
    → HoldsRun m (0 + length heard) (run m (0 + length heard) (segments text_fragment 0 (Some (Text f a b) ∷ heard)))
    held → held.flag ≡ f
newest_flag m heard f a b held some holds = grind (arith, run_recent)

-- the run begins in the same slot before and after the next one
pub same_run : (pi m : ℕ) (old new : Receiver) (group : Option Group) (input : List (Option Group))
    → (display_stored old.display).text.age + 1 < old.display.dwell
    → is_set old.display.text.flag ≡ is_set new.display.text.flag
    → ReceiverAt (tuned pi m) old input → ReceiverAt (tuned pi m) new (group ∷ input)
    → begins_in (run_at text_fragment m 0 (heard_of pi input))
    ≡ begins_in (run_at text_fragment m 0 (heard_of pi (group ∷ input)))
same_run pi m old new group input young flag was is =
    let h = heard_of pi input in
    let dwell : old.display.dwell ≡ m = was.holds.display.dwell in
    let it : Goes m h (is_set old.display.text.flag) = goes m h (display_stored old.display).text was.holds.display.text
    (omega (arith, young, dwell)) in
    begins_on m (heard_in pi group) h it.g it.older was.holds.display.lasts it.is
    (λ f a b text. sym (newest_flag m h f a b (display_stored new.display).text was.holds.display.lasts
    (subst (λ (y : Option Message). HoldsRun m (0 + length h) (run m (0 + length h) (segments text_fragment 0 (y ∷ h)))
    (display_stored new.display).text) text is.holds.display.text)) ∙ sym flag ∙ it.same)

-- the same over the slots of a log
pub same_run_of_log : (pi m n : ℕ) (log : List (Option Group)) (old new : Receiver)
    → (display_stored old.display).text.age + 1 < old.display.dwell
    → is_set old.display.text.flag ≡ is_set new.display.text.flag
    → ReceiverAt (tuned pi m) old (got [] log n) → ReceiverAt (tuned pi m) new (got [] log (n + 1))
    → begins_in (run_at text_fragment m 0 (heard_of pi (got [] log n)))
    ≡ begins_in (run_at text_fragment m 0 (heard_of pi (got [] log (n + 1))))
same_run_of_log pi m n log old new young flag was is = same_run pi m old new (group_left [] log n) (got [] log n) young
    flag was (rw (got-more [] log n) at is)
    ∙ ap (λ (l : List (Option Group)). begins_in (run_at text_fragment m 0 (heard_of pi l))) (sym (got-more [] log n))

-- ---- what kept receivers cover when one more is offered

tags_through : (m first : ℕ) (one two three : List (Option Message)) → IsTagPart m first one two
    → IsTagPart m first two three → IsTagPart m first one three
tags_through m first one two three p q = grind (arith)

-- a part of a part of an input is a part of it
pub input_through : (t : Tuning) (r : Receiver) (one two three : List (Option Group)) → ReceiverAt t r two
    → IsInputPart t one two → IsInputPart t two three → IsInputPart t one three
input_through t r one two three stands p q = grind (arith, part_through, tags_through)

-- one that is kept holds all that is offered
pub keeps_part : (t : Tuning) (n : ℕ) (kept : List Lossy) (one by : Lossy) → Contains kept by
    → ((input more : List (Option Group)) → ReceiverAt t one.receiver input
    → ReceiverAt t by.receiver more → length input ≡ length more → IsInputPart t input more)
    → All (IsAt t n) kept → Keeps t n one kept kept
keeps_part t n kept one by there part at = record {
  at = at;
  stays = λ input covered. covered;
  more = λ input long covers.
      let its : IsAt t n by = All-contains (IsAt t n) kept by at there in
      let rest = part covers.other its.input covers.stands its.stands (omega arith) in
      let whole = input_through t one.receiver input covers.other its.input covers.stands covers.part rest in
      record { by = by; is_there = there; covers = record { other = its.input; stands = its.stands; part = whole } };
}

-- what is offered is kept too
pub keeps_more : (t : Tuning) (n : ℕ) (kept : List Lossy) (one : Lossy) → All (IsAt t n) kept → IsAt t n one
    → Keeps t n one kept (kept ++ one ∷ [])
keeps_more t n kept one at its = record {
  at = All-push (IsAt t n) kept one at its;
  stays = λ input covered.
      let is_there = Contains-append_left kept (one ∷ []) covered.by covered.is_there in
      record { by = covered.by; is_there = is_there; covers = covered.covers };
  more = λ input long covers.
      let is_there = Contains-append_right kept (one ∷ []) one (0, omega arith, refl) in
      record { by = one; is_there = is_there; covers = covers };
}

-- one slot later
pub at_next : (pi m n : ℕ) (s later : Lossy) (group : Option Group)
    → TakesSlot s.receiver later.receiver group → IsAt (tuned pi m) n s
    → IsAt (tuned pi m) (n + 1) later
at_next pi m n s later group stands its =
    record { input = group ∷ its.input; long = omega arith; stands = stands (tuned pi m) its.input its.stands }

pub input_next : (pi m : ℕ) (group : Option Group) (one other : List (Option Group)) → 0 < m
    → IsInputPart (tuned pi m) one other → IsInputPart (tuned pi m) (group ∷ one) (group ∷ other)
input_next pi m group one other some part =
    let heard = heard_in pi group in
    let heard_long = as_long pi one other part.long in
    record {
      long = let long = part.long in omega (arith, long);
      texts = part_heard text_fragment m heard _ _ some heard_long part.texts;
      names = part_heard name_fragment m heard _ _ some heard_long part.names;
      tags = tag_part_heard m heard _ _ some heard_long part.texts part.tags;
    }

-- a receiver that covers an input covers it with the next slot
pub covers_next : (pi m : ℕ) (s later : Lossy) (group : Option Group) (input : List (Option Group))
    → TakesSlot s.receiver later.receiver group → CoversInput (tuned pi m) input s
    → CoversInput (tuned pi m) (group ∷ input) later
covers_next pi m s later group input stands covers = record {
  other = group ∷ covers.other;
  stands = stands (tuned pi m) covers.other covers.stands;
  part = input_next pi m group input covers.other covers.stands.holds.display.lasts covers.part;
}

-- a receiver covers its own input
pub covers_itself : (pi m : ℕ) (input : List (Option Group)) (s : Lossy)
    → ReceiverAt (tuned pi m) s.receiver input
    → CoversInput (tuned pi m) input s
covers_itself pi m input s stands = grind (arith)

-- ---- a list with one more in front

-- the first receiver of a set covers for the set
pub covered_first : (t : Tuning) (one : Lossy) (set : List Lossy) (input : List (Option Group))
    → CoversInput t input one → IsCovered t (one ∷ set) input
covered_first t one set input covers = record { by = one; is_there = (0, omega arith, refl); covers = covers }

-- a set with one receiver more contains what it contained
pub contains_next : (one : Lossy) (set : List Lossy) (by : Lossy) → Contains set by → Contains (one ∷ set) by
contains_next one set by (k, inside, is) = (suc k, omega (arith, inside), is)

-- a set with one receiver more stands at its slot
pub at_first : (t : Tuning) (n : ℕ) (one : Lossy) (set : List Lossy) → IsAt t n one → All (IsAt t n) set
    → All (IsAt t n) (one ∷ set)
at_first t n one set its at zero d less = its
at_first t n one set its at (suc k) d less = at k d (omega (arith, less))

-- what the first one does for the inputs that it covers, and the others for theirs, is done for all
pub by_first : (t : Tuning) (one : Lossy) (set : List Lossy) (input : List (Option Group)) (Holds : Type 0)
    → IsCovered t (one ∷ set) input → (CoversInput t input one → Holds) → (IsCovered t set input → Holds) → Holds
by_first t one set input Holds covered first others = by covered.is_there
  where
    by : Contains (one ∷ set) covered.by → Holds
    by (zero, inside, is) = first (rw (← is) at covered.covers)
    by (suc k, inside, is) =
        others record { by = covered.by; is_there = (k, omega arith, is); covers = covered.covers }
