-- The lines of the output of `decode`, read back: what they show in a slot is what the display shows there.
use Rattle.std.proofs.Common.{◌≡◌, ◌≢◌, ◌⊎◌, ◌<◌, ◌≤◌, ◌^◌, ◌++◌, ◌∷◌, [], ◌∙◌, ℕ, zero, suc, Bool, true, false, List}
use Rattle.std.proofs.Common.{Option, None, Some, append_assoc, ap, arith, codes, decimal, inl, inr, length, refl}
use Rattle.std.proofs.Common.{subst, sym, get_or, Contains, All, IfSome}
use Rattle.std.proofs.lemmas.Bool.Decides.{nat_tests}
use Rattle.std.proofs.lemmas.Fmt.{decimal_injective}
use Rattle.std.proofs.lemmas.List.Elements.{All-nil, All-head, All-tail}
use Rattle.rds_lines.specs.LogLines.{AreLines, IsLine, Line, text_of}
use Rattle.rds_lines.proofs.Cutting.{text_of-more}
use Rattle.rds_receiver.specs.Shown.{ShownView, ShowsView, view_with}
use Rattle.rds_safety.specs.Late.{HasEntry, Input}
use Rattle.rds_safety.proofs.Entries.{before_end}
use Rattle.rds_receiver.specs.declared.why.WhyNone.{WhyNone}
use Rattle.rds_receiver.specs.declared.why.Whys.{Whys}
use Rattle.rds_charset.specs.Printed.{printed}
use Rattle.rds_view_lines.specs.Output.{Display, change, changes_of, class_name, is_same_item, is_same_tag}
use Rattle.rds_view_lines.specs.Output.{is_same_text, item_content, line_of, name_or_number, newest, none_content}
use Rattle.rds_view_lines.specs.Output.{nothing_shown, quoted, slot_prefix, tag_content, text_content, unless_same}
use Rattle.rds_view_lines.specs.Output.{why_content, why_name, why_text}
use Rattle.rds_view_lines.specs.ViewParts.{Item, Name, Part, Tag1, Tag2, Text, line_in, part_content, part_name}
use Rattle.rds_view_lines.specs.ViewParts.{IsNothing}
use Rattle.rds_wire.proofs.Logs.{IsNoDigit, Lacks, decimal_lacks, decimal_line, empty_line, feedless, join_lines}
use Rattle.rds_wire.proofs.Logs.{printed_line, prefixes}
use Rattle.rds_script.proofs.Periods.{one_item, one_tag, one_text}
use Rattle.rds_fields.specs.declared.message.Message.{Message}
use Rattle.rds_fields.specs.declared.pair.Which.TheVariants.{One, Two}
use Rattle.rds_fields.specs.Tag.{PairFields, TagFields}
use Rattle.rds_encoder.specs.Plan.{Broadcast, Covers}
use Rattle.rds_encoder.specs.Spaced.{IsSpaced}
use Rattle.rds_receiver.specs.Receipts.{Segment}
use Rattle.rds_receiver.specs.Tags.{cut_by, item_of, pair_held, tag_of}
use Rattle.rds_safety.specs.Laws.{ARunHasOneSource}
use Rattle.rds_safety.specs.Marks.{IsMarkIn, Mark, Tagged, marks, text_mark}
use Rattle.rds_safety.specs.Safe.{AreNeighbours, HaveNearSources, Listener, NamesPiece, ShowsNameOnAir, ShowsNoTags}
use Rattle.rds_safety.specs.Safe.{ShowsTagsOf, ShowsTagsOfItsText, ShowsTextOnAir, AreSafeViews, RunWasOnAir}
use Rattle.rds_safety.specs.Source.{name_run, text_run}
use Rattle.rds_wire.specs.Safe.{AreSafe, IsOfPair, ShowNeighbours, ShowsBroadcast, ShowsText, StationPlans, WasOnAir}
use Rattle.rds_wire.specs.Safe.{WentWith}
use Rattle.rds_wire.specs.Printed.{Shows}

-- ---- the prefix of a line

no_space : IsNoDigit 32
no_space n h = grind (arith, nat_tests)

no_f : IsNoDigit 102
no_f n h = grind (arith, nat_tests)

-- a prefix does not begin with an f, as the line of a fault does
pub prefix_lacks : (slot : ℕ) (x : List ℕ) → get_or (slot_prefix slot ++ x) 0 0 ≢ 102
prefix_lacks slot x = by (decimal slot) (decimal_lacks 102 no_f slot)
  where
    by : (digits : List ℕ) → Lacks 102 digits → get_or ((digits ++ codes " ") ++ x) 0 0 ≢ 102
    by [] all = λ e. omega (arith, e)
    by (d ∷ rest) all = All-head (λ (y : ℕ). y ≢ 102) d rest all

-- the first space stands at one place
same_first : (p q x y : List ℕ) → Lacks 32 p → Lacks 32 q → p ++ 32 ∷ x ≡ q ++ 32 ∷ y → (p ≡ q) × (x ≡ y)
same_first [] [] x y a b e = (refl, (cc))
same_first [] (c ∷ q) x y a b e = absurd (All-head (λ (x : ℕ). x ≢ 32) c q b (cc))
same_first (c ∷ p) [] x y a b e = absurd (All-head (λ (x : ℕ). x ≢ 32) c p a (cc))
same_first (c ∷ p) (d ∷ q) x y a b e =
    let tail : p ++ 32 ∷ x ≡ q ++ 32 ∷ y = (cc) in
    let head : c ≡ d = (cc) in
    let same = same_first p q x y (All-tail (λ (x : ℕ). x ≢ 32) c p a) (All-tail (λ (x : ℕ). x ≢ 32) d q b) tail in
    let front : p ≡ q = same.0 in
    (cc, same.1)

-- a prefix has one slot
pub same_prefix : (s n : ℕ) (x y : List ℕ) → s < 2 ^ 64 → n < 2 ^ 64 → slot_prefix s ++ x ≡ slot_prefix n ++ y
    → (s ≡ n) × (x ≡ y)
same_prefix s n x y small less e =
    let same = same_first (decimal s) (decimal n) x y (decimal_lacks 32 no_space s) (decimal_lacks 32 no_space n)
    (sym (append_assoc (decimal s) (codes " ") x) ∙ e ∙ append_assoc (decimal n) (codes " ") y) in
    (decimal_injective s n small less same.0, same.1)

-- ---- one part

-- the names of two parts differ
same_part : (p q : Part) (x y : List ℕ) → part_name p ++ x ≡ part_name q ++ y → (p ≡ q) × (x ≡ y)
same_part p q x y e = grind arith

pub same_line : (s n : ℕ) (p q : Part) (x y : List ℕ) → s < 2 ^ 64 → n < 2 ^ 64 → line_in s p x ≡ line_in n q y
    → (s ≡ n) × (p ≡ q) × (x ≡ y)
same_line s n p q x y small less e = grind (arith, same_prefix, same_part)

-- ---- the contents of parts are lines

quoted_line : (x : List ℕ) → IsLine (quoted x)
quoted_line x = grind (arith, join_lines, feedless, printed_line)

why_line : (why : WhyNone) → IsLine (why_content why)
why_line why = grind arith

none_line : (why : Option WhyNone) → IsLine (none_content why)
none_line why = grind (arith, feedless, join_lines, why_line)

text_line : (why : Option WhyNone) (text : Option (List ℕ)) → IsLine (text_content why text)
text_line why text = grind (arith, none_line, quoted_line)

item_line : (item : Option (Bool × Bool)) → IsLine (item_content item)
item_line item = grind arith

class_line : (class : ℕ) → IsLine (name_or_number (class_name class) class)
class_line class = grind (arith, feedless, decimal_line)

tag_line : (tag : Option (ℕ × List ℕ)) → IsLine (tag_content tag)
tag_line None = feedless (codes " none") refl
tag_line (Some (class, piece)) = search (arith, join_lines, feedless, class_line, quoted_line)

content_line : (part : Part) (whys : Option Whys) (v : ShownView) → IsLine (part_content part whys v)
content_line part whys v = grind (arith, text_line, item_line, tag_line)

name_line : (part : Part) → IsLine (part_name part)
name_line part = grind arith

-- the line of a part of a display
abbrev pub line_of_part : ℕ → Display → Part → Line
line_of_part n d part = line_in n part (part_content part d.whys d.view)

in_line : (n : ℕ) (part : Part) (d : Display) → IsLine (line_of_part n d part)
in_line n part d = grind (arith, join_lines, prefixes, name_line, content_line)

-- ---- the lines of displays

-- the line, unless nothing changed
abbrev pub body_unless : Bool → Line → List Line → List Line
body_unless true body rest = rest
body_unless false body rest = body ∷ rest

-- whether two views show the same of a part
abbrev pub is_same_part : Part → ShownView → ShownView → Bool
is_same_part Text v w = is_same_text v.text w.text
is_same_part Name v w = is_same_text v.name w.name
is_same_part Item v w = is_same_item v.item w.item
is_same_part Tag1 v w = is_same_tag v.one w.one
is_same_part Tag2 v w = is_same_tag v.two w.two

abbrev pub with_body : ℕ → ShownView → Display → Part → List Line → List Line
with_body n before now part rest = body_unless (is_same_part part before now.view) (line_of_part n now part) rest

-- the lines of a slot after others, the newest first
abbrev pub with_slot : ℕ → ShownView → Display → List Line → List Line
with_slot n before now rest =
    with_body n before now Tag2
    (with_body n before now Tag1
    (with_body n before now Item (with_body n before now Name (with_body n before now Text rest))))

-- the lines of all displays, the newest first
abbrev pub lines_of : List Display → List Line
lines_of [] = []
lines_of (d ∷ older) = with_slot (length older) (newest older) d (lines_of older)

body_text : (b : Bool) (body : Line) (rest : List Line) → text_of (body_unless b body rest) [] ≡ text_of rest []
    ++ unless_same b (body ++ codes "\n")
body_text b body rest = grind (arith, text_of-more)

line_ends : (prefix part content : List ℕ) → (prefix ++ (part ++ content)) ++ codes "\n" ≡ line_of prefix part content
line_ends prefix part content = simp append_assoc

part_text : (n : ℕ) (before : ShownView) (now : Display) (part : Part) (rest : List Line)
    → text_of (with_body n before now part rest) [] ≡ text_of rest [] ++ unless_same (is_same_part part before now.view)
    (line_of (slot_prefix n) (part_name part) (part_content part now.whys now.view))
part_text n before now part rest = grind (arith, body_text, line_ends)

five : (t a b c d e : List ℕ) → ((((t ++ a) ++ b) ++ c) ++ d) ++ e ≡ t ++ ((((a ++ b) ++ c) ++ d) ++ e)
five t a b c d e = simp append_assoc

slot_text : (n : ℕ) (before : ShownView) (now : Display) (rest : List Line)
    → text_of (with_slot n before now rest) [] ≡ text_of rest [] ++ change (slot_prefix n) now.whys before now.view
slot_text n before now rest = search (arith, part_text, five)

-- the output is the text of these lines
pub changes_text : (displays : List Display) → changes_of displays ≡ text_of (lines_of displays) []
changes_text [] = refl
changes_text (d ∷ older) = grind (arith, changes_text older, slot_text)

body_lines : (b : Bool) (body : Line) (rest : List Line) → IsLine body → All IsLine rest
    → All IsLine (body_unless b body rest)
body_lines b body rest is all = grind arith

slot_lines : (n : ℕ) (before : ShownView) (now : Display) (rest : List Line) → All IsLine rest
    → All IsLine (with_slot n before now rest)
slot_lines n before now rest all =
    let more : (part : Part) (l : List Line) → All IsLine l → All IsLine (with_body n before now part l) =
    λ part l a. body_lines (is_same_part part before now.view) (line_of_part n now part) l (in_line n part now) a in
    more Tag2 _ (more Tag1 _ (more Item _ (more Name _ (more Text rest all))))

-- each of them is a line
pub all_lines : (displays : List Display) → All IsLine (lines_of displays)
all_lines [] = All-nil IsLine
all_lines (d ∷ older) = slot_lines (length older) (newest older) d (lines_of older) (all_lines older)

-- the lines of the output
pub are_lines : (displays : List Display) (printed : List ℕ) → printed ≡ changes_of displays
    → AreLines printed (lines_of displays)
are_lines displays printed is = grind (arith, changes_text, all_lines, empty_line)

-- ---- the line of a part

-- the line is one of these
abbrev pub In : Line → List Line → Type 0
In line [] = ⊥
In line (l ∷ rest) = (l ≡ line) ⊎ In line rest

-- a line that is contained is in the list
pub in_from_contains : (line : Line) (lines : List Line) → Contains lines line → In line lines
in_from_contains line [] (k, within, is) = absurd (omega (arith, within))
in_from_contains line (l ∷ rest) (zero, within, is) = inl is
in_from_contains line (l ∷ rest) (suc k, within, is) = inr (in_from_contains line rest (k, omega (arith, within), is))

-- and the other way round
pub contains_from_in : (line : Line) (lines : List Line) → In line lines → Contains lines line
contains_from_in line [] is = absurd is
contains_from_in line (l ∷ rest) (inl is) = (0, omega arith, is)
contains_from_in line (l ∷ rest) (inr is) =
    (let it = contains_from_in line rest is in (suc it.0, omega (arith, it.1), it.2))

pub in_body : (line : Line) (b : Bool) (body : Line) (rest : List Line) → In line (body_unless b body rest)
    → (body ≡ line) ⊎ In line rest
in_body line b body rest is = grind arith

after_body : (line : Line) (b : Bool) (body : Line) (rest : List Line) → In line rest
    → In line (body_unless b body rest)
after_body line b body rest is = grind arith

-- a line of a slot is that of a part of its display
pub record IsOf (n s : ℕ) (p : Part) (content : List ℕ) (now : Display) : Type 0 where
  pub slot : s ≡ n
  pub is : content ≡ part_content p now.whys now.view

one_of : (n s : ℕ) (before : ShownView) (now : Display) (p q : Part) (content : List ℕ) (rest : List Line) → s < 2 ^ 64
    → n < 2 ^ 64 → In (line_in s p content) (with_body n before now q rest)
    → IsOf n s p content now ⊎ In (line_in s p content) rest
one_of n s before now p q content rest small less is = grind (arith, in_body, same_line)

or_else : {A B C : Type 0} → A ⊎ B → (B → A ⊎ C) → A ⊎ C
or_else a next = grind arith

pub of_slot : (n s : ℕ) (before : ShownView) (now : Display) (p : Part) (content : List ℕ) (rest : List Line) → s < 2 ^ 64
    → n < 2 ^ 64 → In (line_in s p content) (with_slot n before now rest)
    → IsOf n s p content now ⊎ In (line_in s p content) rest
of_slot n s before now p content rest small less is =
    or_else (one_of n s before now p Tag2 content _ small less is) (λ a.
    or_else (one_of n s before now p Tag1 content _ small less a) (λ b.
    or_else (one_of n s before now p Item content _ small less b) (λ c.
    or_else (one_of n s before now p Name content _ small less c) (λ d.
    one_of n s before now p Text content rest small less d))))

-- a line shows what the display of its slot shows
pub line_shows : (displays : List Display) (s : ℕ) (p : Part) (content : List ℕ) → s < 2 ^ 64
    → length displays < 2 ^ 64 → In (line_in s p content) (lines_of displays)
    → (d : Display) × HasEntry 0 displays s d × (content ≡ part_content p d.whys d.view)
line_shows [] s p content small less is = absurd is
line_shows (d ∷ older) s p content small less is =
    elim (of_slot (length older) s (newest older) d p content (lines_of older) small (omega (arith, less)) is) [
      | inl here ↦ (d, inl (omega (arith, here.slot), refl), here.is)
      | inr there ↦ (let it = line_shows older s p content small (omega (arith, less)) there in (it.0, inr it.1, it.2))
    ]

-- lines of earlier slots are lines of all
pub in_older : (line : Line) (n : ℕ) (before : ShownView) (now : Display) (rest : List Line) → In line rest
    → In line (with_slot n before now rest)
in_older line n before now rest is = grind (arith, after_body)

changed_body : (b : Bool) (body : Line) (rest : List Line) → b ≡ false → In body (body_unless b body rest)
changed_body b body rest changed = grind arith

-- a part that changed has its line
pub in_slot : (p : Part) (n : ℕ) (before : ShownView) (now : Display) (rest : List Line)
    → is_same_part p before now.view ≡ false → In (line_of_part n now p) (with_slot n before now rest)
in_slot Text n before now rest changed = search (arith, after_body, changed_body)
in_slot Name n before now rest changed = search (arith, after_body, changed_body)
in_slot Item n before now rest changed = search (arith, after_body, changed_body)
in_slot Tag1 n before now rest changed = search (arith, after_body, changed_body)
in_slot Tag2 n before now rest changed = search (arith, after_body, changed_body)

-- ---- a part that did not change

pub part_stays : (p : Part) (whys : Option Whys) (v w : ShownView) → is_same_part p v w ≡ true
    → part_content p whys v ≡ part_content p whys w
part_stays Text whys v w e = ap (text_content (why_text whys)) (one_text v.text w.text e)
part_stays Name whys v w e = ap (text_content (why_name whys)) (one_text v.name w.name e)
part_stays Item whys v w e = ap item_content (one_item v.item w.item e)
part_stays Tag1 whys v w e = ap tag_content (one_tag v.one w.one e)
part_stays Tag2 whys v w e = ap tag_content (one_tag v.two w.two e)

-- a part without a line shows what it showed before
kept_part : (p : Part) (whys : Option Whys) (n : ℕ) (before : ShownView) (x : Display) (rest : List Line)
    → (In (line_of_part n x p) (with_slot n before x rest) → ⊥)
    → part_content p whys x.view ≡ part_content p whys before
kept_part p whys n before x rest none = grind (arith, part_stays p whys before x.view, in_slot p n before x rest)

-- no line of the part has a slot after s and up to t
abbrev pub NoneSince : List Display → Part → ℕ → ℕ → Type 0
NoneSince displays p s t = (u : ℕ) (content : List ℕ) → s < u → u ≤ t → In (line_in u p content) (lines_of displays) → ⊥

-- so the part is shown as it was
pub stays : (displays : List Display) (p : Part) (whys : Option Whys) (s t : ℕ) (e d : Display) → s ≤ t
    → HasEntry 0 displays s e → HasEntry 0 displays t d → NoneSince displays p s t
    → part_content p whys d.view ≡ part_content p whys e.view
stays [] p whys s t e d order from to none = absurd to
stays (x ∷ older) p whys s t e d order (inl from) (inl to) none = grind arith
stays (x ∷ older) p whys s t e d order (inl from) (inr to) none =
    absurd (omega (arith, from.0, order, before_end 0 older t d to))
stays (x ∷ older) p whys s t e d order (inr from) (inr to) none =
    stays older p whys s t e d order from to
    (λ u content after upto is. none u content after upto
    (in_older (line_in u p content) (length older) (newest older) x (lines_of older) is))
stays (x ∷ []) p whys s t e d order (inr from) (inl to) none = absurd from
stays (x ∷ y ∷ more) p whys s t e d order (inr from) (inl to) none =
    let below = before_end 0 (y ∷ more) s e from in
    let rest = stays (y ∷ more) p whys s (length more) e y (omega (arith, below)) from (inl (omega arith, refl))
    (λ u content after upto is. none u content after (omega (arith, upto, to.0))
    (in_older (line_in u p content) (length (y ∷ more)) y.view x (lines_of (y ∷ more)) is)) in
    let at : t ≡ length (y ∷ more) = omega (arith, to.0) in
    let same = kept_part p whys (length (y ∷ more)) y.view x (lines_of (y ∷ more))
    (λ is. none t (part_content p x.whys x.view) (omega arith) (omega arith)
    (subst (λ (n : ℕ). In (line_of_part n x p) (lines_of (x ∷ y ∷ more))) (sym at) is)) in
    ap (λ (z : Display). part_content p whys z.view) to.1 ∙ same ∙ rest

-- ---- a part without a line

before_all : (p : Part) → part_content p None nothing_shown ≡ none_content None
before_all p = grind arith

-- no line of the part has a slot up to t
abbrev pub NoneUpTo : List Display → Part → ℕ → Type 0
NoneUpTo displays p t = (u : ℕ) (content : List ℕ) → u ≤ t → In (line_in u p content) (lines_of displays) → ⊥

-- so the part shows nothing
pub unshown : (displays : List Display) (p : Part) (t : ℕ) (d : Display) → HasEntry 0 displays t d
    → NoneUpTo displays p t → part_content p None d.view ≡ none_content None
unshown [] p t d at none = absurd at
unshown (x ∷ older) p t d (inr at) none =
    unshown older p t d at
    (λ u content upto is. none u content upto
    (in_older (line_in u p content) (length older) (newest older) x (lines_of older) is))
unshown (x ∷ []) p t d (inl at) none =
    let same = kept_part p None 0 nothing_shown x [] (none 0 (part_content p x.whys x.view) (omega arith)) in
    ap (λ (z : Display). part_content p None z.view) at.1 ∙ same ∙ before_all p
unshown (x ∷ y ∷ more) p t d (inl at) none =
    let rest = unshown (y ∷ more) p (length more) y (inl (omega arith, refl))
    (λ u content upto is. none u content (omega (arith, upto, at.0))
    (in_older (line_in u p content) (length (y ∷ more)) y.view x (lines_of (y ∷ more)) is)) in
    let here : t ≡ length (y ∷ more) = omega (arith, at.0) in
    let same = kept_part p None (length (y ∷ more)) y.view x (lines_of (y ∷ more))
    (λ is. none t (part_content p x.whys x.view) (omega arith)
    (subst (λ (n : ℕ). In (line_of_part n x p) (lines_of (x ∷ y ∷ more))) (sym here) is)) in
    ap (λ (z : Display). part_content p None z.view) at.1 ∙ same ∙ rest

-- ---- texts and names

-- the number of the broadcast that is shown; any number if nothing is shown
abbrev IsNumberOf : (d t : ℕ) (plan : List Broadcast) (i : Input) (r : List Segment) (o : Option (List ℕ))
    → IfSome o (RunWasOnAir d t plan i r) → ℕ → Type 0
IsNumberOf d t plan i r None was k = Unit {0}
IsNumberOf d t plan i r (Some a) was k = k ≡ was.number

-- what is shown is nothing, or was on air
nothing_or_on_air : (d t : ℕ) (plan : List Broadcast) (i : Input) (r : List Segment) (o : Option (List ℕ))
    (was : IfSome o (RunWasOnAir d t plan i r)) (k : ℕ) → IsNumberOf d t plan i r o was k
    → (x : List ℕ) (why : Option WhyNone) → x ≡ text_content why o → IsNothing x ⊎ WasOnAir d t plan x k
nothing_or_on_air d t plan i r o was k number x why is = grind arith

-- two receivers of what was on air show neighbours
neighbours : (d t : ℕ) (plan : List Broadcast) (i j : Input) (r q : List Segment) (o w : Option (List ℕ))
    (One Other : ℕ → Type 0) (one : IfSome o (RunWasOnAir d t plan i r)) (other : IfSome w (RunWasOnAir d t plan j q))
    → HaveNearSources plan i r j q → ((k : ℕ) → IsNumberOf d t plan i r o one k → One k)
    → ((l : ℕ) → IsNumberOf d t plan j q w other l → Other l) → ShowNeighbours One Other
neighbours d t plan i j r q None None P Q one other near first second =
    record { k = 0; l = 0; first = first 0 tt; second = second 0 tt; near = (omega arith, omega arith) }
neighbours d t plan i j r q None (Some b) P Q one other near first second = grind arith
neighbours d t plan i j r q (Some a) None P Q one other near first second = grind arith
neighbours d t plan i j r q (Some a) (Some b) P Q one other near first second = record {
  k = one.number;
  l = other.number;
  first = first one.number refl;
  second = second other.number refl;
  near = near one.number other.number one.broadcast other.broadcast one.source other.source;
}

-- ---- tags

cuts : (tag : TagFields) (text : List ℕ) (shown : ℕ × List ℕ) → NamesPiece tag text shown → cut_by tag text ≡ Some shown
cuts tag text (class, piece) n = grind arith

-- no text, no part of a pair
none_without : (part : Part) → IsOfPair part → (whys : Option Whys) (view : ShownView) (pair : Option PairFields)
    → view.text ≡ None → view.item ≡ item_of view.text pair → view.one ≡ tag_of One view.text pair
    → view.two ≡ tag_of Two view.text pair → part_content part whys view ≡ none_content None
none_without part of whys view pair none item one two = grind arith

-- a part of a pair is nothing, or what the pair cuts
of_pair : (part : Part) → IsOfPair part → (whys : Option Whys) (view : ShownView) (bytes : List ℕ) (pair : PairFields)
    → view.item ≡ Some (pair.toggle, pair.running) → IfSome view.one (NamesPiece pair.one bytes)
    → IfSome view.two (NamesPiece pair.two bytes) → (part_content part whys view ≡ none_content None)
    ⊎ (part_content part whys view ≡ part_content part None (view_with (Some bytes) None (Some pair)))
of_pair part of whys view bytes pair item one two = search (arith, cuts)

-- the content is that of the part of the view, with some reason or none
abbrev pub IsContentOf : Part → ShownView → List ℕ → Type 0
IsContentOf part view content = (whys : Option Whys) × (content ≡ part_content part whys view)

-- tags of the log are tags of the station, and were sent by now
abbrev pub AreTagsUpTo : ℕ → StationPlans → List Mark → Type 0
AreTagsUpTo now air sent =
    (slot : ℕ) (pair : PairFields) → IsMarkIn sent slot (Tagged pair) → air.HasTags slot pair × (slot ≤ now)

module _ (law : ARunHasOneSource) (d now : ℕ) (air : StationPlans) (sent : List Mark) (i : Input) (r : List Segment)
    (m : ℕ) (view : ShownView) (upto : AreTagsUpTo now air sent) (spaced : IsSpaced d air.plans.text)
    (shows : ShowsView m i.first i.heard view) where
  was_with : (x : List ℕ) (contents : Part → List ℕ) → IsContentOf Text view x
      → ((part : Part) → IsOfPair part → IsContentOf part view (contents part))
      → ShowsNoTags view ⊎ ShowsTagsOf d air.plans.text sent i r view
      → (was : IfSome view.text (RunWasOnAir d now air.plans.text i r)) (k : ℕ)
      → IsNumberOf d now air.plans.text i r view.text was k
      → ((part : Part) → IsOfPair part → contents part ≡ codes " none") ⊎ WentWith d now air x contents k
  was_with x contents ex ey (inl none) was k number = grind arith
  was_with x contents ex ey (inr tags) was k number = by view.text refl was number
    where
      by : (o : Option (List ℕ)) → view.text ≡ o → (was : IfSome o (RunWasOnAir d now air.plans.text i r))
          → IsNumberOf d now air.plans.text i r o was k
          → ((part : Part) → IsOfPair part → contents part ≡ codes " none") ⊎ WentWith d now air x contents k
      by None text was number =
          inl (λ part of.
          (ey part of).1 ∙ none_without part of (ey part of).0 view (pair_held m i.first i.heard)
          text shows.item shows.one shows.two)
      by (Some a) text was number =
          let same = law d air.plans.text i r was.number tags.number was.broadcast tags.broadcast spaced was.source
          tags.source in
          let bytes : tags.broadcast.bytes ≡ a = ap (λ (b : Broadcast). b.bytes) (sym same.1) ∙ was.bytes in
          let went = upto tags.slot tags.pair tags.tagged in
          let went_with : WentWith d now air x contents tags.number = record {
            on_air = record {
              broadcast = tags.broadcast;
              planned = tags.source.planned;
              says = ex.1 ∙ ap (text_content (why_text ex.0)) (text ∙ ap Some (sym bytes));
              slot = was.slot;
              covers = subst (λ (b : Broadcast). Covers b was.slot) same.1 was.covers;
              past = was.past;
              recent = was.recent;
            };
            pair = tags.pair;
            slot = tags.slot;
            went = went.0;
            lasted = tags.lasted;
            to = tags.to;
            by_now = went.1;
            cut = λ part of.
                elim (of_pair part of (ey part of).0 view tags.broadcast.bytes tags.pair tags.item tags.one tags.two) [
                  | inl none ↦ inl ((ey part of).1 ∙ none)
                  | inr cut ↦ inr ((ey part of).1 ∙ cut)
                ];
          } in
          inr (subst (λ (n : ℕ). WentWith d now air x contents n) (sym (number ∙ same.0)) went_with)

  -- a receiver shows a text that was on air, and what went with it
  shows_text : (Shown : Part → List ℕ → Type 0)
      → ((part : Part) (x : List ℕ) → Shown part x → IsContentOf part view x)
      → ShowsNoTags view ⊎ ShowsTagsOf d air.plans.text sent i r view
      → (was : IfSome view.text (RunWasOnAir d now air.plans.text i r)) (k : ℕ)
      → IsNumberOf d now air.plans.text i r view.text was k → ShowsText d now air Shown k
  shows_text Shown is tags was k number = search (arith, nothing_or_on_air, was_with)

-- two receivers whose views are safe show what is safe
pub shown_safely : ARunHasOneSource
    → (d m now : ℕ) (air : StationPlans) (messages : List (Option Message)) (r s : Listener)
    (One Other : Part → List ℕ → Type 0) → AreTagsUpTo now air (marks text_mark messages) → IsSpaced d air.plans.text
    → AreSafeViews d m now air.plans messages (r ∷ s ∷ []) → ShowsView m r.input.first r.input.heard r.view
    → ShowsView m s.input.first s.input.heard s.view
    → ((part : Part) (x : List ℕ) → One part x → IsContentOf part r.view x)
    → ((part : Part) (x : List ℕ) → Other part x → IsContentOf part s.view x)
    → AreSafe d now air One Other
shown_safely source d m now air messages r s P Q upto spaced views shows shown one other =
    let near : AreNeighbours m air.plans r s =
    All-head (AreNeighbours m air.plans r) s []
    (All-tail (AreNeighbours m air.plans r) r (s ∷ [])
    (All-head (λ x. All (AreNeighbours m air.plans x) (r ∷ s ∷ [])) r (s ∷ []) views.neighbours)) in
    let text = ShowsTextOnAir d m now air.plans in
    let name = ShowsNameOnAir d m now air.plans in
    let tags = ShowsTagsOfItsText d m air.plans messages in
    let sent = marks text_mark messages in
    let r_text = All-head text r (s ∷ []) views.texts in
    let s_text = All-head text s [] (All-tail text r (s ∷ []) views.texts) in
    let r_name = All-head name r (s ∷ []) views.names in
    let s_name = All-head name s [] (All-tail name r (s ∷ []) views.names) in
    record {
      texts = neighbours d now air.plans.text r.input s.input (text_run m r.input)
          (text_run m s.input) r.view.text s.view.text (ShowsText d now air P)
          (ShowsText d now air Q) r_text s_text near.texts
          (shows_text source d now air sent r.input (text_run m r.input) m r.view upto spaced shows P one
          (All-head tags r (s ∷ []) views.tags) r_text)
          (shows_text source d now air sent s.input (text_run m s.input) m s.view upto spaced shown Q other
          (All-head tags s [] (All-tail tags r (s ∷ []) views.tags)) s_text);
      names = neighbours d now air.plans.name r.input s.input (name_run m r.input)
          (name_run m s.input) r.view.name s.view.name
          (ShowsBroadcast d now air.plans.name (P Name)) (ShowsBroadcast d now air.plans.name (Q Name)) r_name s_name
          near.names
          (λ k number x sh. nothing_or_on_air d now air.plans.name r.input (name_run m r.input) r.view.name r_name k
          number x (why_name (one Name x sh).0) (one Name x sh).1)
          (λ k number x sh. nothing_or_on_air d now air.plans.name s.input (name_run m s.input) s.view.name s_name k
          number x (why_name (other Name x sh).0) (other Name x sh).1);
    }

-- ---- each part of an output has a newest line up to a slot, or none

-- a part that did not change has no line
no_line : (n v : ℕ) (before : ShownView) (now : Display) (p q : Part) (other : List ℕ) (rest : List Line) → v < 2 ^ 64
    → n < 2 ^ 64 → is_same_part p before now.view ≡ true → In (line_in v p other) (with_body n before now q rest)
    → In (line_in v p other) rest
no_line n v before now p q other rest small less same is = grind (arith, in_body, same_line)

no_line_in : (n v : ℕ) (before : ShownView) (now : Display) (p : Part) (other : List ℕ) (rest : List Line) → v < 2 ^ 64
    → n < 2 ^ 64 → is_same_part p before now.view ≡ true → In (line_in v p other) (with_slot n before now rest)
    → In (line_in v p other) rest
no_line_in n v before now p other rest small less same is =
    no_line n v before now p Text other rest small less same
    (no_line n v before now p Name other _ small less same
    (no_line n v before now p Item other _ small less same
    (no_line n v before now p Tag1 other _ small less same (no_line n v before now p Tag2 other _ small less same is))))

-- in this slot is the newest line of the part up to slot u, with this content
abbrev pub HasNewest : List Display → Part → List ℕ → ℕ → Type 0
HasNewest displays p content u =
    (s : ℕ) × (s ≤ u) × In (line_in s p content) (lines_of displays)
    × ((v : ℕ) (other : List ℕ) → s < v → v ≤ u → In (line_in v p other) (lines_of displays) → ⊥)

abbrev NewestOrNone : List Display → Part → ℕ → Type 0
NewestOrNone displays p u = ((content : List ℕ) × HasNewest displays p content u) ⊎ NoneUpTo displays p u

-- after one more slot, if it has no line of the part up to slot u
more_slots : (x : Display) (older : List Display) (p : Part) (n u : ℕ) → n ≤ u
    → ((v : ℕ) (other : List ℕ) → v ≤ u → In (line_in v p other) (lines_of (x ∷ older))
    → (v ≤ n) × In (line_in v p other) (lines_of older)) → NewestOrNone older p n → NewestOrNone (x ∷ older) p u
more_slots x older p n u upto back (inl (content, (s, past, line, none))) = inl (
  content,
  (
    s,
    omega (arith, past, upto),
    in_older (line_in s p content) (length older) (newest older) x (lines_of older) line,
    λ v other after below is. (let it = back v other below is in none v other after it.0 it.1),
  ),
)
more_slots x older p n u upto back (inr none) =
    inr (λ v other below is. (let it = back v other below is in none v other it.0 it.1))

at_top : (x : Display) (older : List Display) (p : Part) (u : ℕ) → u ≡ length older → length (x ∷ older) < 2 ^ 64
    → ((n : ℕ) → suc n ≡ length older → NewestOrNone older p n) → (same : Bool)
    → is_same_part p (newest older) x.view ≡ same → NewestOrNone (x ∷ older) p u
at_top x older p u at few before false same = inl (
  part_content p x.whys x.view,
  (
    u,
    omega arith,
    subst (λ n. In (line_in n p (part_content p x.whys x.view)) (lines_of (x ∷ older))) (sym at)
        (in_slot p (length older) (newest older) x (lines_of older) same),
    λ v other after upto line. omega (arith, after, upto),
  ),
)
at_top x [] p u at few before true same =
    inr (λ v other upto line. no_line_in 0 v nothing_shown x p other [] (omega (arith, upto, at)) (omega arith) same line)
at_top x (y ∷ more) p u at few before true same =
    more_slots x (y ∷ more) p (length more) u (omega (arith, at))
    (λ v other upto line.
    let earlier = no_line_in (length (y ∷ more)) v y.view x p other (lines_of (y ∷ more))
    (omega (arith, upto, at, few)) (omega (arith, few)) same line in
    let shows = line_shows (y ∷ more) v p other (omega (arith, upto, at, few)) (omega (arith, few)) earlier in
    (omega (arith, before_end 0 (y ∷ more) v shows.0 shows.1), earlier)) (before (length more) (omega arith))

-- each part has a newest line up to a slot, or no line
newest_or_none : (displays : List Display) (p : Part) (u : ℕ) (d : Display) → HasEntry 0 displays u d
    → length displays < 2 ^ 64 → NewestOrNone displays p u
newest_or_none [] p u d at few = absurd at
newest_or_none (x ∷ older) p u d (inr there) few =
    let below = before_end 0 older u d there in
    more_slots x older p u u (omega arith)
    (λ v other upto line. elim (of_slot (length older) v (newest older) x p other (lines_of older)
    (omega (arith, upto, below, few)) (omega (arith, few)) line) [
      | inl here ↦ absurd (omega (arith, here.slot, upto, below))
      | inr earlier ↦ (upto, earlier)
    ]) (newest_or_none older p u d there (omega (arith, few)))
newest_or_none (x ∷ []) p u d (inl here) few =
    at_top x [] p u (omega (arith, here.0)) few (λ n next. absurd (omega (arith, next)))
    (is_same_part p nothing_shown x.view) refl
newest_or_none (x ∷ y ∷ more) p u d (inl here) few =
    at_top x (y ∷ more) p u (omega (arith, here.0)) few
    (λ n next. newest_or_none (y ∷ more) p n y (inl (omega (arith, next), refl)) (omega (arith, few)))
    (is_same_part p y.view x.view) refl

-- what the display of a slot shows has a newest line
pub newest_line : (displays : List Display) (p : Part) (content : List ℕ) (u : ℕ) (d : Display) → HasEntry 0 displays u d
    → length displays < 2 ^ 64 → ((whys : Option Whys) → part_content p whys d.view ≡ content)
    → content ≢ none_content None → HasNewest displays p content u
newest_line displays p content u d at few is some = elim (newest_or_none displays p u d at few) [
  | inl (other, (s, past, line, none)) ↦
      let below = before_end 0 displays u d at in
      let e = line_shows displays s p other (omega (arith, past, below, few)) few line in
      let same : other ≡ content = e.2 ∙ sym (stays displays p e.0.whys s u e.0 d past e.1 at none) ∙ is e.0.whys in
      subst (λ c. HasNewest displays p c u) same (s, past, line, none)
  | inr none ↦ absurd (some (sym (is None) ∙ unshown displays p u d at none))
]

-- in each slot, each part shows some content
pub shows_some : (displays : List Display) (output : List ℕ) → output ≡ changes_of displays → (p : Part) (u : ℕ)
    (d : Display) → HasEntry 0 displays u d → length displays < 2 ^ 64 → (content : List ℕ) × Shows output u p content
    × (HasNewest displays p content u ⊎ (content ≡ none_content None))
shows_some displays output is p u d at few = elim (newest_or_none displays p u d at few) [
  | inl (content, (s, past, line, none)) ↦ (
    content,
    inl record {
      lines = lines_of displays;
      are = are_lines displays output is;
      slot = s;
      past = past;
      line = contains_from_in (line_in s p content) (lines_of displays) line;
      newest = λ v other after upto has. none v other after upto
          (in_from_contains (line_in v p other) (lines_of displays) has);
    },
    inl (s, past, line, none),
  )
  | inr none ↦ (
    none_content None,
    inr (
      record {
        lines = lines_of displays;
        are = are_lines displays output is;
        none = λ v other upto has. none v other upto (in_from_contains (line_in v p other) (lines_of displays) has);
      },
      refl,
    ),
    inr refl,
  )
]
