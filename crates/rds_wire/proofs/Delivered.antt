-- A log that is made from the arrivals at a receiver, line by line.
use Rattle.std.proofs.Common.{◌≡◌, ◌⊎◌, ◌<◌, ◌≤◌, ◌+◌, ◌==◌, ◌++◌, ◌∷◌, [], ◌∙◌, ℕ, Bool, true, false, List}
use Rattle.std.proofs.Common.{None, Option, Some, All, ap, append-nil, append_assoc, arith, cond, if◌then◌else◌, length, map}
use Rattle.std.proofs.Common.{inl, inr, refl, slice_get, subst, sym, zero, suc}
use Rattle.std.proofs.lemmas.Bool.Decides.{nat_tests}
use Rattle.std.proofs.lemmas.Grind.{reverse_onto}
use Rattle.std.proofs.lemmas.List.{length-append, length-map}
use Rattle.std.proofs.lemmas.List.Elements.{All-cons, All-nil, filter-append}
use Rattle.std.proofs.lemmas.Option.{slice_get-map}
use Rattle.std.specs.Prelude.{◌≢◌, ◌^◌, MatchOption, codes, filter, option_map, reverse}
use Rattle.rds_lines.specs.LogLines.{IsLine, Line, text_of}
use Rattle.rds_wire.specs.Headline.{Reaches, blocks, is_group, is_slot, lines, slots}
use Rattle.rds_wire.proofs.Logs.{feedless}
use Rattle.rds_wire.proofs.Reached.{lines_are}

abbrev pub lost_line : Line
lost_line = codes "---- ---- ---- ----"

-- the lines of the slots of a log
abbrev pub slot_lines : List ℕ → List Line
slot_lines log = filter is_slot (lines log)

-- the line of slot t is a lost one, or that of slot s of the log
abbrev pub IsArrival : ℕ → List ℕ → ℕ → Line → Option ℕ → Type 0
IsArrival k log t line None = line ≡ lost_line
IsArrival k log t line (Some s) = (slice_get (slot_lines log) s ≡ Some line) × (s ≤ t) × (t ≤ s + k)

-- the received log has these lines so far, the newest first, and each came from its origin, before slot `next`
pub record Delivered (k : ℕ) (log got : List ℕ) (next t : ℕ) : Type 0 where
  pub closed : List Line
  pub text : got ≡ text_of closed []
  pub are : All IsLine closed
  pub pieces : List Line
  pub said : slot_lines got ≡ pieces
  pub count : length pieces ≡ t
  pub origin : ℕ → Option ℕ
  pub each : (u : ℕ) (line : Line) → slice_get pieces u ≡ Some line → IsArrival k log u line (origin u)
  pub below : (u r : ℕ) → origin u ≡ Some r → (u < t) × (r < next)
  pub rising : (u v r s : ℕ) → origin u ≡ Some r → origin v ≡ Some s → u < v → r < s

pub none_delivered : (k : ℕ) (log : List ℕ) → Delivered k log [] 0 0
none_delivered k log = record {
  closed = [];
  text = refl;
  are = All-nil IsLine;
  pieces = [];
  said = refl;
  count = refl;
  origin = λ u. None;
  each = λ u line e. absurd (cc);
  below = λ u r e. absurd (cc);
  rising = λ u v r s e. absurd (cc);
}

-- ---- one line more

appended : (closed : List Line) (line : Line) → (text_of closed [] ++ line) ++ 10 ∷ [] ≡ text_of (line ∷ closed) []
appended [] line = refl
appended (l ∷ before) line = ap (λ x. x ++ 10 ∷ []) (append_assoc (text_of before l) (10 ∷ []) line)

-- the lines of the slots of complete lines
said_all : (closed : List Line) → All IsLine closed → slot_lines (text_of closed []) ≡ filter is_slot (reverse closed)
said_all closed all =
    ap (filter is_slot) (lines_are closed [] all (All-nil (λ (b : ℕ). b ≢ 10)) ∙ reverse_onto closed [] [])
    ∙ filter-append is_slot (reverse closed) ([] ∷ []) ∙ append-nil (filter is_slot (reverse closed))

said_more : (closed : List Line) (line : Line) → All IsLine closed → IsLine line → is_slot line ≡ true
    → slot_lines (text_of (line ∷ closed) []) ≡ slot_lines (text_of closed []) ++ line ∷ []
said_more closed line all is slot =
    said_all (line ∷ closed) (All-cons IsLine line closed is all)
    ∙ ap (filter is_slot) (reverse_onto closed line [])
    ∙ filter-append is_slot (reverse closed) (line ∷ [])
    ∙ ap (λ b. filter is_slot (reverse closed) ++ cond b (line ∷ []) []) slot
    ∙ ap (λ l. l ++ line ∷ []) (sym (said_all closed all))

-- an element of a list with one more is of the list, or it is the last
last_or : (pieces : List Line) (line other : Line) (u : ℕ) → slice_get (pieces ++ line ∷ []) u ≡ Some other
    → (slice_get pieces u ≡ Some other) × (u < length pieces) ⊎ (u ≡ length pieces) × (other ≡ line)
last_or [] line other zero e = inr (refl, (cc))
last_or [] line other (suc u) e = absurd (cc)
last_or (p ∷ pieces) line other zero e = inl (e, omega arith)
last_or (p ∷ pieces) line other (suc u) e = elim (last_or pieces line other u e) [
  | inl earlier ↦ inl (earlier.0, omega (arith, earlier.1))
  | inr last ↦ inr (omega (arith, last.0), last.1)
]

-- the slots after an arrival
abbrev pub GoesOn : ℕ → Option ℕ → ℕ → Type 0
GoesOn next None after = after ≡ next
GoesOn next (Some s) after = (next ≤ s) × (after ≡ s + 1)

-- the origins with one more
abbrev origin_at : ℕ → Option ℕ → (ℕ → Option ℕ) → ℕ → Option ℕ
origin_at t came origin u = if u == t then came else origin u

below_at : (t next after : ℕ) (came : Option ℕ) (origin : ℕ → Option ℕ) → GoesOn next came after
    → ((u r : ℕ) → origin u ≡ Some r → (u < t) × (r < next))
    → (u r : ℕ) → origin_at t came origin u ≡ Some r → (u < t + 1) × (r < after)
below_at t next after None origin goes below u r e =
    let was : origin u ≡ Some r = grind (arith, nat_tests) in
    let (past, less) = below u r was in (omega (arith, past), omega (arith, less, goes))
below_at t next after (Some s) origin goes below u r e = by (u == t) refl
  where
    by : (b : Bool) → (u == t) ≡ b → (u < t + 1) × (r < after)
    by true same =
        let here : u ≡ t = grind (arith, nat_tests) in
        let value : s ≡ r = grind (arith) in (omega (arith, here), omega (arith, value, goes.1))
    by false other =
        let was : origin u ≡ Some r = grind (arith) in
        let (past, less) = below u r was in (omega (arith, past), omega (arith, less, goes.0, goes.1))

rising_at : (t next : ℕ) (came : Option ℕ) (origin : ℕ → Option ℕ) → ((s : ℕ) → came ≡ Some s → next ≤ s)
    → ((u r : ℕ) → origin u ≡ Some r → (u < t) × (r < next))
    → ((u v r s : ℕ) → origin u ≡ Some r → origin v ≡ Some s → u < v → r < s)
    → (u v r s : ℕ) → origin_at t came origin u ≡ Some r → origin_at t came origin v ≡ Some s → u < v → r < s
rising_at t next came origin late below rising u v r s p q less = by (u == t) refl (v == t) refl
  where
    by : (a : Bool) → (u == t) ≡ a → (b : Bool) → (v == t) ≡ b → r < s
    by true same true also = absurd (grind (arith, nat_tests))
    by true same false other =
        let here : u ≡ t = grind (arith, nat_tests) in
        let (past, small) = below v s (grind (arith)) in absurd (omega (arith, here, past, less))
    by false other true same =
        let (past, small) = below u r (grind (arith)) in
        let big = late s (grind (arith)) in omega (arith, small, big)
    by false other false also = rising u v r s (grind (arith)) (grind (arith)) less

each_at : (k : ℕ) (log : List ℕ) (pieces : List Line) (line : Line) (came : Option ℕ) (origin : ℕ → Option ℕ)
    → IsArrival k log (length pieces) line came
    → ((u : ℕ) (other : Line) → slice_get pieces u ≡ Some other → IsArrival k log u other (origin u))
    → (u : ℕ) (other : Line) → slice_get (pieces ++ line ∷ []) u ≡ Some other
    → IsArrival k log u other (origin_at (length pieces) came origin u)
each_at k log pieces line came origin is each u other e = elim (last_or pieces line other u e) [
  | inl earlier ↦
      let apart : (u == length pieces) ≡ false = (let less = earlier.1 in grind (arith, nat_tests)) in
      subst (λ b. IsArrival k log u other (if b then came else origin u)) (sym apart) (each u other earlier.0)
  | inr last ↦
      let here : (u == length pieces) ≡ true = (let same = last.0 in grind (arith, nat_tests)) in
      subst (λ b. IsArrival k log u other (if b then came else origin u)) (sym here)
      (rw (last.0, last.1) is)
]

pub deliver : (k : ℕ) (log got : List ℕ) (next t after : ℕ) (line : Line) (came : Option ℕ)
    → Delivered k log got next t → IsLine line → is_slot line ≡ true → IsArrival k log t line came
    → GoesOn next came after → Delivered k log ((got ++ line) ++ 10 ∷ []) after (t + 1)
deliver k log got next t after line came d is slot arrives goes = record {
  closed = line ∷ d.closed;
  text = ap (λ x. (x ++ line) ++ 10 ∷ []) d.text ∙ appended d.closed line;
  are = All-cons IsLine line d.closed is d.are;
  pieces = d.pieces ++ line ∷ [];
  said = ap slot_lines (ap (λ x. (x ++ line) ++ 10 ∷ []) d.text ∙ appended d.closed line)
      ∙ said_more d.closed line d.are is slot
      ∙ ap (λ l. l ++ line ∷ []) (ap slot_lines (sym d.text) ∙ d.said);
  count = omega (arith, length-append d.pieces (line ∷ []), d.count);
  origin = origin_at t came d.origin;
  each = λ u other e. subst (λ n. IsArrival k log u other (origin_at n came d.origin u)) d.count
      (each_at k log d.pieces line came d.origin (subst (λ n. IsArrival k log n line came) (sym d.count) arrives) d.each
      u other e);
  below = below_at t next after came d.origin goes d.below;
  rising = rising_at t next came d.origin (λ s e. later came s e goes) d.below d.rising;
}
  where
    later : (o : Option ℕ) (s : ℕ) → o ≡ Some s → GoesOn next o after → next ≤ s
    later None s e g = absurd (cc)
    later (Some r) s e g = let same : r ≡ s = grind (arith) in omega (arith, same, g.0)

-- ---- what reaches the receiver

-- a lost slot has no group
lost_group : (pi : ℕ) → is_group pi (blocks lost_line) ≡ false
lost_group pi = grind (arith)

piece_of : (pieces : List Line) (u : ℕ) (slot : List ℕ) → slice_get (map blocks pieces) u ≡ Some slot
    → (line : Line) × (slice_get pieces u ≡ Some line) × (blocks line ≡ slot)
piece_of pieces u slot e = by (slice_get pieces u) refl (sym (slice_get-map blocks pieces u) ∙ e)
  where
    by : (o : Option Line) → slice_get pieces u ≡ o → option_map blocks o ≡ Some slot
        → (line : Line) × (slice_get pieces u ≡ Some line) × (blocks line ≡ slot)
    by None is e = absurd (cc)
    by (Some line) is e = (line, is, (cc))

arrived : (pi k : ℕ) (log : List ℕ) (u : ℕ) (line : Line) (came : Option ℕ) → IsArrival k log u line came
    → MatchOption came (is_group pi (blocks line) ≡ false)
    (λ s. (slice_get (slots log) s ≡ Some (blocks line)) × (s ≤ u) × (u ≤ s + k))
arrived pi k log u line None is = rw is (lost_group pi)
arrived pi k log u line (Some s) is =
    (slice_get-map blocks (slot_lines log) s ∙ ap (option_map blocks) is.0, is.1, is.2)

pub delivered_slots : (k : ℕ) (log got : List ℕ) (next t : ℕ) → Delivered k log got next t → length (slots got) ≡ t
delivered_slots k log got next t d = length-map (slot_lines got) blocks ∙ ap length d.said ∙ d.count

pub reaches : (k : ℕ) (log got : List ℕ) (next t pi : ℕ) → Delivered k log got next t → t < 2 ^ 64
    → Reaches pi k log got
reaches k log got next t pi d few = record {
  origin = d.origin;
  each = λ u slot e.
      let (line, is, same) = piece_of d.pieces u slot (ap (λ l. slice_get (map blocks l) u) (sym d.said) ∙ e) in
      subst (λ (x : List ℕ). MatchOption (d.origin u) (is_group pi x ≡ false)
      (λ s. (slice_get (slots log) s ≡ Some x) × (s ≤ u) × (u ≤ s + k))) same
      (arrived pi k log u line (d.origin u) (d.each u line is));
  rising = d.rising;
  few = omega (arith, delivered_slots k log got next t d, few);
}

-- a lost line is a line
pub lost_is_line : IsLine lost_line
lost_is_line = feedless lost_line refl
