-- Lemmas: the slots of spans, and the same bytes.
use Rattle.std.proofs.Common.{◌≡◌, ◌⊎◌, List, [], ◌∷◌, inl, inr, sym, subst, ℕ, true, nat_eq, Option, Some, None, refl}
use Rattle.std.proofs.Common.{◌∙◌, arith, ◌<◌, length, get_or, ◌+◌, ◌≤◌, suc, Bool, false, nat_lt}
use Rattle.std.specs.List.{AllByRecursion}
use Rattle.std.proofs.lemmas.Bool.Decides.{eqb_tells}
use Rattle.std.proofs.lemmas.List.{get_or-replicate, get_or-set_other, get_or-set_same, length-set}
use Rattle.rds_receiver.specs.declared.fragment.Fragment.{Fragment}
use Rattle.rds_audit.specs.Lengths.{sent_cells, sent_last, Gauge, changes, same_bytes}
use Rattle.std.proofs.lemmas.Bool.{cond_both, ltb-false}
use Rattle.rds_fields.specs.Tag.{PairFields}
use Rattle.rds_receiver.specs.Run.{is_same}
use Rattle.rds_audit.specs.Listing.{Span, joined, span_with, spans, spans_after, spans_tagged, turned}
use Rattle.rds_audit.specs.Reigns.{Reign, opened_from}
use Rattle.rds_safety.specs.Marks.{Mark}

-- ---- the members of a list

abbrev pub IsIn : {X : Type 0} → X → List X → Type 0
IsIn x [] = ⊥
IsIn x (y ∷ ys) = (x ≡ y) ⊎ IsIn x ys

-- a property of all is one of each member
pub all_in : {X : Type 0} (P : X → Type 0) (x : X) (ys : List X) → AllByRecursion P ys → IsIn x ys → P x
all_in P x [] a i = absurd i
all_in P x (y ∷ ys) a (inl e) = subst P (sym e) a.0
all_in P x (y ∷ ys) a (inr i) = all_in P x ys a.1 i

-- ---- the bytes that fragments have at an address

-- a number equals itself
pub same_number : (n : ℕ) → nat_eq n n ≡ true
same_number n = grind arith

-- the bytes at an address are those of one of the fragments
pub cell_from : (fragments : List Fragment) (a : ℕ) (s : List ℕ) → sent_last a fragments ≡ Some s
    → (p : Fragment) × IsIn p fragments × (p.address ≡ a) × (p.bytes ≡ s)
cell_from [] a s e = absurd (cc)
cell_from (q ∷ older) a s e = grind (arith, cell_from older a s)

-- there is a cell for each address
pub cells_long : (fragments : List Fragment) → length (sent_cells fragments) ≡ 16
cells_long [] = refl
cells_long (p ∷ older) = length-set (sent_cells older) p.address (Some p.bytes) ∙ cells_long older

-- the cell at an address has what was sent last
pub cells_sent : (fragments : List Fragment) (a : ℕ) → a < 16
    → get_or (sent_cells fragments) a None ≡ sent_last a fragments
cells_sent [] a less = get_or-replicate {A = Option (List ℕ)} 16 a None None less
cells_sent (p ∷ older) a less =
    grind (arith, cells_sent older a less, eqb_tells, get_or-set_same, cells_long, get_or-set_other)

-- ---- the slots of spans

-- the slot after the last one of the newest of these spans
abbrev pub after_span : List Span → ℕ
after_span [] = 0
after_span (r ∷ older) = r.reign.last + 1

-- the span started in this slot or later, and ended before now
pub record IsInOrder (from now : ℕ) (r : Reign) : Type 0 where
  pub after : from ≤ r.start
  pub begun : r.start ≤ r.last
  pub over : r.last < now

-- each span started after the one before it
abbrev pub AreInOrder : ℕ → List Span → Type 0
AreInOrder now [] = Unit {0}
AreInOrder now (r ∷ older) = IsInOrder (after_span older) now r.reign × AreInOrder now older

one_later : (from now : ℕ) (r : Reign) → IsInOrder from now r → IsInOrder from (suc now) r
one_later from now r h = record { after = h.after; begun = h.begun; over = omega (arith, h.over) }

all_later : (now : ℕ) (rs : List Span) → AreInOrder now rs → AreInOrder (suc now) rs
all_later now [] h = tt
all_later now (r ∷ older) h = (one_later (after_span older) now r.reign h.0, all_later now older h.1)

first_in_order : (from now start : ℕ) (p : Fragment) → from ≤ start → start ≤ now
    → IsInOrder from (suc now) (opened_from start now p)
first_in_order from now start p after begun = record { after = after; begun = begun; over = omega arith }

-- a span that goes on to this slot
more_in_order : (from now : ℕ) (r more : Reign) → more.start ≡ r.start → more.last ≡ now → IsInOrder from now r
    → IsInOrder from (suc now) more
more_in_order from now r more start last h = grind (arith)

turned_in_order : (d now : ℕ) (p : Fragment) (is_changed : Bool) (r : Span) (older : List Span)
    → AreInOrder now (r ∷ older) → AreInOrder (suc now) (turned d now p is_changed r older)
turned_in_order d now p is_changed r older h = grind (arith, first_in_order, all_later)

goes_on : (now : ℕ) (p : Fragment) (r : Span) (older : List Span) → AreInOrder now (r ∷ older)
    → AreInOrder (suc now) (span_with now p r ∷ older)
goes_on now p r older h = grind (arith, more_in_order, all_later)

joined_in_order : (g : Gauge) (d now : ℕ) (p : Fragment) (r : Span) (older : List Span)
    → AreInOrder now (r ∷ older) → AreInOrder (suc now) (joined g d now p r older)
joined_in_order g d now p r older h =
    cond_both (changes g r.reign.fragments p) _ _ (λ (rs : List Span). AreInOrder (suc now) rs)
    (λ _. turned_in_order d now p true r older h) (λ _. goes_on now p r older h)

after_in_order : (g : Gauge) (d now : ℕ) (p : Fragment) (rs : List Span) → 0 < d → AreInOrder now rs
    → AreInOrder (suc now) (spans_after g d now p rs)
after_in_order g d now p [] pos h = (first_in_order 0 now 0 p (omega arith) (omega arith), tt)
after_in_order g d now p (r ∷ older) pos h =
    cond_both (is_same r.reign.flag p.flag) _ _ (λ (rs : List Span). AreInOrder (suc now) rs)
    (λ _. cond_both (nat_lt now (r.reign.last + d)) _ _ (λ (rs : List Span). AreInOrder (suc now) rs)
    (λ _. joined_in_order g d now p r older h)
    (λ far. (
      first_in_order (r.reign.last + 1) now (r.reign.last + d) p (omega arith) (ltb-false _ _ far),
      all_later now (r ∷ older) h,
    )))
    (λ _. turned_in_order d now p false r older h)

tagged_in_order : (now : ℕ) (pair : PairFields) (rs : List Span) → AreInOrder now rs
    → AreInOrder (suc now) (spans_tagged now pair rs)
tagged_in_order now pair rs h = grind (arith, more_in_order, all_later)

-- each span started after the one before it, and ended before now
pub in_order : (g : Gauge) (d : ℕ) (sent : List Mark) → 0 < d → AreInOrder (length sent) (spans g d sent)
in_order g d [] pos = tt
in_order g d (x ∷ before) pos =
    grind (arith, in_order g d before pos, all_later, after_in_order, tagged_in_order)

-- ---- the same bytes

-- equal bytes pass the test
pub bytes_same : (b c : List ℕ) → b ≡ c → same_bytes b c ≡ true
bytes_same [] [] e = refl
bytes_same [] (c ∷ cs) e = absurd (cc)
bytes_same (b ∷ bs) [] e = absurd (cc)
bytes_same (b ∷ bs) (c ∷ cs) e = grind (arith, bytes_same bs cs, same_number)

-- bytes that pass the test are equal
pub same_bytes_are : (b c : List ℕ) → same_bytes b c ≡ true → b ≡ c
same_bytes_are [] [] e = refl
same_bytes_are [] (c ∷ cs) e = absurd (cc)
same_bytes_are (b ∷ bs) [] e = absurd (cc)
same_bytes_are (b ∷ bs) (c ∷ cs) e = grind (arith, same_bytes_are bs cs)
