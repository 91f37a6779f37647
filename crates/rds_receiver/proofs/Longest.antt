-- Lemmas: the run is the longest last part that is chained.
use Rattle.std.proofs.Common.{◌≡◌, ◌+◌, ◌<◌, ◌≤◌, ◌++◌, ℕ, Bool, true, false, List, [], ◌∷◌, length, refl, ap, arith}
use Rattle.std.proofs.Common.{if◌then◌else◌, All}
use Rattle.std.proofs.lemmas.List.Elements.{All-cons, All-head, All-nil, All-tail}
use Rattle.rds_receiver.specs.Receipts.{Segment}
use Rattle.rds_receiver.specs.Run.{run, run_before}
use Rattle.rds_receiver.specs.Chained.{IsChained}
use Rattle.rds_receiver.proofs.Runs.{run_over, run_recent}

-- these segments, from the newest on, belong to the run of a segment with flag f that came in slot s
abbrev GoOn : ℕ → Bool → ℕ → List Segment → Type 0
GoOn m f s [] = Unit {0}
GoOn m f s (g ∷ older) = (g.fragment.flag ≡ f) × (s < g.slot + m) × GoOn m f g.slot older

-- the part of a run before a segment belongs to it
before_goes_on : (m s : ℕ) (f : Bool) (segs : List Segment) → GoOn m f s (run_before m f s segs)
before_goes_on m s f [] = tt
before_goes_on m s f (g ∷ older) = grind (arith, before_goes_on m g.slot f older)

flags_of : (m s : ℕ) (f : Bool) (segs : List Segment) → GoOn m f s segs → All (λ g. g.fragment.flag ≡ f) segs
flags_of m s f [] go = All-nil (λ g. g.fragment.flag ≡ f)
flags_of m s f (g ∷ older) go = All-cons (λ g. g.fragment.flag ≡ f) g older go.0 (flags_of m g.slot f older go.2)

near_of : (m s : ℕ) (f : Bool) (segs newer older : List Segment) (g h : Segment) → GoOn m f s segs
    → segs ≡ newer ++ g ∷ h ∷ older → g.slot < h.slot + m
near_of m s f [] [] older g h go e = absurd (cc)
near_of m s f [] (n ∷ newer) older g h go e = absurd (cc)
near_of m s f (x ∷ []) [] older g h go e = absurd (grind arith)
near_of m s f (x ∷ y ∷ rest) [] older g h go e = grind arith
near_of m s f (x ∷ rest) (n ∷ newer) older g h go e = near_of m x.slot f rest newer older g h go.2 (cc)

none_chained : (m t : ℕ) → IsChained m t []
none_chained m t = record {
  flag = false;
  one_flag = All-nil (λ g. g.fragment.flag ≡ false);
  near = λ newer older g h e. near_of m t false [] newer older g h tt e;
  recent = λ g older e. absurd (cc);
}

goes_on_chained : (m t : ℕ) (g : Segment) (older : List Segment) → t < g.slot + m → GoOn m g.fragment.flag g.slot older
    → IsChained m t (g ∷ older)
goes_on_chained m t g older h go = record {
  flag = g.fragment.flag;
  one_flag = search (arith, flags_of);
  near = λ newer rest a b e. near_of m t g.fragment.flag (g ∷ older) newer rest a b (refl, h, go) e;
  recent = λ a rest e.
      search arith;
}

-- the run is chained
pub run_chained : (m t : ℕ) (segs : List Segment) → IsChained m t (run m t segs)
run_chained m t segs = grind (arith, none_chained, run_recent, goes_on_chained, before_goes_on, run_over)

part_if : (b : Bool) (g : Segment) (rest front : List Segment) → ((older : List Segment) × (rest ≡ front ++ older))
    → (older : List Segment) × (g ∷ rest ≡ (if b then g ∷ front else []) ++ older)
part_if true g rest front (older, e) = (older, rw e)
part_if false g rest front (older, e) = (g ∷ rest, refl)

before_last : (m s : ℕ) (f : Bool) (segs : List Segment)
    → (older : List Segment) × (segs ≡ run_before m f s segs ++ older)
before_last m s f [] = ([], refl)
before_last m s f (g ∷ rest) = grind (arith, before_last m g.slot f rest, part_if)

-- the run is a last part of the segments
pub run_last : (m t : ℕ) (segs : List Segment) → (older : List Segment) × (segs ≡ run m t segs ++ older)
run_last m t [] = ([], refl)
run_last m t (g ∷ rest) = search (arith, part_if, before_last)

-- the segments before the newest one of a chain belong to its run
go_of : (m : ℕ) (f : Bool) (g : Segment) (rest : List Segment) → All (λ x. x.fragment.flag ≡ f) rest
    → ((newer older : List Segment) (a b : Segment) → g ∷ rest ≡ newer ++ a ∷ b ∷ older → a.slot < b.slot + m)
    → GoOn m f g.slot rest
go_of m f g [] flags near = tt
go_of m f g (h ∷ rest) flags near = (
  All-head (λ x. x.fragment.flag ≡ f) h rest flags,
  near [] rest g h refl,
  go_of m f h rest (All-tail (λ x. x.fragment.flag ≡ f) h rest flags) (λ newer older a b e. near (g ∷ newer) older a b
      (ap (λ (xs : List Segment). g ∷ xs) e)),
)

before_longest : (m s : ℕ) (f : Bool) (front older : List Segment) → GoOn m f s front
    → length front ≤ length (run_before m f s (front ++ older))
before_longest m s f [] older go = omega arith
before_longest m s f (g ∷ front) older go = grind (arith, before_longest m g.slot f front older go.2)

-- no chained last part is longer than the run
pub run_longest : (m t : ℕ) (front older : List Segment) → IsChained m t front
    → length front ≤ length (run m t (front ++ older))
run_longest m t [] older chain = omega arith
run_longest m t (g ∷ front) older chain =
    let flag : g.fragment.flag ≡ chain.flag = All-head (λ x. x.fragment.flag ≡ chain.flag) g front chain.one_flag in
    let go = go_of m chain.flag g front (All-tail (λ x. x.fragment.flag ≡ chain.flag) g front chain.one_flag) chain.near
    in
    search (arith, before_longest, run_recent)
