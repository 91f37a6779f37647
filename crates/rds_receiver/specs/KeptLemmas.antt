-- Lemmas: what a display keeps was shown, at most as many slots ago as it keeps. So it has what each value shown has.
use Rattle.std.proofs.Common.{◌≡◌, ◌≤◌, ℕ, suc, false, List, [], ◌∷◌, Option, Some, None}
use Rattle.std.proofs.Common.{is_some, refl, ap, arith}
use Rattle.std.proofs.lemmas.Bool.Decides.{nat_tests}
use Rattle.std.proofs.lemmas.List.Elements.{All-cons, All-nil}
use Rattle.rds_receiver.specs.Kept.{Last, Moment, WasShown, is_recent, kept, last, last_after, or_before}

-- shown in this slot
shown_now : {X : Type 0} (n : ℕ) (now : Moment X) (before : List (Moment X)) (x : X) → now.shown ≡ Some x
    → WasShown n (now ∷ before) x
shown_now n now before x e = record {
  since = [];
  moment = now;
  before = before;
  all = refl;
  few = omega arith;
  shows = e;
  nothing = All-nil (λ later. later.shown ≡ None);
}

-- shown before it
shown_before : {X : Type 0} (n : ℕ) (now : Moment X) (before : List (Moment X)) (x : X) → now.shown ≡ None
    → WasShown n before x → WasShown (suc n) (now ∷ before) x
shown_before n now before x none was = record {
  since = now ∷ was.since;
  moment = was.moment;
  before = was.before;
  all = ap (λ l. now ∷ l) was.all;
  few = omega (arith, was.few);
  shows = was.shows;
  nothing = All-cons (λ later. later.shown ≡ None) now was.since none was.nothing;
}

shown_within : {X : Type 0} (a n : ℕ) (moments : List (Moment X)) (x : X) → a ≤ n → WasShown a moments x
    → WasShown n moments x
shown_within a n moments x less was = record {
  since = was.since;
  moment = was.moment;
  before = was.before;
  all = was.all;
  few = omega (arith, was.few, less);
  shows = was.shows;
  nothing = was.nothing;
}

-- the last value is as old as the slots since it was shown
was_at : {X : Type 0} (n : ℕ) (moments : List (Moment X)) (x : X) (l : Last) → kept n moments ≡ Some x
    → last moments ≡ Some l → WasShown l.age moments x
was_at n [] x l is at = absurd (cc)
was_at {X} n (now ∷ before) x l is at = by (was_at n before x) now.shown refl is at
  where
    older : ((k : Last) → kept n before ≡ Some x → last before ≡ Some k → WasShown k.age before x)
        → (o : Option Last) → now.shown ≡ None → last before ≡ o → last_after false now.flag o ≡ Some l
        → or_before None (is_recent n (last_after false now.flag o)) (kept n before) ≡ Some x
        → WasShown l.age (now ∷ before) x
    older was None none e at is = absurd (cc)
    older was (Some k) none e at is =
        let age : l.age ≡ suc k.age = grind (arith) in
        rw age (shown_before k.age now before x none (was k (grind (arith)) e))

    by : ((k : Last) → kept n before ≡ Some x → last before ≡ Some k → WasShown k.age before x)
        → (shown : Option X) → now.shown ≡ shown
        → or_before shown (is_recent n (last_after (is_some shown) now.flag (last before))) (kept n before) ≡ Some x
        → last_after (is_some shown) now.flag (last before) ≡ Some l → WasShown l.age (now ∷ before) x
    by was (Some y) e is at = shown_now l.age now before x (grind (arith))
    by was None e is at = older was (last before) e refl at is

-- what is kept was shown
pub kept_was_shown : {X : Type 0} (n : ℕ) (moments : List (Moment X)) (x : X) → kept n moments ≡ Some x
    → WasShown n moments x
kept_was_shown n [] x is = absurd (cc)
kept_was_shown {X} n (now ∷ before) x is = by now.shown refl is
  where
    recent : (o : Option Last) → last (now ∷ before) ≡ o → now.shown ≡ None
        → or_before None (is_recent n o) (kept n before) ≡ Some x → WasShown n (now ∷ before) x
    recent None e none is = absurd (cc)
    recent (Some l) e none is =
        let less : l.age ≤ n = grind (arith, nat_tests) in
        shown_within l.age n (now ∷ before) x less (was_at n (now ∷ before) x l (grind (arith)) e)

    by : (shown : Option X) → now.shown ≡ shown
        → or_before shown (is_recent n (last_after (is_some shown) now.flag (last before))) (kept n before) ≡ Some x
        → WasShown n (now ∷ before) x
    by (Some y) e is = shown_now n now before x (grind (arith))
    by None e is = recent (last_after false now.flag (last before)) (grind (arith)) e is

-- a display that keeps for no slot shows what its receiver shows
pub none_is_kept : {X : Type 0} (now : Moment X) (before : List (Moment X)) → kept 0 (now ∷ before) ≡ now.shown
none_is_kept {X} now before = by now.shown (last before)
  where
    by : (shown : Option X) (o : Option Last)
        → or_before shown (is_recent 0 (last_after (is_some shown) now.flag o)) (kept 0 before) ≡ shown
    by (Some x) o = refl
    by None None = refl
    by None (Some l) = grind (arith, nat_tests)

-- it hides nothing that its receiver shows
pub kept_shows_now : {X : Type 0} (n : ℕ) (now : Moment X) (before : List (Moment X)) (x : X) → now.shown ≡ Some x
    → kept n (now ∷ before) ≡ Some x
kept_shows_now n now before x e = grind (arith)

-- one that keeps for longer shows all of it
pub kept_longer : {X : Type 0} (n : ℕ) (moments : List (Moment X)) (x : X) → kept n moments ≡ Some x
    → kept (suc n) moments ≡ Some x
kept_longer n [] x e = absurd (cc)
kept_longer n (now ∷ before) x e = grind (arith, nat_tests, kept_longer n before x)
