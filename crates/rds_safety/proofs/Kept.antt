-- Lemmas: what a display keeps was safe, and was on air a little longer ago.
use Rattle.std.proofs.Common.{◌≡◌, ◌∙◌, ◌+◌, ◌≤◌, ◌<◌, ◌++◌, ℕ, List, [], ◌∷◌, Option, Some, None, IfSome, length, map}
use Rattle.std.proofs.Common.{ap, arith, refl, subst, suc, sym}
use Rattle.std.proofs.lemmas.List.{length-append}
use Rattle.std.proofs.lemmas.List.Elements.{All-cons, All-head, All-nil}
use Rattle.rds_fields.specs.declared.message.Message.{Message}
use Rattle.rds_encoder.specs.Plan.{Broadcast}
use Rattle.rds_receiver.specs.Kept.{Moment, Showing, WasShown, beside, kept, name_moment, text_moment, with_text}
use Rattle.rds_receiver.specs.KeptLemmas.{kept_was_shown}
use Rattle.rds_receiver.specs.Receipts.{Segment}
use Rattle.rds_receiver.specs.Shown.{ShownView}
use Rattle.rds_safety.specs.Kept.{HasTextOf, IsKeptSafely, ListensFrom, WasOnAir, WasSafe, WhatIsKeptWasSafe}
use Rattle.rds_safety.specs.Kept.{displayed_by, showing_of}
use Rattle.rds_safety.specs.Late.{Input}
use Rattle.rds_safety.specs.Lawful.{Kind}
use Rattle.rds_safety.specs.Laws.{LawfulPlansAreSafeAs}
use Rattle.rds_safety.specs.Plans.{AreLawfulAs, Plans}
use Rattle.rds_safety.specs.Safe.{AreSafeViews, Listener, ListensTo, RunWasOnAir, ShowsNameOnAir, ShowsTextOnAir}
use Rattle.rds_safety.specs.Source.{name_run, text_run}

-- the slot that ended so
record SlotOf {X : Type 0} (m : ℕ) (f : Showing → Moment X) (slots : List Listener) (n : ℕ) (end : Moment X) : Type 0
  where
    since : List Listener
    at : Listener
    before : List Listener
    all : slots ≡ since ++ at ∷ before
    few : length since ≡ n
    is : f (showing_of m at) ≡ end

slot_of : {X : Type 0} (m : ℕ) (f : Showing → Moment X) (slots : List Listener) (since : List (Moment X))
    (end : Moment X) (before : List (Moment X)) → map f (map (showing_of m) slots) ≡ since ++ end ∷ before
    → SlotOf m f slots (length since) end
slot_of m f [] [] end before e = absurd (cc)
slot_of m f [] (x ∷ since) end before e = absurd (cc)
slot_of m f (r ∷ older) [] end before e =
    record { since = []; at = r; before = older; all = refl; few = refl; is = (cc) }
slot_of m f (r ∷ older) (x ∷ since) end before e =
    let found = slot_of m f older since end before (cc) in
    record {
      since = r ∷ found.since;
      at = found.at;
      before = found.before;
      all = ap (λ l. r ∷ l) found.all;
      few = omega (arith, found.few);
      is = found.is;
    }

-- a receiver that listens in all slots listens in each
listens_at : (k m : ℕ) (log : List (Option Message)) (since : List Listener) (at : Listener) (before : List Listener)
    → ListensFrom k m log (since ++ at ∷ before) → ListensTo k m (length before) log at
listens_at k m log [] at before listens = listens.0
listens_at k m log (r ∷ since) at before listens = listens_at k m log since at before listens.1

-- what was on air within d slots up to a slot was so within d + n up to one at most n slots later
later : (d n slot t : ℕ) (plan : List Broadcast) (input : Input) (the_run : List Segment) (value : List ℕ)
    → slot ≤ t → t ≤ slot + n → RunWasOnAir d slot plan input the_run value → WasOnAir (d + n) t plan value
later d n slot t plan input the_run value past recent was = record {
  number = was.number;
  broadcast = was.broadcast;
  planned = was.source.planned;
  bytes = was.bytes;
  slot = was.slot;
  covers = was.covers;
  past = omega (arith, past, was.past);
  recent = omega (arith, recent, was.recent);
}

-- the slot in which the view was safe is at most n before the newest
slots_since : (since before : List Listener) (at : Listener) (slots : List Listener) (n t : ℕ)
    → slots ≡ since ++ at ∷ before → length since ≤ n → length slots ≡ t + 1
    → (length before ≤ t) × (t ≤ length before + n)
slots_since since before at slots n t all few count =
    let longer : length slots ≡ length since + suc (length before) = ap length all ∙ length-append since (at ∷ before) in
    (omega (arith, longer, count), omega (arith, longer, few, count))

module _ (kind : Kind) (law : LawfulPlansAreSafeAs kind) (k m n : ℕ) (plans : Plans) (log : List (Option Message))
    (lawful : AreLawfulAs kind (m + k) plans log) (slots : List Listener) (listens : ListensFrom k m log slots) where
  -- the slot in which a value was shown is safe
  was_safe : {X : Type 0} (f : Showing → Moment X) (x : X) (Showed : ShownView → Type 0)
      → ((r : Listener) → (f (showing_of m r)).shown ≡ Some x → Showed r.view)
      → kept n (map f (map (showing_of m) slots)) ≡ Some x → WasSafe (m + k) m n plans log slots Showed
  was_safe {X} f x Showed shows is =
      let was = kept_was_shown n (map f (map (showing_of m) slots)) x is in
      let found = slot_of m f slots was.since was.moment was.before was.all in
      let listened = listens_at k m log found.since found.at found.before
      (subst (ListensFrom k m log) found.all listens) in
      record {
        since = found.since;
        at = found.at;
        before = found.before;
        all = found.all;
        few = omega (arith, found.few, was.few);
        showed = shows found.at (ap (λ (o : Moment X). o.shown) found.is ∙ was.shows);
        safe = law m k (length found.before) plans log (found.at ∷ []) lawful
            (All-cons (ListensTo k m (length found.before) log) found.at [] listened
            (All-nil (ListensTo k m (length found.before) log)));
      }

  text_shown : (kept_text : Option ShownView) (name : Option (List ℕ)) (x : List ℕ)
      → kept n (map text_moment (map (showing_of m) slots)) ≡ kept_text → (beside kept_text name).text ≡ Some x
      → WasSafe (m + k) m n plans log slots (HasTextOf (beside kept_text name) x)
  text_shown None name x is shown = absurd (cc)
  text_shown (Some view) name x is shown =
      was_safe text_moment view (HasTextOf (beside (Some view) name) x) (λ r shows. of_view r.view shows) is
    where
      of_view : (v : ShownView) → with_text v ≡ Some view → HasTextOf (beside (Some view) name) x v
      of_view v shows =
          let same : v ≡ view = grind (arith) in
          record { text = (cc); item = (cc); one = (cc); two = (cc) }

  text_was : (x : List ℕ) → (displayed_by m n slots).text ≡ Some x
      → WasSafe (m + k) m n plans log slots (HasTextOf (displayed_by m n slots) x)
  text_was x shown = text_shown (kept n (map text_moment (map (showing_of m) slots)))
      (kept n (map name_moment (map (showing_of m) slots))) x refl shown

  name_of : (kept_text : Option ShownView) (name : Option (List ℕ)) → (beside kept_text name).name ≡ name
  name_of None name = refl
  name_of (Some view) name = refl

  name_was : (x : List ℕ) → (displayed_by m n slots).name ≡ Some x
      → WasSafe (m + k) m n plans log slots (λ v. v.name ≡ Some x)
  name_was x shown = was_safe name_moment x (λ v. v.name ≡ Some x) (λ r shows. shows)
      (sym (name_of (kept n (map text_moment (map (showing_of m) slots)))
      (kept n (map name_moment (map (showing_of m) slots)))) ∙ shown)

  on_air : (t : ℕ) (plan : List Broadcast) (Showed : ShownView → Type 0) (x : List ℕ)
      (run_of : Listener → List Segment) → length slots ≡ t + 1 → (was : WasSafe (m + k) m n plans log slots Showed)
      → RunWasOnAir (m + k) (length was.before) plan was.at.input (run_of was.at) x → WasOnAir (m + k + n) t plan x
  on_air t plan Showed x run_of count was is =
      let (past, recent) = slots_since was.since was.before was.at slots n t was.all was.few count in
      later (m + k) n (length was.before) t plan was.at.input (run_of was.at) x past recent is

  text_on_air : (t : ℕ) (x : List ℕ) → length slots ≡ t + 1 → (displayed_by m n slots).text ≡ Some x
      → WasOnAir (m + k + n) t plans.text x
  text_on_air t x count shown =
      let was = text_was x shown in
      let first = All-head (ShowsTextOnAir (m + k) m (length was.before) plans) was.at [] was.safe.texts in
      on_air t plans.text (HasTextOf (displayed_by m n slots) x) x (λ r. text_run m r.input) count was
      (rw was.showed.text at first)

  name_on_air : (t : ℕ) (x : List ℕ) → length slots ≡ t + 1 → (displayed_by m n slots).name ≡ Some x
      → WasOnAir (m + k + n) t plans.name x
  name_on_air t x count shown =
      let was = name_was x shown in
      let first = All-head (ShowsNameOnAir (m + k) m (length was.before) plans) was.at [] was.safe.names in
      on_air t plans.name (λ v. v.name ≡ Some x) x (λ r. name_run m r.input) count was (rw was.showed at first)

pub kept_was_safe : (kind : Kind) → LawfulPlansAreSafeAs kind → WhatIsKeptWasSafe kind
kept_was_safe kind law k m n plans log slots lawful listens = record {
  text = text_was kind law k m n plans log lawful slots listens;
  name = name_was kind law k m n plans log lawful slots listens;
  text_on_air = text_on_air kind law k m n plans log lawful slots listens;
  name_on_air = name_on_air kind law k m n plans log lawful slots listens;
}
