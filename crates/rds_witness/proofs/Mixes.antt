-- How lines of mixes go on by the lines of a kind of things.
use Rattle.std.proofs.Common.{[], ◌≡◌, ◌+◌, ◌∷◌, ℕ, List, Option, arith, inl, inr, refl, ◌⊎◌, ◌++◌, ◌<◌, ◌∙◌, None}
use Rattle.std.proofs.Common.{Some, ap, append_assoc, subst, suc, codes, length, sym, ◌≤◌, Bool, false, true, Contains}
use Rattle.std.proofs.Common.{nat_cmp, ◌↔◌, IsTrue, if◌then◌else◌, is_some, nat_le, unwrap_or, bytes_eq}
use Rattle.std.proofs.lemmas.Bool.{cases_lt}
use Rattle.rds_block.specs.declared.group.Group.{Group}
use Rattle.rds_receiver.specs.OneView.{same_view}
use Rattle.rds_receiver.specs.Receipts.{Tuning}
use Rattle.rds_receiver.specs.Shown.{IsView, ShownView}
use Rattle.rds_receiver.specs.ReceiverAt.{ReceiverAt}
use Rattle.rds_receiver.specs.declared.receiver.Receiver.{Receiver}
use Rattle.rds_witness.specs.Lost.{got, got-more, group_left}
use Rattle.rds_witness.specs.Mix.{NeverShows, ViewHas, Thing, AreAround, Has, IsMix, until, Name, Tag, Text}
use Rattle.rds_witness.specs.declared.burst.Burst.{Burst}
use Rattle.std.proofs.lemmas.List.Elements.{All-cons, All-nil}
use Rattle.rds_witness.specs.Lines.{AreMixLines, mix_line, shown_line, mix_lines}
use Rattle.rds_witness.specs.SomeLines.{AreSomeMixLines, kind_of, thing_in}
use Rattle.rds_witness.specs.LossLines.{AreLinesOfSlots, AreLossLines, joined_parts}
use Rattle.std.proofs.lemmas.Map.Text.{is_eq-slice_cmp}
use Rattle.std.proofs.lemmas.Slice.Eq.{bytes_eq-Decides}
use Rattle.std.specs.BTreeMap.{Updates, is_at}
use Rattle.std.specs.Cmp.Lexicographic.{slice_cmp}
use Rattle.std.specs.Map.{lookup}
use Rattle.arrayvec.specs.ArrayVec.{ArrayVec}
use Rattle.rds_fields.specs.declared.pair.Which.TheVariants.{One, Two}
use Rattle.rds_view_lines.specs.Output.{nothing_shown}
use Rattle.rds_witness.specs.Firsts.{AreFirsts, AreFirstsSoFar, IsFirst, IsFirstSoFar, key_of, slot_at}
use Rattle.rds_witness.specs.declared.firsts.Firsts.{Firsts}

-- ---- how receivers of a log go on by a slot

-- what came by one slot more
pub got_next : (lost : List Burst) (log : List (Option Group)) (n : ℕ) (group : Option Group)
    → group ≡ group_left lost log n → got lost log (n + 1) ≡ group ∷ got lost log n
got_next lost log n group same = rw (got-more lost log n, same) refl

-- a receiver stands at one slot more
pub stands_more : (t : Tuning) (r : Receiver) (lost : List Burst) (log : List (Option Group)) (n : ℕ)
    (group : Option Group) → group ≡ group_left lost log n
    → ReceiverAt t r (group ∷ got lost log n) → ReceiverAt t r (got lost log (n + 1))
stands_more t r lost log n group same stands = rw (got_next lost log n group same) stands

-- before slot 0 nothing was shown
pub never_none : (t : Tuning) (log : List (Option Group)) (thing : Thing) → NeverShows t log 0 thing
never_none t log thing slot view less is shown = absurd (omega arith)

-- what was never shown, and is not shown now, is still never shown
pub never_more : (t : Tuning) (log : List (Option Group)) (n : ℕ) (thing : Thing) (view : ShownView)
    → NeverShows t log n thing → IsView t (got [] log (n + 1)) view → (ViewHas view thing → ⊥)
    → NeverShows t log (n + 1) thing
never_more t log n thing view never is not_shown slot other less is_other shown = elim (cases_lt slot n) [
  | inl before ↦ never slot other before is_other shown
  | inr from ↦ (
      let here : slot ≡ n = omega arith in
      let same = same_view t (got [] log (n + 1)) other view (rw here at is_other) is in
      not_shown (rw same at shown))
]

-- ---- things

-- there are four kinds
pub kinds_below : (thing : Thing) → kind_of thing < 4
kinds_below thing = grind (arith)

-- a thing that a view has is the one of its kind
pub in_place : (view : ShownView) (thing : Thing) → Has view thing → thing_in view (kind_of thing) ≡ Some thing
in_place view thing has = grind (arith)

-- the same for a kind that is given
pub of_kind : (view : ShownView) (kind : ℕ) (thing : Thing) → kind_of thing ≡ kind → Has view thing
    → thing_in view kind ≡ Some thing
of_kind view kind thing is has = rw is at (in_place view thing has)

-- a view has one thing of a kind
pub one_thing : (view : ShownView) (a b : Thing) → kind_of a ≡ kind_of b → Has view a → Has view b → a ≡ b
one_thing view a b same p q = grind (arith)

-- what holds of the things of the first kinds and of the thing of the next holds of those of one kind more
pub more_kinds : (Holds : Thing → Type 0) (view : ShownView) (kind : ℕ)
    → ((thing : Thing) → kind_of thing < kind → Has view thing → Holds thing)
    → ((thing : Thing) → thing_in view kind ≡ Some thing → Holds thing)
    → (thing : Thing) → kind_of thing < kind + 1 → Has view thing → Holds thing
more_kinds Holds view kind before next thing below has = grind (arith)

contains_here : (xs : List Thing) (x : Thing) → Contains (x ∷ xs) x
contains_here xs x = (0, omega arith, refl)

contains_more : (xs : List Thing) (y x : Thing) → Contains xs x → Contains (y ∷ xs) x
contains_more xs y x (k, less, is) = (suc k, omega (arith, less), is)

-- ---- lines

module _ (t : Tuning) (ahead : ℕ) (log : List (Option Group)) (lost : List Burst) (words : List ℕ) (slot : ℕ) where
  -- a slot without a mix
  pub no_mixes : ((thing : Thing) → IsMix t ahead log lost slot thing → ⊥) → AreMixLines t ahead log lost words slot []
  no_mixes not = record {
    things = [];
    mixes = All-nil (IsMix t ahead log lost slot);
    all = λ thing is. absurd
        (not thing is);
    are = refl;
  }

  -- no thing of the kind is a mix
  pub adds_none : (n : ℕ) (lines : List ℕ)
      → ((thing : Thing) → kind_of thing ≡ n → IsMix t ahead log lost slot thing → ⊥)
      → AreSomeMixLines n t ahead log lost words slot lines → AreSomeMixLines (n + 1) t ahead log lost words slot lines
  adds_none n lines none had = grind (arith)

  module _ (before after : ShownView) (around : AreAround t log lost slot before after) where
    has_after : (thing : Thing) → IsMix t ahead log lost slot thing → Has after thing
    has_after thing is = subst (λ (v : ShownView). Has v thing) (same_view t (got lost log (slot + 1)) is.new.after
        after is.new.is around.is) is.new.has

    not_before : (thing : Thing) → IsMix t ahead log lost slot thing → ViewHas before thing → ⊥
    not_before thing is = subst (λ (v : ShownView). ViewHas v thing → ⊥) (same_view t (got lost log slot) is.new.before
        before is.new.was around.was) is.new.not_shown

    -- the view has no thing of the kind
    pub adds_nothing : (n : ℕ) (lines : List ℕ) → thing_in after n ≡ None
        → AreSomeMixLines n t ahead log lost words slot lines
        → AreSomeMixLines (n + 1) t ahead log lost words slot lines
    adds_nothing n lines none = adds_none n lines (λ thing kind is.
        let there = of_kind after n thing kind (has_after thing is) in
        absurd (cc))

    -- the thing of the kind is no mix
    pub adds_no_mix : (thing : Thing) (lines : List ℕ) → Has after thing
        → ViewHas before thing ⊎ (NeverShows t log (until ahead log slot) thing → ⊥)
        → AreSomeMixLines (kind_of thing) t ahead log lost words slot lines
        → AreSomeMixLines (kind_of thing + 1) t ahead log lost words slot lines
    adds_no_mix thing lines has isnt = adds_none (kind_of thing) lines (λ other kind is.
        let mix = rw (one_thing after other thing kind (has_after other is) has) at is in
        elim isnt [
          | inl shown ↦ not_before thing mix shown
          | inr never ↦ never mix.never
        ])

    -- the line of a mix, after the words
    pub adds_mix : (thing : Thing) (lines a more : List ℕ) → a ≡ lines ++ words → more ≡ a ++ shown_line slot thing
        → Has after thing → IsMix t ahead log lost slot thing
        → AreSomeMixLines (kind_of thing) t ahead log lost words slot lines
        → AreSomeMixLines (kind_of thing + 1) t ahead log lost words slot more
    adds_mix thing lines a more first second has is had =
        let shown = shown_line slot thing in
        let whole : more ≡ lines ++ mix_line words slot thing = second ∙ ap (λ (l : List ℕ). l ++ shown) first
        ∙ append_assoc lines words shown in
        record {
          things = thing ∷ had.things;
          mixes = All-cons (IsMix t ahead log lost slot) thing had.things is had.mixes;
          all = all;
          are = whole ∙ ap (λ (l : List ℕ). l ++ mix_line words slot thing) had.are;
        }
      where
        all : (other : Thing) → kind_of other < kind_of thing + 1 → IsMix t ahead log lost slot other
            → Contains (thing ∷ had.things) other
        all other below also = elim (cases_lt (kind_of other) (kind_of thing)) [
          | inl older ↦ contains_more had.things thing other (had.all other older also)
          | inr here ↦ subst (Contains (thing ∷ had.things)) (one_thing after thing other (omega arith) has
              (has_after other also)) (contains_here had.things thing)
        ]

-- ---- the lines of the mixes of a receiver that loses given slots, slot after slot

pub has_shows : (view : ShownView) (thing : Thing) → Has view thing → ViewHas view thing
has_shows view thing has = grind (arith)

-- ---- lines that are empty

ends_empty : (a b : List ℕ) → a ++ b ≡ [] → b ≡ []
ends_empty [] b none = none
ends_empty (x ∷ a) b none = absurd (cc)

begins_empty : (a b : List ℕ) → a ++ b ≡ [] → a ≡ []
begins_empty [] b none = refl
begins_empty (x ∷ a) b none = absurd (cc)

-- a list of length 0 is empty
pub empty_list : (l : List ℕ) → length l ≡ 0 → l ≡ []
empty_list [] none = refl
empty_list (x ∷ l) none = absurd (omega (arith, none))

no_line_end : (a : List ℕ) → a ++ codes "\n" ≡ [] → ⊥
no_line_end a none = (let end = ends_empty a (codes "\n") none in absurd (cc))

no_shown_line : (slot : ℕ) (thing : Thing) → shown_line slot thing ≡ [] → ⊥
no_shown_line slot thing none = grind (arith, no_line_end)

no_things : (slot : ℕ) (things : List Thing) → mix_lines [] slot things ≡ [] → things ≡ []
no_things slot [] none = refl
no_things slot (thing ∷ older) none = grind (arith, no_shown_line, ends_empty)

contains_none : (things : List Thing) (thing : Thing) → things ≡ [] → Contains things thing → ⊥
contains_none things thing none (k, less, is) = omega (arith, ap length none)

module _ (t : Tuning) (ahead : ℕ) (log : List (Option Group)) (lost : List Burst) where
  no_mix_in : (slots : List (List ℕ)) → joined_parts slots ≡ [] → AreLinesOfSlots t ahead log lost slots
      → (slot : ℕ) (thing : Thing) → slot < length slots → IsMix t ahead log lost slot thing → ⊥
  no_mix_in [] none are slot thing less mix = absurd (omega arith)
  no_mix_in (newest ∷ older) none are slot thing less mix = elim (cases_lt slot (length older)) [
    | inl before ↦ no_mix_in older (begins_empty (joined_parts older) newest none) are.1 slot thing before mix
    | inr from ↦ (
        let here : slot ≡ length older = omega arith in
        let nothing = ends_empty (joined_parts older) newest none in
        contains_none are.0.things thing (no_things (length older) are.0.things (sym are.0.are ∙ nothing))
        (are.0.all thing (rw here at mix)))
  ]

  -- no line, no mix
  pub no_loss_mix : (lines : List ℕ) → lines ≡ [] → AreLossLines t ahead log lost (length log) lines
      → (slot : ℕ) (thing : Thing) → IsMix t ahead log lost slot thing → ⊥
  no_loss_mix lines none had slot thing mix =
      no_mix_in had.slots (sym had.are ∙ none) had.each slot thing (omega (arith, mix.inside, had.long)) mix

  -- ---- slot after slot

  -- before slot 0 there is no line
  pub adds_first : (lines : List ℕ) → lines ≡ [] → AreLossLines t ahead log lost 0 lines
  adds_first lines none = record { slots = []; long = refl; each = tt; are = none }

  -- the lines of one slot more
  pub adds_slot : (slot : ℕ) (lines here more : List ℕ) → AreMixLines t ahead log lost [] slot here
      → more ≡ lines ++ here → AreLossLines t ahead log lost slot lines → AreLossLines t ahead log lost (slot + 1) more
  adds_slot slot lines here more are more_are had = record {
    slots = here ∷ had.slots;
    long = let long = had.long in omega (arith, long);
    each = (rw had.long are, had.each);
    are = more_are ∙ ap (λ (l : List ℕ). l ++ here) had.are;
  }

  -- a view that stays has no mix
  pub stays_none : (slot : ℕ) → ((view : ShownView) → IsView t (got lost log slot) view
      → IsView t (got lost log (slot + 1)) view) → (thing : Thing) → IsMix t ahead log lost slot thing → ⊥
  stays_none slot stays thing mix =
      let new = mix.new in
      let same : new.after ≡ new.before = same_view t (got lost log (slot + 1)) new.after new.before new.is
      (stays new.before new.was) in
      new.not_shown (has_shows new.before thing (rw same at new.has))

-- ---- keys

-- a view that shows a thing shows each thing with its key
same_key : (view : ShownView) (one other : Thing) → key_of one ≡ key_of other → ViewHas view one → ViewHas view other
same_key view one other same shown = grind (arith)

-- and it has one of them
has_key : (view : ShownView) (thing : Thing) → ViewHas view thing
    → (other : Thing) × Has view other × (key_of other ≡ key_of thing)
has_key view (Text x) shown = (Text x, shown, refl)
has_key view (Name x) shown = (Name x, shown, refl)
has_key view (Tag which class piece) (inl one) = (Tag One class piece, one, refl)
has_key view (Tag which class piece) (inr two) = (Tag Two class piece, two, refl)

-- ---- one key more

some_again : (first : Option ℕ) (slot : ℕ) → is_some first ≡ true → first ≡ Some (unwrap_or first slot)
some_again None slot has = absurd (cc)
some_again (Some x) slot has = refl

none_yet : (first : Option ℕ) (slot : ℕ) → is_some first ≡ false → Some slot ≡ Some (unwrap_or first slot)
none_yet None slot none = refl
none_yet (Some x) slot none = absurd (cc)

-- what is noted at a key stays
pub kept_at : (firsts : Firsts) (key : List ℕ) (slot : ℕ) → is_some (slot_at firsts key) ≡ true → (q : List ℕ)
    → slot_at firsts q ≡ (if bytes_eq key q then Some (unwrap_or (slot_at firsts q) slot) else slot_at firsts q)
kept_at firsts key slot has q = grind (arith, bytes_eq-Decides, some_again)

-- a slot is noted at a new key
pub noted_at : (old new : Firsts) (key : ArrayVec ℕ) (slot : ℕ) → is_some (slot_at old key.items) ≡ false
    → Updates (λ v w. slice_cmp nat_cmp v.items w.items) old.slots new.slots key (Some slot) → (q : List ℕ)
    → slot_at new q ≡ (if bytes_eq key.items q then Some (unwrap_or (slot_at old q) slot) else slot_at old q)
noted_at old new key slot none updates q = grind (arith, is_eq-slice_cmp, bytes_eq-Decides, none_yet)

-- ---- no slot

-- before the first slot nothing is noted
pub first_none : (t : Tuning) (log : List (Option Group)) (firsts : Firsts) → firsts.slots.entries ≡ []
    → AreFirsts t log 0 firsts
first_none t log firsts none thing = grind (arith, never_none)

-- and nothing is shown
pub shows_none : (thing : Thing) → ViewHas nothing_shown thing → ⊥
shows_none thing shown = grind (arith)

-- ---- before a slot

-- what is never shown is not shown in some first slots
pub never_before : (t : Tuning) (log : List (Option Group)) (n slots : ℕ) (thing : Thing) → slots ≤ n
    → IsFirst t log n thing None → NeverShows t log slots thing
never_before t log n slots thing within never slot view less is shown = never slot view (omega arith) is shown

-- the first slot is behind these exactly if none of them shows the thing
pub is_not_before : (t : Tuning) (log : List (Option Group)) (n slots first : ℕ) (thing : Thing)
    → IsFirst t log n thing (Some first) → IsTrue (nat_le slots first) ↔ NeverShows t log slots thing
is_not_before t log n slots first thing is = grind (arith, never_before)

-- ---- one slot more

-- after n slots the view of the newest one is this
module _ (t : Tuning) (log : List (Option Group)) (n : ℕ) (view : ShownView) (is : IsView t (got [] log (n + 1)) view)
  where
    -- it shows nothing new
    pub nothing_new : ((thing : Thing) → NeverShows t log n thing → ViewHas view thing → ⊥)
        → (thing : Thing) (first : Option ℕ) → IsFirst t log n thing first → IsFirst t log (n + 1) thing first
    nothing_new old thing None never = never_more t log n thing view never is (old thing never)
    nothing_new old thing (Some slot) had = (omega (arith, had.0), had.1, had.2)

    -- before the first kind
    pub before_kinds : (thing : Thing) (first : Option ℕ) → IsFirst t log n thing first
        → IsFirstSoFar t log n view 0 thing first
    before_kinds thing None never = (never, λ less has. absurd (omega (arith, less)))
    before_kinds thing (Some slot) had = (omega (arith, had.0), had.1, had.2)

    -- after the last kind
    pub after_kinds : (firsts : Firsts) → AreFirstsSoFar t log n view 4 firsts → AreFirsts t log (n + 1) firsts
    after_kinds firsts all thing = by (slot_at firsts (key_of thing)) refl
      where
        by : (first : Option ℕ) → slot_at firsts (key_of thing) ≡ first → IsFirst t log (n + 1) thing first
        by None at =
            let never = subst (IsFirstSoFar t log n view 4 thing) at (all thing) in
            never_more t log n thing view never.0 is (λ shown.
            let it = has_key view thing shown in
            let none = subst (IsFirstSoFar t log n view 4 it.0) (ap (slot_at firsts) it.2 ∙ at) (all it.0) in
            none.1 (kinds_below it.0) it.1)
        by (Some slot) at = subst (IsFirstSoFar t log n view 4 thing) at (all thing)

    -- the view has no thing of the kind
    pub without_kind : (kind : ℕ) → thing_in view kind ≡ None → (thing : Thing) (first : Option ℕ)
        → IsFirstSoFar t log n view kind thing first → IsFirstSoFar t log n view (kind + 1) thing first
    without_kind kind none thing None had = (
      had.0,
      λ less has. elim (cases_lt (kind_of thing) kind) [
        | inl below ↦ had.1 below has
        | inr from ↦ (let there = of_kind view kind thing (omega (arith, less, from)) has in absurd (cc))
      ],
    )
    without_kind kind none thing (Some slot) had = had

    -- the thing of the kind is noted
    pub with_kind : (shown : Thing) → Has view shown → (thing : Thing) (same : Bool)
        → (same ≡ true → key_of shown ≡ key_of thing) → (key_of shown ≡ key_of thing → same ≡ true)
        → (first : Option ℕ) → IsFirstSoFar t log n view (kind_of shown) thing first
        → IsFirstSoFar t log n view (kind_of shown + 1) thing (if same then Some (unwrap_or first n) else first)
    with_kind shown has thing true key other None had = (
      omega arith,
      record {
        slot = n;
        view = view;
        before = omega arith;
        is = is;
        shows = same_key view shown thing (key refl) (has_shows view shown has);
      },
      had.0,
    )
    with_kind shown has thing true key other (Some slot) had = had
    with_kind shown has thing false key other None had = (
      had.0,
      λ less also. elim (cases_lt (kind_of thing) (kind_of shown)) [
        | inl below ↦ had.1 below also
        | inr from ↦ (
            let is_it = other (ap key_of (one_thing view shown thing (omega (arith, less, from)) has also)) in
            absurd (cc))
      ],
    )
    with_kind shown has thing false key other (Some slot) had = had
