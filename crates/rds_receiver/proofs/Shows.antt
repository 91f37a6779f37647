-- Lemmas: what is shown follows from what is held.
use Rattle.std.proofs.Common.{arith, ◌≡◌, ℕ, Bool, true, List, [], ◌∷◌, Option, ◌⊎◌, None, Some, ap, sym, ◌∙◌, inl, inr}
use Rattle.std.specs.Option.{is_some}
use Rattle.std.specs.FinMap.{empty}
use Rattle.rds_block.specs.declared.group.Group.{Group}
use Rattle.rds_fields.specs.declared.message.Message.{Message}
use Rattle.rds_assembly.specs.ServiceLaws.{no_name_of_none, no_text_of_none}
use Rattle.rds_assembly.specs.Whole.{IsWholeName, IsWholeText}
use Rattle.rds_receiver.specs.Holds.{HasFlag, HoldsAt, WhatItShows, newest_slot, MakeAlike, ShowsAlike}
use Rattle.rds_receiver.specs.Kept.{GoesOn, IsShowing, Showing, flag_of}
use Rattle.rds_receiver.specs.OneView.{same_view_of}
use Rattle.rds_receiver.specs.Receipts.{Segment, Tuning, heard_of, name_fragment, text_fragment}
use Rattle.rds_receiver.specs.Run.{cells_of, run_at}
use Rattle.rds_receiver.specs.Shown.{IsNameShown, IsShown, IsTextShown, IsView, ShownView, ShowsView}
use Rattle.rds_receiver.specs.ReceiverAt.{ReceiverAt, WhatItHeard}
use Rattle.rds_receiver.specs.State.{DisplayState}
use Rattle.rds_receiver.specs.Stored.{display_stored}
use Rattle.rds_receiver.specs.declared.receiver.Receiver.{Receiver}
use Rattle.rds_receiver.specs.Tags.{pair_held, item_of, tag_of}
use Rattle.rds_receiver.specs.Confirmed.{counted}
use Rattle.rds_receiver.specs.ConfirmedLemmas.{newest_counted}
use Rattle.rds_receiver.proofs.Runs.{run_at_newest}
use Rattle.rds_fields.specs.declared.pair.Which.TheVariants.{One, Two}
use Rattle.rds_fields.specs.Tag.{PairFields}
use Rattle.rds_assembly.specs.Cells.{Cells}

-- the cells and the pair held are those of the definition
pub text_cells : (r : DisplayState)
    → WhatItShows r (λ m first heard. r.text.cells ≡ cells_of (run_at text_fragment m first heard))
text_cells r m first heard s = rw (← run_at_newest text_fragment m first heard) s.text.cells

-- the cells of a name are those of its run
pub name_cells : (r : DisplayState)
    → WhatItShows r (λ m first heard. r.name.cells ≡ cells_of (run_at name_fragment m first heard))
name_cells r m first heard s = rw (← run_at_newest name_fragment m first heard) s.name.cells

-- the pair that is shown is the held one
pub pair_is : (r : DisplayState) → WhatItShows r (λ m first heard. r.pair ≡ pair_held m first heard)
pair_is r m first heard s = rw (← run_at_newest text_fragment m first heard) s.pair

-- so the value that the cells make whole is shown
pub text_shown : (r : DisplayState) (shown : Option (List ℕ)) → IsShown IsWholeText r.text.cells shown
    → WhatItShows r (λ m first heard. IsTextShown m first heard shown)
text_shown r shown is m first heard s = rw (text_cells r m first heard s) at is

-- the name that is shown is the whole one
pub name_shown : (r : DisplayState) (shown : Option (List ℕ)) → IsShown IsWholeName r.name.cells shown
    → WhatItShows r (λ m first heard. IsNameShown m first heard shown)
name_shown r shown is m first heard s = rw (name_cells r m first heard s) at is

-- the display of a receiver that stands at an input follows from what counts of it
pub shows_counted : (t : Tuning) (r : Receiver) (input : List (Option Group)) (s : ReceiverAt t r input)
    → HoldsAt t.dwell (newest_slot t.first (counted t (heard_of t.programme input))) t.first (display_stored r.display)
    (counted t (heard_of t.programme input))
shows_counted t r input s =
    rw (newest_counted t.window t.dwell t.first (heard_of t.programme input)) s.holds.display

-- what holds of each list that the display may follow from holds of what counts of each list heard
pub what_it_heard : (r : Receiver) (Holds : ℕ → ℕ → List (Option Message) → Type 0)
    → WhatItShows (display_stored r.display) Holds
    → WhatItHeard r Holds
what_it_heard r Holds holds t input s = search (arith, shows_counted)

-- ---- a receiver shows the same if its cells make the same values whole and it holds the same pair

-- a display shows the same as itself
pub alike_itself : (r : DisplayState) → ShowsAlike r r
alike_itself r = grind (arith)

-- cells that make nothing whole make the same whole
pub nothing_alike : (IsWhole : Cells → List ℕ → Type 0) (cells after : Cells) → IsShown IsWhole cells None
    → IsShown IsWhole after None → MakeAlike IsWhole cells after
nothing_alike IsWhole cells after before now None = (λ _. now, λ _. before)
nothing_alike IsWhole cells after before now (Some x) = grind (arith)

same_or_none : {X : Type 0} {a b c : X} {None AfterNone : Type 0} → (b ≡ a) ⊎ None → (c ≡ b) ⊎ AfterNone
    → (AfterNone → None) → (c ≡ a) ⊎ None
same_or_none p q none = elim q [
  | inl same ↦ elim p [ inl before ↦ inl (same ∙ before) | inr nothing ↦ inr nothing ]
  | inr nothing ↦ inr (none nothing)
]

-- what is alike to the same is alike
pub alike_by : (a b c : DisplayState) → ShowsAlike a b → ShowsAlike b c → ShowsAlike a c
alike_by a b c p q = record {
  text = λ shown. (λ h. (q.text shown).0 ((p.text shown).0 h), λ h. (p.text shown).1 ((q.text shown).1 h));
  name = λ shown. (λ h. (q.name shown).0 ((p.name shown).0 h), λ h. (p.name shown).1 ((q.name shown).1 h));
  text_flag = same_or_none p.text_flag q.text_flag (p.text None).1;
  name_flag = same_or_none p.name_flag q.name_flag (p.name None).1;
  pair = same_or_none p.pair q.pair (p.text None).1;
}

-- item bits and tags are the same if the pair is the same or no text is shown
nothing_beside : (text : Option (List ℕ)) (cells : Cells) (p q : Option PairFields) → IsShown IsWholeText cells text
    → (q ≡ p) ⊎ IsShown IsWholeText cells None
    → (item_of text p ≡ item_of text q) × (tag_of One text p ≡ tag_of One text q)
    × (tag_of Two text p ≡ tag_of Two text q)
nothing_beside text cells p q shown h5 = grind (arith)

pub view_stays : (r after : DisplayState) (m first : ℕ) (heard more : List (Option Message)) (view : ShownView)
    → HoldsAt m (newest_slot first heard) first r heard
    → HoldsAt m (newest_slot first more) first after more → ShowsAlike r after → ShowsView m first heard view
    → ShowsView m first more view
view_stays r after m first heard more view s u alike shown =
    search (arith, text_cells, name_cells, nothing_beside, pair_is, text_shown, name_shown)

-- the view of a receiver stays if its display shows the same
pub stays_shown : (t : Tuning) (r after : Receiver) (input more : List (Option Group)) (view : ShownView)
    → ReceiverAt t r input → ReceiverAt t after more
    → ShowsAlike (display_stored r.display) (display_stored after.display) → IsView t input view → IsView t more view
stays_shown t r after input more view s u alike shown = search (arith, view_stays, shows_counted)

-- ---- why nothing is shown follows from what is held

-- ---- what a slot leaves alike goes on

-- a run that makes a value whole has the flag that is held
flag_shown : (IsWhole : Cells → List ℕ → Type 0) → ((x : List ℕ) → IsWhole empty x → ⊥) → (the_run : List Segment)
    (flag : Bool) (shown : Option (List ℕ)) → IsShown IsWhole (cells_of the_run) shown → is_some shown ≡ true
    → HasFlag the_run flag → flag_of the_run ≡ Some flag
flag_shown IsWhole none [] flag (Some x) is some has = absurd (none x is)
flag_shown IsWhole none [] flag None is some has = absurd (cc)
flag_shown IsWhole none (g ∷ older) flag shown is some has = ap Some (sym has)

-- if the flag that is held stays, so does the flag of what is shown
flag_stays : (IsWhole : Cells → List ℕ → Type 0) → ((x : List ℕ) → IsWhole empty x → ⊥)
    → (before after : List Segment) (flag new : Bool) (shown : Option (List ℕ))
    → IsShown IsWhole (cells_of before) shown → IsShown IsWhole (cells_of after) shown → HasFlag before flag
    → HasFlag after new → (new ≡ flag) ⊎ IsShown IsWhole (cells_of before) None → is_some shown ≡ true
    → flag_of after ≡ flag_of before
flag_stays IsWhole none before after flag new (Some x) is then has got (inr nothing) some = absurd (nothing x is)
flag_stays IsWhole none before after flag new None is then has got stays some = absurd (cc)
flag_stays IsWhole none before after flag new (Some x) is then has got (inl same) some =
    flag_shown IsWhole none after new (Some x) then some got ∙ ap Some same
    ∙ sym (flag_shown IsWhole none before flag (Some x) is some has)

pub goes_on : (r after : DisplayState) (m first : ℕ) (heard more : List (Option Message)) (s now : Showing)
    → HoldsAt m (newest_slot first heard) first r heard → HoldsAt m (newest_slot first more) first after more
    → ShowsAlike r after → IsShowing m first heard s → IsShowing m first more now → GoesOn s now
goes_on r after m first heard more s now u v alike is then =
    let stays = view_stays r after m first heard more s.view u v alike is.view in
    let same : now.view ≡ s.view = same_view_of m first more now.view s.view then.view stays in
    record {
      view = same;
      text = λ shown. then.text
          ∙ flag_stays IsWholeText no_text_of_none (run_at text_fragment m first heard)
          (run_at text_fragment m first more) r.text.flag after.text.flag s.view.text is.view.text stays.text
          (rw (run_at_newest text_fragment m first heard) at u.text.flag)
          (rw (run_at_newest text_fragment m first more) at v.text.flag)
          (rw (text_cells r m first heard u) at alike.text_flag) (rw same at shown) ∙ sym is.text;
      name = λ shown. then.name
          ∙ flag_stays IsWholeName no_name_of_none (run_at name_fragment m first heard)
          (run_at name_fragment m first more) r.name.flag after.name.flag s.view.name is.view.name stays.name
          (rw (run_at_newest name_fragment m first heard) at u.name.flag)
          (rw (run_at_newest name_fragment m first more) at v.name.flag)
          (rw (name_cells r m first heard u) at alike.name_flag) (rw same at shown) ∙ sym is.name;
    }

-- a slot of a receiver whose display shows the same goes on
pub showing_goes_on : (t : Tuning) (r after : Receiver) (input more : List (Option Group)) (s now : Showing)
    → ReceiverAt t r input → ReceiverAt t after more
    → ShowsAlike (display_stored r.display) (display_stored after.display)
    → IsShowing t.dwell t.first (counted t (heard_of t.programme input)) s
    → IsShowing t.dwell t.first (counted t (heard_of t.programme more)) now → GoesOn s now
showing_goes_on t r after input more s now u v alike is then =
    goes_on (display_stored r.display) (display_stored after.display) t.dwell t.first
    (counted t (heard_of t.programme input)) (counted t (heard_of t.programme more)) s now (shows_counted t r input u)
    (shows_counted t after more v) alike is then
