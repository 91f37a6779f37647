-- Lemmas: what a display counts follows from its slots.
use Rattle.std.proofs.Common.{◌≡◌, ◌≢◌, ◌<◌, ◌-◌, ◌==◌, ◌&&◌, ℕ, Bool, true, false, List, [], ◌∷◌, Option, Some, None}
use Rattle.std.proofs.Common.{arith}
use Rattle.std.proofs.Common.{zero, suc, refl, subst, sym, ap₂, ◌∙◌, if◌then◌else◌, is_some, map, not}
use Rattle.std.proofs.lemmas.Bool.Decides.{nat_tests}
use Rattle.std.specs.Borrow.{Bor}
use Rattle.std.specs.Prelude.{option_copied}
use Rattle.rds_block.specs.declared.group.Group.{Group}
use Rattle.rds_fields.specs.declared.message.Message.{Message}
use Rattle.rds_assembly.specs.ServiceLaws.{no_name_of_none, no_text_of_none}
use Rattle.rds_receiver.specs.Confirmed.{counted, counted_in}
use Rattle.rds_receiver.specs.Counts.{CountsOf, CountsOn, CountsSlot, DisplayAt, DisplayOf, after_slot, ended_of, ends}
use Rattle.rds_receiver.specs.Counts.{is_still, kept_stored, none_kept}
use Rattle.rds_receiver.specs.Kept.{AreShowings, Displays, GoesOn, GoesOnBy, IsShowing, Last, Moment, Showing, beside}
use Rattle.rds_receiver.specs.Kept.{displayed, flag_of}
use Rattle.rds_receiver.specs.Kept.{is_recent, kept, last, last_after, name_moment, newest_showing, text_moment}
use Rattle.rds_receiver.specs.Kept.{with_text}
use Rattle.rds_receiver.specs.KeptLemmas.{none_is_kept}
use Rattle.rds_receiver.specs.OneView.{same_view_of}
use Rattle.rds_receiver.specs.Receipts.{AreHeard, Tuning, heard_in, heard_of, name_fragment, text_fragment}
use Rattle.rds_receiver.specs.ReceiverAt.{KeepsShowing, KeepsView, ReceiverAt}
use Rattle.rds_receiver.specs.Run.{run_at}
use Rattle.rds_receiver.specs.Shown.{IsView, ShownView, ShowsView}
use Rattle.rds_receiver.specs.declared.keeping.Keeping.{Keeping}
use Rattle.rds_receiver.specs.declared.keeping.Kept.{Kept}
use Rattle.rds_receiver.specs.declared.keeping.StoredKept.{StoredKept}
use Rattle.rds_receiver.specs.declared.receiver.Receiver.{Receiver}

-- ---- one service

-- after one more slot the numbers follow, and this says whether the display keeps its value
pub record Steps {X : Type 0} (n : ℕ) (after : StoredKept) (keeps : Bool) (now : Moment X) (before : List (Moment X))
    : Type 0 where
  pub counts : after ≡ kept_stored n (last (now ∷ before))
  pub shows : kept n (now ∷ before) ≡ (if keeps then kept n before else now.shown)

-- the slots are over
pub over : (keep left : ℕ) (old : StoredKept) (held : Option Bool) (l : Option Last) → old ≡ kept_stored keep l
    → left ≡ (if old.left == 0 then keep else old.left - 1) → left ≡ 0
    → none_kept ≡ kept_stored keep (last_after false held l)
over keep left old held None counts is none = refl
over keep left old held (Some l) counts is none = grind (arith, nat_tests)

-- there is no value, or it is ended
pub ended : (keep : ℕ) (old : StoredKept) (held : Option Bool) (l : Option Last) → old ≡ kept_stored keep l
    → ends held old.flag ≡ true → none_kept ≡ kept_stored keep (last_after false held l)
ended keep old held None counts is = refl
ended keep old None (Some l) counts is = grind (arith, nat_tests)
ended keep old (Some true) (Some l) counts is = grind (arith, nat_tests)
ended keep old (Some false) (Some l) counts is = grind (arith, nat_tests)

-- none is kept then
pub none_recent : (keep : ℕ) (held : Option Bool) (l : Option Last) → none_kept ≡ kept_stored keep (last_after false held l)
    → is_recent keep (last_after false held l) ≡ false
none_recent keep held l e = by (last_after false held l) e
  where
    by : (o : Option Last) → none_kept ≡ kept_stored keep o → is_recent keep o ≡ false
    by None e = refl
    by (Some l) e = grind (arith, nat_tests)

-- the value is kept
pub goes_on : (keep left : ℕ) (old : StoredKept) (held : Option Bool) (l : Option Last) → old ≡ kept_stored keep l
    → left ≡ (if old.left == 0 then keep else old.left - 1) → left ≢ 0 → ends held old.flag ≡ false
    → (record old { left = left } ≡ kept_stored keep (last_after false held l))
    × (is_recent keep (last_after false held l) ≡ true)
goes_on keep left old held None counts is some goes = grind (arith, nat_tests)
goes_on keep left old None (Some l) counts is some goes = grind (arith, nat_tests)
goes_on keep left old (Some true) (Some l) counts is some goes = grind (arith, nat_tests)
goes_on keep left old (Some false) (Some l) counts is some goes = grind (arith, nat_tests)

-- the numbers are those after one more slot
pub steps : {X : Type 0} (n : ℕ) (after : StoredKept) (keeps is_shown : Bool) (held : Option Bool) (now : Moment X)
    (before : List (Moment X)) → is_shown ≡ is_some now.shown → held ≡ now.flag
    → after ≡ kept_stored n (last_after is_shown held (last before))
    → keeps ≡ (not is_shown && is_recent n (last_after is_shown held (last before)))
    → Steps n after keeps now before
steps n after keeps is_shown held now before shown flag counts is = grind (arith)

-- what goes on: the same is shown, with the same flag
pub record Stays {X : Type 0} (now : Moment X) (before : List (Moment X)) : Type 0 where
  pub none : before ≡ [] → now.shown ≡ None
  pub shown : (s : Moment X) (older : List (Moment X)) → before ≡ s ∷ older → now.shown ≡ s.shown
  pub flag : (s : Moment X) (older : List (Moment X)) → before ≡ s ∷ older → is_some now.shown ≡ true
      → now.flag ≡ s.flag

-- if nothing is counted, a slot that goes on changes nothing
pub stays : {X : Type 0} (n : ℕ) (k : StoredKept) (now : Moment X) (before : List (Moment X))
    → k ≡ kept_stored n (last before) → k.left ≡ 0 → Stays now before
    → Steps n k false now before × (kept n (now ∷ before) ≡ kept n before)
stays n k now [] counts none goes = let shown = goes.none refl in grind (arith)
stays n k now (s ∷ older) counts none goes =
    let shown = goes.shown s older refl in let flag = goes.flag s older refl in grind (arith, nat_tests)

-- if something is counted, nothing is shown
pub counts_none : {X : Type 0} (n : ℕ) (k : StoredKept) (now : Moment X) (before : List (Moment X))
    → k ≡ kept_stored n (last before) → 0 < k.left → Stays now before → is_some now.shown ≡ false
counts_none n k now [] counts some goes = let shown = goes.none refl in grind (arith)
counts_none n k now (s ∷ older) counts some goes =
    let shown = goes.shown s older refl in grind (arith, nat_tests)

-- ---- both services

-- a service goes on
moments_stay : {X : Type 0} (moment : Showing → Moment X) (now : Showing) (before : List Showing)
    → GoesOn (newest_showing before) now → (moment (newest_showing [])).shown ≡ None
    → ((s : Showing) → GoesOn s now → (moment now).shown ≡ (moment s).shown)
    → ((s : Showing) → GoesOn s now → is_some (moment now).shown ≡ true → (moment now).flag ≡ (moment s).flag)
    → Stays (moment now) (map moment before)
moments_stay moment now [] goes none shown flag = record {
  none = λ e. shown (newest_showing []) goes ∙ none;
  shown = λ s older e. (cc);
  flag = λ s older e. (cc);
}
moments_stay moment now (x ∷ before) goes none shown flag = record {
  none = λ e. (cc);
  shown = λ s older e. (let same = shown x goes in cc);
  flag = λ s older e some. (let same = flag x goes some in cc);
}

pub text_stays : (now : Showing) (before : List Showing) → GoesOn (newest_showing before) now
    → Stays (text_moment now) (map text_moment before)
text_stays now before goes =
    moments_stay text_moment now before goes refl (λ s on. grind (arith, on.view))
    (λ s on some. grind (arith, on.view, on.text))

pub name_stays : (now : Showing) (before : List Showing) → GoesOn (newest_showing before) now
    → Stays (name_moment now) (map name_moment before)
name_stays now before goes =
    moments_stay name_moment now before goes refl (λ s on. grind (arith, on.view))
    (λ s on some. grind (arith, on.view, on.name))

-- without a text a view has no item bits and no tags
pub nothing_beside : (m first : ℕ) (heard : List (Option Message)) (view : ShownView) → ShowsView m first heard view
    → view.text ≡ None → (view.item ≡ None) × (view.one ≡ None) × (view.two ≡ None)
nothing_beside m first heard view is none = grind (arith)

-- the numbers, and what is displayed
pub both_on : (old new : Keeping) (kept : Kept) (m first : ℕ) (heard : List (Option Message)) (now : Showing)
    (before : List Showing) → IsShowing m first heard now → new.keep ≡ old.keep
    → Steps old.keep new.text kept.text (text_moment now) (map text_moment before)
    → Steps old.keep new.name kept.name (name_moment now) (map name_moment before)
    → CountsOn old new (Some kept) now before
both_on old new kept m first heard now before is keep texts names =
    let none = nothing_beside m first heard now.view is.view in
    record {
      counts = record { text = rw keep texts.counts; name = rw keep names.counts };
      shows = (let text = texts.shows in let name = names.shows in grind (arith));
    }

-- ---- the steps of a display

-- the same is shown
pub shown_same : (text : Option (Bor (List ℕ))) (shown : Option (List ℕ)) → option_copied text ≡ shown
    → is_some text ≡ is_some shown
shown_same text shown e = grind (arith)

pub shows_with : (view : ShownView) → is_some (with_text view) ≡ is_some view.text
shows_with view = grind (arith)

-- one service after a slot that goes on: the numbers, and what is displayed
pub gone_on : {X : Type 0} (n : ℕ) (old after : StoredKept) (result : Option Bool) (held : Option Bool) (now : Moment X)
    (before : List (Moment X)) → old ≡ kept_stored n (last before) → Stays now before → held ≡ now.flag
    → (old.left ≡ 0 → (result ≡ None) × (after ≡ old))
    → (0 < old.left → (after ≡ kept_stored n (last_after false held (last before)))
    × (result ≡ Some (is_recent n (last_after false held (last before)))))
    → Steps n after (is_still result) now before × (result ≢ Some false → kept n (now ∷ before) ≡ kept n before)
gone_on n old after result held now before counts goes flag quiet counted = by old.left refl
  where
    by : (left : ℕ) → old.left ≡ left
        → Steps n after (is_still result) now before × (result ≢ Some false → kept n (now ∷ before) ≡ kept n before)
    by zero none =
        let (is_none, same) = quiet none in
        let still = stays n old now before counts none goes in
        (rw (is_none, same) still.0, λ other. still.1)
    by (suc left) some =
        let (after_is, is) = counted (omega (arith, some)) in
        let none = counts_none n old now before counts (omega (arith, some)) goes in
        let step = steps n after (is_recent n (last_after false held (last before))) false held now before (sym none) flag
        after_is (grind (arith)) in
        (grind (arith), λ other. grind (arith))

-- the display changes if a text or a name has ended
pub ended_on : (old new : Keeping) (text name : Option Bool) (now : Showing) (before : List Showing)
    → CountsOn old new (Some record { text = is_still text; name = is_still name }) now before
    → (text ≢ Some false → name ≢ Some false → displayed old.keep (now ∷ before) ≡ displayed old.keep before)
    → CountsOn old new (ended_of text name) now before
ended_on old new (Some false) name now before on same = on
ended_on old new None (Some false) now before on same = on
ended_on old new (Some true) (Some false) now before on same = on
ended_on old new None None now before on same =
    record { counts = on.counts; shows = same (λ e. (cc)) (λ e. (cc)) }
ended_on old new None (Some true) now before on same =
    record { counts = on.counts; shows = same (λ e. (cc)) (λ e. (cc)) }
ended_on old new (Some true) None now before on same =
    record { counts = on.counts; shows = same (λ e. (cc)) (λ e. (cc)) }
ended_on old new (Some true) (Some true) now before on same =
    record { counts = on.counts; shows = same (λ e. (cc)) (λ e. (cc)) }

-- a slot that goes on, if nothing is counted
pub quiet_on : (k : Keeping) (now : Showing) (before : List Showing) → GoesOn (newest_showing before) now
    → CountsOf k before → k.text.left ≡ 0 → k.name.left ≡ 0 → CountsOn k k None now before
quiet_on k now before goes counts no_text no_name =
    let text = stays k.keep k.text (text_moment now) (map text_moment before) counts.text no_text
    (text_stays now before goes) in
    let name = stays k.keep k.name (name_moment now) (map name_moment before) counts.name no_name
    (name_stays now before goes) in
    record {
      counts = record { text = text.0.counts; name = name.0.counts };
      shows = ap₂ beside text.1 name.1;
    }

-- ---- a display that keeps nothing

-- it shows the view of its receiver
pub displays_now : (m first : ℕ) (heard : List (Option Message)) (now : Showing) (before : List Showing)
    → IsShowing m first heard now → displayed 0 (now ∷ before) ≡ now.view
displays_now m first heard now before is =
    let text = none_is_kept (text_moment now) (map text_moment before) in
    let name = none_is_kept (name_moment now) (map name_moment before) in
    let none = nothing_beside m first heard now.view is.view in
    rw (text, name) (by now.view none)
  where
    by : (view : ShownView) → (view.text ≡ None → (view.item ≡ None) × (view.one ≡ None) × (view.two ≡ None))
        → beside (with_text view) view.name ≡ view
    by view none = grind (arith)

-- ---- the ends of slots

-- the end of the newest slot, also before the first
pub newest_is : (t : Tuning) (heard : List (Option Message)) (showings : List Showing) → AreShowings t heard showings
    → IsShowing t.dwell t.first (counted t heard) (newest_showing showings)
newest_is t [] [] are = by t.window
  where
    by : (window : Option ℕ)
        → IsShowing t.dwell t.first (counted_in window t.dwell t.first []) (newest_showing [])
    by None = record {
      view = record { text = no_text_of_none; name = no_name_of_none; item = refl; one = refl; two = refl };
      text = refl;
      name = refl;
    }
    by (Some w) = record {
      view = record { text = no_text_of_none; name = no_name_of_none; item = refl; one = refl; two = refl };
      text = refl;
      name = refl;
    }
newest_is t (h ∷ before) (s ∷ older) are = are.0
newest_is t [] (s ∷ older) are = absurd are
newest_is t (h ∷ before) [] are = absurd are

-- the end of a slot with this view
abbrev pub showing_with : ℕ → ℕ → List (Option Message) → ShownView → Showing
showing_with m first heard view = record {
  view = view;
  text_flag = flag_of (run_at text_fragment m first heard);
  name_flag = flag_of (run_at name_fragment m first heard);
}

-- what was heard has one list of them
pub same_showings : (t : Tuning) (heard : List (Option Message)) (showings other : List Showing)
    → AreShowings t heard showings → AreShowings t heard other → showings ≡ other
same_showings t [] [] [] p q = refl
same_showings t (h ∷ before) (s ∷ showings) (u ∷ other) p q =
    let older = same_showings t before showings other p.1 q.1 in
    let view = same_view_of t.dwell t.first (counted t (h ∷ before)) s.view u.view p.0.view q.0.view in
    let text : s.text_flag ≡ u.text_flag = p.0.text ∙ sym q.0.text in
    let name : s.name_flag ≡ u.name_flag = p.0.name ∙ sym q.0.name in
    grind (arith)
same_showings t [] [] (u ∷ other) p q = absurd q
same_showings t [] (s ∷ showings) other p q = absurd p
same_showings t (h ∷ before) [] other p q = absurd p
same_showings t (h ∷ before) (s ∷ showings) [] p q = absurd q

-- ---- the display

-- one more entry was heard, after which the receiver has this view
pub display_next : (n : ℕ) (t : Tuning) (after_r : Receiver) (old new : Keeping) (is_changed : Bool)
    (change : Option Kept) (before after now : ShownView) (groups : List (Option Group)) (h : Option Message)
    (heard : List (Option Message))
    → DisplayOf n t old before heard → ReceiverAt t after_r groups → AreHeard t.programme groups (h ∷ heard)
    → (is_changed ≡ false → GoesOnBy t heard (h ∷ heard)) → CountsSlot after_r old new is_changed change
    → new.keep ≡ old.keep → ShowsView t.dwell t.first (counted t (h ∷ heard)) now
    → after ≡ after_slot change before now → DisplayOf n t new after (h ∷ heard)
display_next n t after_r old new is_changed change before after now groups h heard d stands are goes counts keep view
    shows =
    let seen = showing_with t.dwell t.first (counted t (h ∷ heard)) now in
    let is : IsShowing t.dwell t.first (counted t (h ∷ heard)) seen =
    record { view = view; text = refl; name = refl } in
    let newest = newest_is t heard d.showings d.are in
    let here = subst (λ (l : List (Option Message)). IsShowing t.dwell t.first (counted t l) seen) are is in
    let on = counts t groups stands seen d.showings here (λ calm. goes calm _ seen newest is) d.counts in
    record {
      showings = seen ∷ d.showings;
      are = (is, d.are);
      keep = keep ∙ d.keep;
      counts = on.counts;
      shows = (let next = on.shows in let same = d.keep in let was = d.shows in grind (arith));
    }

-- one more slot, after which the receiver has this view
pub display_on : (n : ℕ) (t : Tuning) (r after_r : Receiver) (old new : Keeping) (is_changed : Bool)
    (change : Option Kept) (before after now : ShownView) (group : Option Group) (input : List (Option Group))
    → DisplayAt n t old before input → ReceiverAt t r input → ReceiverAt t after_r (group ∷ input)
    → (is_changed ≡ false → KeepsShowing r group) → CountsSlot after_r old new is_changed change
    → new.keep ≡ old.keep → IsView t (group ∷ input) now → after ≡ after_slot change before now
    → DisplayAt n t new after (group ∷ input)
display_on n t r after_r old new is_changed change before after now group input d stood stands goes counts keep view
    shows =
    display_next n t after_r old new is_changed change before after now (group ∷ input) (heard_in t.programme group)
    (heard_of t.programme input) d stands refl (λ calm. goes calm t input stood) counts keep view shows

-- one more slot that changed nothing
pub display_stays : (n : ℕ) (t : Tuning) (r after_r : Receiver) (old new : Keeping) (is_changed : Bool)
    (view : ShownView) (group : Option Group) (input : List (Option Group))
    → DisplayAt n t old view input → ReceiverAt t r input → ReceiverAt t after_r (group ∷ input)
    → KeepsView r group → KeepsShowing r group → CountsSlot after_r old new is_changed None
    → new.keep ≡ old.keep → DisplayAt n t new view (group ∷ input)
display_stays n t r after_r old new is_changed view group input d stood stands stays goes counts keep =
    let was = (newest_showing d.showings).view in
    let newest = newest_is t (heard_of t.programme input) d.showings d.are in
    display_on n t r after_r old new is_changed None view view was group input d stood stands (λ calm. goes) counts
    keep (stays was t input stood newest.view) refl

-- before anything was heard
pub display_starts : (n : ℕ) (t : Tuning) (k : Keeping) (now : ShownView) → k.keep ≡ n → CountsOf k []
    → ShowsView t.dwell t.first (counted t []) now → DisplayOf n t k now []
display_starts n t k now keep counts is = record {
  showings = [];
  are = tt;
  keep = keep;
  counts = counts;
  shows = same_view_of t.dwell t.first (counted t []) now (newest_showing []).view is (newest_is t [] [] tt).view;
}

-- ---- a display that keeps nothing

-- it shows the view of its receiver
pub plain_view : (t : Tuning) (heard : List (Option Message)) (view : ShownView) → Displays 0 t heard view
    → ShowsView t.dwell t.first (counted t heard) view
plain_view t [] view d = by d.showings d.are d.shows
  where
    by : (showings : List Showing) → AreShowings t [] showings → view ≡ displayed 0 showings
        → ShowsView t.dwell t.first (counted t []) view
    by [] are shows = rw shows (newest_is t [] [] are).view
    by (s ∷ older) are shows = absurd are
plain_view t (h ∷ heard) view d = by d.showings d.are d.shows
  where
    by : (showings : List Showing) → AreShowings t (h ∷ heard) showings → view ≡ displayed 0 showings
        → ShowsView t.dwell t.first (counted t (h ∷ heard)) view
    by [] are shows = absurd are
    by (s ∷ older) are shows =
        let same = displays_now t.dwell t.first (counted t (h ∷ heard)) s older are.0 in
        rw (shows, same) are.0.view

-- it counts nothing
nothing_left : {X : Type 0} (n : ℕ) (k : StoredKept) (moments : List (Moment X)) → k ≡ kept_stored n (last moments)
    → n ≡ 0 → k.left ≡ 0
nothing_left n k moments counts none = by (last moments) counts
  where
    by : (o : Option Last) → k ≡ kept_stored n o → k.left ≡ 0
    by None counts = grind (arith)
    by (Some l) counts = grind (arith, nat_tests)

-- one more entry was heard that changed nothing
pub plain_stays : (t : Tuning) (k : Keeping) (view : ShownView) (h : Option Message) (heard : List (Option Message))
    → DisplayOf 0 t k view heard → GoesOnBy t heard (h ∷ heard)
    → ShowsView t.dwell t.first (counted t (h ∷ heard)) view → DisplayOf 0 t k view (h ∷ heard)
plain_stays t k view h heard d goes stays =
    let seen = showing_with t.dwell t.first (counted t (h ∷ heard)) view in
    let is : IsShowing t.dwell t.first (counted t (h ∷ heard)) seen =
    record { view = stays; text = refl; name = refl } in
    let newest = newest_is t heard d.showings d.are in
    let on = quiet_on k seen d.showings (goes _ seen newest is) d.counts
    (nothing_left k.keep k.text (map text_moment d.showings) d.counts.text d.keep)
    (nothing_left k.keep k.name (map name_moment d.showings) d.counts.name d.keep) in
    record {
      showings = seen ∷ d.showings;
      are = (is, d.are);
      keep = d.keep;
      counts = on.counts;
      shows = (let next = on.shows in let same = d.keep in let was = d.shows in grind (arith));
    }
