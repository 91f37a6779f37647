-- Lemmas: the displays of receivers after one more slot.
use Rattle.std.proofs.Common.{◌≡◌, ◌<◌, ℕ, zero, suc, false, List, [], ◌∷◌, Option, Some, arith, length, map, refl}
use Rattle.std.proofs.Common.{◌≢◌, ◌++◌, Bool, None, ap, set, slice_get, subst}
use Rattle.std.proofs.lemmas.Option.{slice_get_within}
use Rattle.rds_fields.specs.declared.message.Message.{Message}
use Rattle.rds_receiver.specs.Confirmed.{counted}
use Rattle.rds_receiver.specs.Counts.{CountsOf, CountsSlot, DisplayOf, keeping}
use Rattle.rds_receiver.specs.Kept.{Displays, GoesOnBy, newest_showing}
use Rattle.rds_receiver.specs.Receipts.{AreHeard, Tuning}
use Rattle.rds_receiver.specs.ReceiverAt.{ReceiverAt}
use Rattle.rds_receiver.specs.Shown.{ShowsView, ShownView}
use Rattle.rds_receiver.specs.declared.keeping.Keeping.{Keeping}
use Rattle.rds_receiver.specs.declared.keeping.Kept.{Kept}
use Rattle.rds_receiver.specs.declared.receiver.Receiver.{Receiver}
use Rattle.rds_receiver.proofs.Counting.{display_next, display_starts, newest_is, plain_stays, plain_view}
use Rattle.rds_safety.specs.Late.{Input}
use Rattle.rds_view_lines.specs.KeptView.{view_shown}
use Rattle.rds_view_lines.specs.Output.{nothing_shown}
use Rattle.rds_view_lines.specs.declared.shown.Shown.{Shown}
use Rattle.rds_world.specs.Event.{Event}
use Rattle.rds_world.specs.declared.event.Reception.{Reception}
use Rattle.rds_world.specs.declared.event.Reception.TheVariants.{Got, Lost, Restart, Wrong}
use Rattle.rds_world.specs.Slots.{input_of, received}
use Rattle.rds_world.specs.State.{distance}
use Rattle.rds_world.specs.WorldAt.{HasHeard, IsViewOfInput, ShowsStill, StaysShown, tuned_to}
use Rattle.rds_world.specs.declared.world.Config.{Config}
use Rattle.rds_script.specs.Inside.Compared.{AreShown}
use Rattle.rds_script.specs.Inside.Watched.{AreDisplays, DisplaysNext, IsDisplayAt}
use Rattle.rds_script.specs.Outcomes.{IsDisplayed, view_at}

-- what a display shows is displayed
pub is_displayed : (n : ℕ) (t : Tuning) (k : Keeping) (view : ShownView) (heard : List (Option Message))
    → DisplayOf n t k view heard → Displays n t heard view
is_displayed n t k view heard d = record { showings = d.showings; are = d.are; shows = d.shows }

-- the display at a place
display_at : (shown : List Shown) (i : ℕ) → i < length shown
    → (s : Shown) × (slice_get shown i ≡ Some s) × (view_at (map view_shown shown) i ≡ view_shown s)
display_at (s ∷ shown) zero within = (s, refl, refl)
display_at (s ∷ shown) (suc i) within = display_at shown i (omega (arith, within))
display_at [] i within = absurd (omega (arith, within))

-- a display more at the end
pub display_pushed : (P : Shown → Type 0) (shown : List Shown) (x : Shown)
    → ((i : ℕ) (s : Shown) → slice_get shown i ≡ Some s → P s) → P x
    → (i : ℕ) (s : Shown) → slice_get (shown ++ x ∷ []) i ≡ Some s → P s
display_pushed P [] x all last zero s at = subst P (cc) last
display_pushed P [] x all last (suc i) s at = absurd (cc)
display_pushed P (y ∷ shown) x all last zero s at = all zero s at
display_pushed P (y ∷ shown) x all last (suc i) s at = display_pushed P shown x (λ j. all (suc j)) last i s at

pub nothing_pushed : (shown : List Shown) (x : Shown) → ((i : ℕ) → view_at (map view_shown shown) i ≡ nothing_shown)
    → view_shown x ≡ nothing_shown → (i : ℕ) → view_at (map view_shown (shown ++ x ∷ [])) i ≡ nothing_shown
nothing_pushed [] x all last zero = last
nothing_pushed [] x all last (suc i) = refl
nothing_pushed (s ∷ shown) x all last zero = all zero
nothing_pushed (s ∷ shown) x all last (suc i) = nothing_pushed shown x (λ j. all (suc j)) last i

-- a display at another place than the one that is written
pub other_display : (shown : List Shown) (i k : ℕ) (new : Shown) → k ≢ i
    → slice_get (set shown i new) k ≡ slice_get shown k
other_display [] i k new other = refl
other_display (s ∷ shown) zero zero new other = absurd (other refl)
other_display (s ∷ shown) zero (suc k) new other = refl
other_display (s ∷ shown) (suc i) zero new other = refl
other_display (s ∷ shown) (suc i) (suc k) new other = other_display shown i k new (λ e. other (ap suc e))

-- the views of the displays
pub views_displayed : (n : ℕ) (config : Config) (events : List Event) (shown : List Shown)
    → AreDisplays n config events shown → (i : ℕ) → i < length shown
    → IsDisplayed n config (input_of (distance config) i events) (view_at (map view_shown shown) i)
views_displayed n config events shown are i within =
    let (s, at, view) = display_at shown i within in
    let input = input_of (distance config) i events in
    rw view (is_displayed n (tuned_to config input) s.keeping (view_shown s) input.heard (are i s at))

-- the views of displays that keep nothing are those of the receivers
pub plain_shown : (n receivers : ℕ) (config : Config) (events : List Event) (shown : List Shown) → n ≡ 0
    → receivers ≡ length shown → AreDisplays n config events shown
    → AreShown config receivers events (map view_shown shown)
plain_shown n receivers config events shown none count are i within =
    let input = input_of (distance config) i events in
    plain_view (tuned_to config input) input.heard (view_at (map view_shown shown) i)
    (rw none at (views_displayed n config events shown are i (omega (arith, count, within))))

-- a display that keeps nothing, after a slot that changed nothing
pub plain_next : (n : ℕ) (config : Config) (before after : Input) (s : Shown) → n ≡ 0 → IsDisplayAt n config before s
    → StaysShown config before after → IsDisplayAt n config after s
plain_next n config before after s none d stay =
    let t = tuned_to config before in
    let heard = stay.message ∷ before.heard in
    let had = subst (λ (k : ℕ). DisplayOf k t s.keeping (view_shown s) before.heard) none d in
    let was = plain_view t before.heard (view_shown s) (is_displayed 0 t s.keeping (view_shown s) before.heard had) in
    let is : ShowsView t.dwell t.first (counted t heard) (view_shown s) =
    rw (stay.first, stay.heard) at (stay.view (view_shown s) was) in
    let goes : GoesOnBy t before.heard heard = rw stay.heard at stay.goes_on in
    rw (none, stay.first, stay.heard)
    (plain_stays t s.keeping (view_shown s) stay.message before.heard had goes is)

pub plain_displays : (n : ℕ) (config : Config) (e : Event) (before : List Event) (shown : List Shown) → n ≡ 0
    → AreDisplays n config before shown → ((i : ℕ) → i < length shown → ShowsStill config i (e ∷ before))
    → AreDisplays n config (e ∷ before) shown
plain_displays n config e before shown none are still i s at =
    plain_next n config (input_of (distance config) i before) (input_of (distance config) i (e ∷ before)) s none
    (are i s at) (still i (slice_get_within shown i s at))

-- ---- a slot of a display

-- the receiver was restarted
pub starts_anew : (n : ℕ) (config : Config) (r : Reception) (slot : ℕ) (sent : List (Option Message)) (input : Input)
    (k : Keeping) (now : ShownView) → r ≡ Restart → k.keep ≡ n → CountsOf k []
    → IsViewOfInput config (received r slot sent input) now
    → DisplayOf n (tuned_to config (received r slot sent input)) k now (received r slot sent input).heard
starts_anew n config Restart slot sent input k now is keep counts view =
    display_starts n (tuned_to config (received Restart slot sent input)) k now keep counts view
starts_anew n config (Got back) slot sent input k now is keep counts view = absurd (cc)
starts_anew n config Lost slot sent input k now is keep counts view = absurd (cc)
starts_anew n config (Wrong message) slot sent input k now is keep counts view = absurd (cc)

-- one more entry was heard
pub goes_on : (n : ℕ) (config : Config) (before after : Input) (r : Receiver) (old new : Keeping) (is_changed : Bool)
    (change : Option Kept) (view : ShownView) (m : Option Message)
    → after.first ≡ before.first → after.heard ≡ m ∷ before.heard → HasHeard config after r
    → (is_changed ≡ false → StaysShown config before after)
    → DisplayOf n (tuned_to config before) old view before.heard
    → new.keep ≡ old.keep → (change ≡ None → is_changed ≡ false) → CountsSlot r old new is_changed change
    → DisplaysNext n config after new view change
goes_on n config before after r old new is_changed change view m first heard has still d keep calm counts =
    by change refl
  where
    t : Tuning
    t = tuned_to config before

    stands : ReceiverAt t r has.groups
    stands = rw first at has.stands

    are : AreHeard t.programme has.groups (m ∷ before.heard)
    are = rw heard at has.spelled

    goes : is_changed ≡ false → GoesOnBy t before.heard (m ∷ before.heard)
    goes e = rw heard at (still e).goes_on

    by : (o : Option Kept) → change ≡ o → DisplaysNext n config after new view o
    by None e =
        let was = (newest_showing d.showings).view in
        let is = newest_is t before.heard d.showings d.are in
        let now : ShowsView t.dwell t.first (counted t (m ∷ before.heard)) was =
        rw (first, heard) at ((still (calm e)).view was is.view) in
        rw (first, heard)
        (display_next n t r old new is_changed None view view was has.groups m before.heard d stands are goes
        (rw e at counts) keep now refl)
    by (Some kept) e = λ now is.
        rw (first, heard)
        (display_next n t r old new is_changed (Some kept) view (keeping kept view now) now has.groups m before.heard d
        stands are goes (rw e at counts) keep (rw (first, heard) at is) refl)
