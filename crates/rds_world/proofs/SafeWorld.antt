-- Lemmas: the receivers of a world listen to its encoder, so their views are safe.
use Rattle.std.proofs.Common.{◌≡◌, ◌+◌, ℕ, suc, false, List, [], ◌∷◌, Option, Some, None, refl, ◌∙◌, subst, arith}
use Rattle.std.proofs.Common.{length, All, slice_get}
use Rattle.std.specs.List.{AllByRecursion, AllZip}
use Rattle.std.proofs.lemmas.List.Elements.{All-from_recursion}
use Rattle.rds_fields.specs.declared.message.Message.{Message}
use Rattle.rds_receiver.specs.Receipts.{Tuning}
use Rattle.rds_receiver.specs.Shown.{IsView, ShowsView, ShownView}
use Rattle.rds_receiver.specs.Confirmed.{counted_in}
use Rattle.rds_world.specs.ReceiverKind.{counted_input, lateness_in}
use Rattle.rds_receiver.specs.declared.receiver.Receiver.{Receiver}
use Rattle.rds_world.specs.Due.{AreDue}
use Rattle.rds_world.specs.Event.{Event}
use Rattle.rds_safety.specs.Late.{Input}
use Rattle.rds_safety.specs.Laws.{LawfulPlansAreSafe}
use Rattle.rds_safety.specs.OwnClock.{next_slot}
use Rattle.rds_safety.specs.Plans.{AreLawful, Plans}
use Rattle.rds_safety.specs.Safe.{AreSafeViews, Listener, ListensTo}
use Rattle.rds_safety.specs.Confirmed.{IsHeardWithWrong, ListensConfirmed}
use Rattle.rds_safety.specs.ConfirmedLaws.{LawfulPlansAreSafeConfirmed}
use Rattle.rds_world.specs.SafeSlots.{OnlyWhatWasOnAirIsShown, input_that_counts, listeners}
use Rattle.rds_world.specs.Slots.{input_of, log, plans_of}
use Rattle.rds_world.specs.WorldAt.{HasHeard, ReceiverShows, WorldAt, tuned_to}
use Rattle.rds_world.specs.State.{WorldState, distance}
use Rattle.rds_world.specs.declared.world.Config.{Config}
use Rattle.rds_world.specs.Station.{TheEncoderIsLawful}
use Rattle.rds_world.specs.Wrong.{AreFit, KeepsPremise}
use Rattle.rds_world.proofs.Received.{each_is_late, keeps_premise}
use Rattle.rds_world.proofs.WorldSlots.{events_are_lawful}
use Rattle.rds_world.proofs.InTime.{in_time, input_reaches}

-- receivers with the dwell have that of the station, and its window
tuned_alike : (config : Config) (input : Input) → config.kind.is_flag_alone ≡ false
    → tuned_to config input ≡ record {
      programme = config.head.pi;
      dwell = config.dwell;
      window = config.kind.window;
      first = input.first;
    }
tuned_alike config input has = grind arith

-- the view of a receiver is that of what counts of its input
pub shows_view : (config : Config) (input : Input) (r : Receiver) (view : ShownView)
    → config.kind.is_flag_alone ≡ false → HasHeard config input r → ReceiverShows r view
    → ShowsView config.dwell input.first (counted_in config.kind.window config.dwell input.first input.heard) view
shows_view config input r view kind has shows =
    let v = subst (λ (t : Tuning). IsView t has.groups view) (tuned_alike config input kind)
    (shows (tuned_to config input) has.groups has.stands) in
    search arith

-- the receiver listens to the log, with or without a window
abbrev pub ListensIn : Option ℕ → ℕ → ℕ → ℕ → List (Option Message) → Listener → Type 0
ListensIn None k m t log r = ListensTo k m t log r
ListensIn (Some w) k m t log r = ListensConfirmed w k m t log r

listens_in : (window : Option ℕ) (k m t : ℕ) (log : List (Option Message)) (input : Input) (view : ShownView)
    → IsHeardWithWrong k log input → KeepsPremise window input → next_slot input ≡ t + 1
    → ShowsView m input.first (counted_in window m input.first input.heard) view
    → ListensIn window k m t log record { input = counted_input window m input; view = view }
listens_in None k m t log input view heard keeps now shows = search (arith, each_is_late)
listens_in (Some w) k m t log input view heard keeps now shows = grind arith

-- a receiver of a world listens as the laws of safety want it
pub listens : (config : Config) (e : Event) (before : List Event) (i : ℕ) (r : Receiver) (view : ShownView)
    → config.kind.is_flag_alone ≡ false → AreDue config.late (e ∷ before) → AreFit config.kind.window (e ∷ before)
    → HasHeard config (input_of (distance config) i (e ∷ before)) r → ReceiverShows r view
    → ListensIn config.kind.window config.late config.dwell (length before)
    (log (distance config) (e ∷ before)) record { input = input_that_counts config i (e ∷ before); view = view }
listens config e before i r view kind due fit has shows =
    let input = input_of (distance config) i (e ∷ before) in
    listens_in config.kind.window config.late config.dwell (length before)
    (log (distance config) (e ∷ before)) input view
    (in_time (distance config) config.late i (e ∷ before) due) (keeps_premise (distance config) i
    config.kind.window (e ∷ before) fit) (input_reaches (distance config) i (e ∷ before) ∙ omega arith)
    (shows_view config input r view kind has shows)

all_listen : (config : Config) (e : Event) (before : List Event) (i : ℕ) (receivers : List Receiver)
    (views : List ShownView) → config.kind.is_flag_alone ≡ false → AreDue config.late (e ∷ before)
    → AreFit config.kind.window (e ∷ before)
    → ((n : ℕ) (r : Receiver) → slice_get receivers n ≡ Some r
    → HasHeard config (input_of (distance config) (i + n) (e ∷ before)) r) → AllZip ReceiverShows receivers views
    → AllByRecursion (ListensIn config.kind.window config.late config.dwell (length before)
    (log (distance config) (e ∷ before))) (listeners config (e ∷ before) i views)
all_listen config e before i [] [] kind due fit has shows = tt
all_listen config e before i [] (view ∷ views) kind due fit has shows = absurd shows
all_listen config e before i (r ∷ receivers) [] kind due fit has shows = absurd shows
all_listen config e before i (r ∷ receivers) (view ∷ views) kind due fit has shows =
    let here : i + 0 ≡ i = omega arith in (
      listens config e before i r view kind due fit
          (subst (λ n. HasHeard config (input_of (distance config) n (e ∷ before)) r) here (has 0 r refl)) shows.0,
      all_listen config e before (i + 1) receivers views kind due fit
          (λ n s at.
          let next : i + suc n ≡ i + 1 + n = omega arith in
          subst (λ n. HasHeard config (input_of (distance config) n (e ∷ before)) s) next (has (suc n) s at))
          shows.1,
    )

-- lawful plans make each slot safe, with or without a window
safe_in : LawfulPlansAreSafe → LawfulPlansAreSafeConfirmed
    → (window : Option ℕ) (k m t : ℕ) (plans : Plans) (log : List (Option Message)) (receivers : List Listener)
    → AreLawful (m + lateness_in window k) plans log → All (ListensIn window k m t log) receivers
    → AreSafeViews (m + lateness_in window k) m t plans log receivers
safe_in safe twice None k m t plans log receivers lawful all = safe m k t plans log receivers lawful all
safe_in safe twice (Some w) k m t plans log receivers lawful all = twice w k m t plans log receivers lawful all

-- the receivers of a world show only what was on air
pub safe_world : TheEncoderIsLawful → LawfulPlansAreSafe → LawfulPlansAreSafeConfirmed
    → (config : Config) (w : WorldState) (events : List Event) → WorldAt config w events
    → OnlyWhatWasOnAirIsShown config events w.receivers
safe_world lawful safe twice config w [] st = tt
safe_world lawful safe twice config w (e ∷ before) st = λ kind views shows.
    let events = e ∷ before in
    let d = distance config in
    let some = st.lasts in
    let window = config.kind.window in
    let all : AllByRecursion (ListensIn window config.late config.dwell (length before) (log d events))
    (listeners config events 0 views) =
    all_listen config e before 0 w.receivers views kind st.due st.fit
    (λ n r at. (let same : n ≡ 0 + n = omega arith in subst (λ i. HasHeard config (input_of d i events) r) same
    (st.receivers.each n r at))) shows in
    safe_in safe twice window config.late config.dwell (length before) (plans_of d events) (log d events)
    (listeners config events 0 views) (events_are_lawful lawful d events (omega (arith, some)) st.values)
    (All-from_recursion _ (listeners config events 0 views) all)
