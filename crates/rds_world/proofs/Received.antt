-- Lemmas: the input of a receiver after one more slot, and one entry of a list after it was written.
use Rattle.std.proofs.Common.{◌≡◌, ◌<◌, ℕ, zero, suc, Bool, true, false, List, [], ◌∷◌, Option, Some, None, refl, subst}
use Rattle.std.proofs.Common.{◌||◌, take, arith, sym, ◌+◌, ◌≤◌, length, ◌⊎◌, ◌-◌, inl, inr, ◌≢◌, nat_eq, ◌++◌}
use Rattle.std.proofs.Common.{drop, is_some, nat_lt, slice_get, slice_index_or, slice_set, IfSome, Contains}
use Rattle.std.specs.List.{AllByRecursion}
use Rattle.rds_block.specs.declared.group.Group.{Group}
use Rattle.rds_fields.specs.declared.head.Head.{Head}
use Rattle.rds_fields.specs.declared.message.Message.{Message}
use Rattle.rds_encoder.specs.Sent.{IsSent}
use Rattle.rds_receiver.specs.Receipts.{Hears}
use Rattle.rds_receiver.specs.OneView.{heard_next, hears_spelled}
use Rattle.rds_receiver.specs.Shown.{ShownView}
use Rattle.rds_receiver.specs.ReceiverAt.{KeepsShowing, KeepsView, TakesSlot}
use Rattle.rds_safety.specs.Late.{Input, HasEntry, IsHeardLate}
use Rattle.rds_receiver.specs.declared.receiver.Receiver.{Receiver}
use Rattle.rds_world.specs.WorldAt.{HasHeard, HeardNothing, StaysShown, tuned_to, AreLastSent, AllHaveHeard, HavePasts}
use Rattle.rds_world.specs.WorldAt.{HaveReaches, IsViewOfInput, ReceiverShows, ShowsStill, WorldAt}
use Rattle.rds_world.specs.declared.world.Config.{Config}
use Rattle.std.proofs.lemmas.List.{get_or_default, get_or_past, get_or-take, length-take-le}
use Rattle.rds_world.specs.declared.event.Reception.{Reception}
use Rattle.rds_world.specs.declared.event.Reception.TheVariants.{Lost, Got, Wrong, Restart}
use Rattle.rds_world.specs.Due.{IsDueTo, last_named, reach_of, IsDueToAll}
use Rattle.rds_world.specs.Event.{Event}
use Rattle.rds_safety.specs.Confirmed.{IsHeardWithWrong, NoWrongConfirmed, WasSent}
use Rattle.rds_safety.proofs.Entries.{before_end, one_entry}
use Rattle.rds_world.specs.Slots.{input_of, log, received, SetsAValue, entries}
use Rattle.rds_world.specs.Wrong.{AreFit, EachWasSent, IsFit, IsFitTo, KeepsPremise, TheFitKeepThePremise, with_wrong}
use Rattle.rds_world.specs.Wrong.{wrong_of, IsFitToAll}
use Rattle.std.specs.Cmp.Lexicographic.{other_text, pointwise, same_text}
use Rattle.rds_fields.specs.contracts.message.MessagePartialEq.TheImpl.{eq-value}
use Rattle.std.specs.Borrow.{Bor}
use Rattle.std.proofs.Math.Seq.{take-append_seam}
use Rattle.std.proofs.lemmas.Option.{slice_get_read}
use Rattle.rds_encoder.specs.EncoderAt.{EncoderAt}
use Rattle.rds_world.specs.State.{WorldState, distance}

-- receivers of the programme hear the message of a slot
pub hears_sent : (head : Head) (sent : Option Message) (group : Option Group) → IsSent head sent group
    → Hears head.pi group sent
hears_sent head None None s = refl
hears_sent head None (Some group) s = absurd s
hears_sent head (Some message) None s = absurd s
hears_sent head (Some message) (Some group) s = hears_spelled head.pi group message s.head.pi s.spelled

abbrev input_from : ℕ → List (Option Message) → List (Option ℕ) → Input
input_from first heard origins = record { first = first; heard = heard; origins = origins }

-- one more group was handled, so one more entry was heard
pub hears_more : (config : Config) (input : Input) (old new : Receiver) (group : Option Group)
    (heard : Option Message) (origin : Option ℕ)
    → Hears config.head.pi group heard → TakesSlot old new group
    → HasHeard config input old
    → HasHeard config (input_from input.first (heard ∷ input.heard) (origin ∷ input.origins)) new
hears_more config input old new group heard origin hears goes_on has = record {
  groups = group ∷ has.groups;
  spelled = heard_next config.head.pi group has.groups heard input.heard hears has.spelled;
  stands = goes_on (tuned_to config input) has.groups has.stands;
}

-- one more group was handled, and nothing that is shown changed
pub stays_shown : (config : Config) (input : Input) (old : Receiver) (group : Option Group)
    (heard : Option Message) (origin : Option ℕ)
    → Hears config.head.pi group heard → KeepsView old group → KeepsShowing old group
    → HasHeard config input old
    → StaysShown config input (input_from input.first (heard ∷ input.heard) (origin ∷ input.origins))
stays_shown config input old group heard origin hears stays goes has =
    let t = tuned_to config input in
    let spelled = heard_next config.head.pi group has.groups heard input.heard hears has.spelled in
    record {
      first = refl;
      message = heard;
      heard = refl;
      view = λ view shown. rw spelled (stays view t has.groups has.stands (rw has.spelled at shown));
      goes_on = rw (spelled, has.spelled) (goes t has.groups has.stands);
    }

-- a receiver before its first slot has heard nothing
pub heard_nothing : (config : Config) (first : ℕ) (r : Receiver) → HeardNothing config r
    → HasHeard config (input_from first [] []) r
heard_nothing config first r begins = record { groups = []; spelled = refl; stands = begins first }

-- what is written at a place is there
pub written : {X : Type 0} (rs : List X) (i : ℕ) (r s : X) → slice_get (slice_set rs i r) i ≡ Some s → r ≡ s
written [] i r s e = absurd (cc)
written (x ∷ rs) zero r s e = cc
written (x ∷ rs) (suc i) r s e = written rs i r s e

-- each of the first entries is one of all entries
pub one_of_first : {X : Type 0} (P : X → Type 0) (n : ℕ) (rs : List X) (i : ℕ) (r : X) → AllByRecursion P rs
    → slice_get (take n rs) i ≡ Some r → P r
one_of_first P (suc n) (x ∷ rs) zero r all e = subst P (cc) all.0
one_of_first P (suc n) (x ∷ rs) (suc i) r all e = one_of_first P n rs i r all.1 e
one_of_first P _ _ i r all e = absurd (cc)

-- what is among the first entries is an entry
pub of_first : {X : Type 0} (n : ℕ) (xs : List X) (i : ℕ) (x : X) → slice_get (take n xs) i ≡ Some x
    → (i < n) × (slice_get xs i ≡ Some x)
of_first (suc n) (y ∷ xs) zero x e = (omega arith, e)
of_first (suc n) (y ∷ xs) (suc i) x e = grind (arith, of_first n xs i x e)
of_first _ _ i x e = absurd (cc)

-- two marks that both fail
pub both_fail : (a b : Bool) → (a || b) ≡ false → (a ≡ false) × (b ≡ false)
both_fail a b e = grind arith

-- a mark that is not set is the one that was written
pub marked : (xs : List Bool) (i : ℕ) (b : Bool) → slice_index_or (slice_set xs i b) i true ≡ false → b ≡ false
marked [] i b e = absurd (cc)
marked (x ∷ xs) zero b e = e
marked (x ∷ xs) (suc i) b e = marked xs i b e

-- ---- how far back a receiver may get a message, slot by slot, and which groups are kept

-- the slot whose message the last `Got` gave came before this one
pub named_past : (i : ℕ) (events : List Event) → IfSome (last_named i events) (λ s. s < length events)
named_past i [] = tt
named_past i (e ∷ before) = grind (arith, named_past i before)

-- the groups that are kept after one more slot
pub one_more_sent : (config : Config) (sent : Option Message) (group : Option Group) (before : List (Option Message))
    (groups : List (Option Group)) → IsSent config.head sent group
    → AreLastSent config before groups
    → AreLastSent config (sent ∷ before) (take (config.late + 1) (group ∷ groups))
one_more_sent config sent group before groups now kept back within = grind (arith, get_or-take, hears_sent)

-- a reception at a place within the list is that of the event
pub same_reception : (e : Event) (receptions : List Reception) (i : ℕ) (r : Reception) → receptions ≡ e.receptions
    → i < length receptions → r ≡ slice_index_or receptions i r → r ≡ slice_index_or e.receptions i Lost
same_reception e receptions i r same there is = grind (arith, get_or_default)

-- a reception past the end of the list is due
pub due_past : (k : ℕ) (e : Event) (before : List Event) (i : ℕ) → length e.receptions ≤ i → IsDueTo k e before i
due_past k e before i past = grind (arith, get_or_past)

-- if nothing is kept so far back, nothing is read
pub nothing_there : (groups : List (Option Group)) (back : ℕ) → slice_get groups back ≡ None
    → slice_index_or groups back None ≡ None
nothing_there [] back e = refl
nothing_there (g ∷ groups) zero e = absurd (cc)
nothing_there (g ∷ groups) (suc back) e = nothing_there groups back e

-- in the first slot only that slot is due
pub at_first : (k : ℕ) → 1 ≡ reach_of k 0 None
at_first k = omega arith

-- ---- what a receiver got keeps the premise about wrong messages, if its receptions do

-- each message was sent, or it is one of these wrong messages
abbrev AreSentOrWrong : Input → List (Option Message) → Type 0
AreSentOrWrong input wrong =
    (t : ℕ) (message : Message) → HasEntry input.first input.heard t (Some message)
    → WasSent input t ⊎ HasEntry input.first wrong t (Some message)

-- an input in which each message was sent is late
pub each_is_late : (k : ℕ) (log : List (Option Message)) (input : Input) → IsHeardWithWrong k log input
    → EachWasSent input → IsHeardLate k log input
each_is_late k log input heard sent = grind (arith, one_entry)

-- one more entry keeps what was sent
later : (first : ℕ) (heard : List (Option Message)) (origins : List (Option ℕ)) (x : Option Message) (o : Option ℕ)
    (t : ℕ)
    → WasSent record { first = first; heard = heard; origins = origins } t
    → WasSent record { first = first; heard = x ∷ heard; origins = o ∷ origins } t
later first heard origins x o t was = record { slot = was.slot; from = inr was.from }

each_with : (r : Reception) (slot : ℕ) (sent : List (Option Message)) (input : Input) (wrong : List (Option Message))
    → IsFit None wrong r → length input.origins ≡ length input.heard
    → EachWasSent input → EachWasSent (received r slot sent input)
each_with (Got back) slot sent input wrong fit beside old t m (inl now) = record
    { slot = slot - back; from = inl (omega (arith, now.0, beside), refl) }
each_with (Got back) slot sent input wrong fit beside old t m (inr earlier) = later _ _ _ _ _ t (old t m earlier)
each_with Lost slot sent input wrong fit beside old t m (inr earlier) = later _ _ _ _ _ t (old t m earlier)
each_with r slot sent input wrong fit beside old t m h = grind arith

said_with : (r : Reception) (slot : ℕ) (sent : List (Option Message)) (input : Input) (wrong : List (Option Message))
    → length input.origins ≡ length input.heard → length wrong ≡ length input.heard
    → AreSentOrWrong input wrong → AreSentOrWrong (received r slot sent input) (with_wrong r wrong)
said_with (Got back) slot sent input wrong beside long old t m (inl now) = inl record
    { slot = slot - back; from = inl (omega (arith, now.0, beside), refl) }
said_with (Wrong x) slot sent input wrong beside long old t m (inl now) = inr (inl (omega (arith, now.0, long), now.1))
said_with Lost slot sent input wrong beside long old t m (inl now) = absurd (let none = now.1 in cc)
said_with Restart slot sent input wrong beside long old t m h = absurd h
said_with r slot sent input wrong beside long old t m (inr earlier) = grind arith

-- an entry less than n slots before the next one is among the last n
among : (first : ℕ) (wrong : List (Option Message)) (n t : ℕ) (x : Option Message) → HasEntry first wrong t x
    → first + length wrong ≤ t + n → Contains (take n wrong) x
among first [] n t x h soon = absurd h
among first (y ∷ before) zero t x h soon = grind (arith, before_end)
among first (y ∷ before) (suc n) t x (inl p) soon = (0, omega arith, sym p.1)
among first (y ∷ before) (suc n) t x (inr h) soon =
    let (k, below, is) = among first before n t x h (omega (arith, soon)) in (suc k, omega (arith, below), is)

once_with : (w : ℕ) (r : Reception) (slot : ℕ) (sent : List (Option Message)) (input : Input)
    (wrong : List (Option Message)) → IsFit (Some w) wrong r → length input.origins ≡ length input.heard
    → length wrong ≡ length input.heard → AreSentOrWrong input wrong → NoWrongConfirmed w input
    → NoWrongConfirmed w (received r slot sent input)
once_with w (Got back) slot sent input wrong fit beside long said old t u m two before soon a (inl q) = inr record
    { slot = slot - back; from = inl (omega (arith, q.0, beside), refl) }
once_with w (Got back) slot sent input wrong fit beside long said old t u m two before soon a (inr b) =
    grind (arith, before_end, old t u m two before soon)
once_with w Lost slot sent input wrong fit beside long said old t u m two before soon a b =
    grind (arith, old t u m two before soon)
once_with w (Wrong x) slot sent input wrong fit beside long said old t u m two before soon (inl p) b =
    grind (arith, before_end)
once_with w (Wrong x) slot sent input wrong fit beside long said old t u m two before soon (inr a) (inl q) =
    grind (arith, said t m a, among input.first wrong (w - 1) t (Some m))
once_with w (Wrong x) slot sent input wrong fit beside long said old t u m two before soon (inr a) (inr b) =
    grind (arith, old t u m two before soon a b)
once_with w Restart slot sent input wrong fit beside long said old t u m two before soon a b = absurd a

-- as many origins, and as many wrong messages or none, as entries
module _ (d i : ℕ) where
  beside : (events : List Event) → length (input_of d i events).origins ≡ length (input_of d i events).heard
  beside [] = refl
  beside (e ∷ before) = grind (arith, beside before)

  long : (events : List Event) → length (wrong_of i events) ≡ length (input_of d i events).heard
  long [] = refl
  long (e ∷ before) = grind (arith, long before)

  each_sent : (events : List Event) → AreFit None events → EachWasSent (input_of d i events)
  each_sent [] fit = λ t m h. absurd h
  each_sent (e ∷ before) fit = grind (arith, each_sent before fit.1, each_with, beside)

  said : (events : List Event) → AreSentOrWrong (input_of d i events) (wrong_of i events)
  said [] = λ t m h. absurd h
  said (e ∷ before) = grind (arith, said before, said_with, beside, long)

  once : (w : ℕ) (events : List Event) → AreFit (Some w) events → NoWrongConfirmed w (input_of d i events)
  once w [] fit = λ t u m two before soon a b. absurd a
  once w (e ∷ before) fit =
      once_with w (slice_index_or e.receptions i Lost) (length before) (log d (e ∷ before)) (input_of d i before)
      (wrong_of i before) (fit.0 i) (beside before) (long before) (said before)
      (once w before fit.1)

  -- slots that fit the window keep the premise on wrong groups
  pub keeps_premise : (window : Option ℕ) (events : List Event) → AreFit window events
      → KeepsPremise window (input_of d i events)
  keeps_premise None events fit = each_sent events fit
  keeps_premise (Some w) events fit = once w events fit

-- one of the last n entries, by its slot
pub record AmongLast (first : ℕ) (wrong : List (Option Message)) (n : ℕ) (x : Option Message) : Type 0 where
  slot : ℕ
  has : HasEntry first wrong slot x
  soon : first + length wrong ≤ slot + n
  some : 0 < n

among_last : (first : ℕ) (wrong : List (Option Message)) (n : ℕ) (x : Option Message) → Contains (take n wrong) x
    → AmongLast first wrong n x
among_last first wrong zero x (k, below, is) = absurd (omega (arith, below))
among_last first [] (suc n) x (k, below, is) = absurd (omega (arith, below))
among_last first (y ∷ before) (suc n) x (zero, below, is) = record
    { slot = first + length before; has = inl (refl, sym is); soon = omega arith; some = omega arith }
among_last first (y ∷ before) (suc n) x (suc k, below, is) =
    grind (arith, among_last first before n x (k, omega (arith, below), is))

-- each of these wrong messages was heard, and has no origin
abbrev AreHeardWrong : Input → List (Option Message) → Type 0
AreHeardWrong input wrong =
    (t : ℕ) (message : Message) → HasEntry input.first wrong t (Some message)
    → HasEntry input.first input.heard t (Some message) × HasEntry input.first input.origins t None

heard_wrong_with : (r : Reception) (slot : ℕ) (sent : List (Option Message)) (input : Input)
    (wrong : List (Option Message)) → length input.origins ≡ length input.heard → length wrong ≡ length input.heard
    → AreHeardWrong input wrong → AreHeardWrong (received r slot sent input) (with_wrong r wrong)
heard_wrong_with r slot sent input wrong beside long old t m h = grind arith

heard_wrong : (d i : ℕ) (events : List Event) → AreHeardWrong (input_of d i events) (wrong_of i events)
heard_wrong d i [] = λ t m h. absurd h
heard_wrong d i (e ∷ before) = grind (arith, heard_wrong d i before, heard_wrong_with, beside, long)

-- an entry without an origin was not sent
not_sent : (input : Input) (t : ℕ) → HasEntry input.first input.origins t None → WasSent input t → ⊥
not_sent input t none was = grind (arith, one_entry)

-- what keeps the premise is fit
fit_with : (window : Option ℕ) (r : Reception) (slot : ℕ) (sent : List (Option Message)) (input : Input)
    (wrong : List (Option Message)) → length input.origins ≡ length input.heard
    → length wrong ≡ length input.heard → AreHeardWrong input wrong → KeepsPremise window (received r slot sent input)
    → IsFit window wrong r
fit_with None (Wrong x) slot sent input wrong beside long heard keeps =
    let now = input.first + length input.heard in
    grind (arith, keeps now x (inl (refl, refl)), not_sent (received (Wrong x) slot sent input) now)
fit_with (Some w) (Wrong x) slot sent input wrong beside long heard keeps = λ two again.
    let now = input.first + length input.heard in
    let after = received (Wrong x) slot sent input in
    let before = among_last input.first wrong (w - 1) (Some x) again in
    let was = heard before.slot x before.has in
    let last = before_end input.first wrong before.slot (Some x) before.has in
    grind (arith, keeps before.slot now x two, not_sent after before.slot, not_sent after now)
fit_with window _ slot sent input wrong beside long heard keeps = tt

-- what is fit keeps the premise
keeps_with : (window : Option ℕ) (d i : ℕ) (e : Event) (before : List Event) → AreFit window before
    → IsFitTo window e before i → KeepsPremise window (input_of d i (e ∷ before))
keeps_with None d i e before fit now = grind (arith, each_with, beside, each_sent)
keeps_with (Some w) d i e before fit now =
    once_with w (slice_index_or e.receptions i Lost) (length before) (log d (e ∷ before)) (input_of d i before)
    (wrong_of i before) now (beside d i before) (long d i before) (said d i before)
    (once d i w before fit)

pub fit_keeps : TheFitKeepThePremise
fit_keeps window d i e before fit = (
  keeps_with window d i e before fit,
  fit_with window (slice_index_or e.receptions i Lost) (length before) (log d (e ∷ before)) (input_of d i before)
      (wrong_of i before) (beside d i before) (long d i before) (heard_wrong d i before),
)

-- ---- the ring of the last wrong messages of a receiver, slot by slot

-- a reception that does not keep the premise is a wrong message
pub breaks_by : (window : Option ℕ) (wrong : List (Option Message)) (r : Reception) → (IsFit window wrong r → ⊥)
    → (message : Message) × (r ≡ Wrong message)
breaks_by window wrong r breaks = grind arith

-- a reception past the end of the list keeps the premise
pub fit_past : (window : Option ℕ) (e : Event) (before : List Event) (i : ℕ) → length e.receptions ≤ i
    → IsFitTo window e before i
fit_past window e before i past = grind (arith, get_or_past)

-- the test of two lists of bytes decides whether they are the same
bytes_tell : (xs ys : List ℕ)
    → ((pointwise nat_eq xs ys ≡ true) × (xs ≡ ys)) ⊎ ((pointwise nat_eq xs ys ≡ false) × (xs ≢ ys))
bytes_tell xs ys = by (pointwise nat_eq xs ys) refl
  where
    by : (t : Bool) → pointwise nat_eq xs ys ≡ t
        → ((pointwise nat_eq xs ys ≡ true) × (xs ≡ ys)) ⊎ ((pointwise nat_eq xs ys ≡ false) × (xs ≢ ys))
    by true e = inl (e, same_text xs ys (sym e))
    by false e = inr (e, other_text xs ys (sym e))

-- the test of two messages decides whether they are the same
pub same_by_test : (x y : Message) → eq-value.it x y ≡ true → x ≡ y
same_by_test x y e = search (arith, bytes_tell)

-- ---- a world after one more slot

-- the first n of eight entries were written
pub front_is : {X : Type 0} (new old : List X) (n : ℕ) → length new ≡ length (take n old) → n ≤ 8 → length old ≡ 8
    → new ≡ take n (new ++ drop n old)
front_is {X} new old n long few eight = grind (arith, length-take-le, take-append_seam)

-- a world stands at its slots with its own configuration
pub by_own : (config : Config) (w : WorldState) (events : List Event) → WorldAt config w events
    → WorldAt w.config w events
by_own config w events st = subst (λ (c : Config). WorldAt c w events) (sym st.is_set) st

-- the encoder and the receivers took the slot
pub stepped : (config : Config) (old new : WorldState) (events : List Event) (e : Event) → WorldAt config old events
    → new.config ≡ old.config
    → SetsAValue e.command → IsDueToAll old.config.late e events → IsFitToAll old.config.kind.window e events
    → EncoderAt old.config.head (distance old.config) new.encoder (entries (e ∷ events))
    → AllHaveHeard old.config (λ i. received (slice_index_or e.receptions i Lost) (length events)
    (log (distance old.config) (e ∷ events)) (input_of (distance old.config) i events)) new.receivers
    → HaveReaches old.config.late (e ∷ events) new.reaches
    → HavePasts old.config.kind.window (e ∷ events) new.pasts
    → AreLastSent old.config (log (distance old.config) (e ∷ events)) new.sent
    → ((i : ℕ) → slice_index_or new.changed i true ≡ false → ShowsStill old.config i (e ∷ events))
    → WorldAt config new (e ∷ events)
stepped config old new events e st same value due fit told heard reaches pasts sent stay =
    let own = by_own config old events st in
    let now : WorldAt old.config new (e ∷ events) = search arith in
    subst (λ (c : Config). WorldAt c new (e ∷ events)) st.is_set now

-- the view of a borrowed receiver is that of its input
pub shows_what_it_heard : (config : Config) (w : WorldState) (i : ℕ) (events : List Event) → WorldAt config w events
    → (o : Option (Bor Receiver)) → is_some o ≡ nat_lt i (length w.receivers)
    → IfSome o (λ r. r.now ≡ slice_index_or w.receivers i r.now)
    → IfSome o (λ r. (view : ShownView) → ReceiverShows r.now view
    → IsViewOfInput config (input_of (distance config) i events) view)
shows_what_it_heard config w i events st None there is = tt
shows_what_it_heard config w i events st (Some r) there is = λ view shows.
    let at : slice_get w.receivers i ≡ Some r.now = search (arith, slice_get_read) in
    let has = st.receivers.each i r.now at in
    rw has.spelled (shows (tuned_to config (input_of (distance config) i events)) has.groups has.stands)
