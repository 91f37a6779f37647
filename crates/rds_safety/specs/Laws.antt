-- The laws about all plans, logs and inputs. Lists have the newest first.
use Rattle.std.specs.Prelude.{◌≡◌, ◌+◌, ◌-◌, ◌<◌, ◌↔◌, ℕ, List, [], ◌∷◌, Option, Some, All}
use Rattle.rds_fields.specs.declared.message.Message.{Message}
use Rattle.rds_encoder.specs.Laws.{ANumberIsBelowTheLength, ANumberNamesOne, SpacedAreFarApart}
use Rattle.rds_encoder.specs.Laws.{SpacedAreInOrder, SpacedOfOneFlagAreFarApart}
use Rattle.rds_encoder.specs.Plan.{Broadcast, HasNumber}
use Rattle.rds_encoder.specs.Spaced.{IsSpaced}
use Rattle.rds_assembly.specs.Body.{text_body}
use Rattle.rds_assembly.specs.Value.{IsText}
use Rattle.rds_receiver.specs.Receipts.{Segment}
use Rattle.rds_receiver.specs.declared.fragment.Fragment.{Fragment}
use Rattle.rds_safety.specs.Lawful.{IsFragmentOf, IsPaddedFragmentOf, Kind, padded_texts, texts}
use Rattle.rds_safety.specs.Late.{Input, IsHeardInOrder, IsHeardLate, IsHeardOnTime, own_origins}
use Rattle.rds_safety.specs.Near.{ListensNear}
use Rattle.rds_safety.specs.OwnClock.{IsHeardByOwnClock, IsTrueClock, ListensByOwnClock}
use Rattle.rds_safety.specs.OwnClock.{ListensBySlowClock, LosesAtMost, next_slot}
use Rattle.rds_safety.specs.Plans.{AreLawful, AreLawfulAs, Plans}
use Rattle.rds_safety.specs.Safe.{AreSafeViews, Listener, ListensTo}
use Rattle.rds_safety.specs.Source.{IsSource}

-- the laws about the broadcasts of all plans: a number names one broadcast and is below their count; spaced broadcasts
-- are in order and far apart
pub record PlanLaws : Type 0 where
  pub one : ANumberNamesOne
  pub below : ANumberIsBelowTheLength
  pub order : SpacedAreInOrder
  pub far : SpacedAreFarApart
  pub one_flag : SpacedOfOneFlagAreFarApart

-- if the input of each receiver is near the log, in whatever order, plans that are lawful for d make each slot safe for
-- any number of receivers of dwell m
abbrev pub LawfulPlansAreSafeNearAs : Kind → Type 0
LawfulPlansAreSafeNearAs kind =
    (d m now : ℕ) (plans : Plans) (log : List (Option Message)) (receivers : List Listener)
    → AreLawfulAs kind d plans log → All (ListensNear d m now log) receivers → AreSafeViews d m now plans log receivers

-- the same for texts without padding
abbrev pub LawfulPlansAreSafeNear : Type 0
LawfulPlansAreSafeNear = LawfulPlansAreSafeNearAs texts

-- if fewer than m slots of each receiver's own clock are fewer than d of the station, plans that are lawful for d make
-- each slot safe for any number of receivers of dwell m
abbrev pub LawfulPlansAreSafeByOwnClocksAs : Kind → Type 0
LawfulPlansAreSafeByOwnClocksAs kind =
    (d m now : ℕ) (plans : Plans) (log : List (Option Message)) (receivers : List Listener)
    → AreLawfulAs kind d plans log → All (ListensByOwnClock d m now log) receivers
    → AreSafeViews d m now plans log receivers

-- the same for texts without padding
abbrev pub LawfulPlansAreSafeByOwnClocks : Type 0
LawfulPlansAreSafeByOwnClocks = LawfulPlansAreSafeByOwnClocksAs texts

-- if each clock counts at most k slots too few within m, plans that are lawful for m + k make each slot safe
abbrev pub LawfulPlansAreSafeForSlowClocksAs : Kind → Type 0
LawfulPlansAreSafeForSlowClocksAs kind =
    (m k now : ℕ) (plans : Plans) (log : List (Option Message)) (receivers : List Listener)
    → AreLawfulAs kind (m + k) plans log → All (ListensBySlowClock k m now log) receivers
    → AreSafeViews (m + k) m now plans log receivers

-- the same for texts without padding
abbrev pub LawfulPlansAreSafeForSlowClocks : Type 0
LawfulPlansAreSafeForSlowClocks = LawfulPlansAreSafeForSlowClocksAs texts

-- if no group comes more than k slots late, plans that are lawful for m + k make each slot safe
abbrev pub LawfulPlansAreSafeAs : Kind → Type 0
LawfulPlansAreSafeAs kind =
    (m k t : ℕ) (plans : Plans) (log : List (Option Message)) (receivers : List Listener)
    → AreLawfulAs kind (m + k) plans log → All (ListensTo k m t log) receivers
    → AreSafeViews (m + k) m t plans log receivers

-- the same for texts without padding
abbrev pub LawfulPlansAreSafe : Type 0
LawfulPlansAreSafe = LawfulPlansAreSafeAs texts

-- what an encoder without padding sends of a text is also what one with padding may send of it
abbrev pub ASegmentIsPadded : Type 0
ASegmentIsPadded =
    (x : List ℕ) (p : Fragment) → IsText x → IsFragmentOf (text_body x) p → IsPaddedFragmentOf x p

-- so plans that are lawful without padding are lawful with it
abbrev pub LawfulIsLawfulPadded : Type 0
LawfulIsLawfulPadded =
    (d : ℕ) (plans : Plans) (log : List (Option Message)) → AreLawful d plans log
    → AreLawfulAs padded_texts d plans log

-- a run has at most one source
abbrev pub ARunHasOneSource : Type 0
ARunHasOneSource =
    (d : ℕ) (plan : List Broadcast) (input : Input) (the_run : List Segment) (k l : ℕ) (a b : Broadcast)
    → IsSpaced d plan
    → IsSource plan input the_run k a → IsSource plan input the_run l b → (k ≡ l) × (a ≡ b)

-- an input heard zero slots late has in each slot the entry of the log, or nothing
abbrev pub NoSlotLateIsOnTime : Type 0
NoSlotLateIsOnTime =
    (log : List (Option Message)) (first : ℕ) (heard : List (Option Message)) (origins : List (Option ℕ))
    → IsHeardLate 0 log record { first = first; heard = heard; origins = origins } → IsHeardOnTime log first heard

-- and such an input is heard zero slots late, if the origin of each entry is its own slot
abbrev pub OnTimeIsNoSlotLate : Type 0
OnTimeIsNoSlotLate =
    (log : List (Option Message)) (first : ℕ) (heard : List (Option Message)) → IsHeardOnTime log first heard
    → IsHeardLate 0 log record { first = first; heard = heard; origins = own_origins first heard }

-- a clock that counts at most k slots too few within m is an own clock with d = m + k
abbrev pub ASlowClockIsAnOwnClock : Type 0
ASlowClockIsAnOwnClock =
    (k m now : ℕ) (log : List (Option Message)) (input : Input) → IsHeardInOrder log input → LosesAtMost k m now input
    → IsHeardByOwnClock (m + k) m now log input

-- an input that is at most k slots late, and has reached the station's slot, is one by a clock that counts at most k
-- slots too few
abbrev pub LateIsBySlowClock : Type 0
LateIsBySlowClock =
    (k m now : ℕ) (log : List (Option Message)) (input : Input) → IsHeardLate k log input → next_slot input ≡ now + 1
    → IsHeardInOrder log input × LosesAtMost k m now input

-- a receiver that counts the station's slots hears zero slots late, and the other way round
abbrev pub TheTrueClockIsNoSlotLate : Type 0
TheTrueClockIsNoSlotLate =
    (log : List (Option Message)) (input : Input)
    → (IsHeardInOrder log input × IsTrueClock input) ↔ IsHeardLate 0 log input

-- there are plans that are lawful for so many slots, and a receiver of dwell m that listens in this way and shows a
-- mix: a text that no broadcast of the plans has; so its view is safe for no d
pub record ShowsAMix (slots m : ℕ) (Listens : ℕ → List (Option Message) → Listener → Type 0) : Type 0 where
  pub plans : Plans
  pub log : List (Option Message)
  pub lawful : AreLawful slots plans log
  pub t : ℕ
  pub receiver : Listener
  pub listens : Listens t log receiver
  pub mix : List ℕ
  pub shown : receiver.view.text ≡ Some mix
  pub of_none : (k : ℕ) (b : Broadcast) → HasNumber plans.text k b → b.bytes ≡ mix → ⊥
  pub fails : (d : ℕ) → AreSafeViews d m t plans log (receiver ∷ []) → ⊥

-- plans that are lawful for m + k - 1 slots are not enough
abbrev pub OneSlotLessMixes : Type 0
OneSlotLessMixes = (m k : ℕ) → 1 < m → ShowsAMix (m + k - 1) m (ListensTo k m)
