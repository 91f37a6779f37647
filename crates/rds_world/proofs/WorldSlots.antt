-- Lemmas: the slots of a world are slots of a station, and their moves as texts alone, or names alone, see them.
use Rattle.std.proofs.Common.{◌≡◌, ◌-◌, ◌<◌, ℕ, List, [], ◌∷◌, ◌++◌, length, refl, sym, ap, subst, arith}
use Rattle.std.specs.List.{AllByRecursion}
use Rattle.rds_encoder.specs.Entries.{Entry, Move, Begin, Set, End, name_moves, slot_of, text_moves}
use Rattle.rds_encoder.specs.Plan.{plan_of}
use Rattle.rds_encoder.specs.Spaced.{IsUnset, RestartsComeFirst}
use Rattle.rds_encoder.specs.Sent.{sent_log}
use Rattle.rds_safety.specs.Plans.{AreLawful, Plans}
use Rattle.rds_world.specs.declared.event.Command.{Command}
use Rattle.rds_world.specs.declared.event.Command.TheVariants.{Restart, SetText, SetName}
use Rattle.rds_world.specs.Event.{Event}
use Rattle.rds_world.specs.Slots.{SetValues, commanded, entries, log, plans_of}
use Rattle.rds_world.specs.Station.{EndsASlot, IsValid, SlotsOfAWorldAreSlots, TheEncoderIsLawful, station_plans}

-- one service: its moves in a slot are at most one restart or set, and then the end of the slot
pub record IsService (moves : List Entry → List Move) : Type 0 where
  pub none : moves [] ≡ []
  pub slot : (e : Event) (before : List Event)
      → moves (entries (e ∷ before)) ≡ End e.free ∷ moves (commanded e.command (entries before))
  pub longer : (c : Command) (before : List Entry)
      → (told : List Move) × (moves (commanded c before) ≡ told ++ moves before)
  pub same_slot : (c : Command) (before : List Entry) → slot_of (moves (commanded c before)) ≡ slot_of (moves before)
  pub first : (c : Command) (before : List Entry) → IsUnset (moves before) → RestartsComeFirst (moves before)
      → RestartsComeFirst (moves (commanded c before))

-- the moves of texts are a service
pub text_service : IsService text_moves
text_service = search (arith, longer)
  where
    longer : (c : Command) (before : List Entry)
        → (told : List Move) × (text_moves (commanded c before) ≡ told ++ text_moves before)
    longer Restart before = (Begin ∷ [], refl)
    longer (SetText x) before = (Set x ∷ [], refl)
    longer _ before = ([], refl)

pub name_service : IsService name_moves
name_service = search (arith, longer)
  where
    longer : (c : Command) (before : List Entry)
        → (told : List Move) × (name_moves (commanded c before) ≡ told ++ name_moves before)
    longer Restart before = (Begin ∷ [], refl)
    longer (SetName x) before = (Set x ∷ [], refl)
    longer _ before = ([], refl)

module _ (moves : List Entry → List Move) (service : IsService moves) where
  -- the moves reach as many slots as there are events
  pub reaches : (events : List Event) → slot_of (moves (entries events)) ≡ length events
  reaches [] = ap slot_of service.none
  reaches (e ∷ before) = grind (arith, reaches before)

  unset : (events : List Event) → IsUnset (moves (entries events))
  unset [] = rw service.none tt
  unset (e ∷ before) = rw (service.slot e before) tt

  restarts_first : (events : List Event) → RestartsComeFirst (moves (entries events))
  restarts_first [] = subst RestartsComeFirst (sym service.none) tt
  restarts_first (e ∷ before) = grind (arith, restarts_first before, unset)

are_valid : (events : List Event) → SetValues events → AllByRecursion IsValid (entries events)
are_valid [] set = tt
are_valid (e ∷ before) set = grind (arith, are_valid before set.1)

ends_a_slot : (events : List Event) → EndsASlot (entries events)
ends_a_slot [] = tt
ends_a_slot (e ∷ before) = tt

same_log : (d : ℕ) (events : List Event) → sent_log d (entries events) ≡ log d events
same_log d [] = refl
same_log d (e ∷ before) = grind (arith, same_log d before)

-- the plans with these numbers of slots
abbrev plans_to : ℕ → List Event → ℕ → ℕ → Plans
plans_to d events s t = record {
  text = plan_of d (s - 1) (text_moves (entries events));
  name = plan_of d (t - 1)
      (name_moves (entries events));
}

same_plans : (d : ℕ) (events : List Event) → station_plans d (entries events) ≡ plans_of d events
same_plans d events = by (slot_of (text_moves (entries events))) (slot_of (name_moves (entries events)))
    (reaches text_moves text_service events) (reaches name_moves name_service events)
  where
    by : (s t : ℕ) → s ≡ length events → t ≡ length events → plans_to d events s t ≡ plans_of d events
    by s t p q = rw (p, q) refl

pub slots_of_a_world : SlotsOfAWorldAreSlots
slots_of_a_world d events set = record {
  slots = record {
    valid = are_valid events set;
    ended = ends_a_slot events;
    texts = restarts_first text_moves
        text_service events;
    names = restarts_first name_moves name_service events;
  };
  log = same_log d events;
  plans = same_plans d events;
}

-- so the encoder of a world is lawful
pub events_are_lawful : TheEncoderIsLawful → (d : ℕ) (events : List Event) → 0 < d → SetValues events
    → AreLawful d (plans_of d events) (log d events)
events_are_lawful lawful d events some set =
    let same = slots_of_a_world d events set in
    grind (arith)
