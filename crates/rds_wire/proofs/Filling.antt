-- What `slots` writes of a recording is received, by a clock of the receiver's own.
use Rattle.std.proofs.lemmas.Bool.Decides.{nat_tests}
use Rattle.std.proofs.Common.{◌≡◌, ◌<◌, ◌≤◌, ◌+◌, ◌-◌, ◌==◌, ◌∷◌, [], ◌∙◌, ℕ, suc, cond, List, Option, None, Some, ap}
use Rattle.std.proofs.Common.{arith, inr, length, map, refl, subst, sym}
use Rattle.std.proofs.lemmas.List.{length-map}
use Rattle.rds_arrivals.specs.Arrivals.{Arrival, and_lost, filled}
use Rattle.rds_arrivals.specs.Delivered.{arrivals, origins}
use Rattle.rds_arrivals.specs.Laws.{FilledLogsAreOwnClocks}
use Rattle.rds_block.specs.declared.group.Group.{Group}
use Rattle.rds_log.specs.FilledLog.{FilledTextsAreLogs}
use Rattle.rds_lines.specs.LogSlots.{IsLogOf}
use Rattle.rds_lines.specs.OneLog.{same_log}
use Rattle.rds_safety.specs.Late.{HasEntry, IsOfItsOrigin}
use Rattle.rds_safety.specs.OwnClock.{IsHeardByOwnClock}
use Rattle.rds_safety.proofs.Entries.{one_entry}
use Rattle.rds_wire.specs.FromTimes.{WhatSlotsWritesIsReceived}
use Rattle.rds_wire.specs.Received.{first_entries, own_group}
use Rattle.rds_wire.proofs.Receiving.{first_all}

-- ---- without the groups of other programmes

-- the origin of a group of another programme is none
abbrev kept_origin : ℕ → Option Group → Option ℕ → Option ℕ
kept_origin pi None origin = origin
kept_origin pi (Some g) origin = cond (g.pi == pi) origin None

abbrev kept_origins : ℕ → List (Option Group) → List (Option ℕ) → List (Option ℕ)
kept_origins pi [] from = []
kept_origins pi (slot ∷ before) [] = []
kept_origins pi (slot ∷ before) (origin ∷ older) = kept_origin pi slot origin ∷ kept_origins pi before older

kept_long : (pi : ℕ) (got : List (Option Group)) (from : List (Option ℕ)) → length from ≡ length got
    → length (kept_origins pi got from) ≡ length got
kept_long pi [] from same = refl
kept_long pi (slot ∷ before) [] same = absurd (omega (arith, same))
kept_long pi (slot ∷ before) (origin ∷ older) same = ap suc (kept_long pi before older (omega (arith, same)))

-- an origin that was kept, with its group and what it was before
record Kept (pi : ℕ) (got : List (Option Group)) (from : List (Option ℕ)) (t : ℕ) (origin : Option ℕ) : Type 0 where
  slot : Option Group
  came : HasEntry 0 got t slot
  was : Option ℕ
  from_was : HasEntry 0 from t was
  is : origin ≡ kept_origin pi slot was

kept : (pi : ℕ) (got : List (Option Group)) (from : List (Option ℕ)) (t : ℕ) (origin : Option ℕ)
    → length from ≡ length got → HasEntry 0 (kept_origins pi got from) t origin → Kept pi got from t origin
kept pi [] from t origin same at = absurd at
kept pi (slot ∷ before) [] t origin same at = absurd at
kept pi (slot ∷ before) (o ∷ older) t origin same here =
    grind (arith, kept pi before older t origin (omega (arith, same)), kept_long)

-- an origin that is there was kept
was_there : (pi : ℕ) (slot : Option Group) (was : Option ℕ) (s : ℕ) → Some s ≡ kept_origin pi slot was → was ≡ Some s
was_there pi slot was s is = grind arith

map_entry : (f : Option Group → Option Group) (xs : List (Option Group)) (t : ℕ) (x : Option Group) → HasEntry 0 xs t x
    → HasEntry 0 (map f xs) t (f x)
map_entry f [] t x at = absurd at
map_entry f (y ∷ xs) t x here = grind (arith, map_entry f xs t x, length-map)

module _ (pi d m now : ℕ) (sent got : List (Option Group)) (from : List (Option ℕ))
    (own : IsHeardByOwnClock d m now sent record { first = 0; heard = got; origins = from }) where
  before : (t s : ℕ) → HasEntry 0 (kept_origins pi got from) t (Some s) → HasEntry 0 from t (Some s)
  before t s at = grind (arith, kept, was_there)

  each : (t : ℕ) (origin : Option ℕ) (entry : Option Group) → HasEntry 0 (kept_origins pi got from) t origin
      → HasEntry 0 (map (own_group pi) got) t entry → IsOfItsOrigin sent origin entry
  each t origin entry p q =
      let it = kept pi got from t origin own.order.beside p in
      let same = one_entry 0 (map (own_group pi) got) t entry (own_group pi it.slot) q
      (map_entry (own_group pi) got t it.slot it.came) in
      grind (arith, nat_tests, own.order.each t it.was it.slot it.from_was it.came)

  -- a receiver of the programme hears the same by the same clock
  own_by_own_clock : IsHeardByOwnClock d m now sent
      record { first = 0; heard = map (own_group pi) got; origins = kept_origins pi got from }
  own_by_own_clock = grind (arith, kept_long, length-map, each, before)

-- ---- what `slots` writes

-- a clock for d slots is one for more
looser : (d e m now : ℕ) (sent got : List (Option Group)) (from : List (Option ℕ)) → d ≤ e
    → IsHeardByOwnClock d m now sent record { first = 0; heard = got; origins = from }
    → IsHeardByOwnClock e m now sent record { first = 0; heard = got; origins = from }
looser d e m now sent got from more own = grind arith

-- the slots of the newest group and of what was lost since are some
some_slots : (n : ℕ) (slots : List (Option Group)) → 0 < length slots → 0 < length (and_lost n slots)
some_slots n slots some = grind arith

-- what `slots` writes is received
pub filled_is_received : FilledTextsAreLogs → FilledLogsAreOwnClocks Group → WhatSlotsWritesIsReceived
filled_is_received logs clocks a f spread log sent newest before lines s got wide some dwell usual is given all fill
    came
    got_is few =
    let now = newest.slot + s.told in
    let slots : List (Option Group) = and_lost s.told (filled f.grain f.dwell (arrivals (newest ∷ before))) in
    let same : got ≡ slots = same_log 11 s.written got slots got_is
    (subst (λ (l : List (Arrival Group)). IsLogOf 11 s.written (and_lost s.told (filled f.grain f.dwell l))) came
    (logs f lines s all fill)) in
    let from = and_lost s.told (filled f.grain f.dwell (origins (newest ∷ before))) in
    let own = clocks f.grain spread f.dwell 0 s.told sent newest before wide some given in
    let long : 0 < length got =
    subst (λ (l : List (Option Group)). 0 < length l) (sym same)
    (some_slots s.told (filled f.grain f.dwell (arrivals (newest ∷ before))) (omega arith)) in
    let whole : first_entries (length got - 1 + 1) got ≡ slots =
    first_all (length got - 1 + 1) got (omega (arith, long)) ∙ same in
    record {
      sent = sent;
      log_has = rw usual is;
      reached = omega (arith, long);
      few = few;
      origins = kept_origins a.pi slots from;
      came = inr (rw (whole, dwell) (own_by_own_clock a.pi (f.dwell + a.late) f.dwell now sent slots from
          (looser f.dwell (f.dwell + a.late) f.dwell now sent slots from (omega arith) own)));
    }
