-- Lemmas: the ages that the plain numbers of a receiver stand for.
use Rattle.std.proofs.Common.{◌≡◌, ◌≢◌, ◌⊎◌, ◌+◌, ◌-◌, ◌<◌, ◌≤◌, ℕ, List, ◌∷◌, Option, Some, None, length, ◌∙◌, inl}
use Rattle.std.proofs.Common.{inr, arith, nat_cmp}
use Rattle.std.specs.FinMap.{empty, get-empty, get-insert, insert}
use Rattle.std.specs.Cmp.{unsigned_tied}
use Rattle.std.proofs.lemmas.Cmp.{nat_cmp_total}
use Rattle.std.proofs.lemmas.Bool.{cases_lt}
use Rattle.std.proofs.lemmas.Bool.Decides.{nat_tests}
use Rattle.rds_fields.specs.declared.message.Message.{Message}
use Rattle.rds_fields.specs.Stored.{is_set, pair_stored}
use Rattle.rds_assembly.specs.Cells.{Cells}
use Rattle.rds_assembly.specs.Held.{held_cells}
use Rattle.rds_assembly.proofs.HeldLemmas.{nothing_held}
use Rattle.rds_receiver.specs.Older.{AreOlder, IsOlder}
use Rattle.rds_receiver.specs.Receipts.{name_fragment, name_of, segments, text_fragment}
use Rattle.rds_receiver.specs.declared.fragment.Fragment.{Fragment}
use Rattle.rds_receiver.specs.Run.{begins_in, run}
use Rattle.rds_receiver.specs.Holds.{HoldsAt, HoldsRun, newest_slot}
use Rattle.rds_receiver.specs.State.{HeldSegments, DisplayState}
use Rattle.rds_receiver.specs.Stored.{AreWithin, IsStoredDisplay, age_stored, display_stored, segments_stored}
use Rattle.rds_receiver.specs.Tags.{pair_from}
use Rattle.rds_receiver.proofs.Runs.{equal_or_not, name_heard}
use Rattle.rds_receiver.specs.declared.display.StoredDisplay.{StoredDisplay}
use Rattle.rds_receiver.specs.declared.display.StoredSegments.{StoredSegments}
use Rattle.rds_fields.specs.declared.stored.StoredPair.{StoredPair}

pub age_held : (m rest : ℕ) (s : StoredSegments) → s.mask ≢ 0 → age_stored m rest s ≡ m - rest - s.later
age_held m rest s some = grind (arith)

pub age_none : (m rest : ℕ) (s : StoredSegments) → s.mask ≡ 0 → age_stored m rest s ≡ m
age_none m rest s none = grind (arith)

-- held segments are younger than the dwell, and only they
pub young : (m rest : ℕ) (s : StoredSegments) → 0 < rest → rest ≤ m → s.mask ≢ 0 → age_stored m rest s < m
young m rest s rests soon some = omega (arith, age_held m rest s some)

-- segments younger than the dwell are held
pub some_held : (m rest : ℕ) (s : StoredSegments) → age_stored m rest s < m → s.mask ≢ 0
some_held m rest s l none = omega (arith, age_none m rest s none)

-- segments as old as the dwell are not held
pub none_held : (m rest : ℕ) (s : StoredSegments) → 0 < rest → rest ≤ m → (age_stored m rest s < m → ⊥) → s.mask ≡ 0
none_held m rest s rests soon old = grind (arith, young m rest s rests soon)

-- after a segment was taken, some are held
pub taken_held : (mask : ℕ) (bytes : List ℕ) (cells : Cells) (a : ℕ) (b : List ℕ)
    → held_cells mask bytes ≡ insert cells a b → mask ≢ 0
taken_held mask bytes cells a b now none =
    let here = get-insert nat_cmp_total cells a b a in
    let tied = unsigned_tied a a in
    let nothing = nothing_held bytes in
    let there = get-empty {X = List ℕ} nat_cmp a in
    grind (arith)

-- a segment that is taken has age 0
pub age_taken : (m rest : ℕ) (s : StoredSegments) (cells : Cells) (a : ℕ) (b : List ℕ)
    → held_cells s.mask s.bytes ≡ insert cells a b → s.later ≡ m - rest → age_stored m rest s ≡ 0
age_taken m rest s cells a b now later = omega (arith, age_held m rest s (taken_held s.mask s.bytes cells a b now))

-- a look: segments that it is due to are dropped
pub looked : (m rest : ℕ) (s one after : StoredSegments) → 0 < m → AreWithin m 1 s → (0 < s.later → one ≡ s)
    → (s.later ≡ 0 → one ≡ record s { mask = 0 })
    → (one.mask ≢ 0 → rest ≤ one.later) → after ≡ record one { later = one.later - rest }
    → AreOlder m (segments_stored m 1 s) (segments_stored m rest after)
looked m rest s one after lasts within later due soon is = search (arith, age_none, age_held, nothing_held)

run_older_at : (m first : ℕ) (pick : Message → Option Fragment) (heard : List (Option Message)) (h now : HeldSegments)
    → AreOlder m h now
    → HoldsRun m (newest_slot first heard) (run m (newest_slot first heard) (segments pick first heard)) h
    → HoldsRun m (first + length heard) (run m (first + length heard) (segments pick first heard)) now
run_older_at m first pick heard h now older st = grind (arith)

-- a receiver one slot later
pub receiver_older : (m first : ℕ) (r after : DisplayState) (heard : List (Option Message)) → IsOlder r after
    → HoldsAt m (newest_slot first heard) first r heard
    → HoldsAt m (first + length heard) first after heard
receiver_older m first r after heard older st = record {
  dwell = older.dwell ∙ st.dwell;
  lasts = st.lasts;
  text = text;
  name = run_older_at m first name_fragment heard r.name after.name (rw st.dwell at older.name) st.name;
  pair = by_age (cases_lt after.text.age m);
  known = older.known ∙ st.known;
}
  where
    t : ℕ
    t = newest_slot first heard

    n : ℕ
    n = first + length heard

    text : HoldsRun m n (run m n (segments text_fragment first heard)) after.text
    text = run_older_at m first text_fragment heard r.text after.text (rw st.dwell at older.text) st.text

    none : m ≤ after.text.age → (r.text.age < m) ⊎ (m ≤ r.text.age) → after.pair ≡ None
    none over (inl l) = search arith
    none over (inr old) = grind (arith, nat_tests)

    by_age : (after.text.age < m) ⊎ (m ≤ after.text.age)
        → after.pair ≡ pair_from first (begins_in (run m n (segments text_fragment first heard))) heard
    by_age (inl l) = grind (arith, nat_tests)
    by_age (inr over) = grind (arith, nat_tests)

-- what a look does to the segments of one service
pub record Looks (m rest : ℕ) (s one : StoredSegments) (later : ℕ) : Type 0 where
  pub within : AreWithin m 1 s
  pub stays : 0 < s.later → one ≡ s
  pub due : s.later ≡ 0 → one ≡ record s { mask = 0 }
  pub soon : one.mask ≢ 0 → rest ≤ one.later
  pub is : later ≡ one.later - rest

look_older : (m rest : ℕ) (s one : StoredSegments) (later : ℕ) → 0 < m → Looks m rest s one later
    → AreOlder m (segments_stored m 1 s) (segments_stored m rest (record one { later = later }))
look_older m rest s one later lasts h =
    looked m rest s one (record one { later = later }) lasts h.within h.stays h.due h.soon
    (λ i. record one { later = h.is i })

-- a receiver after a look; `text` and `name` are the segments before the next look is set
pub receiver_looked : (r : StoredDisplay) (rest : ℕ) (text name : StoredSegments) (later later_name : ℕ)
    (pair : StoredPair) → IsStoredDisplay (record r { rest = 1 })
    → Looks r.dwell rest r.text text later → Looks r.dwell rest r.name name later_name
    → (text.mask ≢ 0 → pair_stored pair ≡ pair_stored r.pair) → (text.mask ≡ 0 → pair_stored pair ≡ None)
    → IsOlder (display_stored (record r { rest = 1 }))
    (display_stored (record r {
      rest = rest;
      text = record text { later = later };
      name = record name
          { later = later_name };
      pair = pair;
    }))
receiver_looked r rest text name later later_name pair stored texts names stays gone =
    search (arith, look_older, some_held, age_held)

-- a slot with a name segment
pub name_taken : (m first : ℕ) (r : StoredDisplay) (name : StoredSegments) (heard : List (Option Message))
    (p : Fragment)
    → (p.flag ≡ is_set r.name.flag → held_cells name.mask name.bytes
    ≡ insert (held_cells r.name.mask r.name.bytes) p.address p.bytes)
    → (p.flag ≢ is_set r.name.flag → held_cells name.mask name.bytes ≡ insert empty p.address p.bytes)
    → is_set name.flag ≡ p.flag
    → name.later ≡ r.dwell - r.rest
    → HoldsAt m (first + length heard) first (display_stored r) heard
    → HoldsAt m (first + length heard) first (display_stored (record r { name = name })) (Some (name_of p) ∷ heard)
name_taken m first r name heard p same other flag later st = search (arith, name_heard, equal_or_not, age)
  where
    age : (p.flag ≡ is_set r.name.flag) ⊎ (p.flag ≢ is_set r.name.flag) → age_stored r.dwell r.rest name ≡ 0
    age (inl e) = age_taken r.dwell r.rest name (held_cells r.name.mask r.name.bytes) p.address p.bytes (same e) later
    age (inr ne) = age_taken r.dwell r.rest name empty p.address p.bytes (other ne) later
