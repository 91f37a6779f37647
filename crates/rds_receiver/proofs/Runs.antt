-- Lemmas: how the run and the held segments change from slot to slot.
use Rattle.std.proofs.Common.{◌≡◌, ◌≢◌, ◌⊎◌, ◌+◌, ◌<◌, ◌≤◌, ℕ, Bool, true, nat_lt, List, [], ◌∷◌, Option, arith, Some}
use Rattle.std.proofs.Common.{None, length, refl, ◌∙◌, inl, inr}
use Rattle.std.specs.FinMap.{empty, insert}
use Rattle.rds_fields.specs.declared.message.Message.{Message}
use Rattle.rds_receiver.specs.Receipts.{Segment, segments, with_segment, name_of, text_fragment, text_of}
use Rattle.rds_receiver.specs.declared.fragment.Fragment.{Fragment}
use Rattle.rds_receiver.specs.Run.{is_same, run, run_at, run_before, begins_in}
use Rattle.rds_receiver.specs.Holds.{HasFlag, HoldsRun, newest_slot, HoldsAt}
use Rattle.rds_receiver.specs.State.{HeldSegments, DisplayState}
use Rattle.std.specs.Option.{option_eq}
use Rattle.rds_fields.specs.contracts.pair.TagPairPartialEq.TheImpl.{eq-value}
use Rattle.rds_fields.specs.declared.message.Message.TheVariants.{Text, Name, Tags}
use Rattle.rds_fields.specs.Tag.{PairFields}
use Rattle.rds_receiver.specs.Tags.{is_known, pair_from, pair_since}

-- the test of a smaller number is true
pub test_true : (a b : ℕ) → a < b → nat_lt a b ≡ true
test_true a b h = grind (arith)

-- a flag is the same as itself
pub same_is : (f : Bool) → is_same f f ≡ true
same_is f = grind arith

-- two flags are equal or not
pub equal_or_not : (f g : Bool) → (f ≡ g) ⊎ (f ≢ g)
equal_or_not f g = grind arith

-- the run, if the newest segment came less than m slots ago
pub run_recent : (m t : ℕ) (g : Segment) (older : List Segment) → t < g.slot + m
    → run m t (g ∷ older) ≡ g ∷ run_before m g.fragment.flag g.slot older
run_recent m t g older h = grind (arith)

-- the run, if it did not: empty
pub run_over : (m t : ℕ) (g : Segment) (older : List Segment) → g.slot + m ≤ t → run m t (g ∷ older) ≡ []
run_over m t g older h = grind (arith)

-- the run in the newest slot
pub run_at_newest : (pick : Message → Option Fragment) (m first : ℕ) (heard : List (Option Message))
    → run m (newest_slot first heard) (segments pick first heard) ≡ run_at pick m first heard
run_at_newest pick m first heard = grind (arith)

-- before a segment with the flag of the run comes the whole run
pub before_same : (m n : ℕ) (f : Bool) (segs : List Segment) → HasFlag (run m n segs) f
    → run_before m f n segs ≡ run m n segs
before_same m n f segs h = grind (arith)

-- before a segment with the other flag comes nothing
pub before_other : (m n : ℕ) (f f' : Bool) (segs : List Segment) → HasFlag (run m n segs) f' → f ≢ f'
    → run_before m f n segs ≡ []
before_other m n f f' segs h ne = grind (arith)

-- the held segments after one was taken
pub held_taken : (m n : ℕ) (segs : List Segment) (p : Fragment) (h after : HeldSegments) → 0 < m
    → (p.flag ≡ h.flag → after.cells ≡ insert h.cells p.address p.bytes)
    → (p.flag ≢ h.flag → after.cells ≡ insert empty p.address p.bytes)
    → after.flag ≡ p.flag → after.age ≡ 0
    → HoldsRun m n (run m n segs) h → HoldsRun m n (run m n (record { slot = n; fragment = p } ∷ segs)) after
held_taken m n segs p h after some same other flag age st = grind (arith)

-- ---- how the pair held changes from slot to slot

-- the segments all came before slot n
abbrev pub AllBelow : ℕ → List Segment → Type 0
AllBelow n [] = Unit {0}
AllBelow n (g ∷ older) = (g.slot < n) × AllBelow n older

below_later : (n k : ℕ) (segs : List Segment) → n ≤ k → AllBelow n segs → AllBelow k segs
below_later n k [] h all = tt
below_later n k (g ∷ older) h all = (omega arith, below_later n k older h all.1)

before_below : (m n s : ℕ) (f : Bool) (segs : List Segment) → AllBelow n segs → AllBelow n (run_before m f s segs)
before_below m n s f [] all = tt
before_below m n s f (g ∷ older) all = grind (arith, before_below m n g.slot f older all.1)

-- the run of segments below a slot is below it
pub run_below : (m n t : ℕ) (segs : List Segment) → AllBelow n segs → AllBelow n (run m t segs)
run_below m n t segs all = grind (arith, before_below)

with_below : (slot n : ℕ) (o : Option Fragment) (segs : List Segment) → slot < n → AllBelow slot segs
    → AllBelow n (with_segment slot o segs)
with_below slot n o segs h all = grind (arith, below_later slot n segs (omega arith) all)

-- all segments were heard before now
pub segments_below : (pick : Message → Option Fragment) (first : ℕ) (heard : List (Option Message))
    → AllBelow (first + length heard) (segments pick first heard)
segments_below pick first [] = tt
segments_below pick first (x ∷ before) = grind (arith, segments_below pick first before, with_below)

-- no pair came later than the newest slot
pub none_since : (first since : ℕ) (heard : List (Option Message)) → first + length heard ≤ since + 1
    → pair_since first since heard ≡ None
none_since first since [] h = refl
none_since first since (x ∷ before) h = grind (arith, none_since first since before)

-- a text segment that extends the run keeps the pair
pub pair_goes_on : (first n : ℕ) (heard : List (Option Message)) (f : Bool) (a : ℕ) (b : List ℕ) (g : Segment)
    (older : List Segment) → n ≡ first + length heard → g.slot ≡ n
    → pair_from first (begins_in older) heard ≡ pair_from first (begins_in (g ∷ older)) (Some (Text f a b) ∷ heard)
pair_goes_on first n heard f a b g older at here = grind (arith, none_since)

-- a slot without a text, tags or an announcement keeps the pair
pub pair_of_none : (first : ℕ) (begins : Option ℕ) (heard : List (Option Message))
    → pair_from first begins heard ≡ pair_from first begins (None ∷ heard)
pair_of_none first begins heard = grind arith

-- a segment of a name changes no pair of tags
pub pair_of_name : (first : ℕ) (begins : Option ℕ) (heard : List (Option Message)) (f : Bool) (a : ℕ) (b : List ℕ)
    → pair_from first begins heard ≡ pair_from first begins (Some (Name f a b) ∷ heard)
pair_of_name first begins heard f a b = grind arith

-- tags that come while RadioText Plus is known are held if there is a run
tags_known : (first : ℕ) (g : Segment) (older : List Segment) (heard : List (Option Message)) (pair : PairFields)
    → AllBelow (first + length heard) (g ∷ older) → is_known heard ≡ true
    → Some pair ≡ pair_from first (begins_in (g ∷ older)) (Some (Tags pair) ∷ heard)
tags_known first g [] heard pair all h = grind (arith)
tags_known first g (o ∷ older) heard pair all h = tags_known first o older heard pair all.1 h

tags_taken_by : (m n first : ℕ) (the_run : List Segment) (heard : List (Option Message)) (pair : PairFields)
    (held : HeldSegments) → AllBelow (first + length heard) the_run
    → HoldsRun m n the_run held → held.age < m → is_known heard ≡ true
    → Some pair ≡ pair_from first (begins_in the_run) (Some (Tags pair) ∷ heard)
tags_taken_by m n first the_run heard pair held all st young h = grind (arith, tags_known)

-- tags that come while a text is held are the held pair
pub tags_taken : (m n first : ℕ) (pick : Message → Option Fragment) (heard : List (Option Message)) (pair : PairFields)
    (held : HeldSegments)
    → HoldsRun m n (run m n (segments pick first heard)) held → held.age < m → is_known heard ≡ true
    → Some pair ≡ pair_from first (begins_in (run m n (segments pick first heard))) (Some (Tags pair) ∷ heard)
tags_taken m n first pick heard pair held st young h =
    grind (arith, tags_taken_by, run_below, segments_below)

-- the test of a held pair decides whether it is this one
pub is_held_pair : (held : Option PairFields) (pair : PairFields) → option_eq eq-value.it held (Some pair) ≡ true
    → held ≡ Some pair
is_held_pair held pair e = grind (arith, e)

-- the held pair is tested as equal
pub held_pair_is : (held : Option PairFields) (pair : PairFields) → held ≡ Some pair
    → option_eq eq-value.it held (Some pair) ≡ true
held_pair_is held pair e = rw e (grind (arith))

-- ---- the state of a receiver follows from its input after each slot

-- a slot in which nothing is heard
pub nothing_heard : (m first : ℕ) (r : DisplayState) (heard : List (Option Message))
    → HoldsAt m (first + length heard) first r heard → HoldsAt m (first + length heard) first r (None ∷ heard)
nothing_heard m first r heard st = grind (arith, pair_of_none)

-- the held segments after one was taken
pub record Takes (p : Fragment) (h after : HeldSegments) : Type 0 where
  pub same : p.flag ≡ h.flag → after.cells ≡ insert h.cells p.address p.bytes
  pub other : p.flag ≢ h.flag → after.cells ≡ insert empty p.address p.bytes
  pub flag : after.flag ≡ p.flag
  pub age : after.age ≡ 0

-- a slot with a text segment
pub text_heard : (m first : ℕ) (r after : DisplayState) (heard : List (Option Message)) (p : Fragment)
    → after.dwell ≡ r.dwell → after.is_known ≡ r.is_known → after.name ≡ r.name
    → Takes p r.text after.text
    → (p.flag ≡ r.text.flag → after.pair ≡ r.pair) → (p.flag ≢ r.text.flag → after.pair ≡ None)
    → HoldsAt m (first + length heard) first r heard
    → HoldsAt m (first + length heard) first after (Some (text_of p) ∷ heard)
text_heard m first r after heard p dwell known name takes stays gone st = record {
  dwell = dwell ∙ st.dwell;
  lasts = st.lasts;
  text = held_taken m n segs p r.text after.text st.lasts takes.same takes.other takes.flag takes.age st.text;
  name = rw name st.name;
  pair = rw (run_recent m n g segs (omega (arith, st.lasts))) (by_flag (equal_or_not p.flag r.text.flag));
  known = known ∙ st.known;
}
  where
    n : ℕ
    n = first + length heard

    segs : List Segment
    segs = segments text_fragment first heard

    g : Segment
    g = record { slot = n; fragment = p }

    by_flag : (p.flag ≡ r.text.flag) ⊎ (p.flag ≢ r.text.flag)
        → after.pair ≡ pair_from first (begins_in (g ∷ run_before m p.flag n segs)) (Some (text_of p) ∷ heard)
    by_flag (inl e) = search (arith, before_same, pair_goes_on, n, segs, g)
    by_flag (inr ne) = search (arith, before_other, none_since, n, segs)

-- a slot with a name segment
pub name_heard : (m first : ℕ) (r after : DisplayState) (heard : List (Option Message)) (p : Fragment)
    → after.dwell ≡ r.dwell → after.is_known ≡ r.is_known → after.text ≡ r.text → after.pair ≡ r.pair
    → Takes p r.name after.name
    → HoldsAt m (first + length heard) first r heard
    → HoldsAt m (first + length heard) first after (Some (name_of p) ∷ heard)
name_heard m first r after heard p dwell known text pair takes st = grind (arith, held_taken, pair_of_name)

-- a slot with tags that are held
pub tags_heard : (m first : ℕ) (r : DisplayState) (heard : List (Option Message)) (pair : PairFields)
    → r.is_known ≡ true → r.text.age < m
    → HoldsAt m (first + length heard) first r heard
    → HoldsAt m (first + length heard) first record r { pair = Some pair } (Some (Tags pair) ∷ heard)
tags_heard m first r heard pair known young st = grind (arith, tags_taken)

-- a slot with a text segment, after the tags of the other flag were dropped
pub text_heard_by : (m first : ℕ) (r between after : DisplayState) (heard : List (Option Message)) (p : Fragment)
    → (p.flag ≡ r.text.flag → between ≡ r) → (p.flag ≢ r.text.flag → between ≡ record r { pair = None })
    → Takes p between.text after.text
    → after ≡ record between { text = after.text }
    → HoldsAt m (first + length heard) first r heard
    → HoldsAt m (first + length heard) first after (Some (text_of p) ∷ heard)
text_heard_by m first r between after heard p same other takes is st = elim (equal_or_not p.flag r.text.flag) [
  | inl e ↦
      let now : after ≡ record r { text = after.text } = rw (same e) at is in
      rw now
      (text_heard m first r record r { text = after.text } heard p refl refl refl (rw (same e) at takes) (λ _. refl)
      (λ ne. absurd (ne e)) st)
  | inr ne ↦
      let now : after ≡ record r { text = after.text; pair = None } = rw (other ne) at is in
      rw now (text_heard m first r record r { text = after.text; pair = None } heard p refl refl refl
      (rw (other ne) at takes) (λ e. absurd (ne e)) (λ _. refl) st)
]
