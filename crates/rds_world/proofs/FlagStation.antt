-- Lemmas: the flag of a station turns with each text or name that it accepts without a restart between, and each that
-- another one follows lasts for 2d slots. Across a restart comes the empty text, or the newest one with flag 0 again.
use Rattle.std.proofs.Common.{◌≡◌, ◌≢◌, ◌⊎◌, ◌+◌, ◌-◌, ◌*◌, ◌≤◌, ℕ, true, false, List, [], ◌∷◌, length, Option, Some}
use Rattle.std.proofs.Common.{None, refl, sym, subst, inl, inr, arith, is_ok, ◌<◌}
use Rattle.rds_encoder.specs.Entries.{Move, Begin, Set, End, slot_of, name_moves, text_moves}
use Rattle.rds_encoder.specs.Plan.{Broadcast, HasNumber, OnAir, accepted, ending_in, next_flag, on_air, plan_of}
use Rattle.rds_encoder.specs.Reply.{reply_to}
use Rattle.rds_encoder.proofs.Spacing.{below, long_on_air}
use Rattle.rds_encoder.proofs.OnAir.{flag_on_air}
use Rattle.rds_safety.specs.FlagAlone.{EachLasts, IsFilled, IsHarmless, IsNews, TurnsTheFlag, HearsOneIn, ShowsByFlag}
use Rattle.rds_world.specs.FlagStation.{HasNoRestart, IsEmptyAfter, IsFirstAfterRestart, IsHarmlessAfter, IsSafeAfter}
use Rattle.rds_world.specs.FlagStation.{TheEmptyTextIsEnough, TheStationKeepsEach, TheStationTurnsTheFlag}
use Rattle.rds_world.specs.FlagStation.{NamesOfAStationAreNew, NamesOfAStationAreOfTheirSource}
use Rattle.rds_world.specs.FlagStation.{TagsOfAStationAreOfTheirText, TextsOfAStationAreNew}
use Rattle.rds_world.specs.FlagStation.{TextsOfAStationAreOfTheirSource, MixesAStation}
use Rattle.rds_fields.specs.declared.message.Message.{Message}
use Rattle.rds_encoder.specs.Sent.{sent_log}
use Rattle.rds_receiver.specs.Receipts.{name_fragment, text_fragment}
use Rattle.rds_receiver.specs.declared.fragment.Fragment.{Fragment}
use Rattle.rds_safety.specs.FlagLaws.{NamesByFlagAreNew, NamesByFlagAreOfTheirSource, TagsByFlagAreOfTheirText}
use Rattle.rds_safety.specs.FlagLaws.{TextsByFlagAreNew, TextsByFlagAreOfTheirSource, WhoHearsOneInHearsEach}
use Rattle.rds_safety.specs.FlagLaws.{WhoHearsOneInHearsTextBeforeTags}
use Rattle.rds_safety.specs.Late.{Input, CameFrom, IsHeardLate, own_origins}
use Rattle.rds_world.specs.Station.{TheEncoderIsLawful, station_plans}
use Rattle.std.specs.FinMap.{empty, get, insert}
use Rattle.rds_fields.specs.declared.message.Message.TheVariants.{Text}
use Rattle.rds_assembly.specs.Body.{segment_of, text_body}
use Rattle.rds_assembly.specs.Cells.{Cells}
use Rattle.rds_assembly.specs.OwnSegments.{all_text}
use Rattle.rds_assembly.specs.ServiceLaws.{no_name_of_none}
use Rattle.rds_receiver.specs.Shown.{ShownView}
use Rattle.rds_safety.proofs.OneBroadcast.{get-put}
use Rattle.rds_safety.proofs.Entries.{before_end, input_of, no_slot_late}
use Rattle.rds_safety.proofs.Least.{four, is_text, newer_text, older_text, text_of_two, three_and_end}
use Rattle.rds_world.specs.declared.event.Command.{Command}
use Rattle.rds_world.specs.declared.event.Command.TheVariants.{Quiet, Restart, SetText}
use Rattle.rds_world.specs.Event.{Event}

-- ---- the flag of a station turns with each text or name that it accepts without a restart between, and each that
-- another one follows lasts for 2d slots

-- the newest of a plan
abbrev IsNewest : List Broadcast → Broadcast → Type 0
IsNewest [] b = ⊥
IsNewest (newest ∷ older) b = b ≡ newest

-- the broadcast with the last number is the newest
newest_by_number : (plan : List Broadcast) (k : ℕ) (a : Broadcast) → HasNumber plan k a → k + 1 ≡ length plan
    → IsNewest plan a
newest_by_number plan k a p last = grind (arith, below)

-- the broadcast on air is the newest
newest_on_air : (d end : ℕ) (moves : List Move) (air : OnAir) → on_air d moves ≡ Some air
    → IsNewest (plan_of d end moves) (ending_in end air)
newest_on_air d end [] air on = absurd (cc)
newest_on_air d end (x ∷ before) air on = grind (arith, newest_on_air d end before air)

-- P holds of each broadcast of a plan and of those before it
abbrev pub AreAfter : (List Broadcast → Broadcast → Type 0) → List Broadcast → Type 0
AreAfter P [] = Unit {0}
AreAfter P (b ∷ older) = P older b × AreAfter P older

-- P holds of each broadcast and the next one of a plan if it holds of the newest and a new one
each_next : (P : Broadcast → Broadcast → Type 0) (plan : List Broadcast)
    → AreAfter (λ older b. (a : Broadcast) → IsNewest older a → P a b) plan
    → (k : ℕ) (a b : Broadcast) → HasNumber plan k a → HasNumber plan (k + 1) b → P a b
each_next P [] all k a c p q = absurd p
each_next P (b ∷ older) all k a c (inl p) q = grind (arith, below)
each_next P (b ∷ older) all k a c (inr p) (inl q) = subst (P a) (sym q.1) (all.0 a (newest_by_number older k a p q.0))
each_next P (b ∷ older) all k a c (inr p) (inr q) = each_next P older all.1 k a c p q

-- the broadcast that a set in this slot starts, and that ends in slot `end`
abbrev begun : ℕ → ℕ → List Move → List ℕ → Broadcast
begun d end moves x = record { start = slot_of moves; end = end; flag = next_flag d moves; bytes = x }

-- P holds for each plan if it holds of each set that is accepted
followed : (P : List Broadcast → Broadcast → Type 0) (IsAfter : List Broadcast → List ℕ → Type 0) (d : ℕ)
    → ((moves : List Move) (end : ℕ) (x : List ℕ) → is_ok (reply_to d moves) ≡ true
    → (on_air d moves ≡ None → IsAfter (plan_of d (slot_of moves - 1) moves) x)
    → P (plan_of d (slot_of moves - 1) moves) (begun d end moves x))
    → (moves : List Move) (end : ℕ) → IsFirstAfterRestart IsAfter d moves → AreAfter P (plan_of d end moves)
followed P IsAfter d holds [] end first = tt
followed P IsAfter d holds (Begin ∷ before) end first = followed P IsAfter d holds before (slot_of before - 1) first
followed P IsAfter d holds (End free ∷ before) end first = followed P IsAfter d holds before end first
followed P IsAfter d holds (Set x ∷ before) end first =
    let closed = followed P IsAfter d holds before (slot_of before - 1) first.1 in
    let lasting = followed P IsAfter d holds before end first.1 in
    grind (arith)

-- a plan has one newest broadcast
one_newest : (plan : List Broadcast) (a b : Broadcast) → IsNewest plan a → IsNewest plan b → a ≡ b
one_newest plan a b p q = grind (arith)

-- the newest broadcast is the one on air, if there is one
is_on_air : (d : ℕ) (moves : List Move) (air : OnAir) (a : Broadcast) → on_air d moves ≡ Some air
    → IsNewest (plan_of d (slot_of moves - 1) moves) a → a ≡ ending_in (slot_of moves - 1) air
is_on_air d moves air a on is = one_newest (plan_of d (slot_of moves - 1) moves) a (ending_in (slot_of moves - 1) air)
    is (newest_on_air d (slot_of moves - 1) moves air on)

-- if nothing is on air, none was accepted since the restart
none_accepted : (d : ℕ) (moves : List Move) → on_air d moves ≡ None → accepted d moves ≡ 0
none_accepted d [] on = refl
none_accepted d (x ∷ before) on = grind (arith, none_accepted d before)

-- so the next one has flag 0
flag_0_first : (d : ℕ) (moves : List Move) → on_air d moves ≡ None → next_flag d moves ≡ false
flag_0_first d moves on = rw (none_accepted d moves on) refl

harmless_first : (plan : List Broadcast) (a b : Broadcast) → b.flag ≡ false → IsNewest plan a
    → IsHarmlessAfter plan b.bytes → (a.flag ≢ b.flag) ⊎ IsHarmless a b
harmless_first plan a b flag is after = grind (arith)

turns_the_flag : (d end : ℕ) (moves : List Move) → IsFirstAfterRestart IsHarmlessAfter d moves
    → TurnsTheFlag (plan_of d end moves)
turns_the_flag d end moves first =
    each_next (λ a b. (a.flag ≢ b.flag) ⊎ IsHarmless a b) (plan_of d end moves)
    (followed (λ older b. (a : Broadcast) → IsNewest older a → (a.flag ≢ b.flag) ⊎ IsHarmless a b) IsHarmlessAfter d
    (λ h e x ok after a is. grind (arith, harmless_first, flag_0_first, is_on_air, flag_on_air)) moves end first)

-- the broadcast on air lasted for 2d slots when another one is accepted
on_air_lasted : (d : ℕ) (h : List Move) (air : OnAir) (a : Broadcast) → is_ok (reply_to d h) ≡ true
    → on_air d h ≡ Some air → IsNewest (plan_of d (slot_of h - 1) h) a → a.start + 2 * d ≤ a.end + 1
on_air_lasted d h air a ok on is = grind (arith, is_on_air, long_on_air)

empty_first : (d : ℕ) (plan : List Broadcast) (a b : Broadcast) → IsNewest plan a → IsEmptyAfter plan b.bytes
    → b.bytes ≢ [] → a.start + 2 * d ≤ a.end + 1
empty_first d plan a b is after some = grind (arith)

keeps_each_filled : (d end : ℕ) (moves : List Move) → IsFirstAfterRestart IsEmptyAfter d moves
    → EachLasts IsFilled (2 * d) (plan_of d end moves)
keeps_each_filled d end moves first =
    each_next (λ a b. b.bytes ≢ [] → a.start + 2 * d ≤ a.end + 1) (plan_of d end moves)
    (followed (λ older b. (a : Broadcast) → IsNewest older a → b.bytes ≢ [] → a.start + 2 * d ≤ a.end + 1) IsEmptyAfter
    d (λ h e x ok after a is some. grind (arith, empty_first, on_air_lasted)) moves end first)

-- ---- the newest one with flag 0 again

-- a broadcast with flag 1 comes directly after one with flag 0
abbrev IsTurned : List Broadcast → Broadcast → Type 0
IsTurned older b = b.flag ≡ true → (a : Broadcast) × IsNewest older a × (a.flag ≡ false)

-- nothing is asked
abbrev Anything : List Broadcast → List ℕ → Type 0
Anything plan x = Unit {0}

asks_nothing : (d : ℕ) (moves : List Move) → IsFirstAfterRestart Anything d moves
asks_nothing d [] = tt
asks_nothing d (x ∷ before) = grind (arith, asks_nothing d before)

are_turned : (d end : ℕ) (moves : List Move) → AreAfter IsTurned (plan_of d end moves)
are_turned d end moves = followed IsTurned Anything d (λ h e x ok after one. by h one (on_air d h) refl) moves end
    (asks_nothing d moves)
  where
    by : (h : List Move) → next_flag d h ≡ true → (o : Option OnAir) → on_air d h ≡ o
        → (a : Broadcast) × IsNewest (plan_of d (slot_of h - 1) h) a × (a.flag ≡ false)
    by h one None on = absurd (grind (arith, flag_0_first d h on))
    by h one (Some air) on = (
      ending_in (slot_of h - 1) air,
      newest_on_air d (slot_of h - 1) h air on,
      grind (arith, flag_on_air d h air on),
    )

-- broadcast a has the flag and the bytes of b
abbrev IsLike : Broadcast → Broadcast → Type 0
IsLike a b = (a.flag ≡ b.flag) × (a.bytes ≡ b.bytes)

-- one of the two newest has the flag and the bytes of b
abbrev IsAgainOf : List Broadcast → Broadcast → Type 0
IsAgainOf [] b = ⊥
IsAgainOf (n ∷ older) b = IsLike n b ⊎ ((a : Broadcast) × IsNewest older a × IsLike a b)

-- b is again one of the two newest, or the newest lasted for n slots if b is filled
abbrev IsAgainOrLater : ℕ → List Broadcast → Broadcast → Type 0
IsAgainOrLater n older b = IsAgainOf older b ⊎ ((a : Broadcast) → IsNewest older a → b.bytes ≢ [] → a.start + n ≤ a.end
    + 1)

safe_first : (d : ℕ) (plan : List Broadcast) (b : Broadcast) → b.flag ≡ false → AreAfter IsTurned plan
    → IsSafeAfter d plan b.bytes → IsAgainOrLater (2 * d) plan b
safe_first d plan b flag turned safe = grind (arith)

-- the newest broadcast has the last number
last_number : (plan : List Broadcast) (a : Broadcast) → IsNewest plan a
    → (0 < length plan) × HasNumber plan (length plan - 1) a
last_number plan a is = grind (arith)

-- news is not again one of the two before it
not_again : (older plan : List Broadcast) (l : ℕ) (b : Broadcast) → l ≡ length older
    → ((j : ℕ) (a : Broadcast) → HasNumber older j a → HasNumber plan j a) → IsNews plan l b → IsAgainOf older b → ⊥
not_again [] plan l b number on news again = again
not_again (n ∷ older) plan l b number on news (inl like) =
    grind (arith, news.new (length older) n (on (length older) n (inl (refl, refl))))
not_again (n ∷ older) plan l b number on news (inr (a, is, like)) =
    let last = last_number older a is in
    grind (arith, news.new (length older - 1) a (on (length older - 1) a (inr last.1)))

-- so each broadcast lasts for n slots before news
lasts_before_news : (n : ℕ) (plan : List Broadcast) → AreAfter (IsAgainOrLater n) plan → EachLasts IsNews n plan
lasts_before_news n [] all k b next p q news = absurd p
lasts_before_news n (x ∷ older) all k b next (inl p) q news = grind (arith, below)
lasts_before_news n (x ∷ older) all k b next (inr p) (inr q) news =
    grind (arith, lasts_before_news n older all.1 k b next p q)
lasts_before_news n (x ∷ older) all k b next (inr p) (inl q) news =
    grind (arith, not_again older (x ∷ older) (k + 1) next q.0 (λ j a r. inr r) news, newest_by_number)

keeps_each_before_news : (d end : ℕ) (moves : List Move) → IsFirstAfterRestart (IsSafeAfter d) d moves
    → EachLasts IsNews (2 * d) (plan_of d end moves)
keeps_each_before_news d end moves first = lasts_before_news (2 * d) (plan_of d end moves)
    (followed (IsAgainOrLater (2 * d)) (IsSafeAfter d) d
    (λ h e x ok after. grind (arith, safe_first, flag_0_first, are_turned, on_air_lasted)) moves end first)

pub keeps_each : TheStationKeepsEach
keeps_each d end moves = (keeps_each_filled d end moves, keeps_each_before_news d end moves)

-- ---- which first ones are as good as others

firsts_too : (P Q : List Broadcast → List ℕ → Type 0) → ((plan : List Broadcast) (x : List ℕ) → P plan x → Q plan x)
    → (d : ℕ) (moves : List Move) → IsFirstAfterRestart P d moves → IsFirstAfterRestart Q d moves
firsts_too P Q so d [] first = tt
firsts_too P Q so d (Set x ∷ before) first = grind (arith, firsts_too P Q so d before first.1)
firsts_too P Q so d (x ∷ before) first = firsts_too P Q so d before first

safe_is_harmless : (d : ℕ) (plan : List Broadcast) (x : List ℕ) → IsSafeAfter d plan x → IsHarmlessAfter plan x
safe_is_harmless d plan x safe = grind (arith)

empty_is_safe : (d : ℕ) (plan : List Broadcast) (x : List ℕ) → IsEmptyAfter plan x → IsSafeAfter d plan x
empty_is_safe d plan x after = grind (arith)

pub empty_is_enough : TheEmptyTextIsEnough
empty_is_enough d moves first = firsts_too IsEmptyAfter (IsSafeAfter d) (empty_is_safe d) d moves first

pub turns : TheStationTurnsTheFlag
turns d end moves = grind (arith, turns_the_flag, firsts_too, safe_is_harmless)

-- ---- without a restart

-- if there was no restart and nothing is on air, nothing was planned
nothing_yet : (d end : ℕ) (moves : List Move) → HasNoRestart moves → on_air d moves ≡ None → plan_of d end moves ≡ []
nothing_yet d end [] one on = refl
nothing_yet d end (Begin ∷ before) one on = absurd one
nothing_yet d end (End free ∷ before) one on = nothing_yet d end before one on
nothing_yet d end (Set x ∷ before) one on = grind (arith, nothing_yet d end before one)

pub one_life : (d : ℕ) (moves : List Move) → HasNoRestart moves → IsFirstAfterRestart IsEmptyAfter d moves
one_life d [] one = tt
one_life d (Begin ∷ before) one = absurd one
one_life d (End free ∷ before) one = one_life d before one
one_life d (Set x ∷ before) one = grind (arith, one_life d before one, nothing_yet)

-- ---- a station is safe for receivers with the flag bit alone that hear it often enough

-- a segment in each n slots is one in each m slots, if n is at most m
oftener : (n m : ℕ) (pick : Message → Option Fragment) (plan : List Broadcast) (now : ℕ) (input : Input) → n ≤ m
    → HearsOneIn n pick plan now input → HearsOneIn m pick plan now input
oftener n m pick plan now input more often k s t r b planned from to by_now heard before =
    let w = often k s t r b planned from (omega (arith, more, to)) (omega (arith, more, by_now)) heard before in
    record { slot = w.slot; origin = w.origin; heard = w.heard; since = w.since; until = omega (arith, w.until, more) }

pub texts_are_safe : TheEncoderIsLawful → TextsByFlagAreOfTheirSource → WhoHearsOneInHearsEach
    → TextsOfAStationAreOfTheirSource
texts_are_safe lawful safe enough d now told r some slots first listens often =
    let law = lawful d told some slots in
    let moves = text_moves told in
    let flags = turns d (slot_of moves - 1) moves in
    let lasts = (keeps_each d (slot_of moves - 1) moves).1 first in
    safe d now (station_plans d told).text (sent_log d told) r law.text (flags.0 (flags.1 first)) listens
    ((enough d (2 * d) now text_fragment (station_plans d told).text r.input law.text.spaced often).1 lasts)

pub names_are_safe : TheEncoderIsLawful → NamesByFlagAreOfTheirSource → WhoHearsOneInHearsEach
    → NamesOfAStationAreOfTheirSource
names_are_safe lawful safe enough d now told r some slots first listens often =
    let law = lawful d told some slots in
    let moves = name_moves told in
    let flags = turns d (slot_of moves - 1) moves in
    let lasts = (keeps_each d (slot_of moves - 1) moves).1 first in
    safe d now (station_plans d told).name (sent_log d told) r law.name (flags.0 (flags.1 first)) listens
    ((enough d (2 * d) now name_fragment (station_plans d told).name r.input law.name.spaced often).1 lasts)

pub tags_are_safe : TheEncoderIsLawful → TagsByFlagAreOfTheirText → WhoHearsOneInHearsEach
    → WhoHearsOneInHearsTextBeforeTags → TagsOfAStationAreOfTheirText
tags_are_safe lawful safe enough before_tags d now told r some slots first listens often =
    let law = lawful d told some slots in
    let moves = text_moves told in
    let flags = turns d (slot_of moves - 1) moves in
    let lasts = (keeps_each d (slot_of moves - 1) moves).1 first in
    safe d now (station_plans d told).text (sent_log d told) r law.text (flags.0 (flags.1 first)) listens
    ((enough d (2 * d) now text_fragment (station_plans d told).text r.input law.text.spaced
    (oftener d (2 * d) text_fragment (station_plans d told).text now r.input (omega arith) often)).1 lasts)
    (before_tags d now (station_plans d told).text (sent_log d told) r law.text listens often)

pub texts_are_new : TheEncoderIsLawful → TextsByFlagAreNew → WhoHearsOneInHearsEach → TextsOfAStationAreNew
texts_are_new lawful new enough d now told r some slots listens often =
    let law = lawful d told some slots in
    let lasts = keeps_each d (slot_of (text_moves told) - 1) (text_moves told) in
    let each = enough d (2 * d) now text_fragment (station_plans d told).text r.input law.text.spaced often in
    let is_new = new d now (station_plans d told).text (sent_log d told) r law.text listens in
    (λ first. is_new.0 (each.0 (lasts.0 first)), λ first. is_new.1 (each.1 (lasts.1 first)))

pub names_are_new : TheEncoderIsLawful → NamesByFlagAreNew → WhoHearsOneInHearsEach → NamesOfAStationAreNew
names_are_new lawful new enough d now told r some slots listens often =
    let law = lawful d told some slots in
    let lasts = keeps_each d (slot_of (name_moves told) - 1) (name_moves told) in
    let each = enough d (2 * d) now name_fragment (station_plans d told).name r.input law.name.spaced often in
    let is_new = new d now (station_plans d told).name (sent_log d told) r law.name listens in
    (λ first. is_new.0 (each.0 (lasts.0 first)), λ first. is_new.1 (each.1 (lasts.1 first)))

-- ---- a restart mixes if another text than the empty one comes first after it, for d = 1

abbrev slot : Command → Event
slot command = record { command = command; free = true; receptions = [] }

abbrev events : List Event
events = slot (SetText newer_text) ∷ slot Restart ∷ slot Quiet ∷ slot Quiet ∷ slot (SetText older_text) ∷ slot Quiet
    ∷ []

abbrev older : Broadcast
older = record { start = 1; end = 3; flag = false; bytes = older_text }

abbrev newer : Broadcast
newer = record { start = 5; end = 5; flag = false; bytes = newer_text }

abbrev first_of_newer : Option Message
first_of_newer = Some (Text false 0 (four 66))

abbrev last_of_older : Option Message
last_of_older = Some (Text false 1 (three_and_end 67))

abbrev sent : List (Option Message)
sent = first_of_newer ∷ None ∷ last_of_older ∷ None ∷ Some (Text false 0 (four 65)) ∷ None ∷ []

-- the receiver got each slot
abbrev input : Input
input = input_of 0 sent (own_origins 0 sent)

late : IsHeardLate 0 sent input
late = no_slot_late sent 0 sent (λ t entry has. inr has)

by_now : (t s : ℕ) → CameFrom input t s → s ≤ 5
by_now t s came = omega (arith, late.past t s came, before_end 0 (own_origins 0 sent) t (Some s) came)

abbrev mix : List ℕ
mix = text_of_two 66 67

-- the segments of slots 1 and 3, and that of slot 5 in place of the first
abbrev until_slot_3 : Cells
until_slot_3 = insert (insert empty 0 (four 65)) 1 (three_and_end 67)

abbrev both : Cells
both = insert until_slot_3 0 (four 66)

both_held : (a : ℕ) → a < 2 → get both a ≡ Some (segment_of (text_body mix) a)
both_held a h = grind (arith, get-put, four, three_and_end)

abbrev view : ShownView
view = record { text = Some mix; name = None; item = None; one = None; two = None }

shows : ShowsByFlag input view
shows = record {
  text = all_text both mix (is_text 66 67 (omega arith) (omega arith) refl refl) record { held = both_held };
  name = no_name_of_none;
  item = refl;
  one = refl;
  two = refl;
}

of_none : (k : ℕ) (b : Broadcast) → HasNumber (newer ∷ older ∷ []) k b → b.bytes ≡ mix → ⊥
of_none k b last same = grind arith

pub a_restart_mixes : MixesAStation 1
a_restart_mixes = record {
  events = events;
  values = search (arith, is_text);
  now = 5;
  receiver = record { input = input; view = view };
  listens = record { order = late.order; past = by_now; shows = shows };
  got = (refl, refl, λ t s came. omega (arith, late.past t s came, late.late t s came));
  mix = mix;
  shown = refl;
  of_none = of_none;
}

-- ---- with the empty text between, as the premise asks
