-- What was on air, by periods of slots, and how far back a search sees it.
use Rattle.std.proofs.Common.{◌≡◌, ◌∙◌, ◌∷◌, ◌++◌, ◌+◌, ◌-◌, ◌<◌, ◌||◌, [], ℕ, zero, suc, Bool, true, false, List, None}
use Rattle.std.proofs.Common.{Option, Some, ap, append_assoc, append-nil, arith, drop, get_or, length, refl, cond}
use Rattle.std.proofs.Common.{replicate, set, sym, take, take_while}
use Rattle.std.specs.List.{prefix_len}
use Rattle.std.proofs.lemmas.List.{take-append-drop, take_all, take_more}
use Rattle.std.proofs.lemmas.List.Sums.{take_while-cons}
use Rattle.std.proofs.lemmas.Slice.Eq.{bytes_eq-Decides}
use Rattle.rds_receiver.specs.Shown.{ShownView}
use Rattle.rds_view_lines.specs.KeptView.{view_kept}
use Rattle.rds_view_lines.specs.Output.{is_same_item, is_same_tag, is_same_text, nothing_shown}
use Rattle.rds_view_lines.specs.Part.{same_parts}
use Rattle.rds_view_lines.specs.declared.parts.Parts.{Parts}
use Rattle.rds_view_lines.specs.NoChange.{same_tag, same_text}
use Rattle.rds_script.specs.Inside.Compared.{AirsStand, WereBefore, airs_in, goes_on, newest_of, parts_on_air, reached}
use Rattle.rds_script.specs.Inside.Compared.{was_on_air}
use Rattle.rds_world.specs.Event.{Event}
use Rattle.rds_world.specs.OnAir.{air_of}
use Rattle.rds_world.specs.declared.world.Config.{Config}
use Rattle.rds_world.specs.State.{distance}
use Rattle.rds_script.specs.OnAir.{airing_by, airings, airings_among, airings_by, airs, back_to_their_texts, either}
use Rattle.rds_script.specs.OnAir.{newest_text, parts_among}
use Rattle.rds_script.specs.declared.airing.Airings.{Airings}
use Rattle.rds_script.specs.declared.airs.Airs.{Airs}
use Rattle.rds_script.specs.declared.airs.Lookback.{Lookback}
use Rattle.rds_script.specs.declared.airs.Lookback.TheVariants.{Ever, Lately, Texts}
use Rattle.rds_script.specs.declared.airs.Period.{Period}
use Rattle.rds_receiver.specs.NotShown.{AreWhys, whys_of}
use Rattle.rds_receiver.specs.ReceiverAt.{WhereReceiverStands}
use Rattle.rds_receiver.specs.declared.why.Whys.{Whys}
use Rattle.rds_safety.specs.Late.{Input}
use Rattle.rds_world.specs.WorldAt.{HasHeard, tuned_to}
use Rattle.rds_receiver.specs.declared.receiver.Receiver.{Receiver}

-- a text is the same as no other
pub one_text : (text other : Option (List ℕ)) → is_same_text text other ≡ true → text ≡ other
one_text text other same = grind (arith, bytes_eq-Decides)

pub one_tag : (tag other : Option (ℕ × List ℕ)) → is_same_tag tag other ≡ true → tag ≡ other
one_tag tag other same = grind (arith, bytes_eq-Decides)

-- equal views have all parts the same
pub parts_same : (view other : ShownView) (parts : Parts) → parts ≡ same_parts view other → view ≡ other
    → parts ≡ record { text = true; name = true; one = true; two = true }
parts_same view other parts is same = grind (arith, same_text, same_tag)

pub one_item : (item other : Option (Bool × Bool)) → is_same_item item other ≡ true → item ≡ other
one_item item other same = grind arith

-- views with all parts the same are equal
pub one_view : (view other : ShownView) (parts : Parts) → parts ≡ same_parts view other → parts.text ≡ true
    → parts.name ≡ true → parts.one ≡ true → parts.two ≡ true → is_same_item view.item other.item ≡ true → view ≡ other
one_view view other parts is text name one two item = λ i. record {
  text = one_text view.text other.text (rw is at text) i;
  name = one_text view.name other.name (rw is at name) i;
  item = one_item view.item other.item item i;
  one = one_tag view.one other.one (rw is at one) i;
  two = one_tag view.two other.two (rw is at two) i;
}

-- no view has no parts
pub either_none : (view : ShownView) (p : Parts) → either p (parts_among view []) ≡ p
either_none view p = grind arith

-- parts of three views may be collected in either order
pub either_assoc : (p q r : Parts) → either p (either q r) ≡ either (either p q) r
either_assoc p q r = grind arith

either_again : (p q : Parts) → either p (either p q) ≡ either p q
either_again p q = grind arith

-- what each search sees
pub seen_lately : (n : ℕ) (text : Option (List ℕ)) (all : List ShownView) → reached Lately n text all ≡ take n all
seen_lately zero text [] = refl
seen_lately zero text (air ∷ older) = refl
seen_lately (suc n) text [] = refl
seen_lately (suc n) text (air ∷ older) = ap (λ (l : List ShownView). air ∷ l) (seen_lately n air.text older)

pub seen_ever : (n : ℕ) (text : Option (List ℕ)) (all : List ShownView) → reached Ever n text all ≡ all
seen_ever n text [] = refl
seen_ever zero text (air ∷ older) = ap (λ (l : List ShownView). air ∷ l) (seen_ever 0 air.text older)
seen_ever (suc n) text (air ∷ older) = ap (λ (l : List ShownView). air ∷ l) (seen_ever n air.text older)

-- a search sees all slots of a period, or the last of them, which show the same
more_of_period : (lookback : Lookback) (view air : ShownView) (n more left : ℕ) (older : List ShownView)
    → left ≡ n - more
    → parts_among view (air ∷ reached lookback n air.text (replicate more air ++ older))
    ≡ parts_among view (air ∷ reached lookback left air.text older)
more_of_period lookback view air n zero left older is = (let same : left ≡ n = omega arith in rw same refl)
more_of_period lookback view air (suc n) (suc more) left older is =
    search (arith, more_of_period lookback view air n more left older (omega arith), either_again)
more_of_period Lately view air zero (suc more) left older is = grind (arith, seen_lately)
more_of_period Texts view air zero (suc more) left older is =
    rw (same_text air.text) (either_again (same_parts view air) (parts_among view (reached Texts 0 air.text
    (replicate more air ++ older))) ∙ more_of_period Texts view air 0 more left older (omega arith))
more_of_period Ever view air zero (suc more) left older is =
    search (arith, more_of_period Ever view air 0 more left older (omega arith), either_again)

-- a search that sees the last slot of a period sees the period, and goes on before it
pub period_seen : (lookback : Lookback) (view air : ShownView) (n more : ℕ) (text : Option (List ℕ))
    (older : List ShownView)
    → (n ≡ 0 → goes_on lookback text air.text ≡ true)
    → parts_among view (reached lookback n text ((air ∷ replicate more air) ++ older)) ≡ either (same_parts view air)
    (parts_among view (reached lookback (n - 1 - more) air.text older))
period_seen lookback view air zero more text older on = grind (arith, more_of_period)
period_seen lookback view air (suc n) more text older on = more_of_period lookback view air n more _ older (omega arith)

-- one that does not go on sees nothing more
pub none_seen : (lookback : Lookback) (view air : ShownView) (text : Option (List ℕ)) (older : List ShownView)
    → goes_on lookback text air.text ≡ false
    → parts_among view (reached lookback 0 text (air ∷ older)) ≡ parts_among view []
none_seen lookback view air text older ends = rw ends refl

abbrev has_text : Option (List ℕ) → ShownView → Bool
has_text text air = is_same_text text air.text

seen_of_text : (text : Option (List ℕ)) (all : List ShownView)
    → reached Texts 0 text all ≡ take_while (has_text text) all
seen_of_text text [] = refl
seen_of_text text (air ∷ older) =
    rw take_while-cons (by (is_same_text text air.text) refl (seen_of_text air.text older))
  where
    by : (b : Bool) → is_same_text text air.text ≡ b
        → reached Texts 0 air.text older ≡ take_while (has_text air.text) older
        → cond b (air ∷ reached Texts 0 air.text older) [] ≡ cond b (air ∷ take_while (has_text text) older) []
    by true is more = rw (one_text text air.text is) (cc)
    by false is more = refl

texts_seen : (n : ℕ) (text : Option (List ℕ)) (all : List ShownView)
    → reached Texts (suc n) text all ≡ take (suc n) all ++ take_while (has_text (newest_text (drop n all)))
    (drop (suc n) all)
texts_seen n text [] = grind arith
texts_seen zero text (air ∷ older) = ap (λ (l : List ShownView). air ∷ l) (seen_of_text air.text older)
texts_seen (suc n) text (air ∷ older) = ap (λ (l : List ShownView). air ∷ l) (texts_seen n air.text older)

pub seen_for_texts : (n : ℕ) (text : Option (List ℕ)) (all : List ShownView) → 0 < n
    → reached Texts n text all ≡ back_to_their_texts n all
seen_for_texts n text all some = grind (arith, texts_seen)

-- one period more
pub airs_of_more : (items : List Period) (s : Period)
    → airs_in (items ++ s ∷ []) ≡ (view_kept s.air ∷ replicate s.more (view_kept s.air)) ++ airs_in items
airs_of_more [] s = sym (append-nil (view_kept s.air ∷ replicate s.more (view_kept s.air)))
airs_of_more (t ∷ items) s = search (airs_of_more items s, append_assoc)

-- the last of some periods
pub airs_to : (items : List Period) (i : ℕ) (d : Period) → i < length items
    → airs_in (take (i + 1) items) ≡ (view_kept (get_or items i d).air ∷ replicate (get_or items i d).more
    (view_kept (get_or items i d).air)) ++ airs_in (take i items)
airs_to items i d within = ap airs_in (take_more items i d within) ∙ airs_of_more (take i items) (get_or items i d)

-- the newest view on air is that of the last period
pub newest_is : (items : List Period) (i : ℕ) (d : Period) → i + 1 ≡ length items
    → newest_of (airs_in items) ≡ view_kept (get_or items i d).air
newest_is items i d last = grind (arith, take_all, airs_to)

-- the last period is one slot longer
pub longer : (items : List Period) (i : ℕ) (d s : Period) → i + 1 ≡ length items
    → view_kept s.air ≡ view_kept (get_or items i d).air → s.more ≡ (get_or items i d).more + 1
    → airs_in (set items i s) ≡ view_kept (get_or items i d).air ∷ airs_in items
longer (t ∷ []) zero d s last same more = (let one : s.more ≡ suc t.more = omega arith in rw (same, one) refl)
longer (t ∷ u ∷ items) (suc i) d s last same more = search (longer (u ∷ items) i d s (omega arith) same more)
longer _ _ d s last same more = absurd (omega arith)

-- what was on air last is what is on air
pub newest_air : (config : Config) (events : List Event) → newest_of (airs config events) ≡ air_of config events
newest_air config [] = refl
newest_air config (e ∷ before) = refl

-- what was on air in the last slots, for a text of them, and ever
lately_is : (view : ShownView) (config : Config) (events : List Event) (a : Airs) → AirsStand config events a
    → parts_among view (reached Lately a.spacing None (airs_in a.periods.items))
    ≡ parts_among view (take (distance config) (airs config events))
lately_is view config events a stand = grind (arith, seen_lately)

-- which parts were on air lately, as the periods find it
pub lately_found : (view : ShownView) (config : Config) (events : List Event) (a : Airs) (nothing found lately : Parts)
    → AirsStand config events a → nothing ≡ same_parts view nothing_shown
    → found ≡ parts_among view (reached Lately a.spacing None (airs_in a.periods.items))
    → lately ≡ either nothing found
    → lately ≡ parts_among view (nothing_shown ∷ take (distance config) (airs config events))
lately_found view config events a nothing found lately stand none some both = grind (arith, lately_is)

-- which parts the shown text had while it was on air, as the periods find it
pub for_texts_is : (view : ShownView) (config : Config) (events : List Event) (a : Airs) → AirsStand config events a
    → parts_among view (reached Texts a.spacing None (airs_in a.periods.items))
    ≡ parts_among view (back_to_their_texts (distance config) (airs config events))
for_texts_is view config events a stand = grind (arith, seen_for_texts)

-- which parts were ever on air, as the periods find it
pub ever_is : (view : ShownView) (config : Config) (events : List Event) (a : Airs) → AirsStand config events a
    → parts_among view (reached Ever a.spacing None (airs_in a.periods.items)) ≡ parts_among view (airs config events)
ever_is view config events a stand = grind (arith, seen_ever)

-- what was on air among some slots was on air among all
among_both : (view : ShownView) (xs ys : List ShownView)
    → parts_among view (xs ++ ys) ≡ either (parts_among view xs) (parts_among view ys)
among_both view [] ys = refl
among_both view (air ∷ xs) ys = rw (among_both view xs ys) (either_assoc (same_parts view air) (parts_among view xs) _)

among_lately : (view : ShownView) (n : ℕ) (all : List ShownView)
    → parts_among view all ≡ either (parts_among view (take n all)) (parts_among view (drop n all))
among_lately view n all = cc (take-append-drop n all, among_both view (take n all) (drop n all))

-- a part of a view that stays: nothing is shown, or it is on air now, or it was before the newest slot
stays_part : (none here lately for_text ever rest now_for_text : Bool) → (lately ≡ true → ever ≡ true)
    → (for_text ≡ true → ever ≡ true)
    → airing_by (none || (here || rest)) now_for_text (was_on_air (airing_by (none || lately) for_text ever))
    ≡ airing_by (none || (here || rest)) now_for_text (here || ever)
stays_part none here lately for_text ever rest now_for_text p q = grind arith

-- a view that stays was on air in any slot if it was before the newest one, or is on air now
pub stays_as : (n : ℕ) (view air : ShownView) (older : List ShownView) → 0 < n
    → airings_by (parts_among view (nothing_shown ∷ take n (air ∷ older)))
    (parts_among view (back_to_their_texts n (air ∷ older))) (parts_on_air (airings_among n older view))
    ≡ airings_among n (air ∷ older) view
stays_as zero view air older some = absurd (omega arith)
stays_as (suc m) view air older some =
    let n = suc m in
    let now = parts_among view (back_to_their_texts n (air ∷ older)) in
    let none = same_parts view nothing_shown in
    let here = same_parts view air in
    let rest = parts_among view (take m older) in
    let lately = parts_among view (take n older) in
    let for_text = parts_among view (back_to_their_texts n older) in
    let ever = parts_among view older in
    let run = prefix_len (has_text (newest_text (drop (n - 1) older))) (drop n older) in
    let all : ever ≡ either lately (parts_among view (drop n older)) = among_lately view n older in
    let texts : for_text ≡ either lately (parts_among view (take run (drop n older))) =
    among_both view (take n older) (take run (drop n older)) in
    let part = among_lately view run (drop n older) in
    λ i. record {
      text = stays_part none.text here.text lately.text false ever.text rest.text false (rw all (grind arith))
          (λ e. cc) i;
      name = stays_part none.name here.name lately.name false ever.name rest.name false (rw all (grind arith))
          (λ e. cc) i;
      one = stays_part none.one here.one lately.one for_text.one ever.one rest.one now.one (grind arith)
          (grind arith) i;
      two = stays_part none.two here.two lately.two for_text.two ever.two rest.two now.two (grind arith)
          (grind arith) i;
    }

-- which parts were on air in any slot, if the view stays
pub ever_before : (view : ShownView) (config : Config) (events : List Event) (a : Airs) (before : Airings)
    → AirsStand config events a → WereBefore config events view (Some before)
    → airings_by (parts_among view (nothing_shown ∷ take (distance config) (airs config events)))
    (parts_among view (back_to_their_texts (distance config) (airs config events))) (parts_on_air before)
    ≡ airings config events view
ever_before view config events a before stand were = grind (arith, stays_as)

-- parts that were all on air lately are so whatever was on air before
pub all_lately : (lately for_text ever : Parts) → lately.text ≡ true → lately.name ≡ true → lately.one ≡ true
    → lately.two ≡ true → airings_by lately lately lately ≡ airings_by lately for_text ever
all_lately lately for_text ever text name one two = rw (text, name, one, two) refl

-- ---- why nothing is shown follows from the input that was heard

-- the reasons of a receiver are those of its input
pub whys_heard : (config : Config) (input : Input) (r : Receiver) (whys : Whys) → HasHeard config input r
    → WhereReceiverStands r (λ t groups. AreWhys t groups whys)
    → whys ≡ whys_of (tuned_to config input) input.heard
whys_heard config input r whys has are =
    are (tuned_to config input) has.groups has.stands ∙ ap (whys_of (tuned_to config input)) (sym has.spelled)
