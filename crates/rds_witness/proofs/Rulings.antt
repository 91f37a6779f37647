-- Why a slot has no mix if receivers that hold all that others hold show nothing else than one that loses nothing.
use Rattle.std.proofs.Common.{◌≡◌, ◌∙◌, ◌∷◌, [], ◌+◌, ◌<◌, ◌≤◌, ℕ, zero, suc, false, true, List, Option, None, add-one}
use Rattle.std.proofs.Common.{ap, arith, length, refl, sym, Some, get_or, reverse, take, if◌then◌else◌, slice_index_or}
use Rattle.std.proofs.lemmas.List.Folds.{list_any_more}
use Rattle.rds_block.specs.declared.group.Group.{Group}
use Rattle.rds_witness.specs.Lost.{got, got-more, got-none, has_slot, is_lost, group_left}
use Rattle.rds_witness.specs.declared.burst.Burst.{Burst}
use Rattle.std.proofs.lemmas.List.Elements.{All-contains}
use Rattle.rds_fields.specs.declared.pair.Which.{Which}
use Rattle.rds_fields.specs.Tag.{PairFields, tag_in}
use Rattle.rds_assembly.specs.Cells.{Cells}
use Rattle.rds_assembly.specs.ServiceLaws.{one_name}
use Rattle.rds_assembly.specs.Whole.{IsWholeName}
use Rattle.rds_receiver.specs.OneView.{same_text_shown}
use Rattle.rds_receiver.specs.Receipts.{Tuning, heard_of}
use Rattle.rds_receiver.specs.Shown.{IsShown, IsView, ShownView}
use Rattle.rds_receiver.specs.Tags.{cut_by, pair_held, tag_of}
use Rattle.rds_receiver.specs.Confirmed.{counted}
use Rattle.rds_witness.specs.Covered.{CoversInput, IsCovered, IsInputPart}
use Rattle.rds_witness.specs.Mix.{Has, IsBurstMix, Thing, until}
use Rattle.rds_witness.specs.Part.{IsPairPart}
use Rattle.rds_witness.specs.Search.{HasViews, IsReplaced, IsSeenBefore, IsTagOfRun, ShowOnlySeen, ShowsOnlySeen}
use Rattle.rds_witness.specs.Search.{HasOnlySeen}
use Rattle.rds_witness.specs.declared.covering.Lossy.{Lossy}
use Rattle.rds_witness.proofs.HeldParts.{by_first, part_cells, whole_name, whole_text}
use Rattle.rds_receiver.specs.ReceiverAt.{ReceiverAt}
use Rattle.rds_receiver.specs.Stored.{display_stored}
use Rattle.rds_receiver.specs.declared.receiver.Receiver.{Receiver}
use Rattle.rds_receiver.proofs.Shows.{alike_itself, stays_shown}
use Rattle.std.proofs.Math.Seq.{take-suc}
use Rattle.std.proofs.lemmas.List.{reverse-append, take_all}

-- ---- what receivers get that lose different slots

pub not_lost_before : (burst : Burst) (n : ℕ) → n < burst.first → is_lost (burst ∷ []) n ≡ false
not_lost_before burst n less = grind (arith)

pub not_lost_behind : (burst : Burst) (n : ℕ) → burst.last < n → is_lost (burst ∷ []) n ≡ false
not_lost_behind burst n less = grind (arith)

pub lost_inside : (burst : Burst) (n : ℕ) → burst.first ≤ n → n ≤ burst.last → is_lost (burst ∷ []) n ≡ true
lost_inside burst n from to = grind (arith)

-- one burst more is lost
pub burst_more : (lost : List Burst) (k : ℕ) (d : Burst) (log old new : List (Option Group)) (n : ℕ) → k < length lost
    → slice_index_or old n None ≡ group_left (take k lost) log n
    → slice_index_or new n None ≡ if has_slot (get_or lost k d) n then None else slice_index_or old n None
    → slice_index_or new n None ≡ group_left (take (k + 1) lost) log n
burst_more lost k d log old new n inside was is =
    let test = list_any_more (λ (burst : Burst). has_slot burst n) lost k d inside in
    grind (arith)

received_alike : (one other : List Burst) (log : List (Option Group)) (n : ℕ) → is_lost one n ≡ is_lost other n
    → group_left one log n ≡ group_left other log n
received_alike one other log n same = rw same refl

pub got_alike : (one other : List Burst) (log : List (Option Group)) (n : ℕ)
    → ((k : ℕ) → k < n → is_lost one k ≡ is_lost other k) → got one log n ≡ got other log n
got_alike one other log zero alike = got-none one log ∙ sym (got-none other log)
got_alike one other log (suc n) alike =
    let older = got_alike one other log n (λ k less. alike k (omega arith)) in
    let newest = received_alike one other log n (alike n (omega arith)) in
    rw (← add-one n, got-more one log n, got-more other log n, older, newest)

-- a burst that begins in slot n, up to it
pub got_before : (burst : Burst) (log : List (Option Group)) (n : ℕ) → n ≤ burst.first
    → got (burst ∷ []) log n ≡ got [] log n
got_before burst log n less = grind (arith, got_alike, not_lost_before)

-- bursts that begin together, up to slot n, which is behind neither by more than one
pub got_together : (one other : Burst) (log : List (Option Group)) (n : ℕ) → one.first ≡ other.first → n ≤ one.last + 1
    → n ≤ other.last + 1 → got (one ∷ []) log n ≡ got (other ∷ []) log n
got_together one other log n same one_more other_more =
    grind (arith, got_alike, not_lost_before, lost_inside)

-- the next slot, behind the burst and in it
pub heard_next : (burst : Burst) (log : List (Option Group)) (n : ℕ) (group : Option Group) → burst.last < n
    → group ≡ group_left [] log n → group ∷ got (burst ∷ []) log n ≡ got (burst ∷ []) log (n + 1)
heard_next burst log n group behind is =
    let same = received_alike [] (burst ∷ []) log n (sym (not_lost_behind burst n behind)) in
    rw (got-more (burst ∷ []) log n, is ∙ same)

-- in a burst the next slot is lost
pub lost_next : (burst : Burst) (log : List (Option Group)) (n : ℕ) → burst.first ≤ n → n ≤ burst.last
    → None ∷ got (burst ∷ []) log n ≡ got (burst ∷ []) log (n + 1)
lost_next burst log n from to = rw (got-more (burst ∷ []) log n, lost_inside burst n from to)

-- a receiver gets as many slots as passed, lost ones too
pub got_long : (lost : List Burst) (log : List (Option Group)) (n : ℕ) → length (got lost log n) ≡ n
got_long lost log zero = ap length (got-none lost log)
got_long lost log (suc n) = rw (← add-one n, got-more lost log n) (omega (arith, got_long lost log n))

-- ---- what a tag shows

-- a shown tag comes of a shown text and a held pair
pub record Cuts (which : Which) (text : Option (List ℕ)) (pair : Option PairFields) (class : ℕ) (piece : List ℕ) : Type
    0 where
  pub x : List ℕ
  pub p : PairFields
  pub has_text : text ≡ Some x
  pub has_pair : pair ≡ Some p
  pub cut : cut_by (tag_in which p) x ≡ Some (class, piece)

pub cuts : (which : Which) (text : Option (List ℕ)) (pair : Option PairFields) (class : ℕ) (piece : List ℕ)
    → tag_of which text pair ≡ Some (class, piece) → Cuts which text pair class piece
cuts which text pair class piece is = grind (arith)

cuts_again : (which : Which) (text other : Option (List ℕ)) (pair more : Option PairFields) (class : ℕ) (piece : List ℕ)
    → ((x : List ℕ) → text ≡ Some x → other ≡ Some x) → IsPairPart pair more
    → tag_of which text pair ≡ Some (class, piece) → tag_of which other more ≡ Some (class, piece)
cuts_again which text other pair more class piece shows held is = grind (arith)

-- ---- a part has no other things

shown_name : (cells : Cells) (shown : Option (List ℕ)) (x : List ℕ) → IsShown IsWholeName cells shown
    → IsWholeName cells x → shown ≡ Some x
shown_name cells None x p q = absurd (p x q)
shown_name cells (Some y) x p q = ap Some (one_name cells y x p q)

module _ (t : Tuning) (one other : List (Option Group)) (part : IsInputPart t one other) (v w : ShownView)
    (is : IsView t one v) (is_other : IsView t other w) where
  text_part : (x : List ℕ) → v.text ≡ Some x → w.text ≡ Some x
  text_part x has =
      let shown = rw has at is.text in
      same_text_shown t.dwell t.first (counted t (heard_of t.programme other)) w.text (Some x) is_other.text
      (whole_text _ _ x (part_cells _ _ part.texts) shown)

  name_part : (x : List ℕ) → v.name ≡ Some x → w.name ≡ Some x
  name_part x has =
      let shown = rw has at is.name in
      shown_name _ w.name x is_other.name (whole_name _ _ x (part_cells _ _ part.names) shown)

  pub view_part : (thing : Thing) → Has v thing → Has w thing
  view_part thing has = grind (arith, text_part, name_part, cuts_again)

-- ---- the receiver that loses nothing

-- it shows its own things in this slot
own_tag : (t : Tuning) (log : List (Option Group)) (n slots : ℕ) (which : Which) (class : ℕ) (piece : List ℕ)
    (view : ShownView) → n < slots → IsView t (got [] log (n + 1)) view
    → tag_of which view.text (pair_held t.dwell t.first (counted t (heard_of t.programme (got [] log (n + 1)))))
    ≡ Some (class, piece)
    → IsTagOfRun t log slots class piece
own_tag t log n slots which class piece view less is has = search (arith, cuts)

pub own_things : (t : Tuning) (log : List (Option Group)) (n slots : ℕ) (view : ShownView) (thing : Thing) → n < slots
    → IsView t (got [] log (n + 1)) view → Has view thing → IsSeenBefore t log slots thing
own_things t log n slots view thing less is has = grind (arith, own_tag)

-- ---- a slot without a mix

-- a mix that is seen before is a tag of a replaced pair
seen_mix : (t : Tuning) (log : List (Option Group)) (burst : Burst) (n : ℕ) (thing : Thing)
    → IsBurstMix t log burst n thing → IsSeenBefore t log (until t.dwell log n) thing
    → IsReplaced t log (until t.dwell log n) thing
seen_mix t log burst n thing mix seen = grind (arith)

-- what a covered receiver shows is no mix
pub no_mix : (t : Tuning) (log : List (Option Group)) (n slots : ℕ) → slots ≡ until t.dwell log n → n < slots
    → HasViews t log (length log) → (whole : Lossy) (receivers : List Lossy)
    → ((input : List (Option Group)) → length input ≡ n + 1 → CoversInput t input whole
    → IsInputPart t input (got [] log (n + 1)))
    → ((burst : Burst) → burst.first ≤ burst.last → burst.last + 1 < n + 1
    → IsCovered t (whole ∷ receivers) (got (burst ∷ []) log (n + 1)))
    → ShowOnlySeen t log slots receivers → (burst : Burst) (thing : Thing) → IsBurstMix t log burst n thing
    → IsReplaced t log (until t.dwell log n) thing
no_mix t log n slots is soon views whole receivers same_whole hold show burst thing mix =
    seen_mix t log burst n thing mix (rw is at (by_first t whole receivers (got (burst ∷ []) log (n + 1)) (IsSeenBefore
    t log slots thing) (hold burst mix.place.order (let behind = mix.place.before in omega (arith, behind))) by_whole
    by_other))
  where
    by_whole : CoversInput t (got (burst ∷ []) log (n + 1)) whole → IsSeenBefore t log slots thing
    by_whole covers =
        let (view, here) = views n mix.place.inside in
        own_things t log n slots view thing soon here (view_part t (got (burst ∷ []) log (n + 1)) (got [] log (n + 1))
        (same_whole (got (burst ∷ []) log (n + 1)) (got_long (burst ∷ []) log (n + 1)) covers) mix.mix.new.after
        view mix.mix.new.is here thing mix.mix.new.has)

    by_other : IsCovered t receivers (got (burst ∷ []) log (n + 1)) → IsSeenBefore t log slots thing
    by_other covered =
        let shows : ShowsOnlySeen t log slots covered.by.receiver = All-contains
        (λ s. ShowsOnlySeen t log slots s.receiver) receivers covered.by show covered.is_there in
        let only = shows covered.covers.other covered.covers.stands in
        only.seen thing (view_part t (got (burst ∷ []) log (n + 1)) covered.covers.other covered.covers.part
        mix.mix.new.after only.view mix.mix.new.is only.is thing mix.mix.new.has)

-- a slot is among those that count for it
pub now_before_until : (dwell : ℕ) (log : List (Option Group)) (n : ℕ) → 0 < dwell → n < length log
    → n < until dwell log n
now_before_until dwell log n some inside = grind (arith)

-- ---- what a receiver shows wherever it stands, and in later slots

-- the view of a state at two inputs
view_at : (t : Tuning) (r : Receiver) (one other : List (Option Group)) (v : ShownView) → ReceiverAt t r one
    → ReceiverAt t r other → IsView t one v → IsView t other v
view_at t r one other v mine theirs = search (arith, stays_shown, alike_itself)

only_everywhere : (t : Tuning) (log : List (Option Group)) (n : ℕ) (r : Receiver) (input : List (Option Group))
    → ReceiverAt t r input → HasOnlySeen t log n input → ShowsOnlySeen t log n r
only_everywhere t log n r input stands only other there = record
    { view = only.view; is = view_at t r input other only.view stands there only.is; seen = only.seen }

-- a view that stays
pub only_stays : (t : Tuning) (log : List (Option Group)) (n : ℕ) (old new : Receiver) (group : Option Group)
    (input : List (Option Group)) → ((view : ShownView) → IsView t input view → IsView t (group ∷ input) view)
    → ReceiverAt t old input → ReceiverAt t new (group ∷ input) → ShowsOnlySeen t log n old → ShowsOnlySeen t log n new
only_stays t log n old new group input same stands now only =
    let was = only input stands in
    only_everywhere t log n new (group ∷ input) now record
    { view = was.view; is = same was.view was.is; seen = was.seen }

-- what shows only what was seen up to a slot shows only that up to a later one
pub only_later : (t : Tuning) (log : List (Option Group)) (n k : ℕ) (r : Receiver) → n ≤ k
    → ShowsOnlySeen t log n r → ShowsOnlySeen t log k r
only_later t log n k r less only input stands = grind (arith)

-- the end of the slots that count does not go back
pub until_later : (m : ℕ) (log : List (Option Group)) (n : ℕ) → until m log n ≤ until m log (n + 1)
until_later m log n = grind (arith)

-- ---- a receiver that loses nothing gets the slots of the log

got-first : (log : List (Option Group)) (n : ℕ) → n ≤ length log → got [] log n ≡ reverse (take n log)
got-first log zero less = got-none [] log
got-first log (suc n) less =
    let here : n < length log = omega (arith, less) in
    let had : got [] log n ≡ reverse (take n log) = got-first log n (omega (arith, less)) in
    let last = get_or log n None in
    ap (got [] log) (sym (add-one n)) ∙ got-more [] log n ∙ ap (λ (l : List (Option Group)). last ∷ l) had
    ∙ sym (reverse-append (take n log) (last ∷ [])) ∙ ap reverse (sym (take-suc log n None here))

-- who loses nothing gets the log
pub got-all : (log : List (Option Group)) → got [] log (length log) ≡ reverse log
got-all log = got-first log (length log) (omega arith) ∙ ap reverse (take_all (length log) log (omega arith))
