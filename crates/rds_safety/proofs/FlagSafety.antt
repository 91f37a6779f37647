-- Lemmas: a receiver with the flag bit alone that heard a segment of each broadcast before news shows the value of its
-- run's source, and tags of that text; and two such receivers show neighbours.
use Rattle.std.proofs.Common.{◌≡◌, ◌≢◌, ◌⊎◌, ◌+◌, ◌<◌, ◌≤◌, ℕ, Bool, List, [], ◌∷◌, length, Option, Some, None, refl}
use Rattle.std.proofs.Common.{sym, ◌∙◌, subst, inl, inr, arith, IfSome}
use Rattle.std.specs.FinMap.{insert}
use Rattle.std.specs.List.{AllByRecursion}
use Rattle.std.proofs.lemmas.Bool.{cases_lt}
use Rattle.rds_fields.specs.declared.message.Message.{Message}
use Rattle.rds_fields.specs.declared.message.Message.TheVariants.{Tags}
use Rattle.rds_fields.specs.declared.pair.Which.TheVariants.{One, Two}
use Rattle.rds_fields.specs.Tag.{PairFields, TagFields}
use Rattle.rds_assembly.specs.Body.{text_body}
use Rattle.rds_assembly.specs.Cells.{Cells, HasByte}
use Rattle.rds_assembly.specs.ServiceLaws.{no_text_of_none, one_byte}
use Rattle.rds_assembly.specs.Whole.{IsWholeName, IsWholeText}
use Rattle.rds_encoder.specs.Laws.{EachNumberNamesOne}
use Rattle.rds_encoder.specs.Plan.{Broadcast, Covers, HasNumber}
use Rattle.rds_encoder.specs.Spaced.{IsSpaced}
use Rattle.rds_receiver.specs.Receipts.{Segment, name_fragment, segments, text_fragment}
use Rattle.rds_receiver.specs.declared.fragment.Fragment.{Fragment}
use Rattle.rds_receiver.specs.Run.{begins_in, cells_of, run_at}
use Rattle.rds_receiver.specs.Shown.{IsShown, ShownView}
use Rattle.rds_receiver.specs.Tags.{item_of, pair_from, tag_of}
use Rattle.rds_safety.specs.FlagAlone.{HearsEach, HearsTextBeforeTags, IsFilled, IsHarmless, IsNews, ListensByFlag}
use Rattle.rds_safety.specs.FlagAlone.{ShowsByFlag, TurnsTheFlag, flag_run, flag_run_before, pair_by_flag, run_by_flag}
use Rattle.rds_safety.specs.FlagLaws.{HasNewSource, HoldsItsSource, IsOfItsSource, NamesByFlagAreNew}
use Rattle.rds_safety.specs.FlagLaws.{NamesByFlagAreOfTheirSource, NamesWithADwellAreNew, NewSourcesAreNear}
use Rattle.rds_safety.specs.FlagLaws.{ShowsEmptyText, ShowsTagsOfText, TagsByFlagAreOfTheirText}
use Rattle.rds_safety.specs.FlagLaws.{TextsByFlagAreHeldAlone, TextsByFlagAreNew, TextsByFlagAreOfTheirSource}
use Rattle.rds_safety.specs.FlagLaws.{TextsWithADwellAreNew}
use Rattle.rds_safety.specs.Late.{CameFrom, HasEntry, Input, IsHeardInOrder}
use Rattle.rds_safety.specs.Lawful.{HasOne, HasTags, IsFragmentOf, IsLawful, Kind, names, texts}
use Rattle.rds_safety.specs.Laws.{PlanLaws}
use Rattle.rds_safety.specs.Marks.{IsMarkIn, Mark, Tagged, marks, name_mark, text_mark}
use Rattle.rds_safety.specs.OwnClock.{IsHeardByOwnClock}
use Rattle.rds_safety.specs.Safe.{Listener, NamesPiece, ShowsNoTags}
use Rattle.rds_safety.specs.Source.{IsSource}
use Rattle.rds_safety.proofs.OneBroadcast.{AreParts, IsService, get-put, name_service, text_service, PicksWhatIsMarked}
use Rattle.rds_safety.proofs.OneBroadcast.{IsSegmentLike, is_marked}
use Rattle.rds_safety.proofs.Entries.{arrival, before_end, in_order_is_heard, mark_sent, one_origin, AreFalling}
use Rattle.rds_safety.proofs.Entries.{IsPicked, all_picked, segments_fall}
use Rattle.rds_safety.proofs.FlagRuns.{IsOfOneValue, RunIsOfOneValue, all_before, came_earlier, heard_from, none_passes}
use Rattle.rds_safety.proofs.FlagRuns.{run_is_of_one_value}
use Rattle.rds_safety.proofs.HeldWhole.{IsIn, all_in, came_in, first_in, in_below, in_segments, one_covers, names_piece}
use Rattle.rds_safety.proofs.HeldWhole.{after_heard, tags_are_marked, was_heard}
use Rattle.rds_safety.proofs.Safety.{name_fragments_marked, text_fragments_marked}

-- ---- values

-- once the segment of the empty text is held, no other text is whole
text_of_no_bytes : (cells : Cells) (p : Fragment) (y : List ℕ) → IsFragmentOf (text_body []) p
    → IsWholeText (insert cells p.address p.bytes) y → y ≡ []
text_of_no_bytes cells p [] is whole = refl
text_of_no_bytes cells p (b ∷ bytes) is whole =
    let first : p.address ≡ 0 = (let within = is.within in omega arith) in
    let held : HasByte (insert cells p.address p.bytes) 0 13 = record {
      cell = p.bytes;
      held = get-put cells p.address p.bytes 0 ∙ rw first;
      byte = rw (is.bytes, first);
    } in
    absurd (whole.plain 0 (omega arith) (one_byte _ 0 _ _ (whole.spelled.bytes 0 (omega arith)) held))

-- a service, and what the segment of its empty value makes whole
pub record HasNoBytes (kind : Kind) (IsWhole : Cells → List ℕ → Type 0) : Type 0 where
  pub empty : (cells : Cells) (p : Fragment) (y : List ℕ) → kind.IsValue [] → kind.HasPart [] p
      → IsWhole (insert cells p.address p.bytes) y → y ≡ []

pub texts_of_no_bytes : HasNoBytes texts IsWholeText
texts_of_no_bytes = record { empty = λ cells p y value is whole. text_of_no_bytes cells p y is whole }

pub names_of_no_bytes : HasNoBytes names IsWholeName
names_of_no_bytes = record { empty = λ cells p y value is whole. absurd (let eight = value.0 in omega arith) }

-- a run of a value that is not empty has only fragments of it
fragments_of_value : (kind : Kind) (plan : List Broadcast) (input : Input) (b : Broadcast) (gs : List Segment)
    → b.bytes ≢ [] → AllByRecursion (IsSegmentLike IsHarmless kind plan input b) gs
    → AreParts kind b.bytes gs
fragments_of_value kind plan input b [] some all = tt
fragments_of_value kind plan input b (g ∷ older) some all =
    grind (arith, fragments_of_value kind plan input b older some all.1)

-- there are some bytes, or none
pub some_or_none : (bytes : List ℕ) → (bytes ≡ []) ⊎ (bytes ≢ [])
some_or_none [] = inl refl
some_or_none (b ∷ bytes) = inr (λ e. (cc))

pub value_of_run : (kind : Kind) (IsWhole : Cells → List ℕ → Type 0) (plan : List Broadcast) (input : Input)
    (g : Segment) (older : List Segment) (x : List ℕ)
    → IsService kind IsWhole → HasNoBytes kind IsWhole
    → ((k : ℕ) (b : Broadcast) → HasNumber plan k b → kind.IsValue b.bytes)
    → (v : IsOfOneValue kind plan input g older) → IsWhole (cells_of (g ∷ older)) x → x ≡ v.broadcast.bytes
value_of_run kind IsWhole plan input g older x service empty values v whole = elim (some_or_none v.broadcast.bytes) [
  | inl none ↦
      search arith
  | inr some ↦
      service.own (g ∷ older) v.broadcast.bytes x (values v.number v.broadcast v.planned)
      (fragments_of_value kind plan input v.broadcast (g ∷ older) some v.all) whole
]

pub shown_is_of_source : (kind : Kind) (IsWhole : Cells → List ℕ → Type 0) (plan : List Broadcast) (input : Input)
    (the_run : List Segment) (shown : Option (List ℕ))
    → IsService kind IsWhole → HasNoBytes kind IsWhole
    → ((k : ℕ) (b : Broadcast) → HasNumber plan k b → kind.IsValue b.bytes)
    → RunIsOfOneValue kind plan input the_run → IsShown IsWhole (cells_of the_run) shown
    → IfSome shown (IsOfItsSource plan input the_run)
shown_is_of_source kind IsWhole plan input the_run None service empty values v is = tt
shown_is_of_source kind IsWhole plan input [] (Some x) service empty values v is = absurd (service.none x is)
shown_is_of_source kind IsWhole plan input (g ∷ older) (Some x) service empty values v is =
    let bytes = value_of_run kind IsWhole plan input g older x service empty values v is in
    grind (arith)

pub holds_its_source : PlanLaws → (d : ℕ) (kind : Kind) (plan : List Broadcast) (input : Input) (the_run : List Segment)
    → IsSpaced d plan → RunIsOfOneValue kind plan input the_run → HoldsItsSource kind plan input the_run
holds_its_source laws d kind plan input [] spaced v k b source = absurd source.sent
holds_its_source laws d kind plan input (g ∷ older) spaced v k b source =
    let slot = one_origin input g.slot source.slot v.newest.slot source.sent v.newest.from in
    let in_one : Covers b v.newest.slot = (let c = source.covers in omega arith) in
    subst (λ (x : Broadcast). (x.bytes ≡ []) ⊎ AreParts kind x.bytes (g ∷ older)) (one_covers laws d plan v.number k
    v.broadcast b v.newest.slot spaced v.planned source.planned v.newest.has.covers in_one)
    (elim (some_or_none v.broadcast.bytes) [
      | inl none ↦ inl none
      | inr some ↦ inr (fragments_of_value kind plan input v.broadcast (g ∷ older) some v.all)
    ])

-- ---- tags

-- each segment that came since the first segment of a run is in it
kept_before : (f : Bool) (g : Segment) (gs : List Segment) (x : Segment) (since : ℕ) → AreFalling g.slot gs
    → begins_in (g ∷ flag_run_before f gs) ≡ Some since → since ≤ x.slot
    → IsIn gs x → IsIn (flag_run_before f gs) x
kept_before f g [] x since falls e late is_in = absurd is_in
kept_before f g (h ∷ older) x since falls e late is_in =
    grind (arith, in_below g.slot (h ∷ older) x falls is_in, kept_before f h older x since falls.1)

kept : (g : Segment) (older : List Segment) (x : Segment) (since : ℕ) → AreFalling g.slot older
    → begins_in (flag_run (g ∷ older)) ≡ Some since → since ≤ x.slot
    → IsIn (g ∷ older) x → IsIn (flag_run (g ∷ older)) x
kept g older x since falls e late is_in = grind (arith, kept_before g.fragment.flag g older x since falls e late)

module _ (laws : PlanLaws) (d : ℕ) (plan : List Broadcast) (log : List (Option Message)) (input : Input)
    (law : IsLawful d texts plan (marks text_mark log)) (order : IsHeardInOrder log input)
    (first_text : HearsTextBeforeTags plan input) where
  abbrev heard_segments : List Segment
  heard_segments = segments text_fragment input.first input.heard

  -- a broadcast whose tags were heard after the first segment of the run is like the source
  like_source : (g : Segment) (older : List Segment) (c : Broadcast) (n u p : ℕ) (pair : PairFields)
      → AreFalling g.slot older → ((x : Segment) → IsIn heard_segments x → IsIn (g ∷ older) x)
      → (v : IsOfOneValue texts plan input g (flag_run_before g.fragment.flag older))
      → (h : Segment) → begins_in (flag_run (g ∷ older)) ≡ Some h.slot
      → IsPicked text_fragment input.first input.heard h
      → IsSegmentLike IsHarmless texts plan input v.broadcast h → h.slot < u
      → HasEntry input.first input.heard u (Some (Tags pair)) → CameFrom input u p → HasNumber plan n c
      → Covers c p → IsHarmless c v.broadcast
  like_source g older c n u p pair falls holds v h begins picked first after came from planned covers =
      let later = order.rising h.slot u first.is.slot p first.is.from from after in
      elim (cases_lt first.is.slot c.start) [
        | inl before ↦
            let w = first_text u p h.slot first.is.slot n pair c came from planned covers
            (heard_from text_fragment input h first.is.slot picked first.is.from) before in
            let its = w.heard in
            let x : Segment = came_in w.slot its.fragment in
            let is_in = holds x (in_segments text_fragment input.first input.heard w.slot its.message its.fragment
            its.came its.picked) in
            let since = came_earlier log input h.slot w.slot first.is.slot w.origin order first.is.from its.from
            (omega arith) in
            let like = all_in (IsSegmentLike IsHarmless texts plan input v.broadcast) (flag_run (g ∷ older)) x v.all
            (kept g older x h.slot falls begins (omega arith) is_in) in
            let origin = one_origin input w.slot like.is.slot w.origin like.is.from its.from in
            search (arith, one_covers)
        | inr started ↦
            search (arith, one_covers)
      ]

  sent_for_text : (gs : List Segment) (n : ℕ) (x : List ℕ) (pair : PairFields) → AreFalling n gs
      → AllByRecursion (IsPicked text_fragment input.first input.heard) gs
      → ((y : Segment) → IsIn heard_segments y → IsIn gs y)
      → RunIsOfOneValue texts plan input (flag_run gs) → pair_from input.first (begins_in (flag_run gs)) input.heard
      ≡ Some pair → IsWholeText (cells_of (flag_run gs)) x
      → (x ≡ []) ⊎ ((slot : ℕ) × IsMarkIn (marks text_mark log) slot (Tagged pair)
      × (its : HasOne plan (HasTags d slot pair)) × (its.broadcast.bytes ≡ x))
  sent_for_text [] n x pair falls picks holds v e whole = absurd (no_text_of_none x whole)
  sent_for_text (g ∷ older) n x pair falls picks holds v e whole =
      let before = flag_run_before g.fragment.flag older in
      let b = first_in g before in
      let f = was_heard input.first b.0.slot input.heard pair (rw b.1 at e) in
      let came = arrival log input f.slot (Tags pair) (in_order_is_heard log input order) (tags_are_marked pair) f.came
      in
      let tagged = mark_sent text_mark log came.slot (Some (Tags pair)) came.sent in
      let began = all_in (IsPicked text_fragment input.first input.heard) (g ∷ before) b.0
      (picks.0, all_before (IsPicked text_fragment input.first input.heard) g.fragment.flag older picks.1) b.2 in
      let own = arrival log input b.0.slot began.message (in_order_is_heard log input order)
      (is_marked text_fragment text_mark began.message b.0.fragment text_fragments_marked began.fragment) began.came in
      let lies = law.tags came.slot pair tagged (after_heard log input b.0 own.slot came.slot
      (in_order_is_heard log input order) began own.from
      (order.rising b.0.slot f.slot own.slot came.slot own.from came.from f.later)) in
      let bytes = value_of_run texts IsWholeText plan input g before x text_service texts_of_no_bytes law.values v whole
      in
      let picked = all_in (IsPicked text_fragment input.first input.heard) (g ∷ before) b.0
      (picks.0, all_before (IsPicked text_fragment input.first input.heard) g.fragment.flag older picks.1) b.2 in
      elim (like_source g older lies.broadcast lies.number f.slot came.slot pair falls.1 holds v b.0 b.1 picked
      (all_in (IsSegmentLike IsHarmless texts plan input v.broadcast) (g ∷ before) b.0 v.all b.2) f.later f.came
      came.from lies.planned (omega arith)) [
        | inl same ↦ inr (came.slot, tagged, lies, ◌∙◌ {a = lies.broadcast.bytes} same (sym bytes))
        | inr none ↦ inl (bytes ∙ none)
      ]

-- no tag names a piece of no bytes
no_piece : (tag : TagFields) (shown : Option (ℕ × List ℕ)) → IfSome shown (NamesPiece tag []) → shown ≡ None
no_piece tag shown names = grind arith

-- the tags shown are of the text shown, or this text is empty
pub tags_by_flag : PlanLaws
    → (d : ℕ) (plan : List Broadcast) (log : List (Option Message)) (input : Input) (view : ShownView)
    → IsLawful d texts plan (marks text_mark log) → IsHeardInOrder log input → HearsTextBeforeTags plan input
    → RunIsOfOneValue texts plan input (run_by_flag text_fragment input) → ShowsByFlag input view
    → ShowsNoTags view ⊎ ShowsEmptyText view ⊎ ShowsTagsOfText d plan (marks text_mark log) view
tags_by_flag laws d plan log input view law order first_text v shows = search (arith, by)
  where
    by : (text : Option (List ℕ)) (pair : Option PairFields) → view.text ≡ text → pair_by_flag input ≡ pair
        → view.item ≡ item_of text pair → view.one ≡ tag_of One text pair → view.two ≡ tag_of Two text pair
        → ShowsNoTags view ⊎ ShowsEmptyText view ⊎ ShowsTagsOfText d plan (marks text_mark log) view
    by None pair et ep item one two = inl record { item = item; one = one; two = two }
    by (Some x) None et ep item one two = inl record { item = item; one = one; two = two }
    by (Some x) (Some pair) et ep item one two =
        let piece_one = λ (bytes : List ℕ) (e : x ≡ bytes). names_piece pair.one x bytes view.one e one in
        let piece_two = λ (bytes : List ℕ) (e : x ≡ bytes). names_piece pair.two x bytes view.two e two in
        inr (elim (sent_for_text laws d plan log input law order first_text
        (segments text_fragment input.first input.heard) (input.first + length input.heard) x pair
        (segments_fall text_fragment input.first input.heard) (all_picked text_fragment input.first input.heard)
        (λ y is_in. is_in) v ep (rw et at shows.text)) [
          | inl none ↦ inl record {
            text = rw none at et;
            one = no_piece pair.one view.one (piece_one [] none);
            two = no_piece pair.two view.two (piece_two [] none);
          }
          | inr (slot, tagged, its, bytes) ↦
              search arith
        ])

-- ---- how new a source is

-- the source of a receiver that heard a segment of each broadcast before those that Is holds of is at most one behind
-- them
pub new_source : PlanLaws → EachNumberNamesOne
    → (d now : ℕ) (pick : Message → Option Fragment) (plan : List Broadcast) (log : List (Option Message))
    (input : Input)
    → IsSpaced d plan → IsHeardInOrder log input → ((t s : ℕ) → CameFrom input t s → s ≤ now)
    → (Is : List Broadcast → ℕ → Broadcast → Type 0) → HearsEach Is pick plan now input
    → HasNewSource Is plan now input (run_by_flag pick input)
new_source laws names_one d now pick plan log input spaced order past Is each k l a b source planned begun so =
    search (arith, segments_fall, all_picked, by)
  where
    by : (gs : List Segment) → AreFalling (input.first + length input.heard) gs
        → AllByRecursion (IsPicked pick input.first input.heard) gs
        → ((g : Segment) → IsIn (segments pick input.first input.heard) g → IsIn gs g)
        → IsSource plan input (flag_run gs) k a → l ≤ k + 1
    by [] falls picks holds is = absurd is.sent
    by (g ∷ older) falls picks holds is =
        let passes = λ (far : k + 1 < l). none_passes laws names_one d now pick plan log input spaced order past Is each
        (input.first + length input.heard) now g is.slot k l a b
        (λ h is_in after before. grind (arith, holds h is_in, in_below g.slot older h falls.1))
        (λ t s came before. omega (arith, before_end input.first input.origins t (Some s) came, order.beside))
        (omega arith) picks.0 is.sent is.planned planned is.covers begun far so in
        grind (arith, passes)

-- the source of a receiver with a dwell is at most one behind too, since it is recent
dwell_is_new : PlanLaws → (d m now : ℕ) (kind : Kind) (pick : Message → Option Fragment) (of : Option Message → Mark)
    (plan : List Broadcast) (log : List (Option Message)) (input : Input)
    → PicksWhatIsMarked pick of → IsLawful d kind plan (marks of log) → IsHeardByOwnClock d m now log input
    → HasNewSource IsFilled plan now input (run_at pick m input.first input.heard)
dwell_is_new laws d m now kind pick of plan log input alike law hears k l a b source planned begun filled =
    grind (arith)

-- a source began by slot `now`
source_began : (now : ℕ) (plan : List Broadcast) (input : Input) (the_run : List Segment) (k : ℕ) (b : Broadcast)
    → ((t s : ℕ) → CameFrom input t s → s ≤ now) → IsSource plan input the_run k b → b.start ≤ now
source_began now plan input the_run k b past source = grind (arith)

pub near_sources : NewSourcesAreNear
near_sources now plan x y x_run y_run x_past y_past x_new y_new k l a b p q = search (arith, source_began, or_empty)
  where
    or_empty : (Near : Type 0) (bytes : List ℕ) → (bytes ≢ [] → Near) → Near ⊎ (bytes ≡ [])
    or_empty Near [] near = inr refl
    or_empty Near (b ∷ bytes) near = inl (near (λ e. (cc)))

-- ---- the laws

module _ (laws : PlanLaws) (names_one : EachNumberNamesOne) where
  text_run_is : (d now : ℕ) (plan : List Broadcast) (log : List (Option Message)) (r : Listener)
      → IsLawful d texts plan (marks text_mark log) → TurnsTheFlag plan → ListensByFlag now log r
      → HearsEach IsNews text_fragment plan now r.input
      → RunIsOfOneValue texts plan r.input (run_by_flag text_fragment r.input)
  text_run_is d now plan log r law turns listens each = search (arith, run_is_of_one_value, text_fragments_marked)

  name_run_is : (d now : ℕ) (plan : List Broadcast) (log : List (Option Message)) (r : Listener)
      → IsLawful d names plan (marks name_mark log) → TurnsTheFlag plan → ListensByFlag now log r
      → HearsEach IsNews name_fragment plan now r.input
      → RunIsOfOneValue names plan r.input (run_by_flag name_fragment r.input)
  name_run_is d now plan log r law turns listens each = search (arith, run_is_of_one_value, name_fragments_marked)

  pub texts_by_flag : TextsByFlagAreOfTheirSource
  texts_by_flag d now plan log r law turns listens each =
      search (arith, shown_is_of_source, text_service, texts_of_no_bytes, text_run_is)

  pub names_by_flag : NamesByFlagAreOfTheirSource
  names_by_flag d now plan log r law turns listens each =
      search (arith, shown_is_of_source, name_service, names_of_no_bytes, name_run_is)

  pub held_by_flag : TextsByFlagAreHeldAlone
  held_by_flag d now plan log r law turns listens each = search (arith, holds_its_source, text_run_is)

  pub tags_of_text : TagsByFlagAreOfTheirText
  tags_of_text d now plan log r law turns listens each first_text = search (arith, tags_by_flag, text_run_is)

  pub texts_new : TextsByFlagAreNew
  texts_new d now plan log r law listens =
      let new = new_source laws names_one d now text_fragment plan log r.input law.spaced listens.order listens.past in
      (new IsFilled, new IsNews)

  pub names_new : NamesByFlagAreNew
  names_new d now plan log r law listens =
      let new = new_source laws names_one d now name_fragment plan log r.input law.spaced listens.order listens.past in
      (new IsFilled, new IsNews)

  pub texts_with_a_dwell : TextsWithADwellAreNew
  texts_with_a_dwell d m now plan log r law listens = dwell_is_new laws d m now texts text_fragment text_mark plan log
      r.input text_fragments_marked law listens.heard

  pub names_with_a_dwell : NamesWithADwellAreNew
  names_with_a_dwell d m now plan log r law listens = dwell_is_new laws d m now names name_fragment name_mark plan log
      r.input name_fragments_marked law listens.heard
