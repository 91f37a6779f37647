-- Lemmas: lawful plans make each slot safe for any number of receivers.
use Rattle.std.proofs.Common.{◌+◌, ℕ, List, Option, slice_index_or, arith, ◌≡◌, ◌<◌, ◌≤◌, ◌==◌, Bool, true, false, []}
use Rattle.std.proofs.Common.{◌∷◌, length, Some, refl, sym, ◌∙◌, All}
use Rattle.rds_fields.specs.declared.message.Message.{Message}
use Rattle.rds_assembly.specs.Whole.{IsWholeText, IsWholeName}
use Rattle.rds_receiver.specs.Receipts.{name_fragment, text_fragment, Segment, segments}
use Rattle.rds_safety.specs.Lawful.{Kind, names, IsLawful, texts}
use Rattle.rds_safety.specs.Laws.{PlanLaws}
use Rattle.rds_safety.specs.Marks.{name_mark, text_mark, Mark, marks}
use Rattle.rds_safety.specs.Near.{ListensNear}
use Rattle.rds_safety.specs.OwnClock.{ListensByOwnClock, ListensBySlowClock}
use Rattle.rds_safety.specs.Plans.{AreLawfulAs, Plans}
use Rattle.rds_safety.specs.Safe.{AreNeighbours, AreSafeViews, Listener, ListensTo}
use Rattle.rds_safety.specs.Source.{name_run, text_run}
use Rattle.rds_safety.proofs.OneBroadcast.{IsService, name_service, SendsItsBody, names_send_their_body, text_service}
use Rattle.rds_safety.proofs.OneBroadcast.{texts_send_their_body, PicksWhatIsMarked, RunLiesInOne, heard_run_lies}
use Rattle.rds_safety.proofs.OneBroadcast.{near_sources, shown_on_air}
use Rattle.rds_safety.proofs.Entries.{late_listens, own_listens, slow_listens, before_end, mark_sent, AreFalling}
use Rattle.rds_safety.proofs.Entries.{IsPicked, all_picked, segments_fall}
use Rattle.rds_safety.proofs.HeldWhole.{shows_tags, CameSince, IsIn, all_in, came_in, in_below, in_segments, one_covers}
use Rattle.rds_safety.proofs.HeldWhole.{shown_near}
use Rattle.rds_safety.specs.Confirmed.{ListensConfirmed, lateness_of_two, IsHeardWithWrong, NoWrongConfirmed}
use Rattle.rds_safety.specs.Confirmed.{confirmed_input}
use Rattle.rds_safety.proofs.Confirmed.{confirmed_listens, HasReceipts, confirmed_is_near, from_one_of_two}
use Rattle.rds_safety.proofs.Confirmed.{name_receipts, own_kept, segment_is_confirmed, text_receipts}
use Rattle.std.proofs.lemmas.Grind.{common_steps}
use Rattle.rds_assembly.specs.Body.{name_body, segment_count, text_body, AreAllHeld, segment_of}
use Rattle.rds_assembly.specs.Value.{IsName}
use Rattle.std.proofs.lemmas.Slice.Eq.{bytes_eq-Decides}
use Rattle.rds_assembly.specs.Cells.{Cells}
use Rattle.rds_assembly.specs.OwnSegments.{all_name, all_text}
use Rattle.rds_encoder.specs.Plan.{Broadcast}
use Rattle.rds_receiver.specs.declared.fragment.Fragment.{Fragment}
use Rattle.rds_receiver.specs.Run.{cells_of, run_at}
use Rattle.rds_receiver.specs.Shown.{IsShown}
use Rattle.rds_receiver.specs.Confirmed.{confirmed, last_at, segment_again}
use Rattle.rds_receiver.specs.ConfirmedLemmas.{confirmed_long}
use Rattle.rds_safety.specs.Flags.{is_same_flag}
use Rattle.rds_safety.specs.Late.{CameFrom, HasEntry, Input}
use Rattle.rds_safety.specs.ConfirmedLaws.{CameTwice, HearsEachTwice, WhoHearsBothSegmentsTwiceShowsTheName}
use Rattle.rds_safety.specs.ConfirmedLaws.{WhoHearsEachSegmentTwiceShowsTheText}

-- the segments of texts that are heard are those that are marked in the log
pub text_fragments_marked : PicksWhatIsMarked text_fragment text_mark
text_fragments_marked = record { picked = λ message p e. grind arith; unmarked = λ entry none. none.text }

-- the segments of names that are heard are those that are marked in the log
pub name_fragments_marked : PicksWhatIsMarked name_fragment name_mark
name_fragments_marked = record { picked = λ message p e. grind arith; unmarked = λ entry none. none.name }

module _ (laws : PlanLaws) (kind : Kind) (service : IsService kind IsWholeText) (d m t : ℕ) (plans : Plans)
    (log : List (Option Message)) (law : AreLawfulAs kind d plans log) where
  text_lies : (r : Listener) → ListensNear d m t log r → RunLiesInOne d t kind plans.text r.input (text_run m r.input)
  text_lies r h = search (arith, heard_run_lies, text_fragments_marked)

  name_lies : (r : Listener) → ListensNear d m t log r → RunLiesInOne d t names plans.name r.input (name_run m r.input)
  name_lies r h = search (arith, heard_run_lies, name_fragments_marked)

  neighbours : (x y : Listener) → ListensNear d m t log x → ListensNear d m t log y → AreNeighbours m plans x y
  neighbours x y h i = search (arith, near_sources, text_lies, name_lies)

  -- receivers that listen near their log show safe views
  pub are_safe : (receivers : List Listener) → All (ListensNear d m t log) receivers
      → AreSafeViews d m t plans log receivers
  are_safe receivers all = record {
    texts = λ i o h.
        search (arith, shown_on_air, text_lies);
    names = λ i o h.
        search (arith, shown_on_air, name_service, name_lies);
    tags = λ i o h.
        let r = slice_index_or receivers i o in
        shows_tags laws kind service d m t plans.text log r.input r.view law.text (all i o h).near (text_lies r
        (all i o h))
        (all i o h).shows;
    neighbours = λ i o h j e g. search (arith, neighbours);
  }

-- if fewer than m slots of each receiver's clock are fewer than d of the station
pub are_safe_by_own_clocks : PlanLaws → (kind : Kind) → IsService kind IsWholeText
    → (d m t : ℕ) (plans : Plans) (log : List (Option Message)) (receivers : List Listener)
    → AreLawfulAs kind d plans log → All (ListensByOwnClock d m t log) receivers
    → AreSafeViews d m t plans log receivers
are_safe_by_own_clocks laws kind service d m t plans log receivers law all = search (arith, are_safe, own_listens)

-- if all receivers show only what they heard twice, plans that are lawful for the lateness of two receipts are enough
pub are_safe_confirmed : PlanLaws → (kind : Kind) → IsService kind IsWholeText
    → (w k m t : ℕ) (plans : Plans) (log : List (Option Message)) (receivers : List Listener)
    → AreLawfulAs kind (m + lateness_of_two w k) plans log → All (ListensConfirmed w k m t log) receivers
    → AreSafeViews (m + lateness_of_two w k) m t plans log receivers
are_safe_confirmed laws kind service w k m t plans log receivers law all = search (arith, are_safe, confirmed_listens)

-- if all clocks count at most k slots too few within m, plans that are lawful for m + k are enough
pub are_safe_by_slow_clocks : PlanLaws → (kind : Kind) → IsService kind IsWholeText
    → (m k t : ℕ) (plans : Plans) (log : List (Option Message)) (receivers : List Listener)
    → AreLawfulAs kind (m + k) plans log → All (ListensBySlowClock k m t log) receivers
    → AreSafeViews (m + k) m t plans log receivers
are_safe_by_slow_clocks laws kind service m k t plans log receivers law all =
    search (arith, are_safe_by_own_clocks, slow_listens)

-- the same if all inputs are at most k slots late
pub are_safe_late : PlanLaws → (kind : Kind) → IsService kind IsWholeText
    → (m k t : ℕ) (plans : Plans) (log : List (Option Message)) (receivers : List Listener)
    → AreLawfulAs kind (m + k) plans log → All (ListensTo k m t log) receivers
    → AreSafeViews (m + k) m t plans log receivers
are_safe_late laws kind service m k t plans log receivers law all =
    search (arith, are_safe_by_slow_clocks, late_listens)

-- ---- a text has from one to sixteen segments, and a name two

-- a text has a segment
pub one_segment : (x : List ℕ) → 0 < segment_count (text_body x)
one_segment x = grind (arith, common_steps)

-- a name has two segments
pub two_segments : (x : List ℕ) → IsName x → segment_count (name_body x) ≡ 2
two_segments x n = (let long = n.0 in grind (arith, common_steps))

-- ---- a receiver that shows only what it heard twice shows a text or a name of which each segment came twice

-- if a segment with this address is among the segments, the last one with this address came no earlier
record IsLastSince (a since : ℕ) (gs : List Segment) : Type 0 where
  segment : Segment
  last : last_at a gs ≡ Some segment
  later : since ≤ segment.slot
  is_in : IsIn gs segment
  address : segment.fragment.address ≡ a

last_since : (n a : ℕ) (gs : List Segment) (g : Segment) → AreFalling n gs → IsIn gs g → g.fragment.address ≡ a
    → IsLastSince a g.slot gs
last_since n a [] g falls is_in at = absurd is_in
last_since n a (h ∷ older) g falls is_in at = by (h.fragment.address == a) refl
    (λ older_in. last_since h.slot a older g falls.1 older_in at)
  where
    by : (same : Bool) → (h.fragment.address == a) ≡ same → (IsIn older g → IsLastSince a g.slot older)
        → IsLastSince a g.slot (h ∷ older)
    by true e before = search (arith, in_below)
    by false e before = (let l = before (grind (arith)) in grind arith)

module _ (laws : PlanLaws) (w k m t s : ℕ) (kind : Kind) (sends : SendsItsBody kind) (pick : Message
    → Option Fragment) (of : Option Message → Mark)
    (plan : List Broadcast) (log : List (Option Message)) (raw : Input) (b : Broadcast)
    (alike : PicksWhatIsMarked pick of) (receipts : HasReceipts pick) (law : IsLawful (m + lateness_of_two w k) kind
    plan (marks of log)) (heard : IsHeardWithWrong k log raw) (once : NoWrongConfirmed w raw)
    (now : raw.first + length raw.heard ≡ t + 1) (hears : HearsEachTwice pick w m t s
    (segment_count (kind.body b.bytes)) plan raw b) where
  -- each segment heard since slot s is the broadcast's
  own : (u : ℕ) (message : Message) (p : Fragment) → pick message ≡ Some p → s ≤ u
      → HasEntry raw.first raw.heard u (Some message)
      → (p.flag ≡ b.flag) × (p.bytes ≡ segment_of (kind.body b.bytes) p.address)
  own u message p picks since came =
      let sent = heard.each u u (Some message) (hears.right u message since came) came in
      let lies = law.fragments u p (rw (alike.picked message p picks) at (mark_sent of log u (Some message) sent)) in
      search (arith, before_end, one_covers)

  -- so the second receipt of each is confirmed
  second_confirmed : (a : ℕ) → (c : CameTwice pick w s a raw)
      → HasEntry raw.first (confirmed w m raw.first raw.heard) c.two (Some c.second.message)
  second_confirmed a c = search (arith, segment_is_confirmed, q, again)
    where
      q : Fragment
      q = c.second.fragment

      again : (before : List (Option Message))
          → ((u : ℕ) (x : Option Message) → HasEntry raw.first before u x → HasEntry raw.first raw.heard u x)
          → ((u : ℕ) (x : Option Message) → u < c.two → HasEntry raw.first raw.heard u x
          → HasEntry raw.first before u x)
          → (u : ℕ) × (segment_again w c.two q.flag q.bytes (last_at q.address (segments pick raw.first before))
          ≡ Some u)
      again before still back =
          let gs = segments pick raw.first before in
          let is_in = in_segments pick raw.first before c.one c.first.message c.first.fragment
          (back c.one (Some c.first.message) c.later c.first.heard) c.first.picks in
          let l = last_since (raw.first + length before) q.address gs (came_in c.one c.first.fragment)
          (segments_fall pick raw.first before) is_in (c.first.at ∙ sym c.second.at) in
          let g = l.segment in
          let picked = all_in (IsPicked pick raw.first before) gs g (all_picked pick raw.first before) l.is_in in
          let mine = own g.slot picked.message g.fragment picked.fragment (omega arith) (still g.slot (Some
          picked.message) picked.came) in
          let theirs = own c.two c.second.message q c.second.picks (omega arith) c.second.heard in
          let flag = is_same_flag q.flag g.fragment.flag (theirs.0 ∙ sym mine.0) in
          let same : q.bytes ≡ g.fragment.bytes = (let at = l.address in cc) in
          let bytes = (bytes_eq-Decides q.bytes g.fragment.bytes).1 same in
          (g.slot, rw l.last (grind (arith)))

  shown_twice : (IsWhole : Cells → List ℕ → Type 0) → IsService kind IsWhole
      → ((cells : Cells) → AreAllHeld (kind.body b.bytes) cells → IsWhole cells b.bytes)
      → 0 < segment_count (kind.body b.bytes)
      → (shown : Option (List ℕ))
      → IsShown IsWhole (cells_of (run_at pick m raw.first (confirmed w m raw.first raw.heard))) shown
      → shown ≡ Some b.bytes
  shown_twice IsWhole service all some shown is =
      let long = confirmed_long w m raw.first raw.heard in
      shown_near laws (m + lateness_of_two w k) m t s kind sends pick of plan log
      (confirmed_input w m raw) hears.number b
      alike law
      (confirmed_is_near w m k t log raw heard once now) (omega (arith, now, long)) fresh hears.planned hears.from
      hears.to hears.within
      IsWhole service all some each shown is
    where
      fresh : (u r : ℕ) → s ≤ u → CameFrom (confirmed_input w m raw) u r → s ≤ r
      fresh u r since p = search (arith, from_one_of_two, own_kept)

      each : (a : ℕ) → a < segment_count (kind.body b.bytes)
          → CameSince (segments pick raw.first (confirmed w m raw.first raw.heard)) s a
      each a within =
          let c = hears.each a within in
          record {
            segment = came_in c.two c.second.fragment;
            since = omega arith;
            at = c.second.at;
            is_in = search (arith, in_segments, second_confirmed);
          }

pub text_shown_twice : PlanLaws → WhoHearsEachSegmentTwiceShowsTheText
text_shown_twice laws w k m t s plans log r b law listens hears =
    let value = law.text.values hears.number b hears.planned in
    shown_twice laws w k m t s texts texts_send_their_body text_fragment text_mark plans.text log listens.raw b
    text_fragments_marked
    text_receipts law.text listens.heard listens.once listens.now hears
    IsWholeText text_service (λ cells held. all_text cells b.bytes value held) (one_segment b.bytes) r.view.text
    (rw listens.confirmed at listens.shows.text)

pub name_shown_twice : PlanLaws → WhoHearsBothSegmentsTwiceShowsTheName
name_shown_twice laws w k m t s plans log r b law listens hears =
    let value = law.name.values hears.number b hears.planned in
    let two = two_segments b.bytes value in
    shown_twice laws w k m t s names names_send_their_body name_fragment name_mark plans.name log listens.raw b
    name_fragments_marked
    name_receipts law.name listens.heard listens.once listens.now (rw two hears)
    IsWholeName name_service (λ cells held. all_name cells b.bytes value held) (omega arith) r.view.name
    (rw listens.confirmed at listens.shows.name)
