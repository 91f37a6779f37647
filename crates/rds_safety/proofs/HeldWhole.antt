-- Lemmas: a run holds each recent segment, so a broadcast is shown if all its segments came recently.
use Rattle.std.proofs.Common.{◌≡◌, ◌+◌, ◌<◌, ◌≤◌, ◌⊎◌, ℕ, Bool, List, [], ◌∷◌, Option, Some, None, length, refl, subst}
use Rattle.std.proofs.Common.{inl, inr, arith, ◌&&◌, sym, ap, ◌∙◌, IfSome, nat_lt}
use Rattle.std.specs.FinMap.{get}
use Rattle.std.specs.List.{AllByRecursion}
use Rattle.rds_fields.specs.declared.message.Message.{Message}
use Rattle.rds_assembly.specs.Body.{AreAllHeld, segment_count, segment_of}
use Rattle.rds_assembly.specs.Cells.{Cells}
use Rattle.rds_encoder.specs.Plan.{Broadcast, Covers, HasNumber}
use Rattle.rds_encoder.specs.Spaced.{IsSpaced}
use Rattle.rds_receiver.specs.Receipts.{Segment, segments, text_fragment}
use Rattle.rds_receiver.specs.declared.fragment.Fragment.{Fragment}
use Rattle.rds_receiver.specs.Run.{begins_in, cells_of, run, run_at, run_before}
use Rattle.rds_receiver.specs.Shown.{IsShown, ShowsView, ShownView}
use Rattle.rds_safety.specs.Late.{CameFrom, HasEntry, Input, IsHeardLate}
use Rattle.rds_safety.specs.Lawful.{IsAfterFragment, IsLawful, Kind, HasTags}
use Rattle.rds_safety.specs.Marks.{Mark, marks, IsMarkIn, Nothing, Tagged, text_mark}
use Rattle.rds_safety.specs.Near.{IsHeard, IsHeardNear, IsUnmarked}
use Rattle.rds_safety.specs.Flags.{is_same_flag}
use Rattle.rds_safety.proofs.OneBroadcast.{IsService, SendsItsBody, bytes_of_run, get-put, PicksWhatIsMarked}
use Rattle.rds_safety.proofs.OneBroadcast.{RunLiesInOne, heard_run_lies, is_marked, LiesInOne, AreOf, IsSegmentOf}
use Rattle.rds_safety.proofs.OneBroadcast.{all_before, source_of}
use Rattle.rds_safety.proofs.Entries.{arrival, mark_sent, AreFalling, IsPicked, all_picked, segments_fall, late_hears}
use Rattle.rds_safety.proofs.Entries.{one_origin, own_is_near}
use Rattle.rds_safety.specs.Laws.{PlanLaws}
use Rattle.std.proofs.lemmas.Bool.{cond_both}
use Rattle.rds_fields.specs.declared.message.Message.TheVariants.{Announce, Tags}
use Rattle.rds_fields.specs.declared.pair.Which.TheVariants.{One, Two}
use Rattle.rds_fields.specs.Tag.{PairFields, TagFields}
use Rattle.rds_assembly.specs.ServiceLaws.{no_text_of_none}
use Rattle.rds_assembly.specs.Whole.{IsWholeText}
use Rattle.rds_receiver.specs.Tags.{cut_by, is_known, item_of, pair_from, pair_held, pair_since, says_of_rtplus, tag_of}
use Rattle.rds_receiver.specs.Tags.{unless_contrary}
use Rattle.rds_safety.specs.Safe.{NamesPiece, ShowsNoTags, ShowsTagsOf}
use Rattle.rds_safety.specs.Source.{text_run}

-- one of the segments
abbrev pub IsIn : List Segment → Segment → Type 0
IsIn [] g = ⊥
IsIn (newest ∷ older) g = (g ≡ newest) ⊎ IsIn older g

-- what holds of all segments holds of each
pub all_in : (P : Segment → Type 0) (gs : List Segment) (g : Segment) → AllByRecursion P gs → IsIn gs g → P g
all_in P [] g all is_in = absurd is_in
all_in P (h ∷ older) g all is_in = grind (arith, all_in P older g all.1)

-- a run begins with one of its segments
pub first_in : (g : Segment) (older : List Segment)
    → (h : Segment) × (begins_in (g ∷ older) ≡ Some h.slot) × IsIn (g ∷ older) h
first_in g [] = (g, refl, inl refl)
first_in g (h ∷ older) = (let f = first_in h older in (f.0, f.1, inr f.2))

abbrev pub came_in : ℕ → Fragment → Segment
came_in slot p = record { slot = slot; fragment = p }

-- each fragment that was heard is among the segments
pub in_segments : (pick : Message → Option Fragment) (first : ℕ) (heard : List (Option Message)) (u : ℕ)
    (message : Message) (p : Fragment)
    → HasEntry first heard u (Some message) → pick message ≡ Some p → IsIn (segments pick first heard) (came_in u p)
in_segments pick first [] u message p has is = absurd has
in_segments pick first (x ∷ before) u message p (inl now) is = grind arith
in_segments pick first (x ∷ before) u message p (inr earlier) is =
    grind (arith, in_segments pick first before u message p earlier is)

-- a segment among those that fall below n came before n
pub in_below : (n : ℕ) (gs : List Segment) (g : Segment) → AreFalling n gs → IsIn gs g → g.slot < n
in_below n [] g falls is_in = absurd is_in
in_below n (h ∷ older) g falls is_in = grind (arith, in_below h.slot older g falls.1)

-- if one of the segments came in slot s or later, so did the newest one
pub newest_since : (s : ℕ) (h : Segment) (older : List Segment) (g : Segment) → AreFalling h.slot older → s ≤ g.slot
    → IsIn (h ∷ older) g → s ≤ h.slot
newest_since s h older g falls since is_in = grind (arith, in_below h.slot older g falls)

-- the segments that came in slot s or later have the flag
abbrev pub HaveFlag : Bool → ℕ → List Segment → Type 0
HaveFlag f s gs = AllByRecursion (λ (g : Segment). s ≤ g.slot → g.fragment.flag ≡ f) gs

-- if slots s to t are at most m, the run in slot t has each segment that came in slot s or later
module _ (m t s : ℕ) (f : Bool) (soon : t < s + m) where
  kept_before : (n : ℕ) (gs : List Segment) (g : Segment) → n ≤ t → AreFalling n gs → HaveFlag f s gs → s ≤ g.slot
      → IsIn gs g → IsIn (run_before m f n gs) g
  kept_before n [] g past falls flags since is_in = absurd is_in
  kept_before n (h ∷ older) g past falls flags since is_in =
      let before = kept_before h.slot older g (omega arith) falls.1 flags.1 since in
      grind (arith, newest_since, is_same_flag)

  kept : (gs : List Segment) (g : Segment) → AreFalling (t + 1) gs → HaveFlag f s gs → s ≤ g.slot → IsIn gs g
      → IsIn (run m t gs) g
  kept gs g falls flags since is_in = grind (arith, newest_since, kept_before)

-- for each segment of a run in one broadcast, that broadcast's segment is held at its address
held_own : (kind : Kind) → SendsItsBody kind → (input : Input) (b : Broadcast) (gs : List Segment) (g : Segment)
    → AreOf kind input b gs
    → IsIn gs g
    → get (cells_of gs) g.fragment.address ≡ Some (segment_of (kind.body b.bytes) g.fragment.address)
held_own kind sends input b [] g all is_in = absurd is_in
held_own kind sends input b (h ∷ older) g all is_in =
    grind (arith, held_own kind sends input b older g all.1, get-put)

-- one broadcast covers a slot
pub one_covers : PlanLaws → (d : ℕ) (plan : List Broadcast) (k l : ℕ) (a b : Broadcast) (u : ℕ) → IsSpaced d plan
    → HasNumber plan k a → HasNumber plan l b → Covers a u → Covers b u → a ≡ b
one_covers laws d plan k l a b u spaced p q v w =
    grind (arith, laws.one plan k a b p, laws.order d plan k l a b spaced p q, laws.order d plan l k b a spaced q p)

-- a segment with this address came in slot s or later
pub record CameSince (gs : List Segment) (s address : ℕ) : Type 0 where
  pub segment : Segment
  pub since : s ≤ segment.slot
  pub at : segment.fragment.address ≡ address
  pub is_in : IsIn gs segment

module _ (laws : PlanLaws) (d m t s : ℕ) (kind : Kind) (sends : SendsItsBody kind) (pick : Message
    → Option Fragment) (of : Option Message → Mark)
    (plan : List Broadcast) (log : List (Option Message)) (input : Input) (number : ℕ) (b : Broadcast)
    (alike : PicksWhatIsMarked pick of) (law : IsLawful d kind plan (marks of log)) (hears : IsHeardNear d m t log
    input) (now : input.first + length input.heard ≡ t + 1)
    (fresh : (u r : ℕ) → s ≤ u → CameFrom input u r → s ≤ r) (planned : HasNumber plan number b) (from : b.start ≤ s)
    (to : t ≤ b.end) (soon : t < s + m) where
  abbrev pub its_segments : List Segment
  its_segments = segments pick input.first input.heard

  flags : (xs : List Segment) → AllByRecursion (IsPicked pick input.first input.heard) xs → HaveFlag b.flag s xs
  flags [] all = tt
  flags (g ∷ xs) all = (flag, flags xs all.1)
    where
      flag : s ≤ g.slot → g.fragment.flag ≡ b.flag
      flag since =
          let came = arrival log input g.slot all.0.message hears.heard (is_marked pick of all.0.message g.fragment
          alike all.0.fragment) all.0.came in
          let sent = rw (alike.picked all.0.message g.fragment all.0.fragment)
          at (mark_sent of log came.slot (Some all.0.message) came.sent) in
          grind (arith)

  run_is : (heard : List (Option Message)) → input.first + length heard ≡ t + 1
      → run_at pick m input.first heard ≡ run m t (segments pick input.first heard)
  run_is heard e = grind (arith)

  in_run : (g : Segment) → s ≤ g.slot → IsIn its_segments g → IsIn (run m t its_segments) g
  in_run g since is_in =
      kept m t s b.flag soon its_segments g (subst (λ (n : ℕ). AreFalling n its_segments) now
      (segments_fall pick input.first input.heard)) (flags its_segments (all_picked pick input.first input.heard))
      since is_in

  -- the value shown for a run that lies in one broadcast and has all its segments
  shown_of : (IsWhole : Cells → List ℕ → Type 0) → IsService kind IsWhole → (the_run : List Segment)
      → RunLiesInOne d t kind plan input the_run → ((g : Segment) → s ≤ g.slot → IsIn its_segments g → IsIn the_run g)
      → ((cells : Cells) → AreAllHeld (kind.body b.bytes) cells → IsWhole cells b.bytes)
      → 0 < segment_count (kind.body b.bytes)
      → ((a : ℕ) → a < segment_count (kind.body b.bytes) → CameSince its_segments s a) → (shown : Option (List ℕ))
      → IsShown IsWhole (cells_of the_run) shown → shown ≡ Some b.bytes
  shown_of IsWhole service [] lies holds all some each shown is = absurd
      (holds (each 0 some).segment (each 0 some).since (each 0 some).is_in)
  shown_of IsWhole service (h ∷ older) lies holds all some each shown is = by shown is
    where
      same : lies.broadcast ≡ b
      same = search (arith, all_in, one_covers)

      held : (a : ℕ) → a < segment_count (kind.body b.bytes)
          → get (cells_of (h ∷ older)) a ≡ Some (segment_of (kind.body b.bytes) a)
      held a within =
          let w = each a within in
          rw w.at at (held_own kind sends input b (h ∷ older) w.segment
          (subst (λ (x : Broadcast). AreOf kind input x (h ∷ older)) same lies.all) (holds w.segment w.since w.is_in))

      by : (shown : Option (List ℕ)) → IsShown IsWhole (cells_of (h ∷ older)) shown → shown ≡ Some b.bytes
      by None is = absurd (is b.bytes (all (cells_of (h ∷ older)) record { held = held }))
      by (Some x) is = rw (bytes_of_run d t kind IsWhole plan input h older x service law.values lies is, same)

  -- a receiver that heard each segment of a broadcast lately shows its whole value
  pub shown_near : (IsWhole : Cells → List ℕ → Type 0) → IsService kind IsWhole
      → ((cells : Cells) → AreAllHeld (kind.body b.bytes) cells → IsWhole cells b.bytes)
      → 0 < segment_count (kind.body b.bytes)
      → ((a : ℕ) → a < segment_count (kind.body b.bytes) → CameSince its_segments s a) → (shown : Option (List ℕ))
      → IsShown IsWhole (cells_of (run_at pick m input.first input.heard)) shown → shown ≡ Some b.bytes
  shown_near IsWhole service all some each shown is =
      let the_run = run_is input.heard now in
      shown_of IsWhole service (run m t its_segments) (rw the_run at (heard_run_lies laws d m t kind pick of plan log
      input alike law hears)) in_run all some each shown (rw the_run at is)

-- the same if the input is at most k slots late
pub shown_whole : PlanLaws → (m t s : ℕ) (kind : Kind) → SendsItsBody kind → (pick : Message
    → Option Fragment) (of : Option Message → Mark)
    (plan : List Broadcast) (log : List (Option Message)) (input : Input) (number : ℕ) (b : Broadcast)
    → PicksWhatIsMarked pick of → (k : ℕ) → IsLawful (m + k) kind plan (marks of log) → IsHeardLate k log input
    → input.first + length input.heard ≡ t + 1
    → ((u r : ℕ) → s ≤ u → CameFrom input u r → s ≤ r) → HasNumber plan number b → b.start ≤ s → t ≤ b.end → t < s + m
    → (IsWhole : Cells → List ℕ → Type 0) → IsService kind IsWhole
    → ((cells : Cells) → AreAllHeld (kind.body b.bytes) cells → IsWhole cells b.bytes)
    → 0 < segment_count (kind.body b.bytes)
    → ((a : ℕ) → a < segment_count (kind.body b.bytes) → CameSince (segments pick input.first input.heard) s a)
    → (shown : Option (List ℕ))
    → IsShown IsWhole (cells_of (run_at pick m input.first input.heard)) shown → shown ≡ Some b.bytes
shown_whole laws m t s kind sends pick of plan log input number b alike k law late now =
    shown_near laws (m + k) m t s kind sends pick of plan log input number b alike law (own_is_near
    (m + k) m t log input
    (late_hears k m t log input late now)) now

-- ---- the pair of tags that is held was sent in the source of the text, after the first segment of its run and before
-- any later text had lasted for d slots

-- the pair was heard in a slot later than `since`
pub record WasHeardSince (first since : ℕ) (heard : List (Option Message)) (pair : PairFields) : Type 0 where
  pub slot : ℕ
  pub later : since < slot
  pub came : HasEntry first heard slot (Some (Tags pair))

still_heard : (first since : ℕ) (newest : Option Message) (heard : List (Option Message)) (pair : PairFields)
    → WasHeardSince first since heard pair → WasHeardSince first since (newest ∷ heard) pair
still_heard first since newest heard pair f = grind arith

not_taken_away : (says : Option Bool) (held : Option PairFields) (pair : PairFields)
    → unless_contrary says held ≡ Some pair → held ≡ Some pair
not_taken_away says held pair e = grind arith

-- the pair held since a slot was heard later than that slot
pub was_heard : (first since : ℕ) (heard : List (Option Message)) (pair : PairFields)
    → pair_since first since heard ≡ Some pair → WasHeardSince first since heard pair
was_heard first since [] pair e = absurd (cc)
was_heard first since (Some (Tags q) ∷ before) pair e =
    cond_both (is_known before && nat_lt since (first + length before)) (Some q) (pair_since first since before)
    (λ (o : Option PairFields). o ≡ Some pair → WasHeardSince first since (Some (Tags q) ∷ before) pair)
    (λ t h. record { slot = first + length before; later = grind (arith); came = grind arith })
    (λ _ h. still_heard first since (Some (Tags q)) before pair (was_heard first since before pair h)) e
was_heard first since (Some (Announce code bits aid) ∷ before) pair e =
    let held = not_taken_away (says_of_rtplus code aid) (pair_since first since before) pair e in
    grind (arith, was_heard first since before pair held)
was_heard first since (x ∷ before) pair e = still_heard first since x before pair (was_heard first since before pair e)

-- tags are marked
pub tags_are_marked : (pair : PairFields) → IsUnmarked (Some (Tags pair)) → ⊥
tags_are_marked pair none = (let e : Tagged pair ≡ Nothing = none.text in absurd (cc))

-- each segment of a run was picked from what was heard
all_run : (P : Segment → Type 0) (m t : ℕ) (gs : List Segment) → AllByRecursion P gs → AllByRecursion P (run m t gs)
all_run P m t [] all = tt
all_run P m t (g ∷ older) all = grind (arith, all_before P m g.fragment.flag g.slot older all.1)

run_picked : (m first : ℕ) (heard : List (Option Message))
    → AllByRecursion (IsPicked text_fragment first heard) (run_at text_fragment m first heard)
run_picked m first [] = tt
run_picked m first (x ∷ before) =
    all_run (IsPicked text_fragment first (x ∷ before)) m (first + length before)
    (segments text_fragment first (x ∷ before)) (all_picked text_fragment first (x ∷ before))

texts_marked : PicksWhatIsMarked text_fragment text_mark
texts_marked = record { picked = λ message p e. grind arith; unmarked = λ entry none. none.text }

-- tags that were sent after a segment that was heard came after a fragment
pub after_heard : (log : List (Option Message)) (input : Input) (g : Segment) (r s : ℕ) → IsHeard log input
    → IsPicked text_fragment input.first input.heard g → CameFrom input g.slot r → r < s
    → IsAfterFragment (marks text_mark log) s
after_heard log input g r s hears p from less =
    let came = arrival log input g.slot p.message hears
    (is_marked text_fragment text_mark p.message g.fragment texts_marked p.fragment) p.came in
    let sent = rw (texts_marked.picked p.message g.fragment p.fragment)
    at (mark_sent text_mark log came.slot (Some p.message) came.sent) in
    record {
      slot = came.slot;
      fragment = g.fragment;
      is_sent = sent;
      before = omega (arith, one_origin input g.slot came.slot r came.from from, less);
    }

sent_for : PlanLaws → (kind : Kind) (d m t : ℕ) (plan : List Broadcast) (log : List (Option Message)) (input : Input)
    (g : Segment)
    (older : List Segment) (pair : PairFields)
    → IsLawful d kind plan (marks text_mark log) → IsHeardNear d m t log input
    → (l : LiesInOne d t kind plan input g older) → g ∷ older ≡ text_run m input
    → pair_from input.first (begins_in (g ∷ older)) input.heard ≡ Some pair
    → (slot : ℕ) × IsMarkIn (marks text_mark log) slot (Tagged pair) × HasTags d slot pair l.broadcast
sent_for laws kind d m t plan log input g older pair law hears l is_run e =
    let b = first_in g older in
    let own = all_in (λ h. IsSegmentOf kind input h l.broadcast) (g ∷ older) b.0 l.all b.2 in
    let f = was_heard input.first b.0.slot input.heard pair (rw b.1 at e) in
    let came = arrival log input f.slot (Tags pair) hears.heard (tags_are_marked pair) f.came in
    let tagged = mark_sent text_mark log came.slot (Some (Tags pair)) came.sent in
    let sent_later =
    hears.tags b.0.slot f.slot own.slot came.slot pair (ap begins_in (sym is_run) ∙ b.1) f.later f.came own.from
    came.from in
    let picked = all_in (IsPicked text_fragment input.first input.heard) (g ∷ older) b.0
    (rw (← is_run) at (run_picked m input.first input.heard)) b.2 in
    let lies = law.tags came.slot pair tagged (after_heard log input b.0 own.slot came.slot hears.heard picked own.from
    sent_later) in
    search arith

-- the bytes shown of a tag are its piece
pub names_piece : (tag : TagFields) (x bytes : List ℕ) (shown : Option (ℕ × List ℕ)) → x ≡ bytes → shown ≡ cut_by tag x
    → IfSome shown (NamesPiece tag bytes)
names_piece tag x bytes shown same e = grind (arith)

-- the tags shown were sent in the source of the text
pub shows_tags : PlanLaws → (kind : Kind) → IsService kind IsWholeText → (d m t : ℕ) (plan : List Broadcast)
    (log : List (Option Message)) (input : Input) (view : ShownView)
    → IsLawful d kind plan (marks text_mark log) → IsHeardNear d m t log input
    → RunLiesInOne d t kind plan input (text_run m input) → ShowsView m input.first input.heard view
    → ShowsNoTags view ⊎ ShowsTagsOf d plan (marks text_mark log) input (text_run m input) view
shows_tags laws kind service d m t plan log input view law hears lies shows = search (arith, by)
  where
    of : (the_run : List Segment) (x : List ℕ) (pair : PairFields) → IsWholeText (cells_of the_run) x
        → RunLiesInOne d t kind plan input the_run → the_run ≡ text_run m input
        → pair_from input.first (begins_in the_run) input.heard ≡ Some pair → view.item ≡ item_of (Some x) (Some pair)
        → view.one ≡ tag_of One (Some x) (Some pair) → view.two ≡ tag_of Two (Some x) (Some pair)
        → ShowsTagsOf d plan (marks text_mark log) input the_run view
    of [] x pair whole l is_run e item one two = absurd (no_text_of_none x whole)
    of (g ∷ older) x pair whole l is_run e item one two =
        let same = bytes_of_run d t kind IsWholeText plan input g older x service law.values l whole in
        let sent = sent_for laws kind d m t plan log input g older pair law hears l is_run e in
        search (arith, source_of, names_piece)

    by : (text : Option (List ℕ)) (pair : Option PairFields) → view.text ≡ text
        → pair_held m input.first input.heard ≡ pair
        → view.item ≡ item_of text pair → view.one ≡ tag_of One text pair → view.two ≡ tag_of Two text pair
        → ShowsNoTags view ⊎ ShowsTagsOf d plan (marks text_mark log) input (text_run m input) view
    by None pair et ep item one two = inl record { item = item; one = one; two = two }
    by (Some x) None et ep item one two = inl record { item = item; one = one; two = two }
    by (Some x) (Some pair) et ep item one two = search (arith, of)
