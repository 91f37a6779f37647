-- Lemmas: the state of a receiver follows from its input after each slot, with and without a window.
use Rattle.std.proofs.Common.{◌≡◌, ◌≢◌, ◌⊎◌, ◌+◌, ◌-◌, ◌<◌, ◌≤◌, ◌&&◌, ℕ, Bool, true, false, nat_lt, List, [], ◌∷◌}
use Rattle.std.proofs.Common.{Option, Some, None, length, refl, sym, ◌∙◌, inl, inr, arith, if◌then◌else◌}
use Rattle.std.proofs.lemmas.Bool.{cases_lt}
use Rattle.std.proofs.lemmas.Bool.Decides.{nat_tests}
use Rattle.std.proofs.lemmas.Slice.Eq.{bytes_eq-Decides}
use Rattle.rds_block.specs.declared.group.Group.{Group}
use Rattle.rds_fields.specs.declared.message.Message.{Message}
use Rattle.rds_fields.specs.declared.message.Message.TheVariants.{Tags}
use Rattle.rds_fields.specs.Tag.{PairFields, TagFields}
use Rattle.rds_receiver.specs.Receipts.{Segment, Tuning, heard_of, name_fragment, name_of, segments, text_fragment}
use Rattle.rds_receiver.specs.Receipts.{text_of}
use Rattle.rds_receiver.specs.declared.fragment.Fragment.{Fragment}
use Rattle.rds_receiver.specs.Run.{begins_in, run}
use Rattle.rds_receiver.specs.Holds.{HearsMore, HoldsAt, HoldsRun, newest_slot}
use Rattle.rds_receiver.specs.ReceiverAt.{ReceiverAt}
use Rattle.rds_receiver.specs.State.{DisplayState, HeldSegments, ReceiverState}
use Rattle.rds_receiver.specs.Stored.{IsStoredReceiver, receiver_stored}
use Rattle.rds_receiver.specs.declared.receiver.Receiver.{Receiver}
use Rattle.rds_receiver.specs.Confirmed.{confirmed, counted_in, last_at, last_pair, pair_again, same_pair, same_tag}
use Rattle.rds_receiver.specs.Confirmed.{segment_again}
use Rattle.rds_receiver.specs.ConfirmedLemmas.{confirmed_long, counted_long, newest_counted, one_pair}
use Rattle.rds_receiver.specs.Confirming.{Counts, HasAged, HoldsBy, HoldsLast, HoldsLastPair, HoldsLasts, HoldsLastsIn}
use Rattle.rds_receiver.specs.Confirming.{LastSegment, RepeatsSegment, cell_in, one_slot_older, pair_left_of}
use Rattle.rds_receiver.specs.Confirming.{text_begins}
use Rattle.rds_receiver.proofs.Runs.{AllBelow, run_below, segments_below, equal_or_not, same_is, nothing_heard}

-- a test that is not true
pub not_true : (b : Bool) → b ≡ false → b ≡ true → ⊥
not_true b f t = cc

-- ---- the last segment at an address

-- a segment is confirmed exactly if the last one at its address confirms it
again : (w n : ℕ) (p : Fragment) (last : Option Segment) (s : LastSegment) → HoldsLast w n last s
    → RepeatsSegment p s → (u : ℕ) × (segment_again w n p.flag p.bytes last ≡ Some u)
again w n p None s st is = absurd (omega (arith, st.left, is.0))
again w n p (Some g) s st is =
    let same = same_is p.flag in
    let bytes = (bytes_eq-Decides p.bytes g.fragment.bytes).1 in
    (g.slot, grind (arith))

not_again : (w n : ℕ) (p : Fragment) (last : Option Segment) (s : LastSegment) → HoldsLast w n last s
    → (RepeatsSegment p s → ⊥) → segment_again w n p.flag p.bytes last ≡ None
not_again w n p last s st is = grind (arith, bytes_eq-Decides)

-- ---- the last pair of tags

-- the last pair came before
pub pair_below : (first : ℕ) (heard : List (Option Message)) (u : ℕ) (pair : PairFields)
    → last_pair first heard ≡ Some (u, pair) → u < first + length heard
pair_below first [] u pair e = absurd (cc)
pair_below first (Some (Tags q) ∷ before) u pair e = grind arith
pair_below first (x ∷ before) u pair e = (let h = pair_below first before u pair e in omega arith)

-- a pair that came no later than the first slot of the run confirms nothing
no_pair_left : (w n since : ℕ) (last : Option (ℕ × PairFields))
    → ((u : ℕ) (pair : PairFields) → last ≡ Some (u, pair) → u ≤ since) → pair_left_of w n (Some since) last ≡ 0
no_pair_left w n since None below = refl
no_pair_left w n since (Some (u, pair)) below = grind (arith, below u pair refl)

tag_of_itself : (x : TagFields) → same_tag x x ≡ true
tag_of_itself x = grind (arith)

pair_of_itself : (p : PairFields) → same_pair p p ≡ true
pair_of_itself p = rw (same_is p.toggle, same_is p.running, tag_of_itself p.one, tag_of_itself p.two) refl

-- a pair is confirmed exactly if the last pair confirms it
pair_is_again : (w n : ℕ) (pair : PairFields) (begins : Option ℕ) (last : Option (ℕ × PairFields))
    (held : Option PairFields) (left : ℕ) → HoldsLastPair w n begins last held left
    → 0 < left → held ≡ Some pair → (u : ℕ) × (pair_again w n pair begins last ≡ Some u)
pair_is_again w n pair None last held left st some is = absurd (omega (arith, st.left_is))
pair_is_again w n pair (Some since) None held left st some is = absurd (omega (arith, st.left_is))
pair_is_again w n pair (Some since) (Some (u, q)) held left st some is =
    let same : same_pair pair q ≡ true = (let e : q ≡ pair = grind arith in rw e (pair_of_itself pair)) in
    (u, rw same (grind (arith)))

pair_not_again : (w n : ℕ) (pair : PairFields) (begins : Option ℕ) (last : Option (ℕ × PairFields))
    (held : Option PairFields) (left : ℕ) → HoldsLastPair w n begins last held left
    → (0 < left → held ≡ Some pair → ⊥) → pair_again w n pair begins last ≡ None
pair_not_again w n pair None last held left st other = refl
pair_not_again w n pair (Some since) None held left st other = refl
pair_not_again w n pair (Some since) (Some (u, q)) held left st other = by (same_pair pair q) (one_pair pair q)
  where
    by : (same : Bool) → (same ≡ true → pair ≡ q)
        → (if same && (nat_lt since u && nat_lt n (u + w)) then Some u else None)
        ≡ None
    by same is = grind (arith)

-- ---- runs

pub is_held : (m n : ℕ) (segs : List Segment) (held : HeldSegments) → HoldsRun m n (run m n segs) held → held.age < m
    → (g : Segment) × (older : List Segment) × (run m n segs ≡ g ∷ older)
is_held m n segs held st young = grind (arith)

-- a run that is not empty begins somewhere before
pub some_begin : (n : ℕ) (g : Segment) (older : List Segment) → AllBelow n (g ∷ older)
    → (since : ℕ) × (begins_in (g ∷ older) ≡ Some since) × (since < n)
some_begin n g [] all = (g.slot, refl, all.0)
some_begin n g (h ∷ older) all = some_begin n h older all.1

-- a run that is not empty is that of the slot before, too
run_earlier : (m t n : ℕ) (segs : List Segment) (g : Segment) (older : List Segment) → t ≤ n → run m n segs ≡ g ∷ older
    → run m t segs ≡ g ∷ older
run_earlier m t n segs g older before e = grind (arith)

-- the run of texts after a segment with the same flag, or the other one
after_same : (m n k : ℕ) (p : Fragment) (segs : List Segment) (held : HeldSegments) → k ≡ n → 0 < m
    → HoldsRun m n (run m n segs) held → p.flag ≡ held.flag
    → run m n (record { slot = k; fragment = p } ∷ segs) ≡ record { slot = k; fragment = p } ∷ run m n segs
after_same m n k p segs held here lasts st same = grind (arith)

after_other : (m n k : ℕ) (p : Fragment) (segs : List Segment) (held : HeldSegments) → k ≡ n → 0 < m
    → HoldsRun m n (run m n segs) held → p.flag ≢ held.flag
    → run m n (record { slot = k; fragment = p } ∷ segs) ≡ record { slot = k; fragment = p } ∷ []
after_other m n k p segs held here lasts st other = grind (arith)

-- ---- the whole state

-- the display one slot later
pub display_grown : (window : Option ℕ) (m first : ℕ) (old new : DisplayState) (heard : List (Option Message))
    → ((m first : ℕ) (heard : List (Option Message)) → HoldsAt m (newest_slot first heard) first old heard
    → HoldsAt m (first + length heard) first new heard)
    → HoldsAt m (newest_slot first heard) first old (counted_in window m first heard)
    → HoldsAt m (first + length heard) first new (counted_in window m first heard)
display_grown window m first old new heard grows st =
    rw (counted_long window m first heard) at (grows m first (counted_in window m first heard)
    (rw (newest_counted window m first heard) st))

-- the last segments and tags one slot later, before anything is heard in it
pub grown : (w m first : ℕ) (old new : ReceiverState) (heard : List (Option Message)) → new.window ≡ old.window
    → new.pair ≡ old.pair
    → ((c : ℕ) → c < 18 → cell_in new.segments c ≡ one_slot_older (cell_in old.segments c))
    → (new.display.text.age < new.display.dwell → new.pair_left ≡ old.pair_left - 1)
    → ((new.display.text.age < new.display.dwell → ⊥) → new.pair_left ≡ 0)
    → HoldsAt m (first + length heard) first new.display (confirmed w m first heard)
    → HoldsLasts w m (newest_slot first heard) first old heard → HoldsLasts w m (first + length heard) first new heard
grown w m first old new heard window pair cells held over received st = record {
  window = window ∙ st.window;
  two = st.two;
  texts = λ a h. grind (arith);
  names = λ a h. grind (arith);
  pair = record { left_is = by_age (cases_lt new.display.text.age m); same = rw pair st.pair.same };
}
  where
    n : ℕ
    n = first + length heard

    t : ℕ
    t = newest_slot first heard

    next : (pick : Message → Option Fragment) (a : ℕ) (xs : List (Option Message))
        → (first + length xs ≡ newest_slot first xs + 1) ⊎ (last_at a (segments pick first xs) ≡ None)
    next pick a [] = inr refl
    next pick a (x ∷ before) = inl (omega arith)

    segs : List Segment
    segs = segments text_fragment first (confirmed w m first heard)

    below : AllBelow (first + length heard) (segments text_fragment first (confirmed w m first heard))
    below = rw (confirmed_long w m first heard) at (segments_below text_fragment first (confirmed w m first heard))

    of_run : (xs : List (Option Message)) → heard ≡ xs → (g : Segment) (rest : List Segment) → run m n segs ≡ g ∷ rest
        → new.pair_left ≡ old.pair_left - 1
        → new.pair_left ≡ pair_left_of w n (begins_in (g ∷ rest)) (last_pair first heard)
    of_run [] e g rest r is = absurd (let bad : run m n [] ≡ g ∷ rest = rw e at r in cc)
    of_run (x ∷ before) e g rest r is =
        let next : n ≡ t + 1 = rw e (omega arith) in
        let begin = some_begin n g rest (rw r at (run_below m n n segs below)) in
        let earlier = run_earlier m t n segs g rest (omega (arith, next)) r in
        grind (arith, nat_tests)

    by_age : (new.display.text.age < m) ⊎ (m ≤ new.display.text.age)
        → new.pair_left ≡ pair_left_of w n (begins_in (run m n segs)) (last_pair first heard)
    by_age (inl young) = grind (arith, nat_tests)
    by_age (inr old_run) = grind (arith, nat_tests)

-- a text segment was taken
pub text_confirmed : (w m first : ℕ) (heard : List (Option Message)) (old new : ReceiverState) (p : Fragment)
    (is : Bool) → p.address < 16
    → new.window ≡ old.window → new.display ≡ old.display → new.pair ≡ old.pair
    → cell_in new.segments p.address ≡ record { flag = p.flag; bytes = p.bytes; left = old.window }
    → ((c : ℕ) → c < 18 → c ≢ p.address → cell_in new.segments c ≡ cell_in old.segments c)
    → (is ≡ true → RepeatsSegment p (cell_in old.segments p.address))
    → (RepeatsSegment p (cell_in old.segments p.address) → is ≡ true)
    → (is ≡ false → new.pair_left ≡ old.pair_left)
    → (is ≡ true → p.flag ≡ old.display.text.flag → new.pair_left ≡ old.pair_left)
    → (is ≡ true → p.flag ≢ old.display.text.flag → new.pair_left ≡ 0)
    → HoldsBy (Some w) m (first + length heard) first old heard → Counts (Some w) m first new heard (text_of p) is
text_confirmed w m first heard old new p is within window receiver pair taken others if_again then_again stays same
    other st = record {
      display = rw receiver st.display;
      lasts = record {
        window = window ∙ st.lasts.window;
        two = st.lasts.two;
        texts = λ i h. grind (arith);
        names = λ i h. rw (others (16 + i) (omega arith) (λ e. omega arith)) (st.lasts.names i h);
        pair = record {
          left_is = (let k = kept is refl in let left = by is refl in cc);
          same = rw pair st.lasts.pair.same;
        };
      };
      kept = kept is refl;
    }
  where
    n : ℕ
    n = first + length heard

    segs : List Segment
    segs = segments text_fragment first (confirmed w m first heard)

    here_at : (i : ℕ) → i ≡ p.address → cell_in new.segments i ≡ record { flag = p.flag; bytes = p.bytes; left = w }
    here_at i e = rw e (rw st.lasts.window at taken)

    here : first + length (confirmed w m first heard) ≡ first + length heard
    here = rw (confirmed_long w m first heard)

    kept : (x : Bool) → is ≡ x
        → confirmed w m first (Some (text_of p) ∷ heard) ≡ (if x then Some (text_of p) else None)
        ∷ confirmed w m first heard
    kept true e = rw (again w n p (last_at p.address (segments text_fragment first heard))
        (cell_in old.segments p.address) (st.lasts.texts p.address within) (if_again e)).1
    kept false e = search (arith, not_again, not_true, n)

    none_new : pair_left_of w n (Some (first + length (confirmed w m first heard))) (last_pair first heard) ≡ 0
    none_new = search (arith, no_pair_left, pair_below, n, here)

    joined : (the_run : List Segment) → run m n segs ≡ the_run
        → old.pair_left ≡ pair_left_of w n (begins_in
        (record { slot = first + length (confirmed w m first heard); fragment = p } ∷ the_run)) (last_pair first heard)
    joined [] e = rw e at st.lasts.pair.left_is ∙ sym none_new
    joined (g ∷ rest) e = rw e at st.lasts.pair.left_is

    by_flag : (p.flag ≡ old.display.text.flag) ⊎ (p.flag ≢ old.display.text.flag) → is ≡ true
        → new.pair_left ≡ pair_left_of w n (text_begins m n first (Some (text_of p) ∷ confirmed w m first heard))
        (last_pair first heard)
    by_flag (inl e) y = grind (arith, nat_tests, after_same, n, segs, here, joined)
    by_flag (inr ne) y = grind (arith, nat_tests, after_other, n, segs, here, none_new)

    by : (x : Bool) → is ≡ x
        → new.pair_left ≡ pair_left_of w n (text_begins m n first ((if x then Some (text_of p) else None)
        ∷ confirmed w m first heard)) (last_pair first heard)
    by true e = by_flag (equal_or_not p.flag old.display.text.flag) e
    by false e = stays e ∙ st.lasts.pair.left_is

-- a name segment was taken
pub name_confirmed : (w m first : ℕ) (heard : List (Option Message)) (old new : ReceiverState) (p : Fragment)
    (is : Bool) → p.address < 2
    → new ≡ record old { segments = new.segments }
    → cell_in new.segments (16 + p.address) ≡ record { flag = p.flag; bytes = p.bytes; left = old.window }
    → ((c : ℕ) → c < 18 → c ≢ 16 + p.address → cell_in new.segments c ≡ cell_in old.segments c)
    → (is ≡ true → RepeatsSegment p (cell_in old.segments (16 + p.address)))
    → (RepeatsSegment p (cell_in old.segments (16 + p.address)) → is ≡ true)
    → HoldsBy (Some w) m (first + length heard) first old heard → Counts (Some w) m first new heard (name_of p) is
name_confirmed w m first heard old new p is within rest taken others if_again then_again st = record {
  display = rw rest st.display;
  lasts = record {
    window = rw rest st.lasts.window;
    two = st.lasts.two;
    texts = λ i h. rw (others i (omega arith) (λ e. omega arith)) (st.lasts.texts i h);
    names = λ i h. grind (arith);
    pair = grind (arith);
  };
  kept = kept is refl;
}
  where
    n : ℕ
    n = first + length heard

    here_at : (i : ℕ) → i ≡ p.address → cell_in new.segments (16 + i)
        ≡ record { flag = p.flag; bytes = p.bytes; left = w }
    here_at i e = rw e (rw st.lasts.window at taken)

    kept : (x : Bool) → is ≡ x
        → confirmed w m first (Some (name_of p) ∷ heard) ≡ (if x then Some (name_of p) else None)
        ∷ confirmed w m first heard
    kept true e = rw (again w n p (last_at p.address (segments name_fragment first heard))
        (cell_in old.segments (16 + p.address)) (st.lasts.names p.address within) (if_again e)).1
    kept false e = search (arith, not_again, not_true, n)

    by : (x : Bool) → pair_left_of w n (text_begins m n first (confirmed w m first heard)) (last_pair first heard)
        ≡ pair_left_of w n (text_begins m n first ((if x then Some (name_of p) else None) ∷ confirmed w m first heard))
        (last_pair first heard)
    by true = refl
    by false = refl

-- tags were taken
pub tags_confirmed : (w m first : ℕ) (heard : List (Option Message)) (old new : ReceiverState) (pair : PairFields)
    (is : Bool)
    → new ≡ record old { pair = new.pair; pair_left = new.pair_left } → new.pair ≡ Some pair
    → (old.display.text.age < old.display.dwell → new.pair_left ≡ old.window)
    → ((old.display.text.age < old.display.dwell → ⊥) → new.pair_left ≡ 0)
    → (is ≡ true → (0 < old.pair_left) × (old.pair ≡ Some pair))
    → (is ≡ false → 0 < old.pair_left → old.pair ≡ Some pair → ⊥)
    → HoldsBy (Some w) m (first + length heard) first old heard → Counts (Some w) m first new heard (Tags pair) is
tags_confirmed w m first heard old new pair is rest now held over if_again if_not st = record {
  display = rw rest st.display;
  lasts = record {
    window = rw rest st.lasts.window;
    two = st.lasts.two;
    texts = λ i h. rw rest (st.lasts.texts i h);
    names = λ i h. rw rest (st.lasts.names i h);
    pair = record {
      left_is = (let k = kept is refl in let left = taken (cases_lt old.display.text.age m) ∙ by is in cc);
      same = now;
    };
  };
  kept = kept is refl;
}
  where
    n : ℕ
    n = first + length heard

    segs : List Segment
    segs = segments text_fragment first (confirmed w m first heard)

    below : AllBelow (first + length heard) (segments text_fragment first (confirmed w m first heard))
    below = rw (confirmed_long w m first heard) at (segments_below text_fragment first (confirmed w m first heard))

    kept : (x : Bool) → is ≡ x → confirmed w m first (Some (Tags pair) ∷ heard) ≡ (if x then Some (Tags pair) else None)
        ∷ confirmed w m first heard
    kept true e = rw (pair_is_again w n pair (begins_in (run m n segs)) (last_pair first heard) old.pair old.pair_left
        st.lasts.pair (if_again e).0 (if_again e).1).1
    kept false e = rw (pair_not_again w n pair (begins_in (run m n segs)) (last_pair first heard) old.pair old.pair_left
        st.lasts.pair (if_not e))

    by : (x : Bool) → pair_left_of w n (begins_in (run m n segs)) (Some (n, pair))
        ≡ pair_left_of w n (text_begins m n first ((if x then Some (Tags pair) else None) ∷ confirmed w m first heard))
        (Some (n, pair))
    by true = refl
    by false = refl

    taken : (old.display.text.age < m) ⊎ (m ≤ old.display.text.age)
        → new.pair_left ≡ pair_left_of w n (begins_in (run m n segs)) (Some (n, pair))
    taken (inl young) =
        let held_run = is_held m n segs old.display.text st.display.text young in
        let begin = some_begin n held_run.0 held_run.1 (rw held_run.2 at (run_below m n n segs below)) in
        search arith
    taken (inr old_run) = grind (arith)

-- the last segments and tags do not depend on the display
pub with_display : (window : Option ℕ) (m t first : ℕ) (s : ReceiverState) (heard : List (Option Message))
    (d : DisplayState) → HoldsLastsIn window m t first s heard
    → HoldsLastsIn window m t first (record s { display = d }) heard
with_display window m t first s heard d st = grind (arith)

-- the last segments and tags aged after the display
pub lasts_aged : (w m first : ℕ) (heard : List (Option Message)) (old between : ReceiverState)
    → between.display ≡ old.display
    → (HoldsAt m (first + length heard) first old.display (counted_in (Some w) m first heard)
    → HoldsLastsIn (Some w) m (newest_slot first heard) first old heard
    → HoldsLastsIn (Some w) m (first + length heard) first between heard)
    → HasAged (Some w) m first old heard → HoldsBy (Some w) m (first + length heard) first between heard
lasts_aged w m first heard old between same ages aged = grind (arith)

-- what a display takes from what counts, it takes from what was heard
taken_in : (window : Option ℕ) (m first : ℕ) (heard : List (Option Message)) (r after : DisplayState)
    (entry : Option Message)
    → ((heard : List (Option Message)) → HoldsAt m (first + length heard) first r heard
    → HoldsAt m (first + length heard) first after (entry ∷ heard))
    → HoldsAt m (first + length heard) first r (counted_in window m first heard)
    → HoldsAt m (first + length heard) first after (entry ∷ counted_in window m first heard)
taken_in window m first heard r after entry takes st =
    rw (counted_long window m first heard) at (takes (counted_in window m first heard)
    (rw (counted_long window m first heard) st))

-- a message that counts was handled by the display; one that does not was not
pub message_counted : (window : Option ℕ) (m first : ℕ) (heard : List (Option Message)) (between new : ReceiverState)
    (message : Message) → new ≡ record between { display = new.display }
    → HearsMore between.display new.display message → Counts window m first between heard message true
    → HoldsBy window m (first + length heard) first new (Some message ∷ heard)
message_counted window m first heard between new message rest hears st = record {
  display = rw st.kept (taken_in window m first heard between.display new.display (Some message) (hears m first)
      st.display);
  lasts = grind (arith);
}

-- a message that does not count changes nothing
pub message_not_counted : (window : Option ℕ) (m first : ℕ) (heard : List (Option Message)) (s : ReceiverState)
    (message : Message) → Counts window m first s heard message false
    → HoldsBy window m (first + length heard) first s (Some message ∷ heard)
message_not_counted window m first heard s message st = grind (arith, taken_in, nothing_heard)

-- a slot in which nothing is heard
pub nothing_taken : (window : Option ℕ) (m first : ℕ) (heard : List (Option Message)) (s : ReceiverState)
    → HoldsBy window m (first + length heard) first s heard
    → HoldsBy window m (first + length heard) first s (None ∷ heard)
nothing_taken None m first heard s st = grind (arith, nothing_heard)
nothing_taken (Some w) m first heard s st = search (arith, taken_in, nothing_heard)

-- a whole slot
pub slot_stands : (t : Tuning) (s after : Receiver) (input : List (Option Group)) (slot : Option Group)
    → ReceiverAt t s input → IsStoredReceiver after → after.display.pi ≡ s.display.pi
    → HoldsBy t.window t.dwell (t.first + length (heard_of t.programme input)) t.first (receiver_stored after)
    (heard_of t.programme (slot ∷ input))
    → ReceiverAt t after (slot ∷ input)
slot_stands t s after input slot st good programme holds = grind (arith)
