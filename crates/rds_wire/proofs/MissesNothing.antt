-- Who misses nothing shows what a receiver shows, in the slot in which the last segment of its run was sent.
use Rattle.std.proofs.Common.{◌≡◌, ◌+◌, ◌<◌, ◌≤◌, ◌⊎◌, ℕ, Bool, List, [], ◌∷◌, Option, Some, None, length, refl, subst}
use Rattle.std.proofs.Common.{inl, inr, arith, sym, ap, ◌∙◌, nat_eq, true, false, slice_index, ◌*◌, ◌/◌, ◌%◌, zero, suc}
use Rattle.std.proofs.Common.{map, replicate, length-append}
use Rattle.std.specs.FinMap.{get}
use Rattle.std.specs.List.{AllByRecursion}
use Rattle.std.proofs.lemmas.Bool.{cases_lt}
use Rattle.std.proofs.lemmas.Bool.Decides.{nat_tests}
use Rattle.rds_fields.specs.declared.message.Message.{Message}
use Rattle.rds_assembly.specs.Body.{name_body, segment_of, text_body}
use Rattle.rds_assembly.specs.Cells.{Cells, HasByte}
use Rattle.rds_assembly.specs.Whole.{IsWholeName, IsWholeText}
use Rattle.rds_safety.proofs.Padded.{HoldsUpToEnd, all_hold, text_below, text_end}
use Rattle.rds_receiver.specs.Shown.{IsShown}
use Rattle.rds_encoder.specs.Plan.{Broadcast, Covers, HasNumber}
use Rattle.rds_receiver.specs.Receipts.{Segment, segments}
use Rattle.rds_receiver.specs.Run.{cells_of, run, run_at, run_before}
use Rattle.rds_receiver.specs.declared.fragment.Fragment.{Fragment}
use Rattle.rds_safety.specs.Flags.{is_same_flag}
use Rattle.rds_safety.specs.Late.{CameFrom, HasEntry, Input, SentIn, own_origins, IsHeardLate}
use Rattle.rds_safety.specs.Laws.{PlanLaws}
use Rattle.rds_safety.specs.Lawful.{IsLawful, Kind, names, padded_texts}
use Rattle.rds_safety.specs.Marks.{Mark, marks, IsMarkIn, Nothing, Sends, Tagged}
use Rattle.rds_safety.specs.Near.{IsHeardNear, IsOfItsOriginIfMarked}
use Rattle.rds_safety.proofs.Entries.{own_long, AreFalling, IsPicked, all_picked, arrival, late_hears, mark_sent, before_end}
use Rattle.rds_safety.proofs.Entries.{no_slot_late, one_origin, own_is_near, segments_fall, marks_long}
use Rattle.rds_safety.proofs.HeldWhole.{HaveFlag, newest_since, IsIn, all_in, came_in, in_below, in_segments, one_covers}
use Rattle.rds_safety.proofs.OneBroadcast.{all_before, AreOf, AreParts, IsSegmentOf, LiesInOne, PicksWhatIsMarked, RunLiesInOne}
use Rattle.rds_safety.proofs.OneBroadcast.{IsService, bytes_of_run, cell_has, get-put, heard_run_lies, is_marked}
use Rattle.rds_wire.specs.Received.{first_entries}
use Rattle.rds_wire.proofs.Receiving.{entry_in_first, entry_of_first, first_length, preceded_first}
use Rattle.std.proofs.lemmas.List.{length-replicate}
use Rattle.std.proofs.lemmas.Option.{same_Some}
use lib.ListN.{length-map}
use Rattle.std.specs.Prelude.{option_map}
use Rattle.rds_fields.specs.Tag.{PairFields}
use Rattle.rds_fields.specs.declared.message.Message.TheVariants.{Text, Name, Announce, Tags, Other}
use Rattle.rds_audit.specs.Recording.{counted_after, from_first_text, preceded}
use Rattle.rds_wire.proofs.Twice.{entry_of_map}

-- ---- a run without a gap

module _ (d : ℕ) (f : Bool) (h : Segment) where
  -- before each slot after h, one of the segments came less than d slots before
  abbrev IsDense : ℕ → List Segment → Type 0
  IsDense n xs = (v : ℕ) → h.slot < v → v ≤ n → (y : Segment) × IsIn xs y × (y.slot < v) × (v < y.slot + d)

  not_newest : (x : Segment) (older : List Segment) (y : Segment) → IsIn (x ∷ older) y → y.slot < x.slot → IsIn older y
  not_newest x older y (inl e) less = absurd (omega (arith, less, ap (λ (g : Segment). g.slot) e))
  not_newest x older y (inr is) less = is

  older_dense : (n : ℕ) (x : Segment) (older : List Segment) → x.slot ≤ n → IsDense n (x ∷ older) → IsDense x.slot older
  older_dense n x older below dense v after upto =
      let it = dense v after (omega (arith, upto, below)) in
      (it.0, not_newest x older it.0 it.1 (omega (arith, it.2, upto)), it.2, it.3)

  -- so the run goes back to h
  kept_before : (n : ℕ) (xs : List Segment) → AreFalling n xs → HaveFlag f h.slot xs → IsDense n xs → h.slot < n
      → IsIn xs h → IsIn (run_before d f n xs) h
  kept_before n [] falls flags dense after is = absurd is
  kept_before n (x ∷ older) falls flags dense after is =
      let y = dense n after (omega arith) in
      let near = newest_since y.0.slot x older y.0 falls.1 (omega arith) y.1 in
      let gap : n < x.slot + d = omega (arith, near, y.3) in
      let flag : f ≡ x.fragment.flag = sym (flags.0 (newest_since h.slot x older h falls.1 (omega arith) is)) in
      let before = λ (there : IsIn older h).
      kept_before x.slot older falls.1 flags.1 (older_dense n x older (omega (arith, falls.0)) dense)
      (in_below x.slot older h falls.1 there) there in
      grind (arith, is_same_flag)

  kept : (t : ℕ) (xs : List Segment) → AreFalling (t + 1) xs → HaveFlag f h.slot xs → IsDense t xs → 0 < d
      → (y : Segment) → IsIn xs y → t ≤ y.slot → IsIn xs h → IsIn (run d t xs) h
  kept t [] falls flags dense some y newest here is = absurd is
  kept t (x ∷ older) falls flags dense some y newest here is =
      let at = newest_since t x older y falls.1 here newest in
      let gap : t < x.slot + d = omega (arith, at, some) in
      let flag : x.fragment.flag ≡ f = flags.0 (newest_since h.slot x older h falls.1 (omega arith) is) in
      let before = λ (there : IsIn older h).
      kept_before x.slot older falls.1 flags.1 (older_dense t x older (omega (arith, falls.0)) dense)
      (in_below x.slot older h falls.1 there) there in
      grind arith

-- ---- the segments of a run: neighbours are close, and their slots fall

abbrev AreClose : ℕ → List Segment → Type 0
AreClose m [] = Unit {0}
AreClose m (g ∷ []) = Unit {0}
AreClose m (g ∷ h ∷ older) = (g.slot < h.slot + m) × (h.slot < g.slot) × AreClose m (h ∷ older)

close_before : (m : ℕ) (f : Bool) (g : Segment) (gs : List Segment) → AreFalling g.slot gs
    → AreClose m (g ∷ run_before m f g.slot gs)
close_before m f g [] falls = tt
close_before m f g (h ∷ older) falls = grind (arith, close_before m f h older)

close_run : (m t : ℕ) (gs : List Segment) → AreFalling (t + 1) gs → AreClose m (run m t gs)
close_run m t [] falls = tt
close_run m t (g ∷ older) falls = grind (arith, close_before)

all_run : (P : Segment → Type 0) (m t : ℕ) (gs : List Segment) → AllByRecursion P gs → AllByRecursion P (run m t gs)
all_run P m t [] all = tt
all_run P m t (g ∷ older) all = grind (arith, all_before)

module _ (kind : Kind) (input : Input) (b : Broadcast) (m d : ℕ)
    (between : (t u r s : ℕ) → CameFrom input t r → CameFrom input u s → u < t + m → s < r + d) where
  -- a segment of the run was sent in this slot
  abbrev WasSentIn : (gs : List Segment) → AreOf kind input b gs → ℕ → Type 0
  WasSentIn [] all s = ⊥
  WasSentIn (g ∷ older) all s = (s ≡ all.0.slot) ⊎ WasSentIn older all.1 s

  -- before each slot after one of them, up to the last one, one of them was sent less than d slots before
  chain : (g : Segment) (older : List Segment) (all : AreOf kind input b (g ∷ older)) → AreClose m (g ∷ older)
      → (s : ℕ) → WasSentIn (g ∷ older) all s → (v : ℕ) → s < v → v ≤ all.0.slot
      → (r : ℕ) × WasSentIn (g ∷ older) all r × (r < v) × (v < r + d)
  chain g [] all close s (inl e) v after upto = absurd (omega (arith, e, after, upto))
  chain g [] all close s (inr none) v after upto = absurd none
  chain g (h ∷ older) all close s is v after upto = elim (cases_lt all.1.0.slot v) [
    | inl less ↦
        let near = between h.slot g.slot all.1.0.slot all.0.slot all.1.0.from all.0.from close.0 in
        (all.1.0.slot, inr (inl refl), less, omega (arith, near, upto))
    | inr more ↦ elim is [
      | inl e ↦ absurd (omega (arith, e, after, upto))
      | inr there ↦ (let it = chain h older all.1 close.2 s there v after more in (it.0, inr it.1, it.2, it.3))
    ]
  ]

own_slot : {X : Type 0} (heard : List (Option X)) (t s : ℕ) → HasEntry 0 (own_origins 0 heard) t (Some s) → s ≡ t
own_slot [] t s from = absurd from
own_slot (x ∷ before) t s from = grind (arith, own_slot before t s, own_long 0 before)

-- the segments are of the value
parts_of : (kind : Kind) (input : Input) (b : Broadcast) (gs : List Segment) → AreOf kind input b gs
    → AreParts kind b.bytes gs
parts_of kind input b [] all = tt
parts_of kind input b (g ∷ older) all = (all.0.has.fragment, parts_of kind input b older all.1)

-- for each segment there is a cell at its address
held_some : (gs : List Segment) (g : Segment) → IsIn gs g → (cell : List ℕ)
    × (get (cells_of gs) g.fragment.address ≡ Some cell)
held_some [] g is = absurd is
held_some (h ∷ older) g is =
    by (λ there. held_some older g there) (nat_eq g.fragment.address h.fragment.address) refl is
  where
    by : (IsIn older g → (cell : List ℕ) × (get (cells_of older) g.fragment.address ≡ Some cell)) → (same : Bool)
        → nat_eq g.fragment.address h.fragment.address ≡ same → IsIn (h ∷ older) g
        → (cell : List ℕ) × (get (cells_of (h ∷ older)) g.fragment.address ≡ Some cell)
    by earlier true e is = (
      h.fragment.bytes,
      get-put (cells_of older) h.fragment.address h.fragment.bytes g.fragment.address ∙ rw e refl,
    )
    by earlier false e (inl here) =
        absurd (let at : g.fragment.address ≡ h.fragment.address = ap (λ (x : Segment). x.fragment.address) here in
        grind (arith, nat_tests))
    by earlier false e (inr there) =
        let it = earlier there in
        (it.0, get-put (cells_of older) h.fragment.address h.fragment.bytes g.fragment.address ∙ rw e it.1)

-- each of the segments is one of them
all_are : (gs all : List Segment) → ((h : Segment) → IsIn gs h → IsIn all h)
    → AllByRecursion (λ (g : Segment). (h : Segment) × IsIn all h × (h.fragment.address ≡ g.fragment.address)) gs
all_are [] all are = tt
all_are (g ∷ older) all are = ((g, are g (inl refl), refl), all_are older all (λ h is. are h (inr is)))

-- a service: segments of a value that have a cell at each address at which other segments make it whole make it whole
pub record Agrees (kind : Kind) (IsWhole : Cells → List ℕ → Type 0) : Type 0 where
  pub more : (gs hs : List Segment) (x : List ℕ) → kind.IsValue x → AreParts kind x gs → AreParts kind x hs
      → ((a : ℕ) (cell : List ℕ) → get (cells_of gs) a ≡ Some cell → (other : List ℕ)
      × (get (cells_of hs) a ≡ Some other)) → IsWhole (cells_of gs) x → IsWhole (cells_of hs) x

module _ (laws : PlanLaws) (d m now : ℕ) (kind : Kind) (pick : Message → Option Fragment) (of : Option Message → Mark)
    (plan : List Broadcast) (log : List (Option Message)) (input : Input) (alike : PicksWhatIsMarked pick of)
    (law : IsLawful d kind plan (marks of log)) (near : IsHeardNear d m now log input)
    (rising : (t u r s : ℕ) → CameFrom input t r → CameFrom input u s → t < u → r < s) (some : 0 < d) where
  -- the log up to slot u, as who misses nothing hears it, and the segments in it
  abbrev whole : ℕ → Input
  whole u = record {
    first = 0;
    heard = first_entries (u + 1) log;
    origins = own_origins 0 (first_entries (u + 1) log);
  }

  abbrev its_segments : ℕ → List Segment
  its_segments u = segments pick 0 (first_entries (u + 1) log)

  whole_near : (u : ℕ) → u < length log → IsHeardNear d d u log (whole u)
  whole_near u below =
      subst (λ n. IsHeardNear n d u log (whole u)) (omega arith)
      (own_is_near (d + 0) d u log (whole u)
      (late_hears 0 d u log (whole u)
      (no_slot_late log 0 (first_entries (u + 1) log) (λ s entry at. inr (entry_in_first (u + 1) log s entry at).0))
      (omega (arith, first_length (u + 1) log (omega (arith, below))))))

  -- a segment that the receiver got is one of them
  image : (u : ℕ) (g : Segment) (s : ℕ) → IsPicked pick input.first input.heard g → CameFrom input g.slot s → s ≤ u
      → IsIn (its_segments u) (came_in s g.fragment)
  image u g s picked from below =
      let came = arrival log input g.slot picked.message near.heard
      (is_marked pick of picked.message g.fragment alike picked.fragment) picked.came in
      let same = one_origin input g.slot came.slot s came.from from in
      in_segments pick 0 (first_entries (u + 1) log) s picked.message g.fragment
      (entry_of_first (u + 1) log s (Some picked.message)
      (subst (λ r. SentIn log r (Some picked.message)) same came.sent) (omega (arith, below))) picked.fragment

  -- those that were sent with the broadcast have its flag
  flags : (u s number : ℕ) (b : Broadcast) → HasNumber plan number b → Covers b u → Covers b s → (gs : List Segment)
      → AllByRecursion (IsPicked pick 0 (first_entries (u + 1) log)) gs → HaveFlag b.flag s gs
  flags u s number b planned to from [] all = tt
  flags u s number b planned to from (x ∷ gs) all = (flag, flags u s number b planned to from gs all.1)
    where
      flag : s ≤ x.slot → x.fragment.flag ≡ b.flag
      flag since =
          let at = entry_in_first (u + 1) log x.slot (Some all.0.message) all.0.came in
          let sent = rw (alike.picked all.0.message x.fragment all.0.fragment)
          at (mark_sent of log x.slot (Some all.0.message) at.0) in
          let one = law.fragments x.slot x.fragment sent in
          let here : Covers b x.slot =
          record { from = omega (arith, from.from, since); to = omega (arith, at.1, to.to) } in
          one.is.flag
          ∙ ap (λ (c : Broadcast). c.flag) (one_covers laws d plan one.number number one.broadcast b x.slot
          law.spaced one.planned planned one.is.covers here)

  module _ (g : Segment) (older : List Segment) (l : LiesInOne d now kind plan input g older)
      (picked : AllByRecursion (IsPicked pick input.first input.heard) (g ∷ older)) (close : AreClose m (g ∷ older)) where
    abbrev b : Broadcast
    b = l.broadcast

    abbrev u : ℕ
    u = l.all.0.slot

    -- the slots in which they were sent fall
    below : (h : Segment) (gs : List Segment) (all : AreOf kind input b (h ∷ gs)) → AreClose m (h ∷ gs) → (s : ℕ)
        → WasSentIn kind input b m d near.between (h ∷ gs) all s → s ≤ all.0.slot
    below h [] all c s (inl e) = omega (arith, e)
    below h [] all c s (inr none) = absurd none
    below h (x ∷ gs) all c s (inl e) = omega (arith, e)
    below h (x ∷ gs) all c s (inr there) =
        let falls = rising x.slot h.slot all.1.0.slot all.0.slot all.1.0.from all.0.from c.1 in
        omega (arith, below x gs all.1 c.2 s there, falls)

    -- what was sent in these slots
    sent_in : (gs : List Segment) (all : AreOf kind input b gs) → AllByRecursion (IsPicked pick input.first input.heard) gs
        → (s : ℕ) → WasSentIn kind input b m d near.between gs all s → s ≤ u
        → (y : Segment) × IsIn (its_segments u) y × (y.slot ≡ s)
    sent_in [] all its s was upto = absurd was
    sent_in (h ∷ gs) all its s (inl e) upto =
        (came_in s h.fragment, image u h s its.0 (subst (CameFrom input h.slot) (sym e) all.0.from) upto, refl)
    sent_in (h ∷ gs) all its s (inr there) upto = sent_in gs all.1 its.1 s there upto

    reached : u < length log
    reached =
        let came = arrival log input g.slot picked.0.message near.heard
        (is_marked pick of picked.0.message g.fragment alike picked.0.fragment) picked.0.came in
        let same = one_origin input g.slot came.slot u came.from l.all.0.from in
        omega (arith, before_end 0 log came.slot (Some picked.0.message) came.sent, same)

    -- each segment of the run is one of who misses nothing
    in_whole : (h : Segment) (s : ℕ) → WasSentIn kind input b m d near.between (g ∷ older) l.all s
        → IsPicked pick input.first input.heard h → CameFrom input h.slot s → Covers b s
        → IsIn (run d u (its_segments u)) (came_in s h.fragment)
    in_whole h s was its from covers =
        let upto = below g older l.all close s was in
        let last = sent_in (g ∷ older) l.all picked u (inl refl) (omega arith) in
        kept d b.flag (came_in s h.fragment) u (its_segments u)
        (subst (λ n. AreFalling n (its_segments u)) (omega (arith, first_length (u + 1) log (omega (arith, reached)))) (segments_fall pick 0 (first_entries (u + 1) log)))
        (flags u s l.number b l.planned l.all.0.has.covers covers (its_segments u)
        (all_picked pick 0 (first_entries (u + 1) log)))
        (λ v after to.
        let it = chain kind input b m d near.between g older l.all close s was v after to in
        let y = sent_in (g ∷ older) l.all picked it.0 it.1 (omega (arith, it.2, to)) in
        (y.0, y.1, omega (arith, y.2, it.2), omega (arith, y.2, it.3)))
        (omega (arith, some)) last.0 last.1 (omega (arith, last.2)) (image u h s its from upto)

    -- a segment of the run, with the slot in which it was sent
    member : (gs : List Segment) (all : AreOf kind input b gs)
        → AllByRecursion (IsPicked pick input.first input.heard) gs → (h : Segment) → IsIn gs h
        → (s : ℕ) × WasSentIn kind input b m d near.between gs all s × IsPicked pick input.first input.heard h
        × CameFrom input h.slot s × Covers b s
    member [] all its h is = absurd is
    member (x ∷ gs) all its h (inl e) = (
      all.0.slot,
      inl refl,
      subst (IsPicked pick input.first input.heard) (sym e) its.0,
      subst (λ (y : Segment). CameFrom input y.slot all.0.slot) (sym e) all.0.from,
      all.0.has.covers,
    )
    member (x ∷ gs) all its h (inr there) =
        let it = member gs all.1 its.1 h there in (it.0, inr it.1, it.2, it.3, it.4)

    -- the run of who misses nothing has a cell for each cell of the run
    more_cells : (a : ℕ) (cell : List ℕ) → get (cells_of (g ∷ older)) a ≡ Some cell
        → (other : List ℕ) × (get (cells_of (run d u (its_segments u))) a ≡ Some other)
    more_cells a cell held =
        let at = cell_has (λ a cell. (h : Segment) × IsIn (g ∷ older) h × (h.fragment.address ≡ a)) (g ∷ older)
        (all_are (g ∷ older) (g ∷ older) (λ h is. is)) a cell held in
        let it = member (g ∷ older) l.all picked at.0 at.1 in
        let some_cell = held_some (run d u (its_segments u)) (came_in it.0 at.0.fragment)
        (in_whole at.0 it.0 it.1 it.2 it.3 it.4) in
        (some_cell.0, subst (λ n. get (cells_of (run d u (its_segments u))) n ≡ Some some_cell.0) at.2 some_cell.1)

    -- so who misses nothing shows what the run makes whole
    shows_same : (IsWhole : Cells → List ℕ → Type 0) → IsService kind IsWhole → Agrees kind IsWhole
        → (x : List ℕ) → IsWhole (cells_of (g ∷ older)) x
        → (the_run : List Segment) → the_run ≡ run d u (its_segments u)
        → RunLiesInOne d u kind plan (whole u) the_run
        → (shown : Option (List ℕ)) → IsShown IsWhole (cells_of the_run) shown → shown ≡ Some x
    shows_same IsWhole service agrees x is the_run same lies shown so = by the_run same lies shown so
      where
        bytes : x ≡ b.bytes
        bytes = bytes_of_run d now kind IsWhole plan input g older x service law.values l is

        last : IsIn (run d u (its_segments u)) (came_in u g.fragment)
        last = in_whole g u (inl refl) picked.0 l.all.0.from l.all.0.has.covers

        one : (h : Segment) (gs : List Segment) → h ∷ gs ≡ run d u (its_segments u)
            → (lies : LiesInOne d u kind plan (whole u) h gs) → lies.broadcast ≡ b
        one h gs same lies =
            let its = all_in (λ y. IsSegmentOf kind (whole u) y lies.broadcast) (h ∷ gs) (came_in u g.fragment) lies.all
            (subst (λ r. IsIn r (came_in u g.fragment)) (sym same) last) in
            let at : its.slot ≡ u = own_slot (first_entries (u + 1) log) u its.slot its.from in
            one_covers laws d plan lies.number l.number lies.broadcast b u law.spaced lies.planned l.planned
            (subst (Covers lies.broadcast) at its.has.covers) l.all.0.has.covers

        by : (the_run : List Segment) → the_run ≡ run d u (its_segments u)
            → RunLiesInOne d u kind plan (whole u) the_run
            → (shown : Option (List ℕ)) → IsShown IsWhole (cells_of the_run) shown → shown ≡ Some x
        by [] same lies shown so = absurd (subst (λ r. IsIn r (came_in u g.fragment)) (sym same) last)
        by (h ∷ gs) same lies None so =
            let own = subst (λ c. AreOf kind (whole u) c (h ∷ gs)) (one h gs same lies) lies.all in
            absurd (so x (agrees.more (g ∷ older) (h ∷ gs) x
            (subst kind.IsValue (sym bytes) (law.values l.number b l.planned))
            (subst (λ y. AreParts kind y (g ∷ older)) (sym bytes) (parts_of kind input b (g ∷ older) l.all))
            (subst (λ y. AreParts kind y (h ∷ gs)) (sym bytes) (parts_of kind (whole u) b (h ∷ gs) own))
            (λ a cell held. subst (λ r. (other : List ℕ) × (get (cells_of r) a ≡ Some other)) (sym same)
            (more_cells a cell held)) is))
        by (h ∷ gs) same lies (Some y) so =
            ap Some (bytes_of_run d u kind IsWhole plan (whole u) h gs y service law.values lies so
            ∙ ap (λ (c : Broadcast). c.bytes) (one h gs same lies) ∙ sym bytes)

-- ---- texts and names

-- a byte that is held up to the end of the text is held in each other segments of it
text_byte : (gs hs : List Segment) (x : List ℕ) → AreParts padded_texts x hs
    → ((a : ℕ) (cell : List ℕ) → get (cells_of gs) a ≡ Some cell → (other : List ℕ)
    × (get (cells_of hs) a ≡ Some other)) → (i b : ℕ) → i ≤ length x → HasByte (cells_of gs) i b
    → HasByte (cells_of hs) i (slice_index (text_body x) i)
text_byte gs hs x q more i b upto has =
    let other = more (i / 4) has.cell has.held in
    let place : 4 * (i / 4) + i % 4 ≡ i = omega arith in
    record {
      cell = other.0;
      held = other.1;
      byte = cell_has (HoldsUpToEnd x) hs (all_hold x hs q) (i / 4) other.0 other.1 (i % 4) (omega arith)
          (omega (arith, place, upto)) ∙ ap (slice_index (text_body x)) place;
    }

pub texts_agree : Agrees padded_texts IsWholeText
texts_agree = record {
  more = λ gs hs x value p q more w. record {
    plain = w.plain;
    spelled = record {
      bytes = λ i within. subst (HasByte (cells_of hs) i) (text_below x i within)
          (text_byte gs hs x q more i (slice_index x i) (omega (arith, within)) (w.spelled.bytes i within));
    };
    ends = elim w.ends [
      | inl full ↦ inl full
      | inr end ↦ inr (
        end.0,
        subst (HasByte (cells_of hs) (length x)) (text_end x end.0)
            (text_byte gs hs x q more (length x) 13 (omega arith) end.1),
      )
    ];
  };
}

all_segments : (x : List ℕ) (gs : List Segment) → AreParts names x gs
    → AllByRecursion (λ (g : Segment). g.fragment.bytes ≡ segment_of (name_body x) g.fragment.address) gs
all_segments x [] all = tt
all_segments x (g ∷ older) all = (all.0.bytes, all_segments x older all.1)

pub names_agree : Agrees names IsWholeName
names_agree = record {
  more = λ gs hs x value p q more w. record {
    eight = w.eight;
    spelled = record {
      bytes = λ i within.
          let has = w.spelled.bytes i within in
          let other = more (i / 4) has.cell has.held in
          let one = cell_has (λ a cell. cell ≡ segment_of (name_body x) a) gs (all_segments x gs p) (i / 4) has.cell has.held in
          let two = cell_has (λ a cell. cell ≡ segment_of (name_body x) a) hs (all_segments x hs q) (i / 4) other.0 other.1 in
          record {
            cell = other.0;
            held = other.1;
            byte = ap (λ c. slice_index c (i % 4)) (two ∙ sym one) ∙ has.byte;
          };
    };
  };
}

-- ---- what a receiver shows, and what who misses nothing shows

pub run_is : (pick : Message → Option Fragment) (m first t : ℕ) (heard : List (Option Message))
    → first + length heard ≡ t + 1 → run_at pick m first heard ≡ run m t (segments pick first heard)
run_is pick m first t heard e = grind arith

-- in the slot in which the last segment of a run was sent, who misses nothing shows what the run makes whole
pub shown_by_whole : PlanLaws → (d m now t : ℕ) (kind : Kind) (pick : Message → Option Fragment)
    (of : Option Message → Mark) (plan : List Broadcast) (log : List (Option Message)) (input : Input)
    → PicksWhatIsMarked pick of → IsLawful d kind plan (marks of log) → IsHeardNear d m now log input
    → ((t u r s : ℕ) → CameFrom input t r → CameFrom input u s → t < u → r < s)
    → input.first + length input.heard ≡ t + 1 → 0 < d → (IsWhole : Cells → List ℕ → Type 0) → IsService kind IsWhole
    → Agrees kind IsWhole → (x : List ℕ) → IsWhole (cells_of (run_at pick m input.first input.heard)) x
    → (v : ℕ) × (u : ℕ) × CameFrom input v u × (u ≤ now) × (now < u + d) × (u < length log)
    × ((shown : Option (List ℕ))
    → IsShown IsWhole (cells_of (run_at pick d 0 (first_entries (u + 1) log))) shown → shown ≡ Some x)
shown_by_whole laws d m now t kind pick of plan log input alike law near rising next some IsWhole service agrees x is =
    let its = segments pick input.first input.heard in
    let same = run_is pick m input.first t input.heard next in
    by (run m t its) (subst (RunLiesInOne d now kind plan input) same
    (heard_run_lies laws d m now kind pick of plan log input alike law near))
    (all_run (IsPicked pick input.first input.heard) m t its (all_picked pick input.first input.heard))
    (close_run m t its (subst (λ n. AreFalling n its) next (segments_fall pick input.first input.heard)))
    (subst (λ r. IsWhole (cells_of r) x) same is)
  where
    by : (the_run : List Segment) → RunLiesInOne d now kind plan input the_run
        → AllByRecursion (IsPicked pick input.first input.heard) the_run → AreClose m the_run
        → IsWhole (cells_of the_run) x
        → (v : ℕ) × (u : ℕ) × CameFrom input v u × (u ≤ now) × (now < u + d) × (u < length log)
        × ((shown : Option (List ℕ))
        → IsShown IsWhole (cells_of (run_at pick d 0 (first_entries (u + 1) log))) shown → shown ≡ Some x)
    by [] lies picked close is = absurd (service.none x is)
    by (g ∷ older) l picked close is =
        let below = reached laws d m now kind pick of plan log input alike law near rising some g older l picked close in (
          g.slot,
          l.all.0.slot,
          l.all.0.from,
          l.past,
          l.recent,
          below,
          λ shown so. shows_same laws d m now kind pick of plan log input alike law near rising some g older l picked close
              IsWhole service agrees x is (run_at pick d 0 (first_entries (l.all.0.slot + 1) log))
              (run_is pick d 0 l.all.0.slot (first_entries (l.all.0.slot + 1) log)
              (omega (arith, first_length (l.all.0.slot + 1) log (omega (arith, below)))))
              (heard_run_lies laws d d l.all.0.slot kind pick of plan log
              (whole laws d m now kind pick of plan log input alike law near rising some l.all.0.slot) alike law
              (whole_near laws d m now kind pick of plan log input alike law near rising some l.all.0.slot below)) shown so,
        )

-- ---- a recording of a running station, with slots in front of it: its segments, and what a receiver of it hears

-- ---- what was sent is sent n slots later, if n slots stand before the log

length_preceded : (n : ℕ) (log : List (Option Message)) → length (preceded n log) ≡ length log + n
length_preceded n log = grind (arith, length-append, length-replicate)

sent_later : (n : ℕ) (log : List (Option Message)) (s : ℕ) (entry : Option Message) → SentIn log s entry
    → SentIn (preceded n log) (s + n) entry
sent_later n [] s entry h = absurd h
sent_later n (newest ∷ before) s entry (inl h) = inl (omega (arith, h.0, length_preceded n before), h.1)
sent_later n (newest ∷ before) s entry (inr h) = inr (sent_later n before s entry h)

-- ---- the marks without tags

abbrev pub only_segments : Mark → Mark
only_segments Nothing = Nothing
only_segments (Sends p) = Sends p
only_segments (Tagged pair) = Nothing

-- the marks of a log without its tags
abbrev pub segment_mark : (Option Message → Mark) → Option Message → Mark
segment_mark of x = only_segments (of x)

-- tags are no segment
abbrev pub TagsSendNothing : (Option Message → Mark) → Type 0
TagsSendNothing of = (pair : PairFields) (p : Fragment) → of (Some (Tags pair)) ≡ Sends p → ⊥

counted_same : (of : Option Message → Mark) → TagsSendNothing of → (before : List (Option Message)) (x : Option Message)
    (p : Fragment) → of x ≡ Sends p → of (counted_after before x) ≡ Sends p
counted_same of none before None p e = e
counted_same of none before (Some (Text f a b)) p e = e
counted_same of none before (Some (Name f a b)) p e = e
counted_same of none before (Some (Announce code bits aid)) p e = e
counted_same of none before (Some (Tags pair)) p e = absurd (none pair p e)
counted_same of none before (Some Other) p e = e

sends_so : (m : Mark) (p : Fragment) → Sends p ≡ only_segments m → m ≡ Sends p
sends_so m p e = grind arith

no_tagged : (m : Mark) (pair : PairFields) → Tagged pair ≡ only_segments m → ⊥
no_tagged m pair e = grind arith

from_first_long : (log : List (Option Message)) → length (from_first_text log) ≡ length log
from_first_long [] = refl
from_first_long (x ∷ before) = ap suc (from_first_long before)

segments_same : (of : Option Message → Mark) → TagsSendNothing of → (log : List (Option Message)) (s : ℕ) (p : Fragment)
    → IsMarkIn (marks (segment_mark of) log) s (Sends p) → IsMarkIn (marks of (from_first_text log)) s (Sends p)
segments_same of none [] s p is = absurd is
segments_same of none (x ∷ before) s p (inl (at, is)) = inl (
  omega (arith, at, marks_long (segment_mark of) before, marks_long of (from_first_text before), from_first_long before),
  sym (counted_same of none (from_first_text before) x p (sends_so (of x) p is)),
)
segments_same of none (x ∷ before) s p (inr there) = inr (segments_same of none before s p there)

none_tagged : (of : Option Message → Mark) (log : List (Option Message)) (s : ℕ) (pair : PairFields)
    → IsMarkIn (marks (segment_mark of) log) s (Tagged pair) → ⊥
none_tagged of [] s pair is = is
none_tagged of (x ∷ before) s pair (inl here) = no_tagged (of x) pair here.1
none_tagged of (x ∷ before) s pair (inr there) = none_tagged of before s pair there

-- what is lawful for a recording is lawful for its segments
pub lawful_segments : (of : Option Message → Mark) → TagsSendNothing of → (d : ℕ) (kind : Kind) (plan : List Broadcast)
    (log : List (Option Message)) → IsLawful d kind plan (marks of (from_first_text log))
    → IsLawful d kind plan (marks (segment_mark of) log)
lawful_segments of none d kind plan log law = record {
  spaced = law.spaced;
  values = law.values;
  fragments = λ s p is. law.fragments s p (segments_same of none log s p is);
  tags = λ s pair is. absurd (none_tagged of log s pair is);
}

pub segments_marked : (pick : Message → Option Fragment) (of : Option Message → Mark) → PicksWhatIsMarked pick of
    → PicksWhatIsMarked pick (segment_mark of)
segments_marked pick of alike = record {
  picked = λ message p e. ap only_segments (alike.picked message p e);
  unmarked = λ entry none. ap only_segments (alike.unmarked entry none);
}

-- ---- an input, as the slots are counted from e slots before

abbrev pub later_origins : ℕ → List (Option ℕ) → List (Option ℕ)
later_origins e origins = map (option_map (λ (s : ℕ). s + e)) origins

abbrev pub later_input : ℕ → List (Option Message) → List (Option ℕ) → Input
later_input e heard origins = record { first = 0; heard = heard; origins = later_origins e origins }

pub origin_before : (e : ℕ) (origins : List (Option ℕ)) (t s : ℕ) → HasEntry 0 (later_origins e origins) t (Some s)
    → (r : ℕ) × (s ≡ r + e) × HasEntry 0 origins t (Some r)
origin_before e origins t s has =
    let it = entry_of_map (option_map (λ (s : ℕ). s + e)) origins t (Some s) has in
    by it.0 it.1 it.2
  where
    by : (o : Option ℕ) → HasEntry 0 origins t o → Some s ≡ option_map (λ (s : ℕ). s + e) o
        → (r : ℕ) × (s ≡ r + e) × HasEntry 0 origins t (Some r)
    by None at is = absurd (cc)
    by (Some r) at is = (r, same_Some s (r + e) is, at)

pub near_later : (d m t e : ℕ) (log heard : List (Option Message)) (origins : List (Option ℕ))
    → IsHeardNear d m t log record { first = 0; heard = heard; origins = origins }
    → IsHeardNear d m (t + e) (preceded e log) (later_input e heard origins)
near_later d m t e log heard origins near = record {
  heard = record {
    beside = length-map origins (option_map (λ (s : ℕ). s + e)) ∙ near.heard.beside;
    each = λ u o entry from at.
        let it = entry_of_map (option_map (λ (s : ℕ). s + e)) origins u o from in
        subst (λ p. IsOfItsOriginIfMarked (preceded e log) p entry) (sym it.2)
        (each it.0 entry (near.heard.each u it.0 entry it.1 at));
  };
  between = λ u v r s p q close.
      let a = origin_before e origins u r p in
      let b = origin_before e origins v s q in
      omega (arith, near.between u v a.0 b.0 a.2 b.2 close, a.1, b.1);
  since = λ u s p close.
      let a = origin_before e origins u s p in omega (arith, near.since u a.0 a.2 close, a.1);
  past = λ u s p. let a = origin_before e origins u s p in omega (arith, near.past u a.0 a.2, a.1);
  tags = λ u v r s pair begins after has p q.
      let a = origin_before e origins u r p in
      let b = origin_before e origins v s q in
      omega (arith, near.tags u v a.0 b.0 pair begins after has a.2 b.2, a.1, b.1);
}
  where
    each : (o : Option ℕ) (entry : Option Message) → IsOfItsOriginIfMarked log o entry
        → IsOfItsOriginIfMarked (preceded e log) (option_map (λ (s : ℕ). s + e) o) entry
    each None entry is = is
    each (Some s) entry is = sent_later e log s entry is

-- ---- segments that came e slots later

abbrev pub AreLater : ℕ → List Segment → List Segment → Type 0
AreLater e [] [] = Unit {0}
AreLater e [] (y ∷ ys) = ⊥
AreLater e (x ∷ xs) [] = ⊥
AreLater e (x ∷ xs) (y ∷ ys) = (y.slot ≡ x.slot + e) × (y.fragment ≡ x.fragment) × AreLater e xs ys

none_in_front : (pick : Message → Option Fragment) (n : ℕ) → segments pick 0 (replicate n None) ≡ []
none_in_front pick zero = refl
none_in_front pick (suc n) = none_in_front pick n

segments_later : (pick : Message → Option Fragment) (e : ℕ) (heard : List (Option Message))
    → AreLater e (segments pick 0 heard) (segments pick 0 (preceded e heard))
segments_later pick e [] = subst (AreLater e []) (sym (none_in_front pick e)) tt
segments_later pick e (x ∷ before) =
    let rest = segments_later pick e before in
    let long : length (preceded e before) ≡ length before + e =
    (let none : Option Message = None in omega (arith, length-append before (replicate e none), length-replicate e none)) in
    grind arith

before_later : (d : ℕ) (f : Bool) (n e : ℕ) (xs ys : List Segment) → AreLater e xs ys
    → AreLater e (run_before d f n xs) (run_before d f (n + e) ys)
before_later d f n e [] [] are = tt
before_later d f n e [] (y ∷ ys) are = absurd are
before_later d f n e (x ∷ xs) [] are = absurd are
before_later d f n e (x ∷ xs) (y ∷ ys) are =
    let rest = before_later d f x.slot e xs ys are.2 in grind (arith, nat_tests)

run_later : (d n e : ℕ) (xs ys : List Segment) → AreLater e xs ys → AreLater e (run d n xs) (run d (n + e) ys)
run_later d n e [] [] are = tt
run_later d n e [] (y ∷ ys) are = absurd are
run_later d n e (x ∷ xs) [] are = absurd are
run_later d n e (x ∷ xs) (y ∷ ys) are =
    let rest = before_later d x.fragment.flag x.slot e xs ys are.2 in grind (arith, nat_tests)

cells_later : (e : ℕ) (xs ys : List Segment) → AreLater e xs ys → cells_of ys ≡ cells_of xs
cells_later e [] [] are = refl
cells_later e [] (y ∷ ys) are = absurd are
cells_later e (x ∷ xs) [] are = absurd are
cells_later e (x ∷ xs) (y ∷ ys) are = let rest = cells_later e xs ys are.2 in let same = are.1 in rw (rest, same) refl

-- ---- who misses nothing, of a complete log or of a recording

-- in some slot, who misses nothing shows what a receiver of these messages shows
abbrev pub IsShownByWhole : (Message → Option Fragment) → (Cells → List ℕ → Type 0) → ℕ → ℕ → List (Option Message)
    → Type 0
IsShownByWhole pick IsWhole m k log =
    (t : ℕ) (heard : List (Option Message)) (origins : List (Option ℕ)) (x : List ℕ)
    → IsHeardLate k log record { first = 0; heard = heard; origins = origins } → length heard ≡ t + 1
    → IsWhole (cells_of (run_at pick m 0 heard)) x
    → (u : ℕ) × (u ≤ t) × (t < u + (m + k)) × (u < length log) × ((shown : Option (List ℕ))
    → IsShown IsWhole (cells_of (run_at pick (m + k) 0 (first_entries (u + 1) log))) shown → shown ≡ Some x)

module _ (laws : PlanLaws) (m k : ℕ) (some : 0 < m) (kind : Kind) (pick : Message → Option Fragment)
    (of : Option Message → Mark) (IsWhole : Cells → List ℕ → Type 0) (alike : PicksWhatIsMarked pick of)
    (service : IsService kind IsWhole) (agrees : Agrees kind IsWhole) (plan : List Broadcast)
    (log : List (Option Message)) where
  near_so : (t : ℕ) (heard : List (Option Message)) (origins : List (Option ℕ))
      → IsHeardLate k log record { first = 0; heard = heard; origins = origins } → length heard ≡ t + 1
      → IsHeardNear (m + k) m t log record { first = 0; heard = heard; origins = origins }
  near_so t heard origins late long =
      let input : Input = record { first = 0; heard = heard; origins = origins } in
      own_is_near (m + k) m t log input (late_hears k m t log input late (omega (arith, long)))

  pub by_whole : IsLawful (m + k) kind plan (marks of log) → IsShownByWhole pick IsWhole m k log
  by_whole law t heard origins x late long is =
      let it = shown_by_whole laws (m + k) m t t kind pick of plan log
      (record { first = 0; heard = heard; origins = origins }) alike law (near_so t heard origins late long)
      late.order.rising (omega (arith, long)) (omega (arith, some)) IsWhole service agrees x is in
      (it.1, it.3, it.4, it.5, it.6)

  same_cells : (e u r : ℕ) → u ≡ r + e → r < length log
      → cells_of (run_at pick (m + k) 0 (first_entries (u + 1) (preceded e log)))
      ≡ cells_of (run_at pick (m + k) 0 (first_entries (r + 1) log))
  same_cells e u r is below =
      let d : ℕ = m + k in
      let some_of = first_entries (r + 1) log in
      let none : Option Message = None in
      let count = first_length (r + 1) log (omega (arith, below)) in
      let next : u + 1 ≡ r + 1 + e = omega (arith, is) in
      ap (λ n. cells_of (run_at pick d 0 (first_entries n (preceded e log)))) next
      ∙ ap (λ l. cells_of (run_at pick d 0 l)) (preceded_first e (r + 1) log)
      ∙ ap cells_of (run_is pick d 0 (r + e) (preceded e some_of)
      (omega (arith, count, length-append some_of (replicate e none), length-replicate e none)))
      ∙ cells_later e (run d r (segments pick 0 some_of)) (run d (r + e) (segments pick 0 (preceded e some_of)))
      (run_later d r e (segments pick 0 some_of) (segments pick 0 (preceded e some_of)) (segments_later pick e some_of))
      ∙ ap cells_of (sym (run_is pick d 0 r some_of (omega (arith, count))))

  pub by_whole_recorded : TagsSendNothing of
      → IsLawful (m + k) kind plan (marks of (from_first_text (preceded (m + k) log)))
      → IsShownByWhole pick IsWhole m k log
  by_whole_recorded no_tags law t heard origins x late long is =
      let e : ℕ = m + k in
      let none : Option Message = None in
      let it = shown_by_whole laws (m + k) m (t + e) t kind pick (segment_mark of) plan (preceded e log)
      (later_input e heard origins) (segments_marked pick of alike)
      (lawful_segments of no_tags (m + k) kind plan (preceded e log) law)
      (near_later (m + k) m t e log heard origins (near_so t heard origins late long))
      (λ u v r s p q before.
      let a = origin_before e origins u r p in
      let b = origin_before e origins v s q in
      omega (arith, late.order.rising u v a.0 b.0 a.2 b.2 before, a.1, b.1))
      (omega (arith, long)) (omega (arith, some)) IsWhole service agrees x is in
      let from = origin_before e origins it.0 it.1 it.2 in
      let below : from.0 < length log =
      omega (arith, it.5, from.1, length-append log (replicate e none), length-replicate e none) in (
        from.0,
        omega (arith, it.3, from.1),
        omega (arith, it.4, from.1),
        below,
        λ shown so. it.6 shown
            (subst (λ c. IsShown IsWhole c shown) (sym (same_cells e it.1 from.0 from.1 below)) so),
      )
