-- Lemmas: a run lies in one broadcast. A receiver knows only one bit of a broadcast, but any two neighbours of a run
-- have one flag and were sent less than d slots apart, in whatever order and by whatever clock they came.
use Rattle.std.proofs.Common.{arith, ◌≡◌, ℕ, List, [], ◌∷◌, sym, ◌∙◌, ◌+◌, ◌<◌, ◌≤◌, Bool, length, Option, Some, refl}
use Rattle.std.proofs.Common.{subst, nat_eq, cond, nat_lt, IfSome, nat_cmp}
use Rattle.std.specs.FinMap.{empty, get, get-empty, get-insert, insert}
use Rattle.std.specs.List.{AllByRecursion}
use Rattle.rds_encoder.specs.Plan.{Broadcast, Covers, HasNumber}
use Rattle.rds_receiver.specs.Receipts.{Segment, segments}
use Rattle.rds_safety.specs.Late.{CameFrom, Input}
use Rattle.rds_safety.specs.Lawful.{HasFragment, HasOne, Kind, IsLawful, IsFragmentOf, names, texts}
use Rattle.std.proofs.lemmas.Bool.{cond_both}
use Rattle.rds_fields.specs.declared.message.Message.{Message}
use Rattle.rds_encoder.specs.Spaced.{IsSpaced}
use Rattle.rds_receiver.specs.declared.fragment.Fragment.{Fragment}
use Rattle.rds_receiver.specs.Run.{run, run_at, run_before, cells_of}
use Rattle.rds_safety.specs.Laws.{PlanLaws}
use Rattle.rds_safety.specs.Marks.{Mark, Nothing, Sends, marks}
use Rattle.rds_safety.specs.Near.{IsHeard, IsHeardNear, IsUnmarked}
use Rattle.rds_safety.proofs.Entries.{arrival, mark_sent, one_origin, AreFalling, IsPicked, all_picked, segments_fall}
use Rattle.std.specs.Cmp.{unsigned_tied}
use Rattle.std.proofs.lemmas.Cmp.{nat_cmp_total}
use Rattle.rds_assembly.specs.Body.{AreSegmentsOf, name_body, segment_of, text_body}
use Rattle.rds_assembly.specs.Cells.{Cells}
use Rattle.rds_assembly.specs.OwnSegments.{own_name, own_text}
use Rattle.rds_assembly.specs.ServiceLaws.{no_name_of_none, no_text_of_none}
use Rattle.rds_assembly.specs.Whole.{IsWholeName, IsWholeText}
use Rattle.rds_receiver.specs.Shown.{IsShown}
use Rattle.rds_safety.specs.Safe.{HaveNearSources, RunWasOnAir}
use Rattle.rds_safety.specs.Source.{IsSource, LastWasSentIn}

-- ---- if the flag separates each two neighbours of a run, the run is of one broadcast, or of some that are alike,
-- whatever makes the receiver drop segments

-- the segment was sent in a slot in which the broadcast has its fragment
pub record IsSegmentOf (kind : Kind) (input : Input) (g : Segment) (b : Broadcast) : Type 0 where
  pub slot : ℕ
  pub from : CameFrom input g.slot slot
  pub has : HasFragment kind slot g.fragment b

-- the segment is of some broadcast of the plan
abbrev pub IsOfAny : Kind → List Broadcast → Input → Segment → Type 0
IsOfAny kind plan input g = HasOne plan (IsSegmentOf kind input g)

-- the segments are all of this broadcast
abbrev pub AreOf : Kind → Input → Broadcast → List Segment → Type 0
AreOf kind input b gs = AllByRecursion (λ (g : Segment). IsSegmentOf kind input g b) gs

-- the flag separates slots r and s: broadcasts with one flag that cover them are alike
abbrev pub IsTold : (Broadcast → Broadcast → Type 0) → List Broadcast → ℕ → ℕ → Type 0
IsTold Alike plan r s =
    (k l : ℕ) (a b : Broadcast) → HasNumber plan k a → HasNumber plan l b → Covers a r → Covers b s → a.flag ≡ b.flag
    → Alike a b

-- a segment and the one before it have one flag, and it separates their broadcasts
pub record IsJoined (Alike : Broadcast → Broadcast → Type 0) (plan : List Broadcast) (input : Input) (g h : Segment)
    : Type 0 where
  pub flag : g.fragment.flag ≡ h.fragment.flag
  pub told : (r s : ℕ) → CameFrom input h.slot r → CameFrom input g.slot s → IsTold Alike plan r s

-- this holds of each two neighbours of the run
abbrev pub AreJoined : (Broadcast → Broadcast → Type 0) → List Broadcast → Input → List Segment → Type 0
AreJoined Alike plan input [] = Unit {0}
AreJoined Alike plan input (g ∷ []) = Unit {0}
AreJoined Alike plan input (g ∷ h ∷ older) = IsJoined Alike plan input g h × AreJoined Alike plan input (h ∷ older)

-- the segment is of some broadcast that is alike
pub record IsSegmentLike (Alike : Broadcast → Broadcast → Type 0) (kind : Kind) (plan : List Broadcast) (input : Input)
    (b : Broadcast) (g : Segment) : Type 0 where
  pub number : ℕ
  pub broadcast : Broadcast
  pub planned : HasNumber plan number broadcast
  pub is : IsSegmentOf kind input g broadcast
  pub alike : Alike broadcast b

-- segments before one of a broadcast that is like b are like b
pub all_like : (Alike : Broadcast → Broadcast → Type 0) → ((x y z : Broadcast) → Alike x y → Alike y z → Alike x z)
    → (kind : Kind) (plan : List Broadcast) (input : Input) (b : Broadcast) (g : Segment) (older : List Segment) (l : ℕ)
    (c : Broadcast)
    → HasNumber plan l c → IsSegmentOf kind input g c → Alike c b → AreJoined Alike plan input (g ∷ older)
    → AllByRecursion (IsOfAny kind plan input) older
    → AllByRecursion (IsSegmentLike Alike kind plan input b) older
all_like Alike on kind plan input b g [] l c p own near joined all = tt
all_like Alike on kind plan input b g (h ∷ older) l c p own near joined all =
    let its = all.0 in
    let like = joined.0.told its.is.slot own.slot its.is.from own.from its.number l its.broadcast c its.planned p
    its.is.has.covers own.has.covers
    (sym its.is.has.flag ∙ sym joined.0.flag ∙ own.has.flag) in
    let near_too = on its.broadcast c b like near in
    grind (arith, all_like Alike on kind plan input b h older)

-- if only the same is alike, they are of one broadcast
pub all_of_one : (kind : Kind) (plan : List Broadcast) (input : Input) (l : ℕ) (b : Broadcast) (g : Segment)
    (older : List Segment) → HasNumber plan l b → IsSegmentOf kind input g b
    → AreJoined (λ x y. x ≡ y) plan input (g ∷ older) → AllByRecursion (IsOfAny kind plan input) older
    → AreOf kind input b older
all_of_one kind plan input l b g older p own joined all = search (arith, all_like, by)
  where
    by : (gs : List Segment) → AllByRecursion (IsSegmentLike (λ x y. x ≡ y) kind plan input b) gs
        → AreOf kind input b gs
    by [] like = tt
    by (h ∷ gs) like = (rw like.0.alike at like.0.is, by gs like.1)

-- ---- a run lies in one broadcast

-- the fragment picked from a message is that of its mark, and an entry that is neither a segment nor tags has no mark
pub record PicksWhatIsMarked (pick : Message → Option Fragment) (of : Option Message → Mark) : Type 0 where
  pub picked : (message : Message) (p : Fragment) → pick message ≡ Some p → of (Some message) ≡ Sends p
  pub unmarked : (entry : Option Message) → IsUnmarked entry → of entry ≡ Nothing

-- so what is picked from is marked
pub is_marked : (pick : Message → Option Fragment) (of : Option Message → Mark) (message : Message) (p : Fragment)
    → PicksWhatIsMarked pick of → pick message ≡ Some p → IsUnmarked (Some message) → ⊥
is_marked pick of message p alike picks none =
    grind (arith, alike.picked message p picks, alike.unmarked (Some message) none)

-- each segment that was picked is of some broadcast
pub all_of_any : (d : ℕ) (kind : Kind) (pick : Message → Option Fragment) (of : Option Message → Mark)
    (plan : List Broadcast) (log : List (Option Message)) (input : Input) (gs : List Segment)
    → PicksWhatIsMarked pick of → IsLawful d kind plan (marks of log) → IsHeard log input
    → AllByRecursion (IsPicked pick input.first input.heard) gs → AllByRecursion (IsOfAny kind plan input) gs
all_of_any d kind pick of plan log input [] alike law hears all = tt
all_of_any d kind pick of plan log input (g ∷ gs) alike law hears all =
    let message = all.0.message in
    let came = arrival log input g.slot message hears (is_marked pick of message g.fragment alike all.0.fragment)
    all.0.came in
    let sent = rw (alike.picked message g.fragment all.0.fragment)
    at (mark_sent of log came.slot (Some message) came.sent) in
    search (arith, all_of_any d kind pick of plan log input gs alike law hears all.1)

-- the run lies in one broadcast, and its last segment was sent in the d slots up to slot t
pub record LiesInOne (d t : ℕ) (kind : Kind) (plan : List Broadcast) (input : Input) (g : Segment)
    (older : List Segment) : Type 0 where
  pub number : ℕ
  pub broadcast : Broadcast
  pub planned : HasNumber plan number broadcast
  pub all : AreOf kind input broadcast (g ∷ older)
  pub past : all.0.slot ≤ t
  pub recent : t < all.0.slot + d

-- the same for a run, if it is not empty
abbrev pub RunLiesInOne : ℕ → ℕ → Kind → List Broadcast → Input → List Segment → Type 0
RunLiesInOne d t kind plan input [] = Unit {0}
RunLiesInOne d t kind plan input (g ∷ older) = LiesInOne d t kind plan input g older

-- each segment of a run is one of the segments
pub all_before : (P : Segment → Type 0) (m : ℕ) (f : Bool) (s : ℕ) (gs : List Segment) → AllByRecursion P gs
    → AllByRecursion P (run_before m f s gs)
all_before P m f s [] all = tt
all_before P m f s (g ∷ older) all = grind (arith, all_before P m f g.slot older all.1)

module _ (laws : PlanLaws) (d m t : ℕ) (kind : Kind) (plan : List Broadcast) (log : List (Option Message))
    (input : Input) (spaced : IsSpaced d plan) (hears : IsHeardNear d m t log input) where
  -- so a run is joined
  joined_before : (f : Bool) (g : Segment) (gs : List Segment) → g.fragment.flag ≡ f → AreFalling g.slot gs
      → AreJoined (λ x y. x ≡ y) plan input (g ∷ run_before m f g.slot gs)
  joined_before f g [] e falls = tt
  joined_before f g (h ∷ older) e falls = grind (arith, joined_before f h older)

  run_lies : (n : ℕ) (gs : List Segment) → input.first + length input.heard ≡ n + 1 → AreFalling (n + 1) gs
      → AllByRecursion (IsOfAny kind plan input) gs → RunLiesInOne d t kind plan input (run m n gs)
  run_lies n [] next falls all = tt
  run_lies n (g ∷ older) next falls all =
      cond_both (nat_lt n (g.slot + m)) (g ∷ run_before m g.fragment.flag g.slot older) []
      (RunLiesInOne d t kind plan input)
      (λ near.
      let its = all.0.is in
      record {
        number = all.0.number;
        broadcast = all.0.broadcast;
        planned = all.0.planned;
        all = (
          its,
          all_of_one kind plan input all.0.number all.0.broadcast g (run_before m g.fragment.flag g.slot older)
              all.0.planned its
              (joined_before g.fragment.flag g older refl falls.1) (all_before (IsOfAny kind plan input) m
              g.fragment.flag g.slot older all.1),
        );
        past = hears.past g.slot its.slot its.from;
        recent = hears.since g.slot its.slot its.from (grind (arith));
      })
      (λ _. tt)

-- the run of what was heard lies in one broadcast
pub heard_run_lies : PlanLaws
    → (d m t : ℕ) (kind : Kind) (pick : Message → Option Fragment) (of : Option Message → Mark) (plan : List Broadcast)
    (log : List (Option Message)) (input : Input)
    → PicksWhatIsMarked pick of → IsLawful d kind plan (marks of log) → IsHeardNear d m t log input
    → RunLiesInOne d t kind plan input (run_at pick m input.first input.heard)
heard_run_lies laws d m t kind pick of plan log input alike law hears = by input.heard refl
  where
    by : (heard : List (Option Message)) → input.heard ≡ heard
        → RunLiesInOne d t kind plan input (run_at pick m input.first heard)
    by [] e = tt
    by (newest ∷ before) e =
        let n : ℕ = input.first + length before in
        let next : input.first + length input.heard ≡ n + 1 = rw e (omega arith) in
        let of_any = all_of_any d kind pick of plan log input (segments pick input.first input.heard) alike law
        hears.heard (all_picked pick input.first input.heard) in
        run_lies laws d m t kind plan log input law.spaced hears n (segments pick input.first (newest ∷ before)) next
        (rw (next, e) at (segments_fall pick input.first input.heard))
        (subst (λ (h : List (Option Message)). AllByRecursion (IsOfAny kind plan input) (segments pick input.first h))
        e of_any)

-- ---- a run in one broadcast makes the bytes of that broadcast whole, or nothing

-- the cells with one more cell have it at its address, and the others as before
pub get-put : (cells : Cells) (k : ℕ) (cell : List ℕ) (a : ℕ)
    → get (insert cells k cell) a ≡ cond (nat_eq a k) (Some cell) (get cells a)
get-put cells k cell a = rw (← unsigned_tied a k) (get-insert nat_cmp_total cells k cell a)

-- what holds of the address and the bytes of each segment holds of each cell
pub cell_has : (P : ℕ → List ℕ → Type 0) (gs : List Segment)
    → AllByRecursion (λ (g : Segment). P g.fragment.address g.fragment.bytes) gs
    → (a : ℕ) (cell : List ℕ) → get (cells_of gs) a ≡ Some cell → P a cell
cell_has P [] all a cell e = (let none = get-empty {X = List ℕ} nat_cmp a in absurd (cc))
cell_has P (g ∷ older) all a cell e = grind (arith, cell_has P older all.1 a cell, get-put)

-- the segments are of a value
abbrev pub AreParts : Kind → List ℕ → List Segment → Type 0
AreParts kind x gs = AllByRecursion (λ (g : Segment). kind.HasPart x g.fragment) gs

-- each cell of fragments of one body is the body's segment at its address
are_segments : (body : List ℕ) (gs : List Segment) → AllByRecursion (λ (g : Segment). IsFragmentOf body g.fragment) gs
    → AreSegmentsOf body (cells_of gs)
are_segments body gs all =
    record { taken = cell_has (λ a cell. cell ≡ segment_of body a) gs (by gs all) }
  where
    by : (gs : List Segment) → AllByRecursion (λ (g : Segment). IsFragmentOf body g.fragment) gs
        → AllByRecursion (λ (g : Segment). g.fragment.bytes ≡ segment_of body g.fragment.address) gs
    by [] all = tt
    by (g ∷ older) all = (all.0.bytes, by older all.1)

-- the segments of a broadcast are of its value
are_fragments : (kind : Kind) (input : Input) (b : Broadcast) (gs : List Segment) → AreOf kind input b gs
    → AreParts kind b.bytes gs
are_fragments kind input b [] all = tt
are_fragments kind input b (g ∷ older) all = (all.0.has.fragment, are_fragments kind input b older all.1)

-- a service: segments of a value make only this value whole, and no segments make nothing whole
pub record IsService (kind : Kind) (IsWhole : Cells → List ℕ → Type 0) : Type 0 where
  pub own : (gs : List Segment) (x y : List ℕ) → kind.IsValue x → AreParts kind x gs → IsWhole (cells_of gs) y → y ≡ x
  pub none : (x : List ℕ) → IsWhole empty x → ⊥

-- a service whose fragments are the segments of its body
pub record SendsItsBody (kind : Kind) : Type 0 where
  pub parts : (x : List ℕ) (p : Fragment) → kind.HasPart x p → IsFragmentOf (kind.body x) p

pub texts_send_their_body : SendsItsBody texts
texts_send_their_body = record { parts = λ x p is. is }

pub names_send_their_body : SendsItsBody names
names_send_their_body = record { parts = λ x p is. is }

-- a whole text has the bytes of its value
pub text_service : IsService texts IsWholeText
text_service = record {
  own = λ gs x y value all. own_text (cells_of gs) x y value (are_segments (text_body x) gs all);
  none = no_text_of_none;
}

-- a whole name has the bytes of its value
pub name_service : IsService names IsWholeName
name_service = record {
  own = λ gs x y value all. own_name (cells_of gs) x y value (are_segments (name_body x) gs all);
  none = no_name_of_none;
}

-- each broadcast of the plan has a value of the service
abbrev pub HasValues : Kind → List Broadcast → Type 0
HasValues kind plan = (number : ℕ) (b : Broadcast) → HasNumber plan number b → kind.IsValue b.bytes

-- what is whole in a run that lies in one broadcast is the value of that broadcast
pub bytes_of_run : (d t : ℕ) (kind : Kind) (IsWhole : Cells → List ℕ → Type 0) (plan : List Broadcast) (input : Input)
    (g : Segment) (older : List Segment) (x : List ℕ)
    → IsService kind IsWhole → HasValues kind plan
    → (l : LiesInOne d t kind plan input g older) → IsWhole (cells_of (g ∷ older)) x → x ≡ l.broadcast.bytes
bytes_of_run d t kind IsWhole plan input g older x service values l whole =
    service.own (g ∷ older) l.broadcast.bytes x (values l.number l.broadcast l.planned)
    (are_fragments kind input l.broadcast (g ∷ older) l.all) whole

-- ---- what is shown was on air, a run has one source, and the sources of two runs are near each other

-- the source that a run has
pub source_of : (d t : ℕ) (kind : Kind) (plan : List Broadcast) (input : Input) (g : Segment) (older : List Segment)
    → (l : LiesInOne d t kind plan input g older) → IsSource plan input (g ∷ older) l.number l.broadcast
source_of d t kind plan input g older l = grind arith

was_on_air : (d t : ℕ) (kind : Kind) (IsWhole : Cells → List ℕ → Type 0) (plan : List Broadcast) (input : Input)
    (the_run : List Segment) (x : List ℕ)
    → IsService kind IsWhole → HasValues kind plan → RunLiesInOne d t kind plan input the_run
    → IsWhole (cells_of the_run) x
    → RunWasOnAir d t plan input the_run x
was_on_air d t kind IsWhole plan input [] x service values l whole = absurd (service.none x whole)
was_on_air d t kind IsWhole plan input (g ∷ older) x service values l whole =
    let source = source_of d t kind plan input g older l in
    let bytes = bytes_of_run d t kind IsWhole plan input g older x service values l whole in
    grind arith

-- what is shown was on air
pub shown_on_air : (d t : ℕ) (kind : Kind) (IsWhole : Cells → List ℕ → Type 0) (plan : List Broadcast) (input : Input)
    (the_run : List Segment) (shown : Option (List ℕ))
    → IsService kind IsWhole → HasValues kind plan → RunLiesInOne d t kind plan input the_run
    → IsShown IsWhole (cells_of the_run) shown
    → IfSome shown (RunWasOnAir d t plan input the_run)
shown_on_air d t kind IsWhole plan input the_run shown service values l is = grind (arith, was_on_air)

-- one broadcast covers a slot
one_covers : PlanLaws → (d : ℕ) (plan : List Broadcast) (k l : ℕ) (a b : Broadcast) (s : ℕ) → IsSpaced d plan
    → HasNumber plan k a → HasNumber plan l b → Covers a s → Covers b s → k ≡ l
one_covers laws d plan k l a b s spaced p q u v =
    grind (arith, laws.order d plan k l a b spaced p q, laws.order d plan l k b a spaced q p)

one_last : (input : Input) (the_run : List Segment) (r s : ℕ) → LastWasSentIn input the_run r
    → LastWasSentIn input the_run s → r ≡ s
one_last input the_run r s p q = grind (arith, one_origin)

-- a run has one source
pub one_source : PlanLaws → (d : ℕ) (plan : List Broadcast) (input : Input) (the_run : List Segment) (k l : ℕ)
    (a b : Broadcast) → IsSpaced d plan
    → IsSource plan input the_run k a → IsSource plan input the_run l b → (k ≡ l) × (a ≡ b)
one_source laws d plan input the_run k l a b spaced p q = grind (arith, one_last, one_covers)

-- in one slot, the source of a run is at most the next one after that of another run
not_far : PlanLaws → (d t : ℕ) (kind : Kind) (plan : List Broadcast) (x : Input) (x_run : List Segment) (y : Input)
    (y_run : List Segment) (n l : ℕ) (a b : Broadcast)
    → IsSpaced d plan → RunLiesInOne d t kind plan x x_run → RunLiesInOne d t kind plan y y_run
    → IsSource plan x x_run n a → IsSource plan y y_run l b → l ≤ n + 1
not_far laws d t kind plan x [] y y_run n l a b spaced u v p q = absurd p.sent
not_far laws d t kind plan x (g ∷ older) y [] n l a b spaced u v p q = absurd q.sent
not_far laws d t kind plan x (g ∷ g_older) y (h ∷ h_older) n l a b spaced u v p q = grind (arith, one_origin)

-- two runs that lie in one broadcast each lie in the same one or in neighbours
pub near_sources : PlanLaws → (d t : ℕ) (kind : Kind) (plan : List Broadcast) (x : Input) (x_run : List Segment)
    (y : Input) (y_run : List Segment)
    → IsSpaced d plan → RunLiesInOne d t kind plan x x_run → RunLiesInOne d t kind plan y y_run
    → HaveNearSources plan x x_run y y_run
near_sources laws d t kind plan x x_run y y_run spaced u v n l a b p q = search (arith, not_far)
