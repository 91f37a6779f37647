-- Lemmas: the confirmed messages are near the log, although they may come out of order, since of the two receipts of a
-- segment or a pair of tags one was sent.
use Rattle.std.proofs.Common.{◌≡◌, ◌+◌, ◌-◌, ◌<◌, ◌≤◌, ◌&&◌, ℕ, Bool, true, false, List, [], ◌∷◌, length, cond, Option}
use Rattle.std.proofs.Common.{Some, None, refl, sym, ◌∙◌, inl, inr, arith, nat_lt}
use Rattle.std.specs.List.{AllByRecursion}
use Rattle.std.proofs.lemmas.Slice.Eq.{bytes_eq-Decides}
use Rattle.rds_fields.specs.declared.message.Message.{Message}
use Rattle.rds_fields.specs.declared.message.Message.TheVariants.{Text, Name, Tags}
use Rattle.rds_fields.specs.Tag.{PairFields}
use Rattle.rds_receiver.specs.Receipts.{Segment, name_fragment, picked, segments, text_fragment, with_segment}
use Rattle.rds_receiver.specs.declared.fragment.Fragment.{Fragment}
use Rattle.rds_receiver.specs.Run.{begins_in, run, run_at}
use Rattle.rds_receiver.specs.Confirmed.{confirmed, if_confirmed, last_at, last_pair, needs_two, pair_again}
use Rattle.rds_receiver.specs.Confirmed.{receipt_before, same_pair, segment_again}
use Rattle.rds_receiver.specs.ConfirmedLemmas.{confirmed_long, one_pair}
use Rattle.rds_safety.specs.Flags.{same_flag}
use Rattle.rds_safety.specs.Late.{CameFrom, HasEntry, Input}
use Rattle.rds_safety.specs.Near.{IsHeard, IsHeardNear, IsOfItsOriginIfMarked, IsUnmarked, ListensNear}
use Rattle.rds_safety.specs.OwnClock.{next_slot}
use Rattle.rds_safety.specs.Safe.{Listener}
use Rattle.rds_safety.specs.Confirmed.{IsHeardWithWrong, NoWrongConfirmed, ListensConfirmed, confirmed_input}
use Rattle.rds_safety.specs.Confirmed.{lateness_of_two, origin_in, origin_of_two, origins_of_two}
use Rattle.rds_safety.proofs.Entries.{before_end, entry_beside, one_entry, IsPicked, all_picked}

-- the last segment at an address is one of the segments, and has the address
last_is : (P : Segment → Type 0) (a : ℕ) (gs : List Segment) (g : Segment) → AllByRecursion P gs → last_at a gs ≡ Some g
    → P g × (g.fragment.address ≡ a)
last_is P a [] g all e = absurd (cc)
last_is P a (h ∷ older) g all e = grind (arith, last_is P a older g all.1)

-- the segment that confirms one has its flag and bytes, and came less than w slots before
segment_is_again : (w n : ℕ) (f : Bool) (b : List ℕ) (last : Option Segment) (u : ℕ)
    → segment_again w n f b last ≡ Some u
    → (g : Segment) × (last ≡ Some g) × (u ≡ g.slot) × (f ≡ g.fragment.flag) × (b ≡ g.fragment.bytes) × (n < u + w)
segment_is_again w n f b last u e = grind (arith, same_flag, bytes_eq-Decides)

-- the pair that confirms one is the last pair, came less than w slots before and later than slot `since`
pair_is_again : (w n : ℕ) (pair : PairFields) (begins : Option ℕ) (last : Option (ℕ × PairFields)) (u : ℕ)
    → pair_again w n pair begins last ≡ Some u
    → (since : ℕ) × (begins ≡ Some since) × (last ≡ Some (u, pair)) × (since < u) × (n < u + w)
pair_is_again w n pair (Some since) (Some (v, before)) u e =
    let b = by (same_pair pair before) (one_pair pair before) e in
    let here = b.0 in let same = b.1 in (since, refl, grind arith, b.2, b.3)
  where
    by : (same : Bool) → (same ≡ true → pair ≡ before)
        → cond (same && (nat_lt since v && nat_lt n (v + w))) (Some v) None ≡ Some u
        → (v ≡ u) × (pair ≡ before) × (since < u) × (n < u + w)
    by same is e = grind (arith)
pair_is_again w n pair _ _ u e = absurd (cc)

-- the last pair was heard in its slot
last_pair_came : (first : ℕ) (heard : List (Option Message)) (u : ℕ) (pair : PairFields)
    → last_pair first heard ≡ Some (u, pair) → HasEntry first heard u (Some (Tags pair))
last_pair_came first [] u pair e = absurd (cc)
last_pair_came first (Some (Tags q) ∷ before) u pair e = grind arith
last_pair_came first (x ∷ before) u pair e = inr (last_pair_came first before u pair e)

-- the message of slot n was heard before in slot u, less than w slots ago
pub record IsRepeated (w n first : ℕ) (before : List (Option Message)) (message : Message) (u : ℕ) : Type 0 where
  pub came : HasEntry first before u (Some message)
  pub soon : n < u + w

-- the message of a fragment
text_message : (message : Message) (p : Fragment) → text_fragment message ≡ Some p
    → message ≡ Text p.flag p.address p.bytes
text_message message p e = grind arith

name_message : (message : Message) (p : Fragment) → name_fragment message ≡ Some p
    → message ≡ Name p.flag p.address p.bytes
name_message message p e = grind arith

-- a segment that the last one at its address confirms was repeated
segment_repeated : (pick : Message → Option Fragment) (make : Bool → ℕ → List ℕ → Message)
    → ((message : Message) (p : Fragment) → pick message ≡ Some p → message ≡ make p.flag p.address p.bytes)
    → (w n first : ℕ) (before : List (Option Message)) (f : Bool) (a : ℕ) (b : List ℕ) (u : ℕ)
    → segment_again w n f b (last_at a (segments pick first before)) ≡ Some u
    → IsRepeated w n first before (make f a b) u
segment_repeated pick make message_is w n first before f a b u e =
    let again = segment_is_again w n f b (last_at a (segments pick first before)) u e in
    let segs = segments pick first before in
    let l = last_is (IsPicked pick first before) a segs again.0 (all_picked pick first before) again.1 in
    let same = message_is l.0.message again.0.fragment l.0.fragment in
    grind arith

-- a message that needs two receipts and has a receipt before was repeated
repeated : (w m first : ℕ) (before : List (Option Message)) (message : Message) (u : ℕ)
    → receipt_before w m first before (confirmed w m first before) (Some message) ≡ Some u
    → needs_two message ≡ true → IsRepeated w (first + length before) first before message u
repeated w m first before (Text f a b) u e needs = segment_repeated text_fragment (λ f a b. Text f a b) text_message w
    (first + length before) first before f a b u e
repeated w m first before (Name f a b) u e needs = segment_repeated name_fragment (λ f a b. Name f a b) name_message w
    (first + length before) first before f a b u e
repeated w m first before (Tags pair) u e needs =
    let again = pair_is_again w (first + length before) pair _ _ u e in
    record { came = last_pair_came first before u pair again.2; soon = again.4 }
repeated w m first before _ u e needs = absurd (cc)

-- a message that needs no second receipt has its own slot as its receipt
own_receipt : (w m first : ℕ) (before : List (Option Message)) (message : Message) (u : ℕ)
    → receipt_before w m first before (confirmed w m first before) (Some message) ≡ Some u
    → needs_two message ≡ false → u ≡ first + length before
own_receipt w m first before message u e needs = grind arith

-- as many entries have an origin or not as were heard
origins_long : (w m first : ℕ) (heard : List (Option Message)) (origins : List (Option ℕ))
    → length origins ≡ length heard → length (origins_of_two w m first heard origins) ≡ length heard
origins_long w m first [] origins e = refl
origins_long w m first (x ∷ before) [] e = absurd (omega arith)
origins_long w m first (x ∷ before) (o ∷ origins) e = omega (arith, origins_long w m first before origins (omega arith))

-- and as many are confirmed or not
as_long : (w m first : ℕ) (heard : List (Option Message)) (origins : List (Option ℕ)) → length origins ≡ length heard
    → length (origins_of_two w m first heard origins) ≡ length (confirmed w m first heard)
as_long w m first heard origins e = origins_long w m first heard origins e ∙ sym (confirmed_long w m first heard)

-- the origin of a slot
origin_in_is : (first : ℕ) (origins : List (Option ℕ)) (u : ℕ) (o : Option ℕ) → HasEntry first origins u o
    → origin_in first origins u ≡ o
origin_in_is first [] u o a = absurd a
origin_in_is first (n ∷ before) u o (inl a) = grind (arith)
origin_in_is first (n ∷ before) u o (inr a) =
    grind (arith, before_end first before u o a, origin_in_is first before u o a)

no_origin_in : (first : ℕ) (origins : List (Option ℕ)) (u : ℕ) → first + length origins ≤ u
    → origin_in first origins u ≡ None
no_origin_in first [] u h = refl
no_origin_in first (n ∷ before) u h = grind (arith, no_origin_in first before u)

-- an entry has the origin of its slot
origin_beside : (first : ℕ) (before : List (Option Message)) (origins : List (Option ℕ)) (u : ℕ) (x : Option Message)
    → length origins ≡ length before → HasEntry first before u x → HasEntry first origins u (origin_in first origins u)
origin_beside first before origins u x e came = grind (arith, entry_beside, origin_in_is)

-- the message was heard in slot v, where it was sent in slot s; v is slot t or less than w slots before
pub record IsOneOfTwo (w first t s : ℕ) (heard : List (Option Message)) (origins : List (Option ℕ)) (message : Message)
    : Type 0 where
  pub slot : ℕ
  pub came : HasEntry first heard slot (Some message)
  pub from : HasEntry first origins slot (Some s)
  pub past : slot ≤ t
  pub soon : t ≤ slot + (w - 1)

-- a confirmed entry with an origin: its message was sent there, and heard from there in one of the two slots
pub record IsFromOneOfTwo (w m first t s : ℕ) (heard : List (Option Message)) (origins : List (Option ℕ)) : Type 0 where
  pub message : Message
  pub came : HasEntry first heard t (Some message)
  pub confirms : HasEntry first (confirmed w m first heard) t (Some message)
  pub one : IsOneOfTwo w first t s heard origins message

one_of_two : (w m first : ℕ) (before : List (Option Message)) (origins : List (Option ℕ)) (t s : ℕ) (message : Message)
    (own : Option ℕ) (u : ℕ) → length origins ≡ length before → t ≡ first + length before
    → receipt_before w m first before (confirmed w m first before) (Some message) ≡ Some u
    → origin_of_two first origins own (Some u) ≡ Some s
    → IsOneOfTwo w first t s (Some message ∷ before) (own ∷ origins) message
one_of_two w m first before origins t s message (Some r) u beside here is o =
    record { slot = t; came = grind arith; from = grind arith; past = omega arith; soon = omega arith }
one_of_two w m first before origins t s message None u beside here is o = by (needs_two message) refl
  where
    by : (needs : Bool) → needs_two message ≡ needs
        → IsOneOfTwo w first t s (Some message ∷ before) (None ∷ origins) message
    by false needs = search (arith, own_receipt, no_origin_in)
    by true needs =
        let again = repeated w m first before message u is needs in
        search (arith, origin_beside, before_end)

-- what counts as heard twice comes from one of the two times
pub from_one_of_two : (w m first : ℕ) (heard : List (Option Message)) (origins : List (Option ℕ)) (t s : ℕ)
    → length origins ≡ length heard
    → HasEntry first (origins_of_two w m first heard origins) t (Some s) → IsFromOneOfTwo w m first t s heard origins
from_one_of_two w m first [] origins t s e a = absurd a
from_one_of_two w m first (x ∷ before) [] t s e a = absurd a
from_one_of_two w m first (x ∷ before) (own ∷ origins) t s e (inr a) =
    (let f = from_one_of_two w m first before origins t s (omega arith) a in grind arith)
from_one_of_two w m first (None ∷ before) (own ∷ origins) t s e (inl a) = absurd (cc)
from_one_of_two w m first (Some message ∷ before) (own ∷ origins) t s e (inl a) =
    by (receipt_before w m first before (confirmed w m first before) (Some message)) refl (sym a.1)
  where
    here : t ≡ first + length before
    here = omega (arith, origins_long w m first before origins (omega arith))

    by : (r : Option ℕ) → receipt_before w m first before (confirmed w m first before) (Some message) ≡ r
        → origin_of_two first origins own r ≡ Some s
        → IsFromOneOfTwo w m first t s (Some message ∷ before) (own ∷ origins)
    by None is origin = absurd (cc)
    by (Some u) is origin = record {
      message = message;
      came = inl (here, refl);
      confirms = inl (omega (arith, here, confirmed_long w m first before), rw is);
      one = one_of_two w m first before origins t s message own u (omega arith) here is origin;
    }

-- a confirmed entry without an origin, if it needs two receipts, was wrong twice
record WasWrongConfirmed (w first t : ℕ) (heard : List (Option Message)) (origins : List (Option ℕ)) (message : Message)
    : Type 0 where
  slot : ℕ
  before : slot < t
  soon : t < slot + w
  one : HasEntry first heard slot (Some message)
  two : HasEntry first heard t (Some message)
  one_wrong : HasEntry first origins slot None
  two_wrong : HasEntry first origins t None

wrong_confirmed : (w m first : ℕ) (heard : List (Option Message)) (origins : List (Option ℕ)) (t : ℕ)
    (message : Message) → length origins ≡ length heard → needs_two message ≡ true
    → HasEntry first (origins_of_two w m first heard origins) t None
    → HasEntry first (confirmed w m first heard) t (Some message)
    → WasWrongConfirmed w first t heard origins message
wrong_confirmed w m first [] origins t message e needs o a = absurd a
wrong_confirmed w m first (x ∷ before) [] t message e needs o a = absurd o
wrong_confirmed w m first (x ∷ before) (own ∷ origins) t message e needs (inr o) (inl a) =
    let past = before_end first (origins_of_two w m first before origins) t None o in
    absurd (omega (arith, as_long w m first before origins (omega arith)))
wrong_confirmed w m first (x ∷ before) (own ∷ origins) t message e needs (inl o) (inr a) =
    let past = before_end first (confirmed w m first before) t (Some message) a in
    absurd (omega (arith, as_long w m first before origins (omega arith)))
wrong_confirmed w m first (x ∷ before) (own ∷ origins) t message e needs (inr o) (inr a) =
    (let v = wrong_confirmed w m first before origins t message (omega arith) needs o a in grind arith)
wrong_confirmed w m first (None ∷ before) (own ∷ origins) t message e needs (inl o) (inl a) = absurd (cc)
wrong_confirmed w m first (Some n ∷ before) (own ∷ origins) t message e needs (inl o) (inl a) = search (arith, by)
  where
    by : (own r : Option ℕ) → receipt_before w m first before (confirmed w m first before) (Some n) ≡ r
        → None ≡ origin_of_two first origins own r → Some message ≡ if_confirmed r (Some n)
        → WasWrongConfirmed w first t (Some n ∷ before) (own ∷ origins) message
    by own None is origin kept = absurd (cc)
    by (Some s) (Some u) is origin kept = absurd (cc)
    by None (Some u) is origin kept =
        let again = repeated w m first before n u is (let same : n ≡ message = cc in rw (← same) at needs) in
        let from = origin_beside first before origins u (Some n) (omega arith) again.came in
        let past = before_end first before u (Some n) again.came in
        let here : t ≡ first + length before = omega (arith, a.0, confirmed_long w m first before) in
        grind arith

-- a message that needs no second receipt is neither a segment nor tags
unmarked : (message : Message) → needs_two message ≡ false → IsUnmarked (Some message)
unmarked message needs = grind arith

-- each confirmed segment, and each confirmed pair of tags, is that of the log in its origin
confirmed_is_heard : (w m k : ℕ) (log : List (Option Message)) (raw : Input) → IsHeardWithWrong k log raw
    → NoWrongConfirmed w raw → IsHeard log (confirmed_input w m raw)
confirmed_is_heard w m k log raw heard once =
    record { beside = as_long w m raw.first raw.heard raw.origins heard.beside; each = by }
  where
    if_needed : (t : ℕ) (message : Message) (needs : Bool) → needs_two message ≡ needs
        → HasEntry raw.first (origins_of_two w m raw.first raw.heard raw.origins) t None
        → HasEntry raw.first (confirmed w m raw.first raw.heard) t (Some message) → IsUnmarked (Some message)
    if_needed t message false needs o a = unmarked message needs
    if_needed t message true needs o a =
        let v = wrong_confirmed w m raw.first raw.heard raw.origins t message heard.beside needs o a in
        absurd (elim (once v.slot t message needs v.before v.soon v.one v.two) [
          | inl sent ↦ (let bad = one_entry raw.first raw.origins v.slot None _ v.one_wrong sent.from in cc)
          | inr sent ↦ (let bad = one_entry raw.first raw.origins t None _ v.two_wrong sent.from in cc)
        ])

    by : (t : ℕ) (origin : Option ℕ) (entry : Option Message)
        → HasEntry raw.first (origins_of_two w m raw.first raw.heard raw.origins) t origin
        → HasEntry raw.first (confirmed w m raw.first raw.heard) t entry → IsOfItsOriginIfMarked log origin entry
    by t None None o a = grind arith
    by t None (Some message) o a = if_needed t message (needs_two message) refl o a
    by t (Some s) entry o a =
        let f = from_one_of_two w m raw.first raw.heard raw.origins t s heard.beside o in
        search (arith, one_entry)

begins_before_last : (m n now since : ℕ) (p : Option Fragment) (gs : List Segment) → n ≤ now → since < now
    → begins_in (run m now (with_segment now p gs)) ≡ Some since → begins_in (run m n gs) ≡ Some since
begins_before_last m n now since p gs h l e = grind (arith)

-- so a run that began before the newest slot is that of the slot before
begins_before : (m first : ℕ) (x : Option Message) (before : List (Option Message)) (since t : ℕ) (y : Option Message)
    → HasEntry first before t y → since < t
    → begins_in (run_at text_fragment m first (x ∷ before)) ≡ Some since
    → begins_in (run_at text_fragment m first before) ≡ Some since
begins_before m first x [] since t y came later e = absurd came
begins_before m first x (z ∷ before) since t y came later e =
    begins_before_last m (first + length before) (first + length (z ∷ before)) since (picked text_fragment x)
    (segments text_fragment first (z ∷ before))
    (omega arith) (omega (arith, later, before_end first (z ∷ before) t y came)) e

-- the receipt of tags from which their origin is came later than the first segment of the run of texts
record IsFromSince (first since s : ℕ) (origins : List (Option ℕ)) : Type 0 where
  slot : ℕ
  from : HasEntry first origins slot (Some s)
  later : since < slot

tags_from : (w m first : ℕ) (heard : List (Option Message)) (origins : List (Option ℕ)) (t s since : ℕ)
    (pair : PairFields) → length origins ≡ length heard
    → begins_in (run_at text_fragment m first (confirmed w m first heard)) ≡ Some since → since < t
    → HasEntry first (confirmed w m first heard) t (Some (Tags pair))
    → HasEntry first (origins_of_two w m first heard origins) t (Some s) → IsFromSince first since s origins
tags_from w m first [] origins t s since pair e begins later a o = absurd a
tags_from w m first (x ∷ before) [] t s since pair e begins later a o = absurd o
tags_from w m first (x ∷ before) (own ∷ origins) t s since pair e begins later (inl a) (inr o) =
    let past = before_end first (origins_of_two w m first before origins) t (Some s) o in
    absurd (omega (arith, as_long w m first before origins (omega arith)))
tags_from w m first (x ∷ before) (own ∷ origins) t s since pair e begins later (inr a) (inl o) =
    let past = before_end first (confirmed w m first before) t (Some (Tags pair)) a in
    absurd (omega (arith, as_long w m first before origins (omega arith)))
tags_from w m first (x ∷ before) (own ∷ origins) t s since pair e begins later (inr a) (inr o) =
    let earlier = begins_before m first (if_confirmed (receipt_before w m first before (confirmed w m first before) x)
    x) (confirmed w m first before) since t (Some (Tags pair)) a later begins in
    search (arith, tags_from w m first before origins t s since pair (omega arith) earlier later a o)
tags_from w m first (x ∷ before) (own ∷ origins) t s since pair e begins later (inl a) (inl o) =
    by x own (receipt_before w m first before (confirmed w m first before) x) refl o.1 a.1 (rw (← a.1) at begins)
  where
    by : (y : Option Message) (p : Option ℕ) (r : Option ℕ)
        → receipt_before w m first before (confirmed w m first before) y ≡ r → Some s ≡ origin_of_two first origins p r
        → Some (Tags pair) ≡ if_confirmed r y
        → begins_in (run_at text_fragment m first (Some (Tags pair) ∷ confirmed w m first before)) ≡ Some since
        → IsFromSince first since s (p ∷ origins)
    by y p None is origin kept begun = absurd (cc)
    by y (Some r) (Some u) is origin kept begun = record
        { slot = t; from = inl (omega (arith, a.0, confirmed_long w m first before), origin); later = later }
    by y None (Some u) is origin kept begun =
        let again = pair_is_again w (first + length before) pair _ _ u (rw (← kept) at is) in
        let same : again.0 ≡ since = (let begun_too = again.1 in let long = confirmed_long w m first before in cc) in
        let from = origin_beside first before origins u (Some (Tags pair)) (omega arith)
        (last_pair_came first before u pair again.2) in
        record { slot = u; from = inr (rw (← origin) at from); later = omega arith }

-- the confirmed messages are near the log
pub confirmed_is_near : (w m k now : ℕ) (log : List (Option Message)) (raw : Input) → IsHeardWithWrong k log raw
    → NoWrongConfirmed w raw → next_slot raw ≡ now + 1
    → IsHeardNear (m + lateness_of_two w k) m now log (confirmed_input w m raw)
confirmed_is_near w m k now log raw heard once next = record {
  heard = confirmed_is_heard w m k log raw heard once;
  between = λ t u r s p q near.
      search (arith, from);
  since = λ t s p near. (let one = (from t s p).one in omega (arith, long, heard.late one.slot s one.from));
  past = λ t s p.
      search (arith, before_end, from);
  tags = λ t u r s pair begins later came p q.
      let one = (from t r p).one in
      let two = tags_from w m raw.first raw.heard raw.origins u s t pair heard.beside begins later came q in
      heard.rising one.slot two.slot r s one.from two.from (omega arith);
}
  where
    from : (t s : ℕ) → CameFrom (confirmed_input w m raw) t s → IsFromOneOfTwo w m raw.first t s raw.heard raw.origins
    from t s p = from_one_of_two w m raw.first raw.heard raw.origins t s heard.beside p

    long : length (confirmed w m raw.first raw.heard) ≡ length raw.heard
    long = confirmed_long w m raw.first raw.heard

-- a receiver that shows only what it heard twice listens near the log
pub confirmed_listens : (w k m t : ℕ) (log : List (Option Message)) (r : Listener) → ListensConfirmed w k m t log r
    → ListensNear (m + lateness_of_two w k) m t log r
confirmed_listens w k m t log r listens = record {
  near = rw listens.confirmed (confirmed_is_near w m k t log listens.raw listens.heard listens.once listens.now);
  shows = listens.shows;
}

-- an entry that is not wrong keeps its origin
pub own_kept : (w m first : ℕ) (heard : List (Option Message)) (origins : List (Option ℕ)) (u v r : ℕ)
    → length origins ≡ length heard
    → HasEntry first origins u (Some v) → HasEntry first (origins_of_two w m first heard origins) u (Some r) → r ≡ v
own_kept w m first [] origins u v r e p q = absurd q
own_kept w m first (x ∷ before) [] u v r e p q = absurd q
own_kept w m first (x ∷ before) (own ∷ origins) u v r e (inl p) (inr q) =
    let past = before_end first (origins_of_two w m first before origins) u (Some r) q in
    absurd (omega (arith, origins_long w m first before origins (omega arith)))
own_kept w m first (x ∷ before) (own ∷ origins) u v r e (inr p) (inl q) =
    let past = before_end first origins u (Some v) p in
    absurd (omega (arith, origins_long w m first before origins (omega arith)))
own_kept w m first (x ∷ before) (own ∷ origins) u v r e (inr p) (inr q) = own_kept w m first before origins u v r
    (omega arith) p q
own_kept w m first (x ∷ before) (own ∷ origins) u v r e (inl p) (inl q) = grind (arith)

-- the receipt of a segment is that of the last one at its address
abbrev pub HasReceipts : (Message → Option Fragment) → Type 0
HasReceipts pick =
    (w m first : ℕ) (before confirms : List (Option Message)) (message : Message) (p : Fragment) → pick message ≡ Some p
    → receipt_before w m first before confirms (Some message) ≡ segment_again w (first + length before) p.flag p.bytes
    (last_at p.address (segments pick first before))

-- what counts as heard twice keeps the receipts of texts
pub text_receipts : HasReceipts text_fragment
text_receipts w m first before confirms message p picks = rw (text_message message p picks)

-- what counts as heard twice keeps the receipts of names
pub name_receipts : HasReceipts name_fragment
name_receipts w m first before confirms message p picks = rw (name_message message p picks)

-- a segment is confirmed if, among what was heard before, the last one at its address is the same and recent
pub segment_is_confirmed : (pick : Message → Option Fragment) → HasReceipts pick
    → (w m first : ℕ) (heard : List (Option Message)) (message : Message) (p : Fragment) (t : ℕ) → pick message ≡ Some p
    → HasEntry first heard t (Some message)
    → ((before : List (Option Message))
    → ((u : ℕ) (x : Option Message) → HasEntry first before u x → HasEntry first heard u x)
    → ((u : ℕ) (x : Option Message) → u < t → HasEntry first heard u x → HasEntry first before u x)
    → (u : ℕ) × (segment_again w t p.flag p.bytes (last_at p.address (segments pick first before)) ≡ Some u))
    → HasEntry first (confirmed w m first heard) t (Some message)
segment_is_confirmed pick receipts w m first [] message p t picks came again = absurd came
segment_is_confirmed pick receipts w m first (x ∷ before) message p t picks (inr came) again =
    search (arith, segment_is_confirmed pick receipts w m first before message p t picks came, earlier)
  where
    earlier : (u : ℕ) (y : Option Message) → u < t → HasEntry first (x ∷ before) u y → HasEntry first before u y
    earlier u y less has = grind (arith, before_end first before t (Some message) came)
segment_is_confirmed pick receipts w m first (x ∷ before) message p t picks (inl came) again =
    let some = again before (λ u y has. inr has) (λ u y less has. grind arith) in
    let receipt = receipts w m first before (confirmed w m first before) message p picks in
    let long = confirmed_long w m first before in
    grind arith
