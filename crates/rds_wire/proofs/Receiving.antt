-- From the groups that reached a receiver to the messages that it heard: as late as the groups, or by the same clock.
use Rattle.std.proofs.Common.{◌≡◌, ◌-◌, ◌<◌, ◌≤◌, ℕ, suc, List, [], ◌∷◌, length, refl, sym, ap, ◌∙◌, subst, inl, inr}
use Rattle.std.proofs.Common.{arith, ◌+◌, zero, None, Option, drop, length-append, replicate, Bool, Some, map}
use Rattle.std.proofs.lemmas.Bool.{cases_lt}
use Rattle.rds_safety.specs.Late.{HasEntry, CameFrom, Input, InputOf, IsHeardInOrder, IsHeardLate, IsOfItsOrigin}
use Rattle.rds_safety.proofs.Entries.{before_end, marks_long}
use Rattle.rds_wire.specs.Received.{first_entries, Came, own_group}
use Rattle.std.proofs.lemmas.List.{drop-append-le, length-replicate}
use Rattle.rds_fields.specs.declared.message.Message.{Message}
use Rattle.rds_audit.specs.Recording.{from_first_text, preceded}
use Rattle.rds_block.specs.declared.group.Group.{Group}
use Rattle.rds_receiver.specs.Receipts.{Tuning, AreHeard, heard_in, heard_of}
use Rattle.rds_receiver.specs.Confirmed.{counted}
use Rattle.rds_receiver.specs.Kept.{AreShowings, Displays, Showing, displayed, newest_showing}
use Rattle.rds_receiver.specs.Shown.{IsView, ShownView}
use Rattle.rds_receiver.proofs.Counting.{displays_now, newest_is}
use Rattle.rds_safety.specs.Lawful.{IsLawful, Kind}
use Rattle.rds_safety.specs.Marks.{IsMarkIn, Mark, marks}
use Rattle.rds_safety.specs.Plans.{AreLawfulAs, Plans}
use Rattle.rds_encoder.specs.Plan.{Broadcast}
use Rattle.rds_view_lines.specs.Output.{Display, newest}
use Rattle.rds_log.specs.LogWrites.{AreDisplays, IsDisplay}
use Rattle.std.proofs.lemmas.Bool.Decides.{nat_tests}
use Rattle.std.specs.List.{AllZip}
use lib.ListN.{length-map}
use Rattle.rds_log.specs.Audit.{spacing}
use Rattle.rds_log.specs.declared.audit_log.Auditing.{Auditing}
use Rattle.rds_safety.specs.Laws.{ASlowClockIsAnOwnClock, LateIsBySlowClock}
use Rattle.rds_safety.specs.OwnClock.{IsHeardByOwnClock}
use Rattle.rds_wire.specs.Groups.{GroupsByOwnClockAreMessagesByIt, LateGroupsAreLateMessages, OtherGroupsAreNothing}
use Rattle.rds_wire.specs.Groups.{WhatIsSentIsHeard, with_messages}
use Rattle.rds_world.proofs.Received.{hears_sent}

-- ---- the first entries of a list over time, and the input of a receiver up to a slot

-- no more than n entries are all of them
pub first_all : {X : Type 0} (n : ℕ) (xs : List X) → length xs ≤ n → first_entries n xs ≡ xs
first_all n xs few = let none : length xs - n ≡ 0 = omega (arith, few) in rw none refl

-- an entry after n others is none of the first n
pub first_more : {X : Type 0} (n : ℕ) (x : X) (xs : List X) → n ≤ length xs
    → first_entries n (x ∷ xs) ≡ first_entries n xs
first_more n x xs some = let step : length (x ∷ xs) - n ≡ suc (length xs - n) = omega (arith, some) in rw step refl

-- the first n of enough entries are n
pub first_length : {X : Type 0} (n : ℕ) (xs : List X) → n ≤ length xs → length (first_entries n xs) ≡ n
first_length n [] some = ap length (first_all n [] (omega arith)) ∙ omega (arith, some)
first_length n (x ∷ xs) some = elim (cases_lt (length xs) n) [
  | inl all ↦ ap length (first_all n (x ∷ xs) (omega (arith, all))) ∙ omega (arith, all, some)
  | inr more ↦ ap length (first_more n x xs more) ∙ first_length n xs more
]

-- an entry of the first ones
pub entry_in_first : {X : Type 0} (n : ℕ) (xs : List X) (t : ℕ) (x : X) → HasEntry 0 (first_entries n xs) t x
    → HasEntry 0 xs t x × (t < n)
entry_in_first n [] t x has = absurd (subst (λ l. HasEntry 0 l t x) (first_all n [] (omega arith)) has)
entry_in_first n (y ∷ ys) t x has = grind (arith, entry_in_first n ys t x, first_all, before_end, first_more)

-- an entry of an early slot is one of the first ones
pub entry_of_first : {X : Type 0} (n : ℕ) (xs : List X) (t : ℕ) (x : X) → HasEntry 0 xs t x → t < n
    → HasEntry 0 (first_entries n xs) t x
entry_of_first n [] t x has below = absurd has
entry_of_first n (y ∷ ys) t x has below = elim (cases_lt (length ys) n) [
  | inl all ↦ subst (λ l. HasEntry 0 l t x) (sym (first_all n (y ∷ ys) (omega (arith, all)))) has
  | inr more ↦ subst (λ l. HasEntry 0 l t x) (sym (first_more n y ys more)) (elim has [
    | inl here ↦ absurd (omega (arith, here.0, more, below))
    | inr there ↦ entry_of_first n ys t x there below
  ])
]

-- ---- a log with slots in front, up to a slot

-- the first slots of a log with slots in front
pub preceded_first : (d n : ℕ) (log : List (Option Message))
    → first_entries (n + d) (preceded d log) ≡ preceded d (first_entries n log)
preceded_first d n log =
    let none : Option Message = None in
    let long : length (preceded d log) - (n + d) ≡ length log - n =
    omega (arith, length-append log (replicate d none), length-replicate d none) in
    ap (λ (j : ℕ). drop j (preceded d log)) long
    ∙ drop-append-le (length log - n) log (replicate d None) (omega arith)

settled_long : (log : List (Option Message)) → length (from_first_text log) ≡ length log
settled_long [] = refl
settled_long (x ∷ before) = ap suc (settled_long before)

settled_drop : (j : ℕ) (log : List (Option Message)) → drop j (from_first_text log) ≡ from_first_text (drop j log)
settled_drop zero log = refl
settled_drop (suc j) [] = refl
settled_drop (suc j) (x ∷ before) = settled_drop j before

-- the first slots without the tags before the first text segment
pub settled_first : (n : ℕ) (log : List (Option Message))
    → first_entries n (from_first_text log) ≡ from_first_text (first_entries n log)
settled_first n log = grind (arith, settled_long, settled_drop)

-- ---- marks and plans

mark_below : (of : Option Message → Mark) (sent : List (Option Message)) (slot : ℕ) (mark : Mark)
    → IsMarkIn (marks of sent) slot mark → slot < length sent
mark_below of [] slot mark is = absurd is
mark_below of (x ∷ before) slot mark here = grind (arith, mark_below of before slot mark, marks_long)

-- a mark of the first slots
pub mark_in_first : (of : Option Message → Mark) (n : ℕ) (sent : List (Option Message)) (slot : ℕ) (mark : Mark)
    → IsMarkIn (marks of (first_entries n sent)) slot mark → IsMarkIn (marks of sent) slot mark × (slot < n)
mark_in_first of n [] slot mark is = grind arith
mark_in_first of n (x ∷ before) slot mark is =
    grind (arith, mark_in_first of n before slot mark, first_all, mark_below, first_more)

-- plans that are lawful for a log are so for its first slots
kind_first : (d n : ℕ) (kind : Kind) (plan : List Broadcast) (of : Option Message → Mark) (sent : List (Option Message))
    → IsLawful d kind plan (marks of sent) → IsLawful d kind plan (marks of (first_entries n sent))
kind_first d n kind plan of sent lawful = grind (arith, mark_in_first)

-- so are both plans
pub lawful_first : (kind : Kind) (d n : ℕ) (plans : Plans) (sent : List (Option Message))
    → AreLawfulAs kind d plans sent → AreLawfulAs kind d plans (first_entries n sent)
lawful_first kind d n plans sent lawful = search (arith, kind_first)

-- ---- displays

-- there is a display for each slot
pub displays_long : (keep : ℕ) (why : Bool) (t : Tuning) (slots : List (Option Group)) (displays : List Display)
    → AreDisplays keep why t slots displays → length slots ≡ length displays
displays_long keep why t [] [] are = refl
displays_long keep why t (slot ∷ before) (d ∷ older) are = ap suc (displays_long keep why t before older are.1)
displays_long keep why t _ _ are = absurd are

-- the display in a slot is that of the slots up to it
pub display_in : (keep : ℕ) (why : Bool) (t : Tuning) (slots : List (Option Group)) (displays : List Display) (n : ℕ)
    (d : Display) → AreDisplays keep why t slots displays → HasEntry 0 displays n d
    → IsDisplay keep why t (first_entries (n + 1) slots) d × (n < length slots)
display_in keep why t [] [] n d are at = absurd at
display_in keep why t (slot ∷ before) (x ∷ older) n d are here =
    grind (arith, display_in keep why t before older n d are.1, displays_long, first_all, first_more)
display_in keep why t _ _ n d are at = absurd are

-- a display that keeps nothing shows the newest view
newest_displayed : (t : Tuning) (heard : List (Option Message)) (showings : List Showing) → AreShowings t heard showings
    → displayed 0 showings ≡ (newest_showing showings).view
newest_displayed t heard [] are = refl
newest_displayed t [] (s ∷ older) are = absurd are
newest_displayed t (h ∷ before) (s ∷ older) are =
    displays_now t.dwell t.first (counted t (h ∷ before)) s older are.0

-- it is the view of its receiver
pub plain_view : (t : Tuning) (input : List (Option Group)) (view : ShownView)
    → Displays 0 t (heard_of t.programme input) view → IsView t input view
plain_view t input view d =
    let heard = heard_of t.programme input in
    subst (IsView t input) (sym (d.shows ∙ newest_displayed t heard d.showings d.are))
    (newest_is t heard d.showings d.are).view

-- the newest view is that of all slots
pub newest_view : (why : Bool) (t : Tuning) (slots : List (Option Group)) (displays : List Display)
    → AreDisplays 0 why t slots displays → IsView t slots (newest displays)
newest_view why t [] [] are = (newest_is t [] [] are).view
newest_view why t (slot ∷ before) (d ∷ older) are = plain_view t (slot ∷ before) d.view are.0.view
newest_view why t [] (d ∷ older) are = absurd are
newest_view why t (slot ∷ before) [] are = absurd are

-- the view in a slot is that of the slots up to it
pub view_in : (why : Bool) (t : Tuning) (slots : List (Option Group)) (displays : List Display) (n : ℕ) (d : Display)
    → AreDisplays 0 why t slots displays → HasEntry 0 displays n d
    → IsView t (first_entries (n + 1) slots) d.view × (n < length slots)
view_in why t slots displays n d are at =
    let it = display_in 0 why t slots displays n d are at in
    (plain_view t (first_entries (n + 1) slots) d.view it.0.view, it.1)

-- ---- two lists side by side

-- lists side by side have one length
pub zip_long : {A B : Type 0} (R : A → B → Type 0) (xs : List A) (ys : List B) → AllZip R xs ys → length xs ≡ length ys
zip_long R [] [] all = refl
zip_long R (x ∷ xs) (y ∷ ys) all = ap suc (zip_long R xs ys all.1)
zip_long R _ _ all = absurd all

-- beside each entry of the second list is one of the first
pub entry_left : {A B : Type 0} (R : A → B → Type 0) (first : ℕ) (xs : List A) (ys : List B) (t : ℕ) (y : B)
    → AllZip R xs ys → HasEntry first ys t y → (x : A) × HasEntry first xs t x × R x y
entry_left R first [] [] t y all at = absurd at
entry_left R first (a ∷ xs) (b ∷ ys) t y all here = grind (arith, entry_left R first xs ys t y all.1, zip_long)
entry_left R first _ _ t y all at = absurd all

-- ---- groups of the programme

own_heard_in : (pi : ℕ) (slot : Option Group) → heard_in pi (own_group pi slot) ≡ heard_in pi slot
own_heard_in pi slot = grind (arith, nat_tests)

own_heard_of : (pi : ℕ) (slots : List (Option Group)) → heard_of pi (map (own_group pi) slots) ≡ heard_of pi slots
own_heard_of pi [] = refl
own_heard_of pi (slot ∷ before) = λ i. own_heard_in pi slot i ∷ own_heard_of pi before i

-- a receiver hears the same without the groups of other programmes
pub own_heard : OtherGroupsAreNothing
own_heard pi slots messages are = are ∙ sym (own_heard_of pi slots)

-- ---- what is sent

-- receivers of the programme hear the messages that are sent
pub sent_heard : WhatIsSentIsHeard
sent_heard head [] [] are = refl
sent_heard head (m ∷ messages) (g ∷ sent) are = grind (arith, sent_heard head messages sent are.1, hears_sent)
sent_heard head _ _ are = absurd are

-- what was heard in a slot is what its group says
entry_heard : (pi first : ℕ) (slots : List (Option Group)) (t : ℕ) (entry : Option Message)
    → HasEntry first (heard_of pi slots) t entry
    → (slot : Option Group) × HasEntry first slots t slot × (entry ≡ heard_in pi slot)
entry_heard pi first [] t entry at = absurd at
entry_heard pi first (slot ∷ before) t entry (inl here) =
    (slot, inl (here.0 ∙ ap (λ n. first + n) (length-map before (heard_in pi)), refl), here.1)
entry_heard pi first (slot ∷ before) t entry (inr there) = grind (arith, entry_heard pi first before t entry there)

-- and what the group of a slot says was heard in it
group_heard : (pi first : ℕ) (slots : List (Option Group)) (t : ℕ) (slot : Option Group) → HasEntry first slots t slot
    → HasEntry first (heard_of pi slots) t (heard_in pi slot)
group_heard pi first [] t slot at = absurd at
group_heard pi first (s ∷ before) t slot (inl here) =
    inl (here.0 ∙ ap (λ n. first + n) (sym (length-map before (heard_in pi))), ap (heard_in pi) here.1)
group_heard pi first (s ∷ before) t slot (inr there) = inr (group_heard pi first before t slot there)

-- as many slots as messages
heard_long : (pi : ℕ) (slots : List (Option Group)) (messages : List (Option Message)) → AreHeard pi slots messages
    → length slots ≡ length messages
heard_long pi slots messages are = sym (ap length are ∙ length-map slots (heard_in pi))

-- ---- messages

module _ (pi : ℕ) (sent : List (Option Group)) (messages heard : List (Option Message)) (input : InputOf Group)
    (are : AreHeard pi sent messages) (hear : AreHeard pi input.heard heard) where
  -- what was heard in order as groups was so as messages
  in_order : IsHeardInOrder sent input → IsHeardInOrder messages (with_messages input heard)
  in_order order = record {
    beside = order.beside ∙ heard_long pi input.heard heard hear;
    each = each;
    rising = order.rising;
  }
    where
      each : (t : ℕ) (origin : Option ℕ) (entry : Option Message) → HasEntry input.first input.origins t origin
          → HasEntry input.first heard t entry → IsOfItsOrigin messages origin entry
      each t None entry p q =
          let x = entry_heard pi input.first input.heard t entry (rw hear at q) in
          x.2 ∙ ap (heard_in pi) (order.each t None x.0 p x.1)
      each t (Some s) entry p q =
          let x = entry_heard pi input.first input.heard t entry (rw hear at q) in
          rw (are, x.2) (group_heard pi 0 sent s x.0 (order.each t (Some s) x.0 p x.1))

  late_in : (k l : ℕ) → k ≤ l → IsHeardLate k sent input → IsHeardLate l messages (with_messages input heard)
  late_in k l more late = grind (arith, in_order)

  own_in : (d e m now : ℕ) → d ≤ e → IsHeardByOwnClock d m now sent input
      → IsHeardByOwnClock e m now messages (with_messages input heard)
  own_in d e m now more own = grind (arith, heard_long, in_order)

-- groups that come late are messages that come so
pub late_groups : LateGroupsAreLateMessages
late_groups pi k l sent messages heard input are hear more late = search (arith, late_in)

-- and those that come by a clock of the receiver's own
pub own_groups : GroupsByOwnClockAreMessagesByIt
own_groups pi d e m now sent messages heard input are hear more own = search (arith, own_in)

-- ---- up to a slot

-- what was heard in order up to slot `now` is of the log up to there
order_up_to : (now : ℕ) (messages : List (Option Message)) (input : Input) → IsHeardInOrder messages input
    → ((t s : ℕ) → CameFrom input t s → s ≤ now) → IsHeardInOrder (first_entries (now + 1) messages) input
order_up_to now messages input order past =
    record { beside = order.beside; each = each; rising = order.rising }
  where
    each : (t : ℕ) (origin : Option ℕ) (entry : Option Message) → HasEntry input.first input.origins t origin
        → HasEntry input.first input.heard t entry → IsOfItsOrigin (first_entries (now + 1) messages) origin entry
    each t None entry p q = order.each t None entry p q
    each t (Some s) entry p q =
        let upto = past t s p in
        entry_of_first (now + 1) messages s entry (order.each t (Some s) entry p q) (omega (arith, upto))

-- the laws about clocks
pub record ClockLaws : Type 0 where
  pub late : LateIsBySlowClock
  pub slow : ASlowClockIsAnOwnClock

-- what came is heard by a clock of the receiver's own
pub by_own_clock : ClockLaws → (a : Auditing) (t now : ℕ) (sent got : List (Option Group))
    (messages heard : List (Option Message)) (origins : List (Option ℕ)) → AreHeard a.pi sent messages
    → AreHeard a.pi got heard → length got ≡ t + 1
    → Came a t now sent record { first = 0; heard = got; origins = origins }
    → IsHeardByOwnClock (spacing a) a.dwell now (first_entries (now + 1) messages)
    record { first = 0; heard = heard; origins = origins }
by_own_clock laws a t now sent got messages heard origins are hear reached (inl (late, same)) =
    let groups : InputOf Group = record { first = 0; heard = got; origins = origins } in
    let input : Input = record { first = 0; heard = heard; origins = origins } in
    let long = heard_long a.pi got heard hear in
    let beside = late.order.beside in
    let past : (u s : ℕ) → HasEntry 0 origins u (Some s) → s ≤ now =
    λ u s p. omega (arith, late.past u s p, before_end 0 origins u (Some s) p, beside, reached, same) in
    let all = late_groups a.pi a.late a.late sent messages heard groups are hear (omega arith) late in
    let order = order_up_to now messages input all.order past in
    let slow = laws.late a.late a.dwell now (first_entries (now + 1) messages) input
    (record { order = order; past = all.past; late = all.late }) (omega (arith, long, reached, same)) in
    laws.slow a.late a.dwell now (first_entries (now + 1) messages) input slow.0 slow.1
by_own_clock laws a t now sent got messages heard origins are hear reached (inr own) =
    let groups : InputOf Group = record { first = 0; heard = got; origins = origins } in
    let all = own_groups a.pi (spacing a) (spacing a) a.dwell now sent messages heard groups are hear (omega arith)
    own in
    let order = order_up_to now messages (with_messages groups heard) all.order all.past in
    grind arith
