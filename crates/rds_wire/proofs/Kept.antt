-- What `decode --keep N` displays was displayed without it.
use Rattle.std.proofs.Common.{◌≡◌, ◌≢◌, ◌⊎◌, ◌<◌, ◌≤◌, ◌+◌, ◌-◌, ◌^◌, ◌++◌, ◌∷◌, ◌∙◌, [], ℕ, suc, Bool, List, Option, None}
use Rattle.std.proofs.Common.{Some, ap, arith, drop, inl, inr, length, map, refl, subst, sym}
use Rattle.std.proofs.lemmas.List.{drop-drop, drop-map, length-append}
use Rattle.std.proofs.lemmas.Option.{same_Some}
use Rattle.std.specs.Prelude.{codes}
use lib.ListN.{length-map}
use Rattle.rds_block.specs.declared.group.Group.{Group}
use Rattle.rds_charset.specs.Printed.{printed}
use Rattle.rds_fields.specs.declared.message.Message.{Message}
use Rattle.rds_lines.specs.OneLog.{same_log}
use Rattle.rds_log.specs.LogWrites.{AreDisplays, IsDisplay, LogWrites, plain, tuning_of}
use Rattle.rds_log.specs.declared.decode_log.Decoding.{Decoding}
use Rattle.rds_receiver.specs.Confirmed.{counted}
use Rattle.rds_receiver.specs.Kept.{AreShowings, IsShowing, Moment, Showing, displayed, kept, name_moment, text_moment}
use Rattle.rds_receiver.specs.KeptLemmas.{kept_was_shown}
use Rattle.rds_receiver.specs.OneView.{same_view}
use Rattle.rds_receiver.specs.Receipts.{Tuning, heard_in, heard_of}
use Rattle.rds_receiver.specs.Shown.{IsView, ShownView}
use Rattle.rds_receiver.specs.declared.why.Whys.{Whys}
use Rattle.rds_safety.specs.Late.{HasEntry}
use Rattle.rds_view_lines.specs.Output.{Display, changes_of, none_content, quoted, tag_content, text_content, why_name, why_text}
use Rattle.rds_view_lines.specs.ViewParts.{Name, Part, Tag1, Tag2, Text, part_content, part_name}
use Rattle.rds_wire.specs.Headline.{Displays, Headline, IsSafe, Receiver, WasOnAir, WentWith, in_quotes, slots}
use Rattle.rds_wire.specs.Kept.{NothingNewIsKept, WasDisplayed, WhatIsKeptWasDisplayed, WhatIsKeptWasOnAir}
use Rattle.rds_wire.specs.Kept.{keeping}
use Rattle.rds_wire.specs.NothingNew.{NothingNew, decoding}
use Rattle.rds_wire.specs.Received.{first_entries}
use Rattle.rds_wire.proofs.Headline.{displays_shows, newest_displays, not_nothing}
use Rattle.rds_wire.proofs.NothingNew.{has_value}
use Rattle.rds_wire.proofs.Reached.{slots_long}
use Rattle.rds_wire.proofs.Reading.{IsContentOf, newest_line}
use Rattle.rds_wire.proofs.Receiving.{display_in, displays_long, first_length, view_in}
use Rattle.rds_wire.proofs.Wired.{entry_at, shown as shown_by}

-- ---- the slot in which a kept value was shown

-- an image is cut where its list is
cut_map : {A B : Type 0} (f : A → B) (xs : List A) (since : List B) (y : B) (rest : List B)
    → map f xs ≡ since ++ y ∷ rest
    → (later : List A) × (x : A) × (older : List A) × (xs ≡ later ++ x ∷ older) × (length later ≡ length since)
    × (f x ≡ y)
cut_map f [] [] y rest e = absurd (cc)
cut_map f [] (s ∷ since) y rest e = absurd (cc)
cut_map f (x ∷ xs) [] y rest e = ([], x, xs, refl, refl, cc)
cut_map f (x ∷ xs) (s ∷ since) y rest e =
    let it = cut_map f xs since y rest (cc) in
    (x ∷ it.0, it.1, it.2, ap (λ l. x ∷ l) it.3, ap suc it.4, it.5)

-- the end of a slot before others
showing_at : (t : Tuning) (heard : List (Option Message)) (later : List Showing) (s : Showing) (older : List Showing)
    → AreShowings t heard (later ++ s ∷ older) → IsShowing t.dwell t.first (counted t (drop (length later) heard)) s
showing_at t [] [] s older are = absurd are
showing_at t (h ∷ before) [] s older are = are.0
showing_at t [] (x ∷ later) s older are = absurd are
showing_at t (h ∷ before) (x ∷ later) s older are = showing_at t before later s older are.1

showings_long : (t : Tuning) (heard : List (Option Message)) (showings : List Showing) → AreShowings t heard showings
    → length heard ≡ length showings
showings_long t [] [] are = refl
showings_long t (h ∷ before) (s ∷ older) are = ap suc (showings_long t before older are.1)
showings_long t [] (s ∷ older) are = absurd are
showings_long t (h ∷ before) [] are = absurd are

-- without the newest entries of the first ones, they are the first ones of an earlier slot
heard_before : (pi now later older : ℕ) (slots : List (Option Group)) → now < length slots
    → now + 1 ≡ later + suc older
    → drop later (heard_of pi (first_entries (now + 1) slots)) ≡ heard_of pi (first_entries (older + 1) slots)
heard_before pi now later older slots below long =
    drop-map (heard_in pi) later (first_entries (now + 1) slots)
    ∙ ap (heard_of pi) (drop-drop later (length slots - (now + 1)) slots)
    ∙ ap (λ j. heard_of pi (drop j slots)) (omega (arith, below, long))

-- in a slot up to this one, at most n slots ago, the receiver showed the value
record ShownIn {X : Type 0} (n now : ℕ) (t : Tuning) (slots : List (Option Group)) (moment : Showing → Moment X) (x : X)
    : Type 0 where
  slot : ℕ
  past : slot ≤ now
  recent : now ≤ slot + n
  end : Showing
  view : IsView t (first_entries (slot + 1) slots) end.view
  shows : (moment end).shown ≡ Some x

shown_in : {X : Type 0} (n now : ℕ) (t : Tuning) (slots : List (Option Group)) (moment : Showing → Moment X) (x : X)
    (showings : List Showing) → now < length slots
    → AreShowings t (heard_of t.programme (first_entries (now + 1) slots)) showings
    → kept n (map moment showings) ≡ Some x → ShownIn n now t slots moment x
shown_in n now t slots moment x showings below are is =
    let heard = heard_of t.programme (first_entries (now + 1) slots) in
    let was = kept_was_shown n (map moment showings) x is in
    let cut = cut_map moment showings was.since was.moment was.before was.all in
    let few = was.few in
    let long : now + 1 ≡ length cut.0 + suc (length cut.2) =
    sym (first_length (now + 1) slots (omega (arith, below)))
    ∙ sym (length-map (first_entries (now + 1) slots) (heard_in t.programme))
    ∙ showings_long t heard showings are ∙ ap length cut.3 ∙ length-append cut.0 (cut.1 ∷ cut.2) in
    let at = showing_at t heard cut.0 cut.1 cut.2 (subst (AreShowings t heard) cut.3 are) in
    let same = heard_before t.programme now (length cut.0) (length cut.2) slots below long in
    record {
      slot = length cut.2;
      past = omega (arith, long);
      recent = omega (arith, long, few, cut.4);
      end = cut.1;
      view = (subst (λ h. IsShowing t.dwell t.first (counted t h) cut.1) same at).view;
      shows = ap (λ m. m.shown) cut.5 ∙ was.shows;
    }

-- ---- what a display shows that keeps

-- the view that the text, the item bits and the tags of the display are from
text_kept : (n : ℕ) (showings : List Showing) (x : List ℕ) → (displayed n showings).text ≡ Some x
    → (view : ShownView) × (kept n (map text_moment showings) ≡ Some view) × (view.text ≡ Some x)
    × (displayed n showings ≡ record view { name = kept n (map name_moment showings) })
text_kept n showings x is = by (kept n (map text_moment showings)) refl
  where
    by : (o : Option ShownView) → kept n (map text_moment showings) ≡ o
        → (view : ShownView) × (kept n (map text_moment showings) ≡ Some view) × (view.text ≡ Some x)
        × (displayed n showings ≡ record view { name = kept n (map name_moment showings) })
    by None e = absurd (grind (arith))
    by (Some view) e = (view, e, grind (arith), grind (arith))

name_kept : (n : ℕ) (showings : List Showing) → (displayed n showings).name ≡ kept n (map name_moment showings)
name_kept n showings = by (kept n (map text_moment showings)) refl
  where
    by : (o : Option ShownView) → kept n (map text_moment showings) ≡ o
        → (displayed n showings).name ≡ kept n (map name_moment showings)
    by None e = grind (arith)
    by (Some view) e = grind (arith)

-- a text that was shown, in its whole view
whole_view : (s : Showing) (view : ShownView) → (text_moment s).shown ≡ Some view → s.view ≡ view
whole_view s view e = by s.view.text refl e
  where
    by : (text : Option (List ℕ)) → s.view.text ≡ text → (text_moment s).shown ≡ Some view → s.view ≡ view
    by None is e = absurd (grind (arith))
    by (Some x) is e = grind (arith)

-- who shows a text shows its bytes
shows_a_text : (s : Showing) (view : ShownView) → (text_moment s).shown ≡ Some view
    → (x : List ℕ) × (view.text ≡ Some x)
shows_a_text s view e = by s.view.text refl e
  where
    by : (text : Option (List ℕ)) → s.view.text ≡ text → (text_moment s).shown ≡ Some view
        → (x : List ℕ) × (view.text ≡ Some x)
    by None is e = absurd (grind (arith))
    by (Some x) is e = (x, grind (arith))

-- a display shows a text, or no tags
text_or_no_tags : (n : ℕ) (showings : List Showing) → ((x : List ℕ) × ((displayed n showings).text ≡ Some x))
    ⊎ (((displayed n showings).one ≡ None) × ((displayed n showings).two ≡ None))
text_or_no_tags n showings = by (kept n (map text_moment showings)) refl
  where
    by : (o : Option ShownView) → kept n (map text_moment showings) ≡ o
        → ((x : List ℕ) × ((displayed n showings).text ≡ Some x))
        ⊎ (((displayed n showings).one ≡ None) × ((displayed n showings).two ≡ None))
    by None e = inr (grind (arith), grind (arith))
    by (Some view) e =
        let was = kept_was_shown n (map text_moment showings) view e in
        let cut = cut_map text_moment showings was.since was.moment was.before was.all in
        let text = shows_a_text cut.1 view (ap (λ m. m.shown) cut.5 ∙ was.shows) in
        inl (text.0, grind (arith))

-- ---- the output of the same log without `--keep`

module _ (how : Decoding) (received output unkept : List ℕ) (few : length (slots received) < 2 ^ 64)
    (r : LogWrites how received output) (w : LogWrites (keeping 0 how) received unkept) (t : ℕ)
    (below : t < length (slots received)) where
  abbrev tuning : Tuning
  tuning = tuning_of how

  long : length (slots received) ≡ length r.write.slots
  long = slots_long how.rtplus received r.cut r.write.slots r.are r.write.say

  same : w.write.slots ≡ r.write.slots
  same = same_log how.rtplus received w.write.slots r.write.slots
      record { lines = w.cut; are = w.are; say = w.write.say } record { lines = r.cut; are = r.are; say = r.write.say }

  r_long : length r.write.slots ≡ length r.write.write.displays
  r_long = displays_long how.keep how.says_why tuning r.write.slots _ r.write.write.are

  w_long : length w.write.slots ≡ length w.write.write.displays
  w_long = displays_long 0 how.says_why tuning w.write.slots _ w.write.write.are

  at_t : (d : Display) × HasEntry 0 r.write.write.displays t d
  at_t = entry_at r.write.write.displays t (omega (arith, below, long, r_long))

  content : (part : Part) (given : List ℕ) → Displays output t (part_name part) given
      → IsContentOf part at_t.0.view given
  content part given d =
      shown_by r.write.write.displays output t part given at_t.0 r.write.write.changes (omega (arith, few, long, r_long))
      at_t.1 (displays_shows r.write.write.displays output r.write.write.changes t part given d)

  is : IsDisplay how.keep how.says_why tuning (first_entries (t + 1) r.write.slots) at_t.0
  is = (display_in how.keep how.says_why tuning r.write.slots r.write.write.displays t at_t.0 r.write.write.are at_t.1).0

  -- a view that the receiver showed is that of the output without `--keep`
  displayed_in : (u : ℕ) → u ≤ t → (view : ShownView) → IsView tuning (first_entries (u + 1) r.write.slots) view
      → (part : Part) (given : List ℕ) → ((whys : Option Whys) → part_content part whys view ≡ given)
      → given ≢ none_content None → Displays unkept u (part_name part) given
  displayed_in u past view seen part given has some =
      let at_u = entry_at w.write.write.displays u (omega (arith, past, below, long, w_long, ap length same)) in
      let seen_u = (view_in how.says_why tuning w.write.slots w.write.write.displays u at_u.0 w.write.write.are at_u.1).0
      in
      let one : at_u.0.view ≡ view =
      same_view tuning (first_entries (u + 1) r.write.slots) at_u.0.view view
      (subst (λ l. IsView tuning (first_entries (u + 1) l) at_u.0.view) same seen_u) seen in
      newest_displays w.write.write.displays unkept w.write.write.changes u part given
      (newest_line w.write.write.displays part given u at_u.0 at_u.1 (omega (arith, few, long, w_long, ap length same))
      (λ whys. ap (part_content part whys) one ∙ has whys) some)

  -- the view that the text is from
  abbrev WasText : List ℕ → Type 0
  WasText shown = (bytes : List ℕ) × (shown ≡ printed bytes) × (was : ShownView) × (was.text ≡ Some bytes)
      × (at_t.0.view ≡ record was { name = at_t.0.view.name }) × (u : ℕ) × (u ≤ t) × (t ≤ u + how.keep)
      × IsView tuning (first_entries (u + 1) r.write.slots) was

  was_of : (shown x : List ℕ) → at_t.0.view.text ≡ Some x → shown ≡ printed x → WasText shown
  was_of shown x has printed_is =
      let shows = is.view.shows in
      let k = text_kept how.keep is.view.showings x (sym (ap (λ v. v.text) shows) ∙ has) in
      let s = shown_in how.keep t tuning r.write.slots text_moment k.0 is.view.showings (omega (arith, below, long))
      is.view.are k.1 in
      let was = whole_view s.end k.0 s.shows in
      let here : at_t.0.view ≡ record k.0 { name = at_t.0.view.name } =
      shows ∙ k.3 ∙ ap (λ name. record k.0 { name = name }) (sym (ap (λ v. v.name) (shows ∙ k.3))) in (
        x,
        printed_is,
        k.0,
        k.2,
        here,
        s.slot,
        s.past,
        s.recent,
        subst (IsView tuning (first_entries (s.slot + 1) r.write.slots)) was s.view,
      )

  was_text : (shown : List ℕ) → Displays output t (codes "text") (in_quotes shown) → WasText shown
  was_text shown d =
      let c = content Text (in_quotes shown) d in
      let val = has_value (why_text c.0) at_t.0.view.text shown c.1 in was_of shown val.0 val.1 val.2

  text : (shown : List ℕ) (was : WasText shown) → Displays unkept was.5 (codes "text") (in_quotes shown)
  text shown (bytes, printed_is, view, is_text, here, u, past, recent, seen) =
      subst (λ l. Displays unkept u (codes "text") (in_quotes l)) (sym printed_is)
      (displayed_in u past view seen Text (quoted bytes) (λ whys. ap (text_content (why_text whys)) is_text)
      (λ e. not_nothing (printed bytes) (None, e)))

  name : (shown : List ℕ) → Displays output t (codes "name") (in_quotes shown)
      → (u : ℕ) × (u ≤ t) × (t ≤ u + how.keep) × Displays unkept u (codes "name") (in_quotes shown)
  name shown d =
      let c = content Name (in_quotes shown) d in
      let val = has_value (why_name c.0) at_t.0.view.name shown c.1 in
      let e = sym (name_kept how.keep is.view.showings) ∙ sym (ap (λ v. v.name) is.view.shows) ∙ val.1 in
      let s = shown_in how.keep t tuning r.write.slots name_moment val.0 is.view.showings (omega (arith, below, long))
      is.view.are e in (
        s.slot,
        s.past,
        s.recent,
        subst (λ l. Displays unkept s.slot (codes "name") (in_quotes l)) (sym val.2)
            (displayed_in s.slot s.past s.end.view s.view Name (quoted val.0)
            (λ whys. ap (text_content (why_name whys)) s.shows) (λ n. not_nothing (printed val.0) (None, n))),
      )

  -- a tag is from the view of the text
  tag : (part : Part)
      → ((whys other : Option Whys) (view : ShownView) (name : Option (List ℕ))
      → part_content part whys (record view { name = name }) ≡ part_content part other view)
      → (text content : List ℕ) (was : WasText text) → Displays output t (part_name part) content
      → content ≢ codes " none" → Displays unkept was.5 (part_name part) content
  tag part stays text given (bytes, printed_is, view, is_text, here, u, past, recent, seen) d some =
      let c = content part given d in
      displayed_in u past view seen part given
      (λ whys. sym (c.1 ∙ ap (part_content part c.0) here ∙ stays c.0 whys view at_t.0.view.name)) some

  -- a tag has a text beside it
  its_text : (part : Part)
      → ((whys : Option Whys) (view : ShownView) → view.one ≡ None → view.two ≡ None
      → part_content part whys view ≡ codes " none")
      → (given : List ℕ) → Displays output t (part_name part) given → given ≢ codes " none"
      → (x : List ℕ) × (at_t.0.view.text ≡ Some x)
  its_text part none given d some =
      let c = content part given d in
      let shows = is.view.shows in
      elim (text_or_no_tags how.keep is.view.showings) [
        | inl (x, e) ↦ (x, ap (λ v. v.text) shows ∙ e)
        | inr (one, two) ↦
            absurd (some (c.1
            ∙ none c.0 at_t.0.view (ap (λ v. v.one) shows ∙ one) (ap (λ v. v.two) shows ∙ two)))
      ]

  -- the output displays it
  displays_text : (x : List ℕ) → at_t.0.view.text ≡ Some x → Displays output t (codes "text") (in_quotes (printed x))
  displays_text x e =
      newest_displays r.write.write.displays output r.write.write.changes t Text (quoted x)
      (newest_line r.write.write.displays Text (quoted x) t at_t.0 at_t.1 (omega (arith, few, long, r_long))
      (λ whys. ap (text_content (why_text whys)) e) (λ n. not_nothing (printed x) (None, n)))

  with_its_text : (part : Part)
      → ((whys : Option Whys) (view : ShownView) → view.one ≡ None → view.two ≡ None
      → part_content part whys view ≡ codes " none")
      → ((whys other : Option Whys) (view : ShownView) (name : Option (List ℕ))
      → part_content part whys (record view { name = name }) ≡ part_content part other view)
      → (given : List ℕ) → Displays output t (part_name part) given → given ≢ codes " none"
      → (text : List ℕ) × (u : ℕ) × (u ≤ t) × (t ≤ u + how.keep) × Displays output t (codes "text") (in_quotes text)
      × Displays unkept u (codes "text") (in_quotes text) × Displays unkept u (part_name part) given
  with_its_text part none stays given d some =
      let x = its_text part none given d some in
      let was = was_of (printed x.0) x.0 x.1 refl in (
        printed x.0,
        was.5,
        was.6,
        was.7,
        displays_text x.0 x.1,
        text (printed x.0) was,
        tag part stays (printed x.0) given was d some,
      )

  was_displayed : WasDisplayed how.keep t output unkept
  was_displayed = record { values = values; tags = tags }
    where
      values : (word shown : List ℕ) → (word ≡ codes "text") ⊎ (word ≡ codes "name")
          → Displays output t word (in_quotes shown)
          → (u : ℕ) × (u ≤ t) × (t ≤ u + how.keep) × Displays unkept u word (in_quotes shown)
      values word shown (inl e) d =
          let was = was_text shown (subst (λ it. Displays output t it (in_quotes shown)) e d) in (
            was.5,
            was.6,
            was.7,
            subst (λ it. Displays unkept was.5 it (in_quotes shown)) (sym e) (text shown was),
          )
      values word shown (inr e) d =
          let it = name shown (subst (λ it. Displays output t it (in_quotes shown)) e d) in
          (it.0, it.1, it.2, subst (λ w. Displays unkept it.0 w (in_quotes shown)) (sym e) it.3)

      tags : (word given : List ℕ) → (word ≡ codes "tag1") ⊎ (word ≡ codes "tag2") → Displays output t word given
          → given ≢ codes " none"
          → (text : List ℕ) × (u : ℕ) × (u ≤ t) × (t ≤ u + how.keep) × Displays output t (codes "text") (in_quotes text)
          × Displays unkept u (codes "text") (in_quotes text) × Displays unkept u word given
      tags word given (inl e) d some =
          let it = with_its_text Tag1 (λ whys view one two. ap tag_content one) (λ whys other view name. refl) given
          (subst (λ w. Displays output t w given) e d) some in
          (it.0, it.1, it.2, it.3, it.4, it.5, subst (λ w. Displays unkept it.1 w given) (sym e) it.6)
      tags word given (inr e) d some =
          let it = with_its_text Tag2 (λ whys view one two. ap tag_content two) (λ whys other view name. refl) given
          (subst (λ w. Displays output t w given) e d) some in
          (it.0, it.1, it.2, it.3, it.4, it.5, subst (λ w. Displays unkept it.1 w given) (sym e) it.6)

-- one text is displayed in a slot
one_text : (how : Decoding) (received output : List ℕ) → length (slots received) < 2 ^ 64
    → LogWrites (keeping 0 how) received output → (u : ℕ) → u < length (slots received) → (a b : List ℕ)
    → Displays output u (codes "text") (in_quotes a) → Displays output u (codes "text") (in_quotes b) → a ≡ b
one_text how received output few w u below a b p q =
    let view = (at_t (keeping 0 how) received output output few w w u below).0.view in
    let one = content (keeping 0 how) received output output few w w u below Text (in_quotes a) p in
    let other = content (keeping 0 how) received output output few w w u below Text (in_quotes b) q in
    let x = has_value (why_text one.0) view.text a one.1 in
    let y = has_value (why_text other.0) view.text b other.1 in
    x.2 ∙ ap printed (same_Some x.0 y.0 (sym x.1 ∙ y.1)) ∙ sym y.2

-- what is kept was displayed
pub kept_was_displayed : WhatIsKeptWasDisplayed
kept_was_displayed how received output unkept few r w t below = was_displayed how received output unkept few r w t below

-- ---- each log has an output without `--keep`

unkept_displays : (n : ℕ) (why : Bool) (t : Tuning) (slots : List (Option Group)) (displays : List Display)
    → AreDisplays n why t slots displays → (unkept : List Display) × AreDisplays 0 why t slots unkept
unkept_displays n why t [] [] are = ([], are)
unkept_displays n why t (slot ∷ before) (d ∷ older) are =
    let it = unkept_displays n why t before older are.1 in
    let seen = are.0.view in (
      record { view = displayed 0 seen.showings; whys = d.whys } ∷ it.0,
      (
        record { view = record { showings = seen.showings; are = seen.are; shows = refl }; whys = are.0.whys },
        it.1,
      ),
    )
unkept_displays n why t [] (d ∷ older) are = absurd are
unkept_displays n why t (slot ∷ before) [] are = absurd are

without : (how : Decoding) (received output : List ℕ) → LogWrites how received output
    → (unkept : List ℕ) × LogWrites (keeping 0 how) received unkept
without how received output r =
    let it = unkept_displays how.keep how.says_why (tuning_of how) r.write.slots r.write.write.displays r.write.write.are
    in (
      changes_of it.0,
      record {
        cut = r.cut;
        are = r.are;
        write = record {
          slots = r.write.slots;
          say = r.write.say;
          write = record { displays = it.0; are = it.1; changes = refl };
        };
      },
    )

-- ---- the headlines

pub kept_was_on_air : Headline → WhatIsKeptWasOnAir
kept_was_on_air headline head m k n script log is some writes received output reaches r t below =
    record { values = values; tags = tags }
  where
    how : Decoding
    how = keeping n (plain head.pi m)

    unkept : (unkept : List ℕ) × LogWrites (plain head.pi m) received unkept
    unkept = without how received output r

    was : WasDisplayed n t output unkept.0
    was = kept_was_displayed how received output unkept.0 reaches.few r unkept.1 t below

    receiver : Receiver head.pi m k log
    receiver = record { received = received; output = unkept.0; reaches = reaches; decodes = unkept.1 }

    safe : (u : ℕ) → u ≤ t → IsSafe (m + k) u script unkept.0 unkept.0
    safe u past =
        let in_u : u < length (slots received) = omega (arith, past, below) in
        headline head m k script log is some writes receiver receiver u in_u in_u

    later : (word shown : List ℕ) (i u : ℕ) → u ≤ t → t ≤ u + n → WasOnAir word (m + k) (m + k) u script shown i
        → WasOnAir word (m + k) (m + k + n) t script shown i
    later word shown i u past recent air =
        let before = air.past in
        let soon = air.recent in
        record {
          slot = air.slot;
          past = omega (arith, past, before);
          recent = omega (arith, recent, soon);
          on_air = air.on_air;
        }

    went_later : (word text content : List ℕ) (i u : ℕ) → u ≤ t → WentWith word (m + k) u script text content i
        → WentWith word (m + k) t script text content i
    went_later word text content i u past went =
        let before = went.past in
        let lasted = went.lasted in
        record {
          slot = went.slot;
          past = omega (arith, past, before);
          on_air = went.on_air;
          lasted = omega (arith, past, lasted);
          row = went.row;
          is_row = went.is_row;
          is_tags = went.is_tags;
          pair = went.pair;
          numbers = went.numbers;
          fits = went.fits;
          tag = went.tag;
          is_tag = went.is_tag;
          some = went.some;
          is = went.is;
        }

    values : (word shown : List ℕ) → (word ≡ codes "text") ⊎ (word ≡ codes "name")
        → Displays output t word (in_quotes shown) → (i : ℕ) × WasOnAir word (m + k) (m + k + n) t script shown i
    values word shown of d =
        let it = was.values word shown of d in
        let at_u = (safe it.0 it.1).values word shown shown of it.3 it.3 in
        (at_u.0, later word shown at_u.0 it.0 it.1 it.2 at_u.2)

    tags : (word content : List ℕ) → (word ≡ codes "tag1") ⊎ (word ≡ codes "tag2") → Displays output t word content
        → content ≢ codes " none"
        → (text : List ℕ) × (i : ℕ) × Displays output t (codes "text") (in_quotes text)
        × WasOnAir (codes "text") (m + k) (m + k + n) t script text i × WentWith word (m + k) t script text content i
    tags word content of d none =
        let (text, u, past, recent, shows, has, tag) = was.tags word content of d none in
        let at_u = (safe u past).tags word content of tag none in
        let same : at_u.0 ≡ text =
        one_text how received unkept.0 reaches.few unkept.1 u (omega (arith, past, below)) at_u.0 text at_u.2 has in (
          text,
          at_u.1,
          shows,
          subst (λ x. WasOnAir (codes "text") (m + k) (m + k + n) t script x at_u.1) same
              (later (codes "text") at_u.0 at_u.1 u past recent at_u.3),
          subst (λ x. WentWith word (m + k) t script x content at_u.1) same
              (went_later word at_u.0 content at_u.1 u past at_u.4),
        )

pub nothing_new_is_kept : NothingNew → NothingNewIsKept
nothing_new_is_kept law a n count log some few passes received output whole reaches r w word shown t of below d =
    let how = keeping n (decoding a a.dwell) in
    let unkept = without how received output r in
    let it = (kept_was_displayed how received output unkept.0 reaches.few r unkept.1 t below).values word shown of d in
    let past = it.1 in
    let recent = it.2 in
    let new = law a count log some few passes received unkept.0 whole reaches unkept.1 w word shown it.0 of
    (omega (arith, past, below)) it.3 in
    let new_past = new.1 in
    let new_recent = new.2 in
    (new.0, omega (arith, past, new_past), omega (arith, recent, new_recent), new.3)
