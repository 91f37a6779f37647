-- What a display shows that keeps texts and names (this project's own rule). After its receiver shows none any more, it
-- goes on showing the last one as it was, for up to n slots; a text with its item bits and tags. It ends earlier if the
-- receiver holds a segment with the other flag: then the next text, or the next name, is on its way. Lists have the
-- newest first.
use Rattle.std.specs.Prelude.{◌≡◌, ◌≤◌, ◌+◌, ◌++◌, [], ◌∷◌, ℕ, Bool, true, false, List, Option, Some, None, All}
use Rattle.std.specs.Prelude.{if◌then◌else◌, is_some, length, map, nat_le, not}
use Rattle.rds_fields.specs.declared.message.Message.{Message}
use Rattle.rds_receiver.specs.Confirmed.{counted}
use Rattle.rds_receiver.specs.Receipts.{Segment, Tuning, name_fragment, text_fragment}
use Rattle.rds_receiver.specs.Run.{is_same, run_at}
use Rattle.rds_receiver.specs.Shown.{ShownView, ShowsView}

-- ---- one service

-- the end of a slot: the value that the receiver shows, and the flag of the segments that it holds
pub record Moment (X : Type 0) : Type 0 where
  pub shown : Option X
  pub flag : Option Bool

-- of the value that was shown last: its flag, and the slots since
pub record Last : Type 0 where
  pub flag : Bool
  pub age : ℕ

abbrev pub is_other : Option Bool → Bool → Bool
is_other None flag = false
is_other (Some held) flag = not (is_same held flag)

-- after one more slot: whether a value is shown, and the flag of the segments held. Segments with the other flag end
-- the last value
abbrev pub last_after : Bool → Option Bool → Option Last → Option Last
last_after true None before = None
last_after true (Some flag) before = Some record { flag = flag; age = 0 }
last_after false held None = None
last_after false held (Some l) =
    if is_other held l.flag then None else Some record { flag = l.flag; age = l.age + 1 }

abbrev pub last : {X : Type 0} → List (Moment X) → Option Last
last [] = None
last (now ∷ before) = last_after (is_some now.shown) now.flag (last before)

-- the last value was shown at most n slots ago
abbrev pub is_recent : ℕ → Option Last → Bool
is_recent n None = false
is_recent n (Some l) = nat_le l.age n

-- what the receiver shows, or else what the display showed before, if that is kept
abbrev pub or_before : {X : Type 0} → Option X → Bool → Option X → Option X
or_before (Some x) keeps before = Some x
or_before None true before = before
or_before None false before = None

-- what a display shows that keeps for n slots
abbrev pub kept : {X : Type 0} → ℕ → List (Moment X) → Option X
kept n [] = None
kept n (now ∷ before) = or_before now.shown (is_recent n (last (now ∷ before))) (kept n before)

-- this was shown, in the newest slot or at most n slots before, and nothing in the slots since
pub record WasShown {X : Type 0} (n : ℕ) (moments : List (Moment X)) (x : X) : Type 0 where
  pub since : List (Moment X)
  pub moment : Moment X
  pub before : List (Moment X)
  pub all : moments ≡ since ++ moment ∷ before
  pub few : length since ≤ n
  pub shows : moment.shown ≡ Some x
  pub nothing : All (λ later. later.shown ≡ None) since

-- ---- the display of a receiver

-- the end of a slot of a receiver: its view, and the flags of the segments of a text and of a name that it holds
pub record Showing : Type 0 where
  pub view : ShownView
  pub text_flag : Option Bool
  pub name_flag : Option Bool

-- the flag of the segments of a run, if it has any
abbrev pub flag_of : List Segment → Option Bool
flag_of [] = None
flag_of (g ∷ older) = Some g.fragment.flag

-- this is the end of the newest slot of what counted of what was heard
pub record IsShowing (m first : ℕ) (heard : List (Option Message)) (s : Showing) : Type 0 where
  pub view : ShowsView m first heard s.view
  pub text : s.text_flag ≡ flag_of (run_at text_fragment m first heard)
  pub name : s.name_flag ≡ flag_of (run_at name_fragment m first heard)

-- these are the ends of all slots of what was heard
abbrev pub AreShowings : Tuning → List (Option Message) → List Showing → Type 0
AreShowings t [] [] = Unit {0}
AreShowings t [] (s ∷ older) = ⊥
AreShowings t (heard ∷ before) [] = ⊥
AreShowings t (heard ∷ before) (s ∷ older) =
    IsShowing t.dwell t.first (counted t (heard ∷ before)) s × AreShowings t before older

-- a slot changed nothing that is shown: the view stays, and the flags of what it shows
pub record GoesOn (s now : Showing) : Type 0 where
  pub view : now.view ≡ s.view
  pub text : is_some now.view.text ≡ true → now.text_flag ≡ s.text_flag
  pub name : is_some now.view.name ≡ true → now.name_flag ≡ s.name_flag

-- the end of what was heard before goes on at the end of what was heard then
abbrev pub GoesOnBy : Tuning → List (Option Message) → List (Option Message) → Type 0
GoesOnBy t before after =
    (s now : Showing) → IsShowing t.dwell t.first (counted t before) s → IsShowing t.dwell t.first (counted t after) now
    → GoesOn s now

-- a view that shows a text, with its item bits and tags
abbrev pub with_text : ShownView → Option ShownView
with_text view = if is_some view.text then Some view else None

abbrev pub text_moment : Showing → Moment ShownView
text_moment s = record { shown = with_text s.view; flag = s.text_flag }

abbrev pub name_moment : Showing → Moment (List ℕ)
name_moment s = record { shown = s.view.name; flag = s.name_flag }

-- a text as it was in a view, beside a name
abbrev pub beside : Option ShownView → Option (List ℕ) → ShownView
beside None name = record { text = None; name = name; item = None; one = None; two = None }
beside (Some view) name = record view { name = name }

-- the end of the newest slot; before the first slot nothing is shown
abbrev pub newest_showing : List Showing → Showing
newest_showing [] = record { view = beside None None; text_flag = None; name_flag = None }
newest_showing (s ∷ older) = s

-- what the display shows after these slots, if it keeps for n slots
abbrev pub displayed : ℕ → List Showing → ShownView
displayed n showings = beside (kept n (map text_moment showings)) (kept n (map name_moment showings))

-- the display shows this view after what was heard
pub record Displays (n : ℕ) (t : Tuning) (heard : List (Option Message)) (view : ShownView) : Type 0 where
  pub showings : List Showing
  pub are : AreShowings t heard showings
  pub shows : view ≡ displayed n showings
