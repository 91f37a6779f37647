-- What a display shows that keeps texts and names for n slots (this project's own rule): its receiver showed it safely at
-- most n slots before, a text with its tags. So it was on air within the last d + n slots. Lists have the newest first.
use Rattle.std.specs.Prelude.{◌≡◌, ◌+◌, ◌<◌, ◌≤◌, ◌++◌, [], ◌∷◌, ℕ, List, Option, Some, length, map}
use Rattle.rds_fields.specs.declared.message.Message.{Message}
use Rattle.rds_encoder.specs.Plan.{Broadcast, Covers, HasNumber}
use Rattle.rds_receiver.specs.Kept.{Showing, displayed, flag_of}
use Rattle.rds_receiver.specs.Shown.{ShownView}
use Rattle.rds_safety.specs.Lawful.{Kind}
use Rattle.rds_safety.specs.Plans.{AreLawfulAs, Plans}
use Rattle.rds_safety.specs.Safe.{AreSafeViews, Listener, ListensTo}
use Rattle.rds_safety.specs.Source.{name_run, text_run}

-- a receiver of dwell m at the end of each slot of a log: it heard the log at most k slots late
abbrev pub ListensFrom : ℕ → ℕ → List (Option Message) → List Listener → Type 0
ListensFrom k m log [] = Unit {0}
ListensFrom k m log (now ∷ before) = ListensTo k m (length before) log now × ListensFrom k m log before

-- the end of a slot: the view, and the flags of the segments that the receiver holds
abbrev pub showing_of : ℕ → Listener → Showing
showing_of m r = record {
  view = r.view;
  text_flag = flag_of (text_run m r.input);
  name_flag = flag_of (name_run m r.input);
}

-- what its display shows at the end of the newest slot
abbrev pub displayed_by : ℕ → ℕ → List Listener → ShownView
displayed_by m n slots = displayed n (map (showing_of m) slots)

-- at the end of one of these slots, at most n before the newest, the receiver showed this, and its view was safe
pub record WasSafe (d m n : ℕ) (plans : Plans) (log : List (Option Message)) (slots : List Listener)
    (Showed : ShownView → Type 0) : Type 0 where
  pub since : List Listener
  pub at : Listener
  pub before : List Listener
  pub all : slots ≡ since ++ at ∷ before
  pub few : length since ≤ n
  pub showed : Showed at.view
  pub safe : AreSafeViews d m (length before) plans log (at ∷ [])

-- the view has this text, with the item bits and tags of the other view
pub record HasTextOf (other : ShownView) (x : List ℕ) (view : ShownView) : Type 0 where
  pub text : view.text ≡ Some x
  pub item : view.item ≡ other.item
  pub one : view.one ≡ other.one
  pub two : view.two ≡ other.two

-- a broadcast of the plan has these bytes, and covers one of the d slots up to slot t
pub record WasOnAir (d t : ℕ) (plan : List Broadcast) (x : List ℕ) : Type 0 where
  pub number : ℕ
  pub broadcast : Broadcast
  pub planned : HasNumber plan number broadcast
  pub bytes : broadcast.bytes ≡ x
  pub slot : ℕ
  pub covers : Covers broadcast slot
  pub past : slot ≤ t
  pub recent : t < slot + d

-- what the display shows after these slots was safe: its text with its tags, and its name. Each was on air
pub record IsKeptSafely (d m n : ℕ) (plans : Plans) (log : List (Option Message)) (slots : List Listener)
    (view : ShownView) : Type 0 where
  pub text : (x : List ℕ) → view.text ≡ Some x → WasSafe d m n plans log slots (HasTextOf view x)
  pub name : (x : List ℕ) → view.name ≡ Some x → WasSafe d m n plans log slots (λ v. v.name ≡ Some x)
  pub text_on_air : (t : ℕ) (x : List ℕ) → length slots ≡ t + 1 → view.text ≡ Some x → WasOnAir (d + n) t plans.text x
  pub name_on_air : (t : ℕ) (x : List ℕ) → length slots ≡ t + 1 → view.name ≡ Some x → WasOnAir (d + n) t plans.name x

-- if no group comes more than k slots late, plans that are lawful for m + k make each display safe that keeps for n slots
abbrev pub WhatIsKeptWasSafe : Kind → Type 0
WhatIsKeptWasSafe kind =
    (k m n : ℕ) (plans : Plans) (log : List (Option Message)) (slots : List Listener)
    → AreLawfulAs kind (m + k) plans log → ListensFrom k m log slots
    → IsKeptSafely (m + k) m n plans log slots (displayed_by m n slots)
