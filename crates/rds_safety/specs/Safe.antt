-- When the views of receivers at the end of a slot are safe for the plans of a station (this project's own rule): each
-- text or name shown was on air within the last d slots, the tags shown are of that text, and any two receivers show
-- one broadcast or two that follow each other. Lists have the newest first.
use Rattle.std.specs.Prelude.{◌≡◌, ◌+◌, ◌<◌, ◌≤◌, ◌⊎◌, ℕ, List, Option, Some, None, IfSome, length, take, drop, All}
use Rattle.rds_fields.specs.declared.message.Message.{Message}
use Rattle.rds_fields.specs.Tag.{PairFields, TagFields, end_of}
use Rattle.rds_encoder.specs.Plan.{Broadcast, Covers}
use Rattle.rds_receiver.specs.Receipts.{Segment}
use Rattle.rds_receiver.specs.Shown.{ShowsView, ShownView}
use Rattle.rds_safety.specs.Late.{Input, IsHeardLate}
use Rattle.rds_safety.specs.Marks.{IsMarkIn, Mark, Tagged, marks, text_mark}
use Rattle.rds_safety.specs.Plans.{Plans}
use Rattle.rds_safety.specs.Source.{IsSource, name_run, text_run}

-- a receiver: its input and its view
pub record Listener : Type 0 where
  pub input : Input
  pub view : ShownView

-- the receiver of dwell m heard the log at most k slots late up to slot t, and shows the view of that
pub record ListensTo (k m t : ℕ) (log : List (Option Message)) (r : Listener) : Type 0 where
  pub late : IsHeardLate k log r.input
  pub now : r.input.first + length r.input.heard ≡ t + 1
  pub shows : ShowsView m r.input.first r.input.heard r.view

-- the run has a source; the bytes of this broadcast are the value, and it covers one of the d slots up to slot t
pub record RunWasOnAir (d t : ℕ) (plan : List Broadcast) (input : Input) (the_run : List Segment)
    (value : List ℕ) : Type 0 where
  pub number : ℕ
  pub broadcast : Broadcast
  pub source : IsSource plan input the_run number broadcast
  pub bytes : broadcast.bytes ≡ value
  pub slot : ℕ
  pub covers : Covers broadcast slot
  pub past : slot ≤ t
  pub recent : t < slot + d

-- the text shown, if any, was on air
abbrev pub ShowsTextOnAir : ℕ → ℕ → ℕ → Plans → Listener → Type 0
ShowsTextOnAir d m t plans r = IfSome r.view.text (RunWasOnAir d t plans.text r.input (text_run m r.input))

-- the name shown, if any, was on air
abbrev pub ShowsNameOnAir : ℕ → ℕ → ℕ → Plans → Listener → Type 0
ShowsNameOnAir d m t plans r = IfSome r.view.name (RunWasOnAir d t plans.name r.input (name_run m r.input))

-- the shown tag has the class of the tag and its piece of the text
pub record NamesPiece (tag : TagFields) (text : List ℕ) (shown : ℕ × List ℕ) : Type 0 where
  pub class : shown.0 ≡ tag.class
  pub real : 0 < tag.class
  pub ends : end_of tag ≤ length text
  pub piece : shown.1 ≡ take (tag.extra + 1) (drop tag.start text)

-- no item bits and no tags are shown
pub record ShowsNoTags (view : ShownView) : Type 0 where
  pub item : view.item ≡ None
  pub one : view.one ≡ None
  pub two : view.two ≡ None

-- the item bits and the tags shown are those of a pair that was sent in the source of the run, at least d slots after
-- its start, and each tag shows its piece of that broadcast's text
pub record ShowsTagsOf (d : ℕ) (plan : List Broadcast) (sent : List Mark) (input : Input) (the_run : List Segment)
    (view : ShownView) : Type 0 where
  pub number : ℕ
  pub broadcast : Broadcast
  pub source : IsSource plan input the_run number broadcast
  pub pair : PairFields
  pub slot : ℕ
  pub tagged : IsMarkIn sent slot (Tagged pair)
  pub lasted : broadcast.start + d ≤ slot
  pub to : slot ≤ broadcast.end
  pub item : view.item ≡ Some (pair.toggle, pair.running)
  pub one : IfSome view.one (NamesPiece pair.one broadcast.bytes)
  pub two : IfSome view.two (NamesPiece pair.two broadcast.bytes)

-- the tags shown are those of the text shown, or no tags are shown
abbrev pub ShowsTagsOfItsText : ℕ → ℕ → Plans → List (Option Message) → Listener → Type 0
ShowsTagsOfItsText d m plans log r =
    ShowsNoTags r.view ⊎ ShowsTagsOf d plans.text (marks text_mark log) r.input (text_run m r.input) r.view

-- the sources of two runs are one broadcast, or two that follow each other
abbrev pub HaveNearSources : List Broadcast → Input → List Segment → Input → List Segment → Type 0
HaveNearSources plan x x_run y y_run =
    (k l : ℕ) (a b : Broadcast) → IsSource plan x x_run k a → IsSource plan y y_run l b → (k ≤ l + 1) × (l ≤ k + 1)

-- two receivers show one broadcast, or two that follow each other, of texts and of names
pub record AreNeighbours (m : ℕ) (plans : Plans) (x y : Listener) : Type 0 where
  pub texts : HaveNearSources plans.text x.input (text_run m x.input) y.input (text_run m y.input)
  pub names : HaveNearSources plans.name x.input (name_run m x.input) y.input (name_run m y.input)

-- the views of these receivers of dwell m at the end of slot t are safe
pub record AreSafeViews (d m t : ℕ) (plans : Plans) (log : List (Option Message)) (receivers : List Listener) : Type 0
  where
    pub texts : All (ShowsTextOnAir d m t plans) receivers
    pub names : All (ShowsNameOnAir d m t plans) receivers
    pub tags : All (ShowsTagsOfItsText d m plans log) receivers
    pub neighbours : All (λ x. All (AreNeighbours m plans x) receivers) receivers
