-- The laws about receivers with the flag bit alone (this project's own rule). Lists have the newest first.
use Rattle.std.specs.Prelude.{◌≡◌, ◌+◌, ◌*◌, ◌<◌, ◌≤◌, ◌⊎◌, ◌↔◌, ℕ, Bool, List, [], ◌∷◌, Option, Some, None, IfSome}
use Rattle.std.specs.List.{AllByRecursion}
use Rattle.rds_fields.specs.declared.message.Message.{Message}
use Rattle.rds_fields.specs.Tag.{PairFields}
use Rattle.rds_encoder.specs.Plan.{Broadcast, HasNumber}
use Rattle.rds_encoder.specs.Spaced.{IsSpaced}
use Rattle.rds_receiver.specs.Receipts.{Segment, name_fragment, segments, text_fragment}
use Rattle.rds_receiver.specs.declared.fragment.Fragment.{Fragment}
use Rattle.rds_receiver.specs.Shown.{ShowsView, ShownView}
use Rattle.rds_receiver.specs.Holds.{newest_slot}
use Rattle.rds_safety.specs.FlagAlone.{EachLasts, GetsSome, HearsEach, HearsOneIn, HearsTextBeforeTags, IsFilled}
use Rattle.rds_safety.specs.FlagAlone.{IsNews, ListensByFlag, LosesInARow, SendsOneIn, ShowsByFlag, TurnsTheFlag}
use Rattle.rds_safety.specs.FlagAlone.{run_by_flag}
use Rattle.rds_safety.specs.Late.{CameFrom, Input, IsHeardInOrder}
use Rattle.rds_safety.specs.Lawful.{IsLawful, Kind, names, texts}
use Rattle.rds_safety.specs.Marks.{IsMarkIn, Mark, Tagged, marks, name_mark, text_mark}
use Rattle.rds_safety.specs.OwnClock.{ListensByOwnClock, next_slot}
use Rattle.rds_safety.specs.Safe.{Listener, NamesPiece, ShowsNoTags}
use Rattle.rds_safety.specs.Source.{IsSource, name_run, text_run}

-- a receiver with the flag bit alone shows the same as a receiver whose dwell m is no less than the slot after its
-- input
abbrev pub TheFlagAloneIsALongDwell : Type 0
TheFlagAloneIsALongDwell =
    (m : ℕ) (input : Input) (view : ShownView) → next_slot input ≤ m
    → ShowsByFlag input view ↔ ShowsView m input.first input.heard view

-- these segments came less than m slots one after the other, and the newest one less than m slots before slot t
abbrev pub CameWithin : ℕ → ℕ → List Segment → Type 0
CameWithin m t [] = Unit {0}
CameWithin m t (g ∷ older) = (t < g.slot + m) × CameWithin m g.slot older

-- the segments that a receiver heard came so, up to its newest slot
abbrev pub HearsWithin : ℕ → (Message → Option Fragment) → Input → Type 0
HearsWithin m pick input =
    CameWithin m (newest_slot input.first input.heard) (segments pick input.first input.heard)

-- it shows the same as a receiver with a dwell of m slots, if no m slots went by without a segment of a text, nor
-- without one of a name, since the first one of each
abbrev pub TheFlagAloneIsADwellWhileHeard : Type 0
TheFlagAloneIsADwellWhileHeard =
    (m : ℕ) (input : Input) (view : ShownView) → HearsWithin m text_fragment input → HearsWithin m name_fragment input
    → ShowsByFlag input view ↔ ShowsView m input.first input.heard view

-- the value is that of the source of the run
pub record IsOfItsSource (plan : List Broadcast) (input : Input) (the_run : List Segment)
    (value : List ℕ) : Type 0 where
  pub number : ℕ
  pub broadcast : Broadcast
  pub source : IsSource plan input the_run number broadcast
  pub bytes : broadcast.bytes ≡ value

-- all segments of the run are of the value of its source, or this value is empty
abbrev pub HoldsItsSource : Kind → List Broadcast → Input → List Segment → Type 0
HoldsItsSource kind plan input the_run =
    (k : ℕ) (b : Broadcast) → IsSource plan input the_run k b
    → (b.bytes ≡ []) ⊎ AllByRecursion (λ (g : Segment). kind.HasPart b.bytes g.fragment) the_run

-- the tags shown were sent for a broadcast of the text shown, at least d slots after its start, and each is its piece
-- of this text
pub record ShowsTagsOfText (d : ℕ) (plan : List Broadcast) (sent : List Mark) (view : ShownView) : Type 0 where
  pub number : ℕ
  pub broadcast : Broadcast
  pub planned : HasNumber plan number broadcast
  pub text : view.text ≡ Some broadcast.bytes
  pub pair : PairFields
  pub slot : ℕ
  pub tagged : IsMarkIn sent slot (Tagged pair)
  pub lasted : broadcast.start + d ≤ slot
  pub to : slot ≤ broadcast.end
  pub item : view.item ≡ Some (pair.toggle, pair.running)
  pub one : IfSome view.one (NamesPiece pair.one broadcast.bytes)
  pub two : IfSome view.two (NamesPiece pair.two broadcast.bytes)

-- the empty text is shown, and neither tag
pub record ShowsEmptyText (view : ShownView) : Type 0 where
  pub text : view.text ≡ Some []
  pub one : view.one ≡ None
  pub two : view.two ≡ None

-- the text shown is that of the source of its run, in which the last segment heard was sent
abbrev pub TextsByFlagAreOfTheirSource : Type 0
TextsByFlagAreOfTheirSource =
    (d now : ℕ) (plan : List Broadcast) (log : List (Option Message)) (r : Listener)
    → IsLawful d texts plan (marks text_mark log) → TurnsTheFlag plan → ListensByFlag now log r
    → HearsEach IsNews text_fragment plan now r.input
    → IfSome r.view.text (IsOfItsSource plan r.input (run_by_flag text_fragment r.input))

-- the name shown likewise
abbrev pub NamesByFlagAreOfTheirSource : Type 0
NamesByFlagAreOfTheirSource =
    (d now : ℕ) (plan : List Broadcast) (log : List (Option Message)) (r : Listener)
    → IsLawful d names plan (marks name_mark log) → TurnsTheFlag plan → ListensByFlag now log r
    → HearsEach IsNews name_fragment plan now r.input
    → IfSome r.view.name (IsOfItsSource plan r.input (run_by_flag name_fragment r.input))

-- unless the source is the empty text, the receiver holds segments of the source's text alone; so a text shown in part
-- is no mix either
abbrev pub TextsByFlagAreHeldAlone : Type 0
TextsByFlagAreHeldAlone =
    (d now : ℕ) (plan : List Broadcast) (log : List (Option Message)) (r : Listener)
    → IsLawful d texts plan (marks text_mark log) → TurnsTheFlag plan → ListensByFlag now log r
    → HearsEach IsNews text_fragment plan now r.input
    → HoldsItsSource texts plan r.input (run_by_flag text_fragment r.input)

-- no tags are shown, or the empty text is shown without a tag, or the tags shown are of the text shown
abbrev pub TagsByFlagAreOfTheirText : Type 0
TagsByFlagAreOfTheirText =
    (d now : ℕ) (plan : List Broadcast) (log : List (Option Message)) (r : Listener)
    → IsLawful d texts plan (marks text_mark log) → TurnsTheFlag plan → ListensByFlag now log r
    → HearsEach IsNews text_fragment plan now r.input → HearsTextBeforeTags plan r.input
    → ShowsNoTags r.view ⊎ ShowsEmptyText r.view ⊎ ShowsTagsOfText d plan (marks text_mark log) r.view

-- each broadcast that Is holds of, and that began by slot `now`, is at most the next one after the source of the run
abbrev pub HasNewSource : (List Broadcast → ℕ → Broadcast → Type 0) → List Broadcast → ℕ → Input → List Segment → Type 0
HasNewSource Is plan now input the_run =
    (k l : ℕ) (a b : Broadcast) → IsSource plan input the_run k a → HasNumber plan l b → b.start ≤ now → Is plan l b
    → l ≤ k + 1

-- this holds for a receiver that hears a segment of each broadcast of texts: for all but the empty text, or for news
abbrev pub TextsByFlagAreNew : Type 0
TextsByFlagAreNew =
    (d now : ℕ) (plan : List Broadcast) (log : List (Option Message)) (r : Listener)
    → IsLawful d texts plan (marks text_mark log) → ListensByFlag now log r
    → (HearsEach IsFilled text_fragment plan now r.input
    → HasNewSource IsFilled plan now r.input (run_by_flag text_fragment r.input))
    × (HearsEach IsNews text_fragment plan now r.input
    → HasNewSource IsNews plan now r.input (run_by_flag text_fragment r.input))

-- the same for names
abbrev pub NamesByFlagAreNew : Type 0
NamesByFlagAreNew =
    (d now : ℕ) (plan : List Broadcast) (log : List (Option Message)) (r : Listener)
    → IsLawful d names plan (marks name_mark log) → ListensByFlag now log r
    → (HearsEach IsFilled name_fragment plan now r.input
    → HasNewSource IsFilled plan now r.input (run_by_flag name_fragment r.input))
    × (HearsEach IsNews name_fragment plan now r.input
    → HasNewSource IsNews plan now r.input (run_by_flag name_fragment r.input))

-- this holds for each receiver with a dwell, whatever it hears
abbrev pub TextsWithADwellAreNew : Type 0
TextsWithADwellAreNew =
    (d m now : ℕ) (plan : List Broadcast) (log : List (Option Message)) (r : Listener)
    → IsLawful d texts plan (marks text_mark log) → ListensByOwnClock d m now log r
    → HasNewSource IsFilled plan now r.input (text_run m r.input)

abbrev pub NamesWithADwellAreNew : Type 0
NamesWithADwellAreNew =
    (d m now : ℕ) (plan : List Broadcast) (log : List (Option Message)) (r : Listener)
    → IsLawful d names plan (marks name_mark log) → ListensByOwnClock d m now log r
    → HasNewSource IsFilled plan now r.input (name_run m r.input)

-- of the sources of two runs, each is at most the next one after the other, or is the empty text
abbrev pub HaveNearSourcesByFlag : List Broadcast → Input → List Segment → Input → List Segment → Type 0
HaveNearSourcesByFlag plan x x_run y y_run =
    (k l : ℕ) (a b : Broadcast) → IsSource plan x x_run k a → IsSource plan y y_run l b
    → ((l ≤ k + 1) ⊎ (b.bytes ≡ [])) × ((k ≤ l + 1) ⊎ (a.bytes ≡ []))

-- this holds for any two receivers whose sources are so new, with a dwell or without
abbrev pub NewSourcesAreNear : Type 0
NewSourcesAreNear =
    (now : ℕ) (plan : List Broadcast) (x y : Input) (x_run y_run : List Segment)
    → ((t s : ℕ) → CameFrom x t s → s ≤ now) → ((t s : ℕ) → CameFrom y t s → s ≤ now)
    → HasNewSource IsFilled plan now x x_run → HasNewSource IsFilled plan now y y_run
    → HaveNearSourcesByFlag plan x x_run y y_run

-- if each broadcast lasts for n slots, a receiver that hears a segment in each n slots in a row hears one of each
-- broadcast
abbrev pub WhoHearsOneInHearsEach : Type 0
WhoHearsOneInHearsEach =
    (d n now : ℕ) (pick : Message → Option Fragment) (plan : List Broadcast) (input : Input)
    → IsSpaced d plan → HearsOneIn n pick plan now input
    → (EachLasts IsFilled n plan → HearsEach IsFilled pick plan now input)
    × (EachLasts IsNews n plan → HearsEach IsNews pick plan now input)

-- a receiver that hears a segment in each d slots in a row of a broadcast hears tags only after their text
abbrev pub WhoHearsOneInHearsTextBeforeTags : Type 0
WhoHearsOneInHearsTextBeforeTags =
    (d now : ℕ) (plan : List Broadcast) (log : List (Option Message)) (r : Listener)
    → IsLawful d texts plan (marks text_mark log) → ListensByFlag now log r
    → HearsOneIn d text_fragment plan now r.input → HearsTextBeforeTags plan r.input

-- if a segment is sent in each r slots in a row, a receiver that gets r slots in a row of each n hears a segment in
-- each n
abbrev pub WhoGetsSomeHearsOneIn : Type 0
WhoGetsSomeHearsOneIn =
    (r n now : ℕ) (pick : Message → Option Fragment) (plan : List Broadcast) (log : List (Option Message))
    (input : Input)
    → IsHeardInOrder log input → SendsOneIn r pick plan log → GetsSome r n pick plan now input
    → HearsOneIn n pick plan now input

-- a receiver that loses at most `most` slots in a row, and gets r in a row after each loss, gets r in a row of each n,
-- if most + 2 r is at most n + 1
abbrev pub WhoLosesFewGetsSome : Type 0
WhoLosesFewGetsSome =
    (most r n now : ℕ) (pick : Message → Option Fragment) (plan : List Broadcast) (input : Input) (got : ℕ → Bool)
    → most + 2 * r ≤ n + 1 → LosesInARow most r pick now input got → GetsSome r n pick plan now input
