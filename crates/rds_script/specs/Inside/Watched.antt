-- The state of a world and of the displays of its receivers after these slots. Lists have the newest first.
use Rattle.std.specs.Prelude.{◌≡◌, ℕ, List, None, Option, Some, length, map, slice_get, true}
use Rattle.rds_world.specs.declared.world.Config.{Config}
use Rattle.rds_world.specs.Event.{Event}
use Rattle.rds_safety.specs.Late.{Input}
use Rattle.rds_world.specs.Slots.{input_of}
use Rattle.rds_world.specs.State.{distance}
use Rattle.rds_world.specs.WorldAt.{IsViewOfInput, WorldAt, tuned_to}
use Rattle.rds_receiver.specs.Counts.{DisplayOf, keeping}
use Rattle.rds_receiver.specs.Shown.{ShownView}
use Rattle.rds_receiver.specs.declared.keeping.Keeping.{Keeping}
use Rattle.rds_receiver.specs.declared.keeping.Kept.{Kept}
use Rattle.rds_view_lines.specs.KeptView.{view_shown}
use Rattle.rds_view_lines.specs.declared.shown.Shown.{Shown}
use Rattle.rds_script.specs.Inside.Compared.{IsCompared}
use Rattle.rds_script.specs.Outcomes.{view_at}
use Rattle.rds_script.specs.declared.watched.Watched.{Watched}

-- the kept views are these
abbrev pub AreKept : List ShownView → List ShownView → Type 0
AreKept kept views = (i : ℕ) → view_at kept i ≡ view_at views i

-- this is the display of a receiver after this input. It keeps for n slots
abbrev pub IsDisplayAt : ℕ → Config → Input → Shown → Type 0
IsDisplayAt n config input s = DisplayOf n (tuned_to config input) s.keeping (view_shown s) input.heard

-- these are the displays of the receivers after these slots
abbrev pub AreDisplays : ℕ → Config → List Event → List Shown → Type 0
AreDisplays n config events shown =
    (i : ℕ) (s : Shown) → slice_get shown i ≡ Some s → IsDisplayAt n config (input_of (distance config) i events) s

-- after one more entry the display counts so, and this changes on it: it shows this view still, or it keeps these parts
-- of it beside the view that the receiver has then
abbrev pub DisplaysNext : ℕ → Config → Input → Keeping → ShownView → Option Kept → Type 0
DisplaysNext n config input k view None = DisplayOf n (tuned_to config input) k view input.heard
DisplaysNext n config input k view (Some kept) =
    (now : ShownView) → IsViewOfInput config input now
    → DisplayOf n (tuned_to config input) k (keeping kept view now) input.heard

-- the view of each display
abbrev pub views_kept : Watched → List ShownView
views_kept w = map view_shown w.shown.items

-- the world after these slots, with this number of receivers, and the display of each of them after the last. The
-- displays of radios with the flag bit alone keep nothing
pub record WatchedStandsAt (config : Config) (receivers : ℕ) (w : Watched) (events : List Event) : Type 0 where
  pub world : WorldAt config w.world events
  pub count : length w.world.receivers ≡ receivers
  pub kept : length w.shown.items ≡ receivers
  pub plain : config.kind.is_flag_alone ≡ true → w.keep ≡ 0
  pub shown : AreDisplays w.keep config events w.shown.items
  pub compared : IsCompared config receivers events (views_kept w) w.compared

-- for each state: this holds of its station, of the number of its receivers and of its slots
abbrev pub WhereWatchedStands : Watched → (Config → ℕ → List Event → Type 0) → Type 0
WhereWatchedStands w Holds = (config : Config) (receivers : ℕ) (events : List Event)
    → WatchedStandsAt config receivers w events → Holds config receivers events
