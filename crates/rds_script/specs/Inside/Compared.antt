-- What is kept to compare views with what was on air. Lists have the newest first, except the periods, which have the
-- oldest first.
use Rattle.std.specs.Prelude.{◌≡◌, ◌<◌, ◌∷◌, ◌++◌, ℕ, zero, suc, [], Bool, true, false, List, Option, None, Some}
use Rattle.std.specs.Prelude.{if◌then◌else◌, length, replicate, slice_index_or, vec_capacity, vec_len}
use Rattle.rds_receiver.specs.Shown.{ShownView}
use Rattle.rds_view_lines.specs.KeptView.{view_kept}
use Rattle.rds_view_lines.specs.Output.{is_same_text, nothing_shown}
use Rattle.rds_view_lines.specs.declared.parts.Parts.{Parts}
use Rattle.rds_world.specs.Event.{Event}
use Rattle.rds_world.specs.Slots.{input_of}
use Rattle.rds_world.specs.WorldAt.{IsViewOfInput}
use Rattle.rds_world.specs.State.{distance}
use Rattle.rds_world.specs.declared.world.Config.{Config}
use Rattle.rds_script.specs.OnAir.{airings, airs}
use Rattle.rds_script.specs.Outcomes.{air_lines, compared_lines, view_at}
use Rattle.rds_script.specs.declared.airing.Airing.{Airing}
use Rattle.rds_script.specs.declared.airing.Airing.TheVariants.{Mix, Old, OnAir, Replaced}
use Rattle.rds_script.specs.declared.airing.Airings.{Airings}
use Rattle.rds_script.specs.declared.airs.Airs.{Airs}
use Rattle.rds_script.specs.declared.airs.Lookback.{Lookback}
use Rattle.rds_script.specs.declared.airs.Lookback.TheVariants.{Ever, Lately, Texts}
use Rattle.rds_script.specs.declared.airs.Period.{Period}
use Rattle.rds_script.specs.declared.compared.Compared.{Compared}

-- what was on air in each slot of these periods
abbrev pub airs_in : List Period → List ShownView
airs_in [] = []
airs_in (period ∷ later) = airs_in later ++ view_kept period.air ∷ replicate period.more (view_kept period.air)

-- what was on air last
abbrev pub newest_of : List ShownView → ShownView
newest_of [] = nothing_shown
newest_of (air ∷ older) = air

-- what is kept is what was on air in these slots
pub record AirsStand (config : Config) (events : List Event) (a : Airs) : Type 0 where
  pub airs : airs_in a.periods.items ≡ airs config events
  pub spacing : a.spacing ≡ distance config
  pub some : 0 < a.spacing

-- there is memory for one more slot
abbrev pub AirsHaveRoom : Airs → Type 0
AirsHaveRoom a = vec_len a.periods < vec_capacity a.periods

-- whether a search goes on from what was on air with this text to what was on air before it
abbrev pub goes_on : Lookback → Option (List ℕ) → Option (List ℕ) → Bool
goes_on Lately text before = false
goes_on Texts text before = is_same_text text before
goes_on Ever text before = true

-- what a search sees: what was on air in the last n slots, and then what it goes on to
abbrev pub reached : Lookback → ℕ → Option (List ℕ) → List ShownView → List ShownView
reached lookback n text [] = []
reached lookback (suc n) text (air ∷ older) = air ∷ reached lookback n air.text older
reached lookback zero text (air ∷ older) =
    if goes_on lookback text air.text then air ∷ reached lookback zero air.text older else []

-- whether this was on air in any slot
abbrev pub was_on_air : Airing → Bool
was_on_air OnAir = true
was_on_air Replaced = true
was_on_air Old = true
was_on_air Mix = false

abbrev pub parts_on_air : Airings → Parts
parts_on_air a = record {
  text = was_on_air a.text;
  name = was_on_air a.name;
  one = was_on_air a.one;
  two = was_on_air a.two;
}

-- this is what the parts of the view were before the newest of these slots, if it is known
abbrev pub WereBefore : Config → List Event → ShownView → Option Airings → Type 0
WereBefore config events view None = Unit {0}
WereBefore config [] view (Some a) = ⊥
WereBefore config (e ∷ before) view (Some a) = a ≡ airings config before view

-- the views are those of the first n receivers after these slots
abbrev pub AreShown : Config → ℕ → List Event → List ShownView → Type 0
AreShown config n events views =
    (i : ℕ) → i < n → IsViewOfInput config (input_of (distance config) i events) (view_at views i)

-- each part is on air
abbrev pub all_on_air : Airings
all_on_air = record { text = OnAir; name = OnAir; one = OnAir; two = OnAir }

abbrev pub airings_at : List Airings → ℕ → Airings
airings_at list i = slice_index_or list i all_on_air

-- what is kept after these slots, for this many receivers with these views
pub record ComparedStands (config : Config) (n : ℕ) (events : List Event) (views : List ShownView)
    (c : Compared) : Type 0 where
  pub airs : AirsStand config events c.airs
  pub count : length c.airings.items ≡ n
  pub each : (i : ℕ) → i < n → airings_at c.airings.items i ≡ airings config events (view_at views i)

-- these are the parts of the views of n receivers before the newest of these slots, after which they have these views
abbrev pub WereKept : Config → ℕ → List Event → List Airings → List ShownView → Type 0
WereKept config n [] kept shown = ⊥
WereKept config n (e ∷ before) kept shown =
    (views : List ShownView) × AreShown config n before views × AreShown config n (e ∷ before) shown
    × ((i : ℕ) → i < n → airings_at kept i ≡ airings config before (view_at views i))

-- the number of a slot of this station, and the views of the receivers after it
pub record SlotViews : Type 0 where
  pub config : Config
  pub slot : ℕ
  pub shown : List ShownView

-- what is kept goes on by the newest of these slots: the lines of the slot are appended
abbrev pub GoesOnCompared : SlotViews → List Event → Compared → Compared → List ℕ → List ℕ → Type 0
GoesOnCompared at [] old new lines after = Unit {0}
GoesOnCompared at (e ∷ before) old new lines after =
    (views : List ShownView) → AreShown at.config (length at.shown) before views
    → AreShown at.config (length at.shown) (e ∷ before) at.shown
    → ComparedStands at.config (length at.shown) before views old
    → ComparedStands at.config (length at.shown) (e ∷ before) at.shown new
    × (after ≡ lines ++ air_lines at.config at.slot (length at.shown) e before views at.shown)

-- something is kept for radios with the flag bit alone
abbrev pub IsCompared : Config → ℕ → List Event → List ShownView → Option Compared → Type 0
IsCompared config n events views None = config.kind.is_flag_alone ≡ false
IsCompared config n events views (Some c) = (config.kind.is_flag_alone ≡ true) × ComparedStands config n events views c

-- there is memory for one more slot, if something is kept
abbrev pub HasRoom : Option Compared → Type 0
HasRoom None = Unit {0}
HasRoom (Some c) = AirsHaveRoom c.airs

-- the same for what may be kept
abbrev pub Compares : SlotViews → List Event → Option Compared → Option Compared → List ℕ → List ℕ → Type 0
Compares at [] old new lines after = Unit {0}
Compares at (e ∷ before) old new lines after =
    (views : List ShownView)
    → (at.config.kind.is_flag_alone ≡ true → AreShown at.config (length at.shown) before views)
    → (at.config.kind.is_flag_alone ≡ true → AreShown at.config (length at.shown) (e ∷ before) at.shown)
    → IsCompared at.config (length at.shown) before views old
    → IsCompared at.config (length at.shown) (e ∷ before) at.shown new
    × (after ≡ lines ++ compared_lines at.config at.slot (length at.shown) e before views at.shown)
