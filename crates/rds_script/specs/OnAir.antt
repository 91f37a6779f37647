-- What was on air, and what a receiver shows beside it: each part of its view is on air, replaced, old or a mix (this
-- project's own rule). Lists have the newest first.
use Rattle.std.specs.Prelude.{◌-◌, ◌||◌, ◌++◌, Bool, true, false, ℕ, List, [], ◌∷◌, None, Option}
use Rattle.std.specs.Prelude.{drop, take, take_while}
use Rattle.rds_receiver.specs.Shown.{ShownView}
use Rattle.rds_view_lines.specs.Output.{is_same_text, nothing_shown}
use Rattle.rds_view_lines.specs.Part.{same_parts}
use Rattle.rds_view_lines.specs.declared.parts.Parts.{Parts}
use Rattle.rds_world.specs.Event.{Event}
use Rattle.rds_world.specs.OnAir.{air_of}
use Rattle.rds_world.specs.State.{distance}
use Rattle.rds_world.specs.declared.world.Config.{Config}
use Rattle.rds_script.specs.declared.airing.Airing.{Airing}
use Rattle.rds_script.specs.declared.airing.Airing.TheVariants.{Mix, Old, OnAir, Replaced}
use Rattle.rds_script.specs.declared.airing.Airings.{Airings}

-- what was on air at the end of each slot
abbrev pub airs : Config → List Event → List ShownView
airs config [] = []
airs config (e ∷ before) = air_of config (e ∷ before) ∷ airs config before

-- the text of the newest of these
abbrev pub newest_text : List ShownView → Option (List ℕ)
newest_text [] = None
newest_text (air ∷ older) = air.text

-- what was on air in the last n slots, and before them as long as the text was the same
abbrev pub back_to_their_texts : ℕ → List ShownView → List ShownView
back_to_their_texts n all =
    take n all ++ take_while (λ air. is_same_text (newest_text (drop (n - 1) all)) air.text) (drop n all)

-- yes for each part for which one of these has a yes
abbrev pub either : Parts → Parts → Parts
either p q = record { text = p.text || q.text; name = p.name || q.name; one = p.one || q.one; two = p.two || q.two }

-- which parts of the view are the same as in one of these views
abbrev pub parts_among : ShownView → List ShownView → Parts
parts_among view [] = record { text = false; name = false; one = false; two = false }
parts_among view (air ∷ older) = either (same_parts view air) (parts_among view older)

-- what a part is: it was on air in one of the last slots, or for a text of them, or in any slot
abbrev pub airing_by : Bool → Bool → Bool → Airing
airing_by true for_text ever = OnAir
airing_by false true ever = Replaced
airing_by false false true = Old
airing_by false false false = Mix

-- what each part is; only a tag is for a text
abbrev pub airings_by : Parts → Parts → Parts → Airings
airings_by lately for_text ever = record {
  text = airing_by lately.text false ever.text;
  name = airing_by lately.name false ever.name;
  one = airing_by lately.one for_text.one ever.one;
  two = airing_by lately.two for_text.two ever.two;
}

-- what each part of a view is, if this was on air; the last slots are the last n. A part that is not shown is on air
abbrev pub airings_among : ℕ → List ShownView → ShownView → Airings
airings_among n all view =
    airings_by (parts_among view (nothing_shown ∷ take n all)) (parts_among view (back_to_their_texts n all))
    (parts_among view all)

-- the same after these slots
abbrev pub airings : Config → List Event → ShownView → Airings
airings config events view = airings_among (distance config) (airs config events) view
