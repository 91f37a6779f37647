-- When what two receivers show is safe (this project's own rule): it was on air lately, and belongs together. d is
-- M + K, and `now` the slot of the station. Lists have the newest first.
use Rattle.std.specs.Prelude.{◌≡◌, ◌⊎◌, ◌<◌, ◌≤◌, ◌+◌, ℕ, List, None, Some, codes}
use Rattle.rds_fields.specs.Tag.{PairFields}
use Rattle.rds_encoder.specs.Plan.{Broadcast, Covers, HasNumber}
use Rattle.rds_receiver.specs.Shown.{view_with}
use Rattle.rds_safety.specs.Plans.{Plans}
use Rattle.rds_view_lines.specs.Output.{quoted}
use Rattle.rds_view_lines.specs.ViewParts.{IsNothing, Item, Name, Part, Tag1, Tag2, Text, part_content}

-- what a station has on air: its texts and names, and the pair of tags of each slot
pub record StationPlans : Type 1 where
  pub plans : Plans
  pub HasTags : ℕ → PairFields → Type 0

-- the content is broadcast number k of the plan, which was on air in one of the d slots up to slot `now`
pub record WasOnAir (d now : ℕ) (plan : List Broadcast) (content : List ℕ) (k : ℕ) : Type 0 where
  pub broadcast : Broadcast
  pub planned : HasNumber plan k broadcast
  pub says : content ≡ quoted broadcast.bytes
  pub slot : ℕ
  pub covers : Covers broadcast slot
  pub past : slot ≤ now
  pub recent : now < slot + d

-- it began by slot `now`, and it ended less than d slots before
abbrev pub WhatWasOnAirHadBegun : Type 0
WhatWasOnAirHadBegun =
    (d now : ℕ) (plan : List Broadcast) (content : List ℕ) (k : ℕ) → WasOnAir d now plan content k
    → (broadcast : Broadcast) × HasNumber plan k broadcast × (content ≡ quoted broadcast.bytes)
    × (broadcast.start ≤ now) × (now < broadcast.end + d)

-- one receiver shows broadcast number k and the other one number l: one broadcast, or two that follow each other
pub record ShowNeighbours (One Other : ℕ → Type 0) : Type 0 where
  pub k : ℕ
  pub l : ℕ
  pub first : One k
  pub second : Other l
  pub near : (k ≤ l + 1) × (l ≤ k + 1)

-- each of these contents is nothing, or broadcast number k of the plan, which was on air so
abbrev pub ShowsBroadcast : ℕ → ℕ → List Broadcast → (List ℕ → Type 0) → ℕ → Type 0
ShowsBroadcast d now plan Shown k =
    (content : List ℕ) → Shown content → IsNothing content ⊎ WasOnAir d now plan content k

-- a part of a pair of tags
abbrev pub IsOfPair : Part → Type 0
IsOfPair Text = ⊥
IsOfPair Name = ⊥
IsOfPair Item = Unit {0}
IsOfPair Tag1 = Unit {0}
IsOfPair Tag2 = Unit {0}

-- the text is broadcast number k, which was on air so. These contents of the item bits and the tags are those of a
-- pair that was on air with the same broadcast in a slot up to `now`, at least d slots after its start; a tag may
-- show nothing
pub record WentWith (d now : ℕ) (air : StationPlans) (text : List ℕ) (contents : Part → List ℕ) (k : ℕ) : Type 0 where
  pub on_air : WasOnAir d now air.plans.text text k
  pub pair : PairFields
  pub slot : ℕ
  pub went : air.HasTags slot pair
  pub lasted : on_air.broadcast.start + d ≤ slot
  pub to : slot ≤ on_air.broadcast.end
  pub by_now : slot ≤ now
  pub cut : (part : Part) → IsOfPair part → (contents part ≡ codes " none")
      ⊎ (contents part ≡ part_content part None (view_with (Some on_air.broadcast.bytes) None (Some pair)))

-- a receiver that shows these contents of its parts shows text number k or none. Its item bits and tags went with the
-- text that it shows, or they are nothing
pub record ShowsText (d now : ℕ) (air : StationPlans) (Shown : Part → List ℕ → Type 0) (k : ℕ) : Type 0 where
  pub text : ShowsBroadcast d now air.plans.text (Shown Text) k
  pub tags : (text : List ℕ) (contents : Part → List ℕ) → Shown Text text
      → ((part : Part) → IsOfPair part → Shown part (contents part))
      → ((part : Part) → IsOfPair part → contents part ≡ codes " none") ⊎ WentWith d now air text contents k

-- two receivers show these contents of their parts, and that is safe. Each text and name was on air in one of the d
-- slots up to `now`, and the item bits and the tags went with the text that is shown. Both receivers show one
-- broadcast, or two that follow each other. If a receiver shows nothing, any number will do for it
pub record AreSafe (d now : ℕ) (air : StationPlans) (One Other : Part → List ℕ → Type 0) : Type 0 where
  pub texts : ShowNeighbours (ShowsText d now air One) (ShowsText d now air Other)
  pub names : ShowNeighbours (ShowsBroadcast d now air.plans.name (One Name))
      (ShowsBroadcast d now air.plans.name (Other Name))
