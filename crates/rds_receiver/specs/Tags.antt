-- RadioText Plus (IEC 62106-6): when it is known, which pair of tags is held, and what of it is shown. Lists have the
-- newest first.
use Rattle.std.specs.Prelude.{◌+◌, ◌==◌, ◌&&◌, [], ◌∷◌}
use Rattle.std.specs.Prelude.{ℕ, Bool, true, false, List, Option, Some, None, length, nat_lt, option_map, if◌then◌else◌}
use Rattle.rds_fields.specs.declared.message.Message.{Message}
use Rattle.rds_fields.specs.declared.message.Message.TheVariants.{Text, Name, Announce, Tags, Other}
use Rattle.rds_fields.specs.declared.pair.Which.{Which}
use Rattle.rds_fields.specs.RadioTextPlus.{rtplus_aid, rtplus_code}
use Rattle.rds_fields.specs.Tag.{PairFields, TagFields, piece_in, tag_in}
use Rattle.rds_receiver.specs.Receipts.{text_fragment}
use Rattle.rds_receiver.specs.Run.{begins_in, run_at}

-- what an announcement says of RadioText Plus in groups 11A: that it is there (code and application fit), the contrary
-- (only one of the two fits), or nothing
abbrev pub says_of_rtplus : ℕ → ℕ → Option Bool
says_of_rtplus code aid =
    if code == rtplus_code then Some (aid == rtplus_aid) else if aid == rtplus_aid then Some false else None

abbrev pub or_before : Option Bool → Bool → Bool
or_before None before = before
or_before (Some says) before = says

-- RadioText Plus is known: it was announced, and no contrary announcement came since
abbrev pub is_known : List (Option Message) → Bool
is_known [] = false
is_known (None ∷ before) = is_known before
is_known (Some (Announce code bits aid) ∷ before) = or_before (says_of_rtplus code aid) (is_known before)
is_known (Some (Text f a b) ∷ before) = is_known before
is_known (Some (Name f a b) ∷ before) = is_known before
is_known (Some (Tags pair) ∷ before) = is_known before
is_known (Some Other ∷ before) = is_known before

abbrev pub unless_contrary : Option Bool → Option PairFields → Option PairFields
unless_contrary None pair = pair
unless_contrary (Some true) pair = pair
unless_contrary (Some false) pair = None

-- the last pair that came later than slot `since` while RadioText Plus was known; none if a contrary announcement came
-- after it
abbrev pub pair_since : ℕ → ℕ → List (Option Message) → Option PairFields
pair_since first since [] = None
pair_since first since (None ∷ before) = pair_since first since before
pair_since first since (Some (Tags pair) ∷ before) =
    if is_known before && nat_lt since (first + length before) then Some pair else pair_since first since before
pair_since first since (Some (Announce code bits aid) ∷ before) =
    unless_contrary (says_of_rtplus code aid) (pair_since first since before)
pair_since first since (Some (Text f a b) ∷ before) = pair_since first since before
pair_since first since (Some (Name f a b) ∷ before) = pair_since first since before
pair_since first since (Some Other ∷ before) = pair_since first since before

abbrev pub pair_from : ℕ → Option ℕ → List (Option Message) → Option PairFields
pair_from first None heard = None
pair_from first (Some since) heard = pair_since first since heard

-- the pair held: the last one that came later than the first segment of the run of texts (see `pair_since`)
abbrev pub pair_held : ℕ → ℕ → List (Option Message) → Option PairFields
pair_held m first heard = pair_from first (begins_in (run_at text_fragment m first heard)) heard

-- the item bits shown: those of the pair held, if a text is shown
abbrev pub item_of : Option (List ℕ) → Option PairFields → Option (Bool × Bool)
item_of None pair = None
item_of (Some x) None = None
item_of (Some x) (Some pair) = Some (pair.toggle, pair.running)

-- the class of a tag and its piece of the text, if it has one
abbrev pub cut_by : TagFields → List ℕ → Option (ℕ × List ℕ)
cut_by tag x = option_map (λ piece. (tag.class, piece)) (piece_in x tag)

-- the tag shown: its class and its piece, if a text is shown and a pair is held
abbrev pub tag_of : Which → Option (List ℕ) → Option PairFields → Option (ℕ × List ℕ)
tag_of which None pair = None
tag_of which (Some x) None = None
tag_of which (Some x) (Some pair) = cut_by (tag_in which pair) x
