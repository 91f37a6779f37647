-- The output for a list of views: for each slot one line for each part of its view that differs from the slot before,
-- in the order text, name, item bits, first tag, second tag. The line of a text or a name that is not shown any more
-- says why, if that is asked for. Before the first slot nothing is shown. This is the project's own format. A list of
-- displays has the newest first, so the slot of a display is the number of displays behind it.
use Rattle.std.specs.Prelude.{◌-◌, ◌==◌, ◌&&◌, ◌++◌, [], ◌∷◌, ℕ, Bool, true, false, List, Option, Some, None, codes}
use Rattle.std.specs.Prelude.{decimal, length, option_map, slice_get, if◌then◌else◌, bytes_eq}
use Rattle.std.specs.Option.{option_eq}
use Rattle.rds_charset.specs.Printed.{printed}
use Rattle.rds_receiver.specs.Run.{is_same}
use Rattle.rds_receiver.specs.Shown.{ShownView}
use Rattle.rds_receiver.specs.declared.why.WhyNone.{WhyNone}
use Rattle.rds_receiver.specs.declared.why.WhyNone.TheVariants.{Dropped, Incomplete, Restarted}
use Rattle.rds_receiver.specs.declared.why.Whys.{Whys}

-- the names of the content types from 1 on (IEC 62106-6, content types of RadioText Plus)
abbrev pub class_names : List (List ℕ)
class_names =
    codes "ITEM.TITLE" ∷ codes "ITEM.ALBUM" ∷ codes "ITEM.TRACKNUMBER"
    ∷ codes "ITEM.ARTIST" ∷ codes "ITEM.COMPOSITION" ∷ codes "ITEM.MOVEMENT"
    ∷ codes "ITEM.CONDUCTOR" ∷ codes "ITEM.COMPOSER" ∷ codes "ITEM.BAND"
    ∷ codes "ITEM.COMMENT" ∷ codes "ITEM.GENRE" ∷ []

abbrev pub class_name : ℕ → Option (List ℕ)
class_name class = if class == 0 then None else slice_get class_names (class - 1)

-- a content type by its name, or by its number if it has no name
abbrev pub name_or_number : Option (List ℕ) → ℕ → List ℕ
name_or_number None class = decimal class
name_or_number (Some name) class = name

-- a text between quotation marks
abbrev pub quoted : List ℕ → List ℕ
quoted x = codes " \"" ++ printed x ++ codes "\""

-- why a part is not shown: its segments are incomplete, or none came for as long as the dwell, or the receiver
-- restarted
abbrev pub why_content : WhyNone → List ℕ
why_content Incomplete = codes " incomplete"
why_content Dropped = codes " dropped"
why_content Restarted = codes " restarted"

-- the content of a part that is not shown, with the reason if it is asked for
abbrev pub none_content : Option WhyNone → List ℕ
none_content None = codes " none"
none_content (Some why) = codes " none" ++ why_content why

-- the content of a part, which follows its name
abbrev pub text_content : Option WhyNone → Option (List ℕ) → List ℕ
text_content why None = none_content why
text_content why (Some x) = quoted x

abbrev pub bit_content : Bool → List ℕ
bit_content false = codes " 0"
bit_content true = codes " 1"

abbrev pub item_content : Option (Bool × Bool) → List ℕ
item_content None = codes " none"
item_content (Some bits) = bit_content bits.0 ++ bit_content bits.1

abbrev pub tag_content : Option (ℕ × List ℕ) → List ℕ
tag_content None = codes " none"
tag_content (Some tag) = codes " " ++ name_or_number (class_name tag.0) tag.0 ++ quoted tag.1

-- the beginning of a line: its slot and, if there are several receivers, the number of one of them, counted from 0
abbrev pub slot_prefix : ℕ → List ℕ
slot_prefix slot = decimal slot ++ codes " "

abbrev pub receiver_prefix : ℕ → ℕ → List ℕ
receiver_prefix slot i = decimal slot ++ codes " r" ++ decimal i ++ codes " "

-- the same for what a station has on air
abbrev pub air_prefix : ℕ → List ℕ
air_prefix slot = decimal slot ++ codes " air "

-- the line of a part
abbrev pub line_of : List ℕ → List ℕ → List ℕ → List ℕ
line_of prefix part content = prefix ++ part ++ content ++ codes "\n"

-- whether two slots show the same
abbrev pub is_same_text : Option (List ℕ) → Option (List ℕ) → Bool
is_same_text before now = option_eq bytes_eq before now

abbrev pub is_same_item : Option (Bool × Bool) → Option (Bool × Bool) → Bool
is_same_item before now = option_eq (λ x y. is_same x.0 y.0 && is_same x.1 y.1) before now

abbrev pub is_same_tag : Option (ℕ × List ℕ) → Option (ℕ × List ℕ) → Bool
is_same_tag before now = option_eq (λ x y. x.0 == y.0 && bytes_eq x.1 y.1) before now

-- the line of a part, if the part differs from the slot before
abbrev pub unless_same : Bool → List ℕ → List ℕ
unless_same true line = []
unless_same false line = line

abbrev pub text_change : List ℕ → List ℕ → Option WhyNone → Option (List ℕ) → Option (List ℕ) → List ℕ
text_change prefix part why before now =
    unless_same (is_same_text before now) (line_of prefix part (text_content why now))

abbrev pub item_change : List ℕ → List ℕ → Option (Bool × Bool) → Option (Bool × Bool) → List ℕ
item_change prefix part before now = unless_same (is_same_item before now) (line_of prefix part (item_content now))

abbrev pub tag_change : List ℕ → List ℕ → Option (ℕ × List ℕ) → Option (ℕ × List ℕ) → List ℕ
tag_change prefix part before now = unless_same (is_same_tag before now) (line_of prefix part (tag_content now))

-- the reasons for a text and for a name, if they are asked for
abbrev pub why_text : Option Whys → Option WhyNone
why_text whys = option_map (λ w. w.text) whys

abbrev pub why_name : Option Whys → Option WhyNone
why_name whys = option_map (λ w. w.name) whys

-- the lines of a slot
abbrev pub change : List ℕ → Option Whys → ShownView → ShownView → List ℕ
change prefix whys before now =
    text_change prefix (codes "text") (why_text whys) before.text now.text
    ++ text_change prefix (codes "name") (why_name whys) before.name now.name
    ++ item_change prefix (codes "item") before.item now.item ++ tag_change prefix (codes "tag1") before.one now.one
    ++ tag_change prefix (codes "tag2") before.two now.two

abbrev pub nothing_shown : ShownView
nothing_shown = record { text = None; name = None; item = None; one = None; two = None }

-- the display at the end of a slot: the view, and why a text and a name are not shown, if that is asked for
pub record Display : Type 0 where
  pub view : ShownView
  pub whys : Option Whys

-- the view at the end
abbrev pub newest : List Display → ShownView
newest [] = nothing_shown
newest (display ∷ older) = display.view

-- the lines of all changes, the oldest first
abbrev pub changes_of : List Display → List ℕ
changes_of [] = []
changes_of (display ∷ older) =
    changes_of older ++ change (slot_prefix (length older)) display.whys (newest older) display.view
