-- The program's types for the beginning of an output line and for the parts of a view, with the content of a part and
-- its line.
use Rattle.std.specs.Prelude.{ℕ, Bool, false, List, Option, option_copied}
use Rattle.rds_receiver.specs.Borrowed.{borrowed_tag}
use Rattle.rds_receiver.specs.Shown.{IsShortTag, IsShortText, ShownView}
use Rattle.rds_receiver.specs.declared.why.WhyNone.{WhyNone}
use Rattle.rds_view_lines.specs.Output.{air_prefix, is_same_item, is_same_tag, is_same_text, item_content, line_of}
use Rattle.rds_view_lines.specs.Output.{receiver_prefix, slot_prefix, tag_content, text_content, unless_same}
use Rattle.rds_view_lines.specs.declared.change.Part.{Part}
use Rattle.rds_view_lines.specs.declared.change.Part.TheVariants.{Text, Item, Tag}
use Rattle.rds_view_lines.specs.declared.change.Prefix.{Prefix}
use Rattle.rds_view_lines.specs.declared.change.Prefix.TheVariants.{OnAir, Receiver, Slot}
use Rattle.rds_view_lines.specs.declared.parts.Parts.{Parts}

-- whether both parts show the same
abbrev pub is_same_part : Part → Part → Bool
is_same_part (Text before) (Text now) = is_same_text (option_copied before) (option_copied now)
is_same_part (Text before) (Item now) = false
is_same_part (Text before) (Tag now) = false
is_same_part (Item before) (Text now) = false
is_same_part (Item before) (Item now) = is_same_item before now
is_same_part (Item before) (Tag now) = false
is_same_part (Tag before) (Text now) = false
is_same_part (Tag before) (Item now) = false
is_same_part (Tag before) (Tag now) = is_same_tag (borrowed_tag before) (borrowed_tag now)

-- the content of the part, which follows its name
abbrev pub part_content : Option WhyNone → Part → List ℕ
part_content why (Text text) = text_content why (option_copied text)
part_content why (Item item) = item_content item
part_content why (Tag tag) = tag_content (borrowed_tag tag)

-- no text, name or piece has more than 64 bytes
abbrev pub IsShortPart : Part → Type 0
IsShortPart (Text text) = IsShortText text
IsShortPart (Item item) = Unit {0}
IsShortPart (Tag tag) = IsShortTag tag

-- the line of a part, if the part differs from the slot before
abbrev pub part_change : List ℕ → List ℕ → Option WhyNone → Part → Part → List ℕ
part_change prefix name why before now =
    unless_same (is_same_part before now) (line_of prefix name (part_content why now))

-- the beginning of a line
abbrev pub prefix_of : Prefix → List ℕ
prefix_of (Slot slot) = slot_prefix slot
prefix_of (Receiver slot i) = receiver_prefix slot i
prefix_of (OnAir slot) = air_prefix slot

-- which parts of two views are the same
abbrev pub same_parts : ShownView → ShownView → Parts
same_parts view other = record {
  text = is_same_text view.text other.text;
  name = is_same_text view.name other.name;
  one = is_same_tag view.one other.one;
  two = is_same_tag view.two other.two;
}
