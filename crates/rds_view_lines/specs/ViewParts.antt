-- The parts of what a receiver shows, and the line of each part. This is the project's own format.
use Rattle.std.specs.Prelude.{◌≡◌, ◌++◌, ℕ, List, Option, codes}
use Rattle.rds_receiver.specs.Shown.{ShownView}
use Rattle.rds_receiver.specs.declared.why.WhyNone.{WhyNone}
use Rattle.rds_receiver.specs.declared.why.Whys.{Whys}
use Rattle.rds_view_lines.specs.Output.{item_content, none_content, slot_prefix, tag_content, text_content}
use Rattle.rds_view_lines.specs.Output.{why_name, why_text}

pub data Part : Type 0 where
  Text : Part
  Name : Part
  Item : Part
  Tag1 : Part
  Tag2 : Part

-- the name of a part in its line, after the slot
abbrev pub part_name : Part → List ℕ
part_name Text = codes "text"
part_name Name = codes "name"
part_name Item = codes "item"
part_name Tag1 = codes "tag1"
part_name Tag2 = codes "tag2"

-- the content of a part of a view, which follows its name. The reasons are those for a text and a name that are not
-- shown, if they are asked for
abbrev pub part_content : Part → Option Whys → ShownView → List ℕ
part_content Text whys view = text_content (why_text whys) view.text
part_content Name whys view = text_content (why_name whys) view.name
part_content Item whys view = item_content view.item
part_content Tag1 whys view = tag_content view.one
part_content Tag2 whys view = tag_content view.two

-- the content of a part that is not shown, with a reason or without
abbrev pub IsNothing : List ℕ → Type 0
IsNothing content = (why : Option WhyNone) × (content ≡ none_content why)

-- a line of the output without its line feed: a slot, a part and its content
abbrev pub line_in : ℕ → Part → List ℕ → List ℕ
line_in slot part content = slot_prefix slot ++ (part_name part ++ content)
