-- The view of which the program keeps a copy.
use Rattle.std.specs.Prelude.{ℕ, List, Option, option_map}
use Rattle.arrayvec.specs.ArrayVec.{ArrayVec}
use Rattle.rds_receiver.specs.Shown.{ShownView}
use Rattle.rds_view_lines.specs.declared.kept.KeptView.{KeptView}
use Rattle.rds_view_lines.specs.declared.shown.Shown.{Shown}

-- the bytes of a text or a name that is kept
abbrev pub text_kept : Option (ArrayVec ℕ) → Option (List ℕ)
text_kept text = option_map (λ x. x.items) text

-- the class and the bytes of a tag that is kept
abbrev pub tag_kept : Option (ℕ × ArrayVec ℕ) → Option (ℕ × List ℕ)
tag_kept tag = option_map (λ x. (x.0, x.1.items)) tag

-- the view that is kept
abbrev pub view_kept : KeptView → ShownView
view_kept v = record {
  text = text_kept v.text;
  name = text_kept v.name;
  item = v.item;
  one = tag_kept v.one;
  two = tag_kept v.two;
}

-- the view that is displayed of a receiver
abbrev pub view_shown : Shown → ShownView
view_shown s = view_kept s.view
