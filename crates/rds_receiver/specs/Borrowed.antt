-- The values of a view that is borrowed from a receiver.
use Rattle.std.specs.Prelude.{ℕ, List, Option, option_map, option_copied}
use Rattle.std.specs.Borrow.{Bor}
use Rattle.rds_receiver.specs.Shown as shown
use Rattle.rds_receiver.specs.declared.view.View as borrowed

-- the class and the bytes of a borrowed tag
abbrev pub borrowed_tag : Option (ℕ × Bor (List ℕ)) → Option (ℕ × List ℕ)
borrowed_tag tag = option_map (λ x. (x.0, x.1.now)) tag

-- the values that a borrowed view shows
abbrev pub view_of : borrowed.View → shown.ShownView
view_of v = record {
  text = option_copied v.text;
  name = option_copied v.name;
  item = v.item;
  one = borrowed_tag v.one;
  two = borrowed_tag v.two;
}
