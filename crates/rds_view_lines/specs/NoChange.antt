-- An unchanged view has no line, and before the first slot nothing is shown.
use Rattle.std.proofs.Common.{◌≡◌, ℕ, Bool, true, false, List, [], Option, Some, None, refl}
use Rattle.std.proofs.lemmas.Bool.{eq-eqb}
use Rattle.std.proofs.lemmas.Slice.Eq.{bytes_eq-Decides}
use Rattle.rds_assembly.specs.ServiceLaws.{no_name_of_none, no_text_of_none}
use Rattle.rds_receiver.specs.Receipts.{Tuning}
use Rattle.rds_receiver.specs.Shown.{IsView, ShownView, ShowsView}
use Rattle.rds_receiver.specs.Confirmed.{counted_in}
use Rattle.rds_receiver.specs.declared.why.Whys.{Whys}
use Rattle.rds_view_lines.specs.Output.{change, is_same_item, is_same_tag, is_same_text, nothing_shown}

-- an unchanged part has no line
pub same_text : (o : Option (List ℕ)) → is_same_text o o ≡ true
same_text None = refl
same_text (Some x) = (bytes_eq-Decides x x).1 refl

pub same_item : (o : Option (Bool × Bool)) → is_same_item o o ≡ true
same_item None = refl
same_item (Some (true, true)) = refl
same_item (Some (true, false)) = refl
same_item (Some (false, true)) = refl
same_item (Some (false, false)) = refl

pub same_tag : (o : Option (ℕ × List ℕ)) → is_same_tag o o ≡ true
same_tag None = refl
same_tag (Some (n, x)) = rw (eq-eqb n n refl, (bytes_eq-Decides x x).1 refl) refl

pub no_change : (prefix : List ℕ) (whys : Option Whys) (v : ShownView) → change prefix whys v v ≡ []
no_change prefix whys v = rw (same_text v.text, same_text v.name, same_item v.item, same_tag v.one, same_tag v.two) refl

-- before the first slot nothing is shown
pub view_of_none : (t : Tuning) → IsView t [] nothing_shown
view_of_none t = by t.window
  where
    by : (window : Option ℕ) → ShowsView t.dwell t.first (counted_in window t.dwell t.first []) nothing_shown
    by None = record { text = no_text_of_none; name = no_name_of_none; item = refl; one = refl; two = refl }
    by (Some w) = record { text = no_text_of_none; name = no_name_of_none; item = refl; one = refl; two = refl }
