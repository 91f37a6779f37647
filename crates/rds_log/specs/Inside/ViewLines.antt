-- The state of the lines of views after a list of slots, the newest first, and what a slot adds.
use Rattle.std.specs.Prelude.{◌≡◌, ◌++◌, ◌∷◌, ℕ, Bool, List, Option, length}
use Rattle.rds_block.specs.declared.group.Group.{Group}
use Rattle.rds_receiver.specs.Counts.{DisplayAt}
use Rattle.rds_receiver.specs.Receipts.{Tuning}
use Rattle.rds_receiver.specs.ReceiverAt.{ReceiverAt}
use Rattle.rds_view_lines.specs.Output.{Display, changes_of, newest}
use Rattle.rds_log.specs.LogWrites.{AreDisplays}
use Rattle.rds_view_lines.specs.KeptView.{view_kept}
use Rattle.rds_log.specs.declared.decoder.ViewLines.{ViewLines}

-- the receiver handled these slots, and their output is the changes of their displays, which keep for n slots
pub record ViewsStandAt (n : ℕ) (why : Bool) (t : Tuning) (v : ViewLines) (slots : List (Option Group))
    (written : List ℕ) : Type 0 where
  pub receiver : ReceiverAt t v.receiver slots
  pub says_why : v.says_why ≡ why
  pub display : DisplayAt n t v.shown.keeping (view_kept v.shown.view) slots
  pub displays : List Display
  pub are : AreDisplays n why t slots displays
  pub slot : v.slot ≡ length displays
  pub shown : view_kept v.shown.view ≡ newest displays
  pub changes : written ≡ changes_of displays

-- a slot with this group appends the changes of its display
abbrev pub GivesChange : ViewLines → ViewLines → Option Group → List ℕ → List ℕ → Type 0
GivesChange old new group before after =
    (n : ℕ) (why : Bool) (t : Tuning) (slots : List (Option Group)) (written : List ℕ)
    → ViewsStandAt n why t old slots written
    → (added : List ℕ) × (after ≡ before ++ added) × ViewsStandAt n why t new (group ∷ slots) (written ++ added)
