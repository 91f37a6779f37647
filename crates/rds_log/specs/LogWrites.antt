-- The output of the lines of a log: the changes of the displays of their slots, with the reasons if the lines say why a
-- text or a name is not shown any more. All lists have the newest first.
use Rattle.std.specs.Prelude.{◌≡◌, ℕ, Bool, false, true, List, [], ◌∷◌, None, Option, Some}
use Rattle.rds_block.specs.declared.group.Group.{Group}
use Rattle.rds_receiver.specs.Receipts.{Tuning, heard_of}
use Rattle.rds_receiver.specs.NotShown.{whys_of}
use Rattle.rds_receiver.specs.Kept.{Displays}
use Rattle.rds_receiver.specs.declared.why.Whys.{Whys}
use Rattle.rds_lines.specs.LogSlots.{AreSlots}
use Rattle.rds_lines.specs.LogLines.{AreLines, Line}
use Rattle.rds_view_lines.specs.Output.{Display, changes_of}
use Rattle.rds_log.specs.declared.decode_log.Decoding.{Decoding}

-- a receiver that decodes so hears a log from its first slot on
abbrev pub tuning_of : Decoding → Tuning
tuning_of how = record { programme = how.pi; dwell = how.dwell; window = how.window; first = 0 }

-- the settings without a window, without reasons and of a display that keeps nothing, for tags in groups 11A
abbrev pub plain : ℕ → ℕ → Decoding
plain pi m = record { pi = pi; rtplus = 11; dwell = m; window = None; says_why = false; keep = 0 }

-- why a text and a name are not shown at the end of an input, if the lines say why
abbrev pub SayWhys : Bool → Tuning → List (Option Group) → Option Whys → Type 0
SayWhys false t input said = said ≡ None
SayWhys true t input said = said ≡ Some (whys_of t (heard_of t.programme input))

-- this is the display at the end of an input, if it keeps a text and a name for n slots
pub record IsDisplay (n : ℕ) (why : Bool) (t : Tuning) (input : List (Option Group)) (display : Display)
    : Type 0 where
  pub view : Displays n t (heard_of t.programme input) display.view
  pub whys : SayWhys why t input display.whys

-- these are the displays at the ends of the slots
abbrev pub AreDisplays : ℕ → Bool → Tuning → List (Option Group) → List Display → Type 0
AreDisplays n why t [] [] = Unit {0}
AreDisplays n why t [] (display ∷ older) = ⊥
AreDisplays n why t (slot ∷ before) [] = ⊥
AreDisplays n why t (slot ∷ before) (display ∷ older) =
    IsDisplay n why t (slot ∷ before) display × AreDisplays n why t before older

-- the slots write the changes of their displays
pub record SlotsWrite (how : Decoding) (slots : List (Option Group)) (written : List ℕ) : Type 0 where
  pub displays : List Display
  pub are : AreDisplays how.keep how.says_why (tuning_of how) slots displays
  pub changes : written ≡ changes_of displays

-- the lines are good, and this is their output
pub record LinesWrite (how : Decoding) (lines : List Line) (written : List ℕ) : Type 0 where
  pub slots : List (Option Group)
  pub say : AreSlots how.rtplus lines slots
  pub write : SlotsWrite how slots written

-- this is the output of the bytes of a log, all of whose lines are good
pub record LogWrites (how : Decoding) (text written : List ℕ) : Type 0 where
  pub cut : List Line
  pub are : AreLines text cut
  pub write : LinesWrite how cut written
