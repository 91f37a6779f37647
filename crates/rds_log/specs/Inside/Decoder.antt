-- The state of the taker of `decode` after these lines, the newest first.
use Rattle.std.specs.Prelude.{◌≡◌, ◌≢◌, [], ℕ, List, Option}
use Rattle.rds_block.specs.declared.group.Group.{Group}
use Rattle.rds_lines.specs.LogLines.{Line}
use Rattle.rds_lines.specs.LogSlots.{AreSlots}
use Rattle.rds_log.specs.LogWrites.{LinesWrite, tuning_of}
use Rattle.rds_log.specs.Inside.ViewLines.{ViewsStandAt}
use Rattle.rds_log.specs.declared.decode_log.Decoding.{Decoding}
use Rattle.rds_log.specs.declared.decoder.ViewLines.{ViewLines}

-- a decoder with these views and this group type of the tags took these lines, and this is their output
pub record HasDecoded (how : Decoding) (v : ViewLines) (rtplus : ℕ) (lines : List Line)
    (total : List ℕ) : Type 0 where
  pub slots : List (Option Group)
  pub say : AreSlots how.rtplus lines slots
  pub same : rtplus ≡ how.rtplus
  pub views : ViewsStandAt how.keep how.says_why (tuning_of how) v slots total

-- the output of the lines that it took
output_of : (how : Decoding) (v : ViewLines) (rtplus : ℕ) (lines : List Line) (total : List ℕ)
    → HasDecoded how v rtplus lines total → LinesWrite how lines total
output_of how v rtplus lines total has = record {
  slots = has.slots;
  say = has.say;
  write = record { displays = has.views.displays; are = has.views.are; changes = has.views.changes };
}

pub decoded_lines : (how : Decoding) (v : ViewLines) (rtplus : ℕ) (lines : List Line) (total : List ℕ)
    → HasDecoded how v rtplus lines total → (⊥ → ⊥) → LinesWrite how lines total
decoded_lines how v rtplus lines total has wants = output_of how v rtplus lines total has

pub decoded_part : (how : Decoding) (v : ViewLines) (rtplus : ℕ) (lines : List Line) (total : List ℕ)
    → HasDecoded how v rtplus lines total → total ≢ [] → LinesWrite how lines total
decoded_part how v rtplus lines total has some = output_of how v rtplus lines total has
