-- What a mix of `witness` means for `decode`. Lists have the newest first.
use Rattle.std.specs.Prelude.{ℕ, Bool, List, Option, length}
use Rattle.rds_block.specs.declared.group.Group.{Group}
use Rattle.rds_log.specs.LogWrites.{AreDisplays}
use Rattle.rds_receiver.specs.Receipts.{Tuning}
use Rattle.rds_view_lines.specs.Output.{Display, changes_of}
use Rattle.rds_wire.specs.Printed.{Shows}
use Rattle.rds_witness.specs.Lines.{content_of, part_of}
use Rattle.rds_witness.specs.Lost.{got}
use Rattle.rds_witness.specs.Mix.{IsMix, Thing}
use Rattle.rds_witness.specs.declared.burst.Burst.{Burst}

-- the output of `decode` for the slots of the log without the lost ones, with reasons or without, shows the mix in its
-- slot
abbrev pub AMixIsShown : Type 0
AMixIsShown =
    (why : Bool) (t : Tuning) (ahead : ℕ) (log : List (Option Group)) (lost : List Burst) (slot : ℕ) (thing : Thing)
    (displays : List Display)
    → IsMix t ahead log lost slot thing → AreDisplays 0 why t (got lost log (length log)) displays
    → Shows (changes_of displays) slot (part_of thing) (content_of thing)
