-- The result of `gather`: the group of each slot, the oldest first. r is the traffic with the reader.
use Rattle.std.specs.Prelude.{ℕ, List, Option, reverse}
use Rattle.std.specs.Io.KnownBytes.{Consumes, IsAtEnd}
use Rattle.rds_block.specs.declared.group.Group.{Group}
use Rattle.rds_io.specs.Told.{HasFailed, IsCalm, Traffic}
use Rattle.rds_lines.specs.LogLines.{AreLines, Line}
use Rattle.rds_lines.specs.LogSlots.{AreSlots}
use Rattle.rds_lines.specs.Reads.{NextIsBad, ReadsUpTo}
use Rattle.rds_io.specs.declared.fault.LogFault.{LogFault}
use Rattle.rds_io.specs.declared.fault.LogFault.TheVariants.{BadLine, BadRow, Read, Write, TooLong, Memory}

-- all lines of the bytes are good, and these are the groups of their slots, the oldest first, if their tags come in
-- groups nA
pub record HasSlots (n : ℕ) (text : List ℕ) (log : List (Option Group)) : Type 0 where
  pub lines : List Line
  pub are : AreLines text lines
  pub say : AreSlots n lines (reverse log)

-- the reader was read to its end, and these are the groups of the slots
pub record GathersAll (n : ℕ) (r : Traffic) (log : List (Option Group)) : Type 0 where
  pub text : List ℕ
  pub read : Consumes r.before r.after text
  pub end : IsAtEnd r.after
  pub slots : HasSlots n text log
  pub calm : IsCalm r

-- the result without groups, with at most this many reads: each fault has its cause
abbrev pub GathersNone : ℕ → Traffic → LogFault → Type 0
GathersNone reads r (BadLine n) = (lines : List Line)
    × ((text : List ℕ) × Consumes r.before r.after text × NextIsBad n lines text r.after × IsCalm r)
GathersNone reads r Read = (closed : List Line) × (ReadsUpTo r 0 closed × HasFailed r)
GathersNone reads r TooLong = (closed : List Line) × (ReadsUpTo r reads closed × IsCalm r)
GathersNone reads r Memory = IsCalm r
GathersNone reads r (BadRow n) = ⊥
GathersNone reads r Write = ⊥
