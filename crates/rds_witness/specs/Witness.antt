-- The state of `witness` at each end: how much of the reader it read, and what it wrote. r is the traffic with the
-- reader, w the traffic with the writer.
use Rattle.std.specs.Prelude.{◌^◌, ℕ, Bool, List, Ok, Err, Result, Option}
use Rattle.std.specs.Io.KnownBytes.{Appends}
use Rattle.rds_block.specs.declared.group.Group.{Group}
use Rattle.rds_io.specs.Told.{AppendsPrefix, HasFailed, IsCalm, PutsNothing, Traffic}
use Rattle.rds_io.specs.declared.told.WriteFault.{WriteFault}
use Rattle.rds_receiver.specs.Receipts.{Tuning}
use Rattle.rds_lines.specs.Gather.{GathersAll, GathersNone}
use Rattle.rds_io.specs.declared.fault.LogFault.{LogFault}
use Rattle.rds_io.specs.declared.fault.LogFault.TheVariants.{BadLine, BadRow, Read, Write, TooLong, Memory}
use Rattle.rds_witness.specs.Lines.{IsAnswer}
use Rattle.rds_witness.specs.LossLines.{IsLossAnswer}
use Rattle.rds_witness.specs.declared.burst.Burst.{Burst}

-- an answer was written
pub record WroteAnswer (Is : Bool → List ℕ → Type 0) (found : Bool) (w : Traffic) : Type 0 where
  pub written : List ℕ
  pub answer : Is found written
  pub wrote : Appends w.before w.after written
  pub calm : IsCalm w

-- the writer failed: some first part of an answer was written
pub record WrotePartOfAnswer (Is : Bool → List ℕ → Type 0) (w : Traffic) : Type 0 where
  pub found : Bool
  pub written : List ℕ
  pub answer : Is found written
  pub wrote : AppendsPrefix w.before w.after written
  pub failed : HasFailed w

-- the output of an answer
abbrev pub Answers : (Bool → List ℕ → Type 0) → Traffic → Result Bool WriteFault → Type 0
Answers Is w (Ok found) = WroteAnswer Is found w
Answers Is w (Err fault) = WrotePartOfAnswer Is w

-- the log, whose tags come in groups nA, was read to its end and answered, or a fault came, which has its cause
abbrev pub AnswersLog : ℕ → (List (Option Group) → Bool → List ℕ → Type 0) → Traffic → Traffic → Result Bool LogFault
    → Type 0
AnswersLog n Is r w (Ok found) = (log : List (Option Group)) × GathersAll n r log × WroteAnswer (Is log) found w
AnswersLog n Is r w (Err Write) = (log : List (Option Group)) × GathersAll n r log × WrotePartOfAnswer (Is log) w
AnswersLog n Is r w (Err Memory) = IsCalm r × PutsNothing w
AnswersLog n Is r w (Err (BadLine line)) = GathersNone (2 ^ 32) r (BadLine line) × PutsNothing w
AnswersLog n Is r w (Err Read) = GathersNone (2 ^ 32) r Read × PutsNothing w
AnswersLog n Is r w (Err TooLong) = GathersNone (2 ^ 32) r TooLong × PutsNothing w
AnswersLog n Is r w (Err (BadRow row)) = ⊥

-- the result of `witness` for a log whose tags come in groups nA
abbrev pub Witnesses : ℕ → Tuning → Traffic → Traffic → Result Bool LogFault → Type 0
Witnesses n t r w result = AnswersLog n (IsAnswer t) r w result

-- the result of `witness` with given lost slots
abbrev pub Loses : ℕ → Tuning → ℕ → List Burst → Traffic → Traffic → Result Bool LogFault → Type 0
Loses n t ahead lost r w result = AnswersLog n (IsLossAnswer t ahead lost) r w result
