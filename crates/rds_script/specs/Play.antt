-- The state of `simulate` and `encode` at each end. `csv` defines the records of a script: fields between commas, with
-- or without quotation marks, one record a line. Lists of records and of events have the newest first. w is the traffic
-- with the writer.
use Rattle.std.specs.Prelude.{◌≡◌, ◌<◌, ◌≤◌, ◌+◌, ◌∷◌, []}
use Rattle.std.specs.Prelude.{ℕ, List, Option, None, Some, Ok, Err, Result, length, reverse}
use Rattle.std.specs.Io.KnownBytes.{Appends}
use Rattle.csv.specs.Machine.{next_record}
use Rattle.csv.specs.Reading.{AreRecords, Reached, default_config, strip_bom}
use Rattle.csv.specs.declared.parser.State.{State}
use Rattle.csv.specs.declared.parser.State.TheVariants.{StartRecord}
use Rattle.rds_io.specs.Told.{AppendsPrefix, HasFailed, IsCalm, Traffic}
use Rattle.rds_world.specs.declared.world.Config.{Config}
use Rattle.rds_world.specs.Event.{Event}
use Rattle.rds_io.specs.ReadFailed.{SomeReadFailed}
use Rattle.rds_script.specs.Rows.{AreNoRows, Record, RowsSay}
use Rattle.rds_script.specs.Outcomes.{EventsWrite}
use Rattle.rds_io.specs.declared.fault.LogFault.{LogFault}
use Rattle.rds_io.specs.declared.fault.LogFault.TheVariants.{BadLine, BadRow, Read, Write, TooLong, Memory}
use Rattle.rds_script.specs.declared.form.Form.{Form}
use Rattle.rds_script.specs.declared.play.Playing.{Playing}

-- a script is played in this form with this station
abbrev pub with_form : Form → Config → Playing
with_form form config = record { form = form; config = config }

-- the script begins with these records, and continues like this
pub record RecordsUpTo (script : List ℕ) (records : List Record) (state : State) (rest : List ℕ) : Type 0 where
  pub reached : Reached default_config StartRecord (strip_bom script) (reverse records) state rest

-- the script begins with these records
abbrev pub HasRecords : Option (List ℕ) → List Record → Type 0
HasRecords known records =
    (script : List ℕ) → known ≡ Some script → (state : State) × (rest : List ℕ) × RecordsUpTo script records state rest

-- the script has exactly these records
abbrev pub HasAllRecords : Option (List ℕ) → List Record → Type 0
HasAllRecords known records = (script : List ℕ) → known ≡ Some script
    → (state : State) × (rest : List ℕ) × RecordsUpTo script records state rest
    × (next_record default_config state [] [] rest ≡ None)

-- the records are rows, and this is their output
pub record RowsWrite (how : Playing) (records : List Record) (written : List ℕ) : Type 0 where
  pub events : List Event
  pub say : RowsSay how.config how.form records events
  pub write : EventsWrite how.form how.config events written

-- this is the output of the bytes of a script, all of whose records are rows
pub record ScriptWrites (how : Playing) (script written : List ℕ) : Type 0 where
  pub records : List Record
  pub are : AreRecords default_config StartRecord (strip_bom script) (reverse records)
  pub write : RowsWrite how records written

-- the output of the first records of the script was written
pub record WroteRows (how : Playing) (known : Option (List ℕ)) (w : Traffic)
    (records : List Record) : Type 0 where
  pub begins : HasRecords known records
  pub written : List ℕ
  pub write : RowsWrite how records written
  pub wrote : Appends w.before w.after written
  pub calm : IsCalm w

-- the record after these is not a row, and the output of these was written
pub record PlayStopsAtBadRow (how : Playing) (known : Option (List ℕ)) (w : Traffic)
    (n : ℕ) : Type 0 where
  pub records : List Record
  pub bad : List (List ℕ)
  pub wrote : WroteRows how known w records
  pub begins : HasRecords known (bad ∷ records)
  pub none : AreNoRows how.config how.form (bad ∷ records)
  pub number : n ≡ length records + 1

-- the writer failed: some first part of the output of these records, at most as many as the bound, was written
pub record PlayStopsAtWrite (how : Playing) (most : ℕ) (known : Option (List ℕ))
    (w : Traffic) : Type 0 where
  pub records : List Record
  pub begins : HasRecords known records
  pub within : length records ≤ most
  pub written : List ℕ
  pub write : RowsWrite how records written
  pub wrote : AppendsPrefix w.before w.after written
  pub failed : HasFailed w

-- the script was read to its end, it has fewer records than the bound, and their output was written
pub record PlaysAll (how : Playing) (most : ℕ) (known : Option (List ℕ)) (w : Traffic) : Type 0 where
  pub records : List Record
  pub all : HasAllRecords known records
  pub fewer : length records < most
  pub wrote : WroteRows how known w records

-- the reader of a script: its remaining bytes, and the statement that one of its reads failed
pub record Reading : Type 1 where
  pub known : Option (List ℕ)
  pub Failed : Type 0

abbrev pub reading : {R : Type 0} → (R → Option (List ℕ)) → (R → ℕ) → R → Reading
reading remaining failures reader = record { known = remaining reader; Failed = SomeReadFailed failures }

-- the result of a script with this bound on its records: each fault has its cause. If it ends without a fault, at a
-- failed read or out of memory, there are fewer records than the bound. It is too long at as many
abbrev pub Plays : Playing → ℕ → Reading → Traffic → Result (Unit {0}) LogFault → Type 0
Plays how most r w (Ok done) = PlaysAll how most r.known w
Plays how most r w (Err (BadLine n)) = ⊥
Plays how most r w (Err (BadRow n)) = PlayStopsAtBadRow how r.known w n × (n ≤ most)
Plays how most r w (Err Read) =
    (records : List Record) × WroteRows how r.known w records × (length records < most) × r.Failed
Plays how most r w (Err Memory) =
    (records : List Record) × WroteRows how r.known w records × (length records < most)
Plays how most r w (Err TooLong) =
    (records : List Record) × WroteRows how r.known w records × (length records ≡ most)
Plays how most r w (Err Write) = PlayStopsAtWrite how most r.known w
