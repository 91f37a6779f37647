-- The state of the parts of a script's engine: its reader after these records, and its station after their slots. Lists
-- have the newest first.
use Rattle.std.specs.Prelude.{◌≡◌, ◌⊎◌, ◌<◌, ◌++◌, ◌∷◌, ℕ, [], Bool, Err, List, None, Ok, Option, Result, Some, false}
use Rattle.std.specs.Prelude.{length, true}
use Rattle.csv.specs.Reading.{Ready, default_config, is_flexible, reader_config, reader_state, reader_trim, source_of}
use Rattle.csv.specs.declared.reader.Trim.TheVariants.{None as untrimmed}
use Rattle.rds_io.specs.Told.{Traffic}
use Rattle.rds_io.specs.Waits.{Waits}
use Rattle.rds_world.specs.declared.world.Config.{Config}
use Rattle.rds_world.specs.Event.{Event}
use Rattle.rds_script.specs.Inside.FailureFlag.{asked_bytes}
use Rattle.rds_script.specs.Inside.Compared.{HasRoom}
use Rattle.rds_script.specs.Inside.Watched.{AreKept, WatchedStandsAt, WhereWatchedStands, views_kept}
use Rattle.rds_script.specs.Rows.{AreNoRows, AreRows, IsAllowed, Record}
use Rattle.rds_script.specs.Outcomes.{keep_of, AreOutcomes, Outcome, lines_of, newest_views}
use Rattle.rds_script.specs.Play.{HasAllRecords, HasRecords, RecordsUpTo}
use Rattle.rds_io.specs.declared.fault.LogFault.{LogFault}
use Rattle.rds_io.specs.declared.fault.LogFault.TheVariants.{BadLine, BadRow, Memory, Read, TooLong, Write}
use Rattle.rds_script.specs.declared.form.Form.{Form}
use Rattle.rds_script.specs.declared.play.Playing.{Playing}
use Rattle.rds_script.specs.declared.player.Player.{Player}
use Rattle.rds_script.specs.declared.row.RowRefused.{RowRefused}
use Rattle.rds_script.specs.declared.row.RowRefused.TheVariants.{NoRow}
use Rattle.rds_script.specs.declared.row.RowRefused.TheVariants as refused
use Rattle.rds_script.specs.declared.records.Records.{Records}
use Rattle.rds_script.specs.declared.watched.Watched.{Watched}

-- the reader of a script returned these records
pub record ScriptStandsAt {R : Type 0} {g h : _} (remaining : R → Option (List ℕ)) (known : Option (List ℕ))
    (s : Records R g h) (records : List Record) : Type 0 where
  pub plain : reader_trim s.reader ≡ untrimmed
  pub flexible : is_flexible s.reader ≡ true
  pub ready : Ready s.reader
  pub config : reader_config s.reader ≡ default_config
  pub gave : (script : List ℕ) → known ≡ Some script
      → (rest : List ℕ) × (source_of (asked_bytes remaining) s.reader ≡ Some rest)
      × RecordsUpTo script records (reader_state s.reader) rest

-- reading a record fails only if the program is out of memory, or if a read of the reader failed
abbrev pub IsReadFault : Type 0 → LogFault → Type 0
IsReadFault ReadFailed fault = (fault ≡ Memory) ⊎ ((fault ≡ Read) × ReadFailed)

-- after the first slot there is a world whose receivers are watched, with displays that keep for n slots, and the
-- views are those of the newest outcome; before it there is no world
abbrev pub HasWatched : ℕ → Config → ℕ → Option Watched → List Event → List Outcome → Type 0
HasWatched n config receivers None events outcomes = events ≡ []
HasWatched n config receivers (Some w) events outcomes =
    (0 < length events) × WatchedStandsAt config receivers w events × AreKept (views_kept w) (newest_views outcomes)
    × (w.keep ≡ n)

-- the history of a player: its form, its station, its number of receivers, its records, and their lines
pub record Played : Type 0 where
  pub form : Form
  pub config : Config
  pub receivers : ℕ
  pub records : List Record
  pub written : List ℕ

-- the player plays in this way, and its records have these lines
abbrev pub played_by : Playing → ℕ → List Record → List ℕ → Played
played_by how receivers records written =
    record { form = how.form; config = how.config; receivers = receivers; records = records; written = written }

-- before the first row
abbrev pub nothing_played : Playing → Played
nothing_played how = played_by how 0 [] []

-- one more row with these lines; the first row fixes the number of receivers
abbrev pub with_row : ℕ → Record → List ℕ → Played → Played
with_row receivers row lines played =
    record played { receivers = receivers; records = row ∷ played.records; written = played.written ++ lines }

-- the player played these rows, each with this number of receivers, and returned the lines of their slots
pub record PlayerStandsAt (p : Player) (played : Played) : Type 0 where
  pub form_is : p.form ≡ played.form
  pub config_is : p.config ≡ played.config
  pub allowed : IsAllowed played.form played.receivers
  pub events : List Event
  pub rows : AreRows played.config played.receivers played.records events
  pub outcomes : List Outcome
  pub are : AreOutcomes (keep_of played.form played.config) played.config events outcomes
  pub slot : p.slot ≡ length outcomes
  pub watched : HasWatched (keep_of played.form played.config) played.config played.receivers p.watched events outcomes
  pub lines : played.written ≡ lines_of played.form played.config events outcomes

-- for each state of the player: this holds of its history
abbrev pub WherePlayerStands : Player → (Played → Type 0) → Type 0
WherePlayerStands p Holds = (played : Played) → PlayerStandsAt p played → Holds played

-- the player plays this row, and returns these lines
abbrev pub PlaysRow : Player → Record → List ℕ → Played → Type 0
PlaysRow p row lines before = (receivers : ℕ) × PlayerStandsAt p (with_row receivers row lines before)

-- the player plays this row, and its lines come after the old ones
abbrev pub AppendsRow : Player → Record → List ℕ → List ℕ → Played → Type 0
AppendsRow p row old new before = (lines : List ℕ) × (new ≡ old ++ lines) × PlaysRow p row lines before

-- the world that is watched if there was this one or none: it stands and shows what it did, with displays that keep for
-- n slots, and has memory for one more slot
abbrev pub IsBegun : ℕ → Config → ℕ → Option Watched → Watched → Type 0
IsBegun n config receivers None w =
    WatchedStandsAt config receivers w [] × AreKept (views_kept w) [] × HasRoom w.compared × (w.keep ≡ n)
IsBegun n config receivers (Some before) w =
    WhereWatchedStands before (λ c n events. WatchedStandsAt c n w events) × (views_kept w ≡ views_kept before)
    × HasRoom w.compared × (w.keep ≡ before.keep)

-- there was no world, or its receivers are radios with the flag bit alone
abbrev pub IsFirstOrAlone : Option Watched → Type 0
IsFirstOrAlone None = Unit {0}
IsFirstOrAlone (Some before) = WhereWatchedStands before (λ config n events. config.kind.is_flag_alone ≡ true)

-- the reason why a record is not played after these: they are not all rows; or there is no memory: for a world, if it
-- is the first, or for what was on air, if the receivers are radios with the flag bit alone
abbrev pub IsRowRefused : Played → Record → RowRefused → Type 0
IsRowRefused played row (NoRow cause) = AreNoRows played.config played.form (row ∷ played.records)
IsRowRefused played row refused.Memory = (length played.records ≡ 0) ⊎ (played.config.kind.is_flag_alone ≡ true)

-- after the records that were played, this one, which is number n, is not a row
pub record IsBadRecord (known : Option (List ℕ)) (played : Played) (row : Record) (number n : ℕ) : Type 0 where
  pub number_is : n ≡ number
  pub begins : HasRecords known (row ∷ played.records)
  pub none : AreNoRows played.config played.form (row ∷ played.records)

-- the next record of a script: true if it is a row and the player played it, false if the script has no more records.
-- It has this number; ReadFailed says that a read of the reader failed
abbrev pub PlaysNext : {R : Type 0} {g h : _} (remaining : R → Option (List ℕ)) (ReadFailed : Type 0)
    (known : Option (List ℕ)) (s : Records R g h) (p : Player) (row : Record) (number : ℕ) (old new : List ℕ)
    (played : Played) → Result Bool LogFault → Type 0
PlaysNext remaining ReadFailed known s p row number old new played (Ok true) =
    ScriptStandsAt remaining known s (row ∷ played.records) × AppendsRow p row old new played
PlaysNext remaining ReadFailed known s p row number old new played (Ok false) = HasAllRecords known played.records
PlaysNext remaining ReadFailed known s p row number old new played (Err (BadRow n)) =
    IsBadRecord known played row number n
PlaysNext remaining ReadFailed known s p row number old new played (Err Read) = ReadFailed
PlaysNext remaining ReadFailed known s p row number old new played (Err Memory) = Unit {0}
PlaysNext remaining ReadFailed known s p row number old new played (Err (BadLine n)) = ⊥
PlaysNext remaining ReadFailed known s p row number old new played (Err Write) = ⊥
PlaysNext remaining ReadFailed known s p row number old new played (Err TooLong) = ⊥

-- the station played these records, and this is their output; a part of it was written, and the rest waits
pub record PlayedSoFar (how : Playing) (p : Player) (records : List Record) (w : Traffic)
    (waiting : List ℕ) : Type 0 where
  pub receivers : ℕ
  pub total : List ℕ
  pub player : PlayerStandsAt p (played_by how receivers records total)
  pub waits : Waits w waiting total
