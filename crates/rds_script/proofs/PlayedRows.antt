-- How a station goes on by a row, and why a record is no row.
use Rattle.std.proofs.Common.{◌≡◌, ◌⊎◌, ◌<◌, ◌≤◌, ◌+◌, ◌∷◌, ◌++◌, [], ℕ, suc, List, None, Option, Some, ap, arith, inl}
use Rattle.std.proofs.Common.{length, refl, Err, Ok, OnOk, Result, ◌≢◌, Bool, false, true, MatchBool}
use Rattle.std.proofs.Common.{reverse, ◌∙◌}
use Rattle.rds_world.specs.Event.{Event}
use Rattle.rds_receiver.specs.Shown.{ShownView}
use Rattle.rds_script.proofs.OneOutcome.{changes_same, compared_alike}
use Rattle.rds_script.specs.Outcomes.{AreOutcomes, IsOutcome, Outcome, compared_lines, keep_of, lines_of, newest_views}
use Rattle.rds_script.specs.Outcomes.{slot_lines}
use Rattle.rds_script.specs.Inside.Compared.{HasRoom}
use Rattle.rds_script.specs.Inside.Player.{AppendsRow, HasWatched, IsBegun, Played, PlayerStandsAt, PlayedSoFar}
use Rattle.rds_script.specs.Inside.Player.{PlaysNext, ScriptStandsAt, played_by}
use Rattle.rds_script.specs.Inside.Watched.{AreKept, WatchedStandsAt, views_kept}
use Rattle.rds_script.specs.declared.player.Player.{Player}
use Rattle.rds_script.specs.declared.watched.Watched.{Watched}
use Rattle.rds_charset.specs.Laws.{TextIsReadOneWay}
use Rattle.rds_world.specs.Replies.{CanBeTaken, IsStepRefused}
use Rattle.rds_world.specs.declared.reply.StepRefused.{StepRefused}
use Rattle.rds_script.specs.Rows.{AreNoRows, AreRows, IsAllowed, Record, SaysEvent}
use Rattle.rds_script.proofs.OneEvent.{same_event, same_events}
use Rattle.rds_script.proofs.Receptions.{same_receptions}
use Rattle.rds_script.specs.declared.form.Form.{Form}
use Rattle.rds_world.specs.declared.world.Config.{Config}
use Rattle.std.proofs.lemmas.Bool.Decides.{nat_tests}
use Rattle.rds_io.specs.Told.{Traffic}
use Rattle.rds_io.specs.Waits.{IsLost, Waits}
use Rattle.rds_io.proofs.Waiting.{waits_more, wrote_all}
use Rattle.rds_script.specs.Play.{HasAllRecords, HasRecords, Plays, Reading, RowsWrite, WroteRows, with_form}
use Rattle.rds_io.specs.declared.fault.LogFault.{LogFault}
use Rattle.rds_io.specs.declared.fault.LogFault.TheVariants.{BadRow, Memory, Read, TooLong, Write}
use Rattle.rds_script.specs.declared.play.Playing.{Playing}
use Rattle.rds_script.specs.declared.records.Records.{Records}
use Rattle.std.proofs.lemmas.Grind.{reverse_onto}
use Rattle.csv.proofs.ReadFacts.{rows-more}
use Rattle.csv.specs.Reading.{ReadRecord, default_config, is_flexible, strip_bom, took_first}
use Rattle.csv.specs.declared.parser.State.TheVariants.{StartRecord}
use Rattle.csv.specs.declared.reader.Reader.{Reader}
use Rattle.rds_script.specs.Inside.FailureFlag.{asked_bytes}
use Rattle.rds_script.specs.declared.failure_flag.FailureFlag.{FailureFlag}

-- a record, an event and an outcome for each slot
pub as_many_rows : (k : Config) (receivers : ℕ) (records : List Record) (events : List Event)
    → AreRows k receivers records events → length records ≡ length events
as_many_rows k receivers [] [] are = refl
as_many_rows k receivers (row ∷ before) (e ∷ older) are = ap suc (as_many_rows k receivers before older are.2)
as_many_rows k receivers _ _ are = absurd are

-- a row has one number of receptions
pub same_count : (row : Record) (e f : Event) → SaysEvent row e → SaysEvent row f
    → length e.receptions ≡ length f.receptions
same_count row e f p q = grind (arith, same_receptions)

-- a row with more receivers than its script may name
pub names_receivers : (k : Config) (form : Form) (row : Record) (records : List Record) (e : Event) → SaysEvent row e
    → (IsAllowed form (length e.receptions) → ⊥) → AreNoRows k form (row ∷ records)
names_receivers k form row records e says none [] say = say.rows
names_receivers k form row records e says none (f ∷ older) say = grind (arith, same_count row e f)

-- rows of one script have one number of receivers
same_receivers : (k : Config) (n other : ℕ) (records : List Record) (events older : List Event)
    → AreRows k n records events → AreRows k other records older → 0 < length records → n ≡ other
same_receivers k n other (row ∷ records) (e ∷ events) (f ∷ older) p q some = grind (arith, same_count row e f)
same_receivers k n other _ _ _ p q some = grind arith

-- the lines of a slot come after those of the slots before
pub slot_written : (form : Form) (config : Config) (slot : ℕ) (kept : List ShownView) (e : Event) (events : List Event)
    (o : Outcome) (older : List Outcome) (written lines : List ℕ)
    → written ≡ lines_of form config events older → slot ≡ length older → AreKept kept (newest_views older)
    → lines ≡ slot_lines form config slot e events kept o ++ compared_lines config slot (length o.views) e events kept
    o.views
    → written ++ lines ≡ lines_of form config (e ∷ events) (o ∷ older)
slot_written form config slot kept e events o older written lines had now same gave =
    grind (arith, changes_same, compared_alike)

-- before the first slot any number of receivers will do, and no outcome shows a thing
pub none_played : (k : Config) (receivers other : ℕ) (records : List Record) (events : List Event)
    → AreRows k receivers records events → events ≡ [] → AreRows k other records events
none_played k receivers other [] [] rows none = tt
none_played k receivers other _ _ rows none = grind arith

pub none_shown : (n : ℕ) (config : Config) (events : List Event) (outcomes : List Outcome)
    → AreOutcomes n config events outcomes → events ≡ [] → newest_views outcomes ≡ []
none_shown n config events outcomes are none = grind arith

-- for how many slots the displays of what was played keep a text and a name
abbrev pub kept_for : Played → ℕ
kept_for played = keep_of played.form played.config

-- the world that a row begins with: with as many receivers as the rows before have, or the first row asks for, and with
-- memory for its slot
pub record IsReady (played : Played) (events : List Event) (outcomes : List Outcome) (asked : ℕ) (w : Watched) : Type 0
  where
    pub receivers : ℕ
    pub allowed : IsAllowed played.form receivers
    pub rows : AreRows played.config receivers played.records events
    pub stands : WatchedStandsAt played.config receivers w events
    pub same : AreKept (views_kept w) (newest_views outcomes)
    pub room : HasRoom w.compared
    pub keep : w.keep ≡ kept_for played
    pub how : (0 < length played.records) ⊎ (receivers ≡ asked)

-- a script whose rows fit its world is ready for the next row
pub is_ready : (before : Option Watched) (w : Watched) (played : Played) (asked : ℕ) (events : List Event)
    (outcomes : List Outcome) → IsAllowed played.form played.receivers → IsAllowed played.form asked
    → AreRows played.config played.receivers played.records events
    → AreOutcomes (kept_for played) played.config events outcomes
    → HasWatched (kept_for played) played.config played.receivers before events outcomes
    → IsBegun (kept_for played) played.config asked before w → IsReady played events outcomes asked w
is_ready None w played asked events outcomes had allowed rows are none begun = grind (arith, none_played, none_shown)
is_ready (Some before) w played asked events outcomes had allowed rows are has begun = record {
  receivers = played.receivers;
  allowed = had;
  rows = rows;
  stands = begun.0 played.config played.receivers events has.1;
  same = λ i. rw begun.1 (has.2 i);
  room = begun.2;
  keep = begun.3 ∙ has.3;
  how = inl (omega (arith, as_many_rows played.config played.receivers played.records events rows));
}

-- a slot more is played in a world whose receivers are watched
pub plays_on : {T E : Type 0} (r : Result T E) (before now : Player) (played : Played)
    (s : PlayerStandsAt before played) (receivers : ℕ) (kept : List ShownView) (w : Watched) (row : Record) (e : Event)
    (old new : List ℕ)
    → now.form ≡ before.form → now.config ≡ before.config → now.slot ≡ before.slot + 1 → now.watched ≡ Some w
    → IsAllowed played.form receivers → w.keep ≡ kept_for played
    → AreRows played.config receivers played.records s.events → SaysEvent row e
    → AreKept kept (newest_views s.outcomes)
    → OnOk r (CanBeTaken played.config receivers e s.events)
    → OnOk r (WatchedStandsAt played.config receivers w (e ∷ s.events))
    → OnOk r ((o : Outcome) × IsOutcome (kept_for played) played.config e s.events o × (o.views ≡ views_kept w)
    × (new ≡ old ++ (slot_lines played.form played.config before.slot e s.events kept o
    ++ compared_lines played.config before.slot (length o.views) e s.events kept o.views)))
    → OnOk r (AppendsRow now row old new played)
plays_on (Err why) before now played s receivers kept w row e old new form config slot watched allowed keep rows says
    same taken stands outcome = grind (arith)
plays_on (Ok done) before now played s receivers kept w row e old new form config slot watched allowed keep rows says
    same taken stands (o, is, views, gave) = (
      slot_lines played.form played.config before.slot e s.events kept o ++ compared_lines played.config before.slot
          (length o.views) e s.events kept o.views,
      gave,
      (
        receivers,
        record {
          form_is = cc;
          config_is = cc;
          allowed = allowed;
          events = e ∷ s.events;
          rows = (says, taken, rows);
          outcomes = o ∷ s.outcomes;
          are = (is, s.are);
          slot = omega arith;
          lines = slot_written played.form played.config before.slot kept e s.events o s.outcomes played.written _
              s.lines s.slot same refl;
          watched = rw watched (omega arith, stands, λ i. rw views refl, keep);
        },
      ),
    )

-- a record whose event was refused, after rows or as the first one
pub refused_row : TextIsReadOneWay → (form : Form) (k : Config) (receivers : ℕ) (row : Record) (records : List Record)
    (e : Event) (events : List Event) → AreRows k receivers records events → SaysEvent row e
    → (0 < length records) ⊎ (receivers ≡ length e.receptions) → (CanBeTaken k receivers e events → ⊥)
    → AreNoRows k form (row ∷ records)
refused_row one form k receivers row records e events rows says how none [] say = say.rows
refused_row one form k receivers row records e events rows says how none (g ∷ older) say =
    grind (
      arith,
      same_event one row g e,
      same_events one k say.receivers receivers records older events,
      same_receivers k say.receivers receivers records older events,
      same_count row g e,
    )

-- a slot that is refused can't be taken
pub not_taken : (k : Config) (receivers : ℕ) (e : Event) (before : List Event) (why : StepRefused)
    → IsStepRefused k receivers e before why → CanBeTaken k receivers e before → ⊥
not_taken k receivers e before why refused taken = grind arith

-- ---- how a script is played on by a record, and what is left at each end

-- a reader that gave records: the script has them
pub has_records : {R : Type 0} {g h : _} (remaining : R → Option (List ℕ)) (known : Option (List ℕ))
    (s : Records R g h) (records : List Record) → ScriptStandsAt remaining known s records → HasRecords known records
has_records remaining known s records stands = grind arith

-- what a player played, its rows write
rows_write : (p : Player) (played : Played) → PlayerStandsAt p played
    → RowsWrite (with_form played.form played.config) played.records played.written
rows_write p played s = grind arith

-- the same output, of which another part waits
pub waits_now : (how : Playing) (p : Player) (records : List Record) (w v : Traffic) (waiting now : List ℕ)
    (played : PlayedSoFar how p records w waiting) → Waits v now played.total → PlayedSoFar how p records v now
waits_now how p records w v waiting now played waits = search

wrote_rows : {R : Type 0} {g h : _} (remaining : R → Option (List ℕ)) (how : Playing) (known : Option (List ℕ))
    (w : Traffic) (waiting : List ℕ) (s : Records R g h) (p : Player) (records : List Record)
    → ScriptStandsAt remaining known s records → PlayedSoFar how p records w waiting → waiting ≡ []
    → WroteRows how known w records
wrote_rows remaining how known w waiting s p records stands played none =
    grind (arith, has_records, rows_write, wrote_all)

-- what a player played is where its next record begins
abbrev pub where_next : (how : Playing) (p : Player) (records : List Record) (w : Traffic) (waiting : List ℕ)
    → PlayedSoFar how p records w waiting → Played
where_next how p records w waiting played = played_by how played.receivers records played.total

-- the lines of one more row wait
pub played_on : {R : Type 0} {g h : _} (remaining : R → Option (List ℕ)) (ReadFailed : Type 0) (how : Playing)
    (known : Option (List ℕ)) (s : Records R g h) (p now : Player) (row : Record) (number : ℕ) (records : List Record)
    (w : Traffic) (waiting more : List ℕ) (result : Result Bool LogFault)
    → (played : PlayedSoFar how p records w waiting)
    → PlaysNext remaining ReadFailed known s now row number waiting more (where_next how p records w waiting played)
    result → result ≡ Ok true
    → ScriptStandsAt remaining known s (row ∷ records) × PlayedSoFar how now (row ∷ records) w more
played_on remaining ReadFailed how known s p now row number records w waiting more result played next is =
    grind (arith, nat_tests, waits_more)

-- no row was played
pub not_more : (more : Bool) (result : Result Bool LogFault) → result ≡ Ok more → more ≡ false → result ≢ Ok true
not_more more result is none same = cc

-- the script has no more records
pub ends_all : {R : Type 0} {g h : _} (remaining : R → Option (List ℕ)) (how : Playing) (most : ℕ) (r : Reading)
    (w : Traffic) (waiting : List ℕ) (s : Records R g h) (p : Player) (records : List Record)
    → ScriptStandsAt remaining r.known s records → PlayedSoFar how p records w waiting → waiting ≡ []
    → length records < most → HasAllRecords r.known records → Plays how most r w (Ok tt)
ends_all remaining how most r w waiting s p records stands played none fewer all = search wrote_rows

-- the next record is not a row, or it was not read
pub ends_by_fault : {R : Type 0} {g h : _} (remaining : R → Option (List ℕ)) (how : Playing) (most : ℕ) (r : Reading)
    (w before : Traffic) (left : List ℕ) (s now : Records R g h) (p after : Player) (row : Record)
    (records : List Record) (waiting more : List ℕ) (turn : ℕ) (fault : LogFault)
    → ScriptStandsAt remaining r.known s records → PlayedSoFar how p records w left → left ≡ []
    → length records ≡ turn → turn < most → (played : PlayedSoFar how p records before waiting)
    → PlaysNext remaining r.Failed r.known now after row (turn + 1) waiting more
    (where_next how p records before waiting played) (Err fault) → Plays how most r w (Err fault)
ends_by_fault remaining how most r w before left s now p after row records waiting more turn
    (BadRow n) stands wrote none number fewer played next = (
      record {
        records = records;
        bad = row;
        wrote = wrote_rows remaining how r.known w left s p records stands wrote none;
        begins = next.begins;
        none = next.none;
        number = grind arith;
      },
      grind arith,
    )
ends_by_fault remaining how most r w before left s now p after row records waiting more turn Read stands wrote none
    number fewer played next =
    (records, wrote_rows remaining how r.known w left s p records stands wrote none, omega arith, next)
ends_by_fault remaining how most r w before left s now p after row records waiting more turn Memory stands wrote none
    number fewer played next =
    (records, wrote_rows remaining how r.known w left s p records stands wrote none, omega arith)
ends_by_fault remaining how most r w before left s now p after row records waiting more turn _ stands wrote none
    number fewer played next = grind (arith)

-- the script has as many records as may be
pub ends_too_long : {R : Type 0} {g h : _} (remaining : R → Option (List ℕ)) (how : Playing) (most : ℕ) (r : Reading)
    (w : Traffic) (waiting : List ℕ) (s : Records R g h) (p : Player) (records : List Record)
    → ScriptStandsAt remaining r.known s records → PlayedSoFar how p records w waiting → waiting ≡ []
    → length records ≡ most → Plays how most r w (Err TooLong)
ends_too_long remaining how most r w waiting s p records stands played none number = search wrote_rows

-- the writer failed at the lines that waited
pub ends_by_write : {R : Type 0} {g h : _} (remaining : R → Option (List ℕ)) (how : Playing) (most : ℕ) (r : Reading)
    (w v : Traffic) (waiting : List ℕ) (s : Records R g h) (p : Player) (records : List Record)
    → ScriptStandsAt remaining r.known s records → length records ≤ most
    → (played : PlayedSoFar how p records w waiting) → IsLost v played.total → Plays how most r v (Err Write)
ends_by_write remaining how most r w v waiting s p records stands within played lost = grind arith

-- ---- how the reader of a script goes on by a record

-- the reader stands at one record more after it read one
pub next_stands : {R : Type 0} {g h : _} (remaining : R → Option (List ℕ)) (old new : Reader (FailureFlag R g h))
    (found : Bool) (fields : List (List ℕ)) (known : Option (List ℕ)) (records : List Record)
    → ScriptStandsAt remaining known record { reader = old } records
    → ReadRecord (asked_bytes remaining) old new found fields → took_first new ≡ true
    → is_flexible new ≡ is_flexible old
    → MatchBool found (ScriptStandsAt remaining known record { reader = new } (fields ∷ records))
    (HasAllRecords known records)
next_stands remaining old new true fields known records s read first flexible = record {
  plain = cc;
  flexible = cc;
  ready = inl first;
  config = cc;
  gave = λ script k.
      let (rest, source, upto) = s.gave script k in
      let more = rows-more (asked_bytes remaining) old new fields default_config StartRecord (strip_bom script) rest
      (reverse records) s.config source upto.reached read in
      (more.0, more.1, record { reached = rw (reverse_onto records fields []) more.2 });
}
next_stands remaining old new false fields known records s read first flexible = grind arith
