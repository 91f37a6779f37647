-- The slots of a station come to one list of outcomes.
use Rattle.std.proofs.Common.{◌≡◌, ◌≢◌, ◌∙◌, ◌∷◌, [], ℕ, List, Option, Some, None, ap, refl, sym, arith, reverse, ◌⊎◌}
use Rattle.std.proofs.Common.{◌++◌, ◌+◌, ◌<◌, ◌≤◌, zero, suc, append_assoc, append-nil, add-one, get_or, length, map}
use Rattle.std.proofs.Common.{set, ap₂}
use Rattle.std.proofs.lemmas.Grind.{common_steps, get_or-set_at}
use Rattle.std.proofs.lemmas.List.{same_lists, reverse-reverse, get_or-map, get_or-set_other, length-map, map-set}
use Rattle.rds_block.specs.declared.group.Group.{Group}
use Rattle.rds_fields.specs.declared.head.Head.{Head}
use Rattle.rds_fields.specs.declared.message.Message.{Message}
use Rattle.rds_fields.specs.declared.message.Message.TheVariants.{Other}
use Rattle.rds_fields.specs.Canonical.{IsWritten}
use Rattle.rds_charset.specs.Laws.{TextIsReadOneWay}
use Rattle.rds_encoder.specs.Sent.{IsSent}
use Rattle.rds_receiver.proofs.Counting.{same_showings}
use Rattle.rds_receiver.specs.Confirmed.{counted}
use Rattle.rds_receiver.specs.Kept.{displayed}
use Rattle.rds_receiver.specs.OneView.{same_view_of}
use Rattle.rds_receiver.specs.Shown.{ShownView}
use Rattle.rds_world.specs.Event.{Event}
use Rattle.rds_safety.specs.Late.{Input}
use Rattle.rds_world.specs.Slots.{input_of, sent_at}
use Rattle.rds_world.specs.WorldAt.{IsViewOfInput, tuned_to, ShowsStill}
use Rattle.rds_world.specs.State.{distance}
use Rattle.rds_script.specs.Rows.{Record}
use Rattle.rds_script.specs.declared.play.Playing.{Playing}
use Rattle.rds_script.specs.Play.{RowsWrite, PlaysAll, ScriptWrites}
use Rattle.rds_script.proofs.OneEvent.{same_events}
use Rattle.rds_script.specs.Outcomes.{AreOutcomes, IsDisplayed, IsOutcome, Outcome, receiver_changes, view_at}
use Rattle.rds_script.specs.Outcomes.{compared_lines}
use Rattle.rds_script.specs.Outcomes.{airings_change, airings_changes}
use Rattle.rds_world.specs.declared.world.Config.{Config}
use Rattle.std.specs.Io.KnownBytes.{Appends}
use Rattle.csv.specs.Machine.{next_record}
use Rattle.csv.specs.Reading.{AreRecords, Reached, default_config, strip_bom}
use Rattle.csv.specs.declared.parser.State.{State}
use Rattle.csv.specs.declared.parser.State.TheVariants.{StartRecord}
use Rattle.rds_io.specs.Told.{Traffic}
use Rattle.rds_io.specs.Alike.{WriteAlike}
use Rattle.rds_receiver.specs.declared.why.Whys.{Whys}
use Rattle.rds_view_lines.specs.KeptView.{view_shown}
use Rattle.rds_view_lines.specs.Output.{change, receiver_prefix}
use Rattle.rds_view_lines.specs.declared.shown.Shown.{Shown}
use Rattle.rds_view_lines.specs.NoChange.{no_change}
use Rattle.rds_script.specs.Inside.Compared.{WereBefore, WereKept, airings_at}
use Rattle.rds_script.specs.Inside.Watched.{AreKept}
use Rattle.rds_script.specs.declared.airing.Airings.{Airings}

-- one group is written for a message that is no other
abbrev pub OneGroup : Type 0
OneGroup = (m : Message) (head : Head) (g h : Group) → m ≢ Other → IsWritten m head g → IsWritten m head h → g ≡ h

same_sent : OneGroup → (head : Head) (message : Option Message) (g h : Option Group) → message ≢ Some Other
    → IsSent head message g → IsSent head message h → g ≡ h
same_sent one head None None None other p q = refl
same_sent one head (Some m) (Some g) (Some h) other p q = ap Some (one m head g h (λ e. other (ap Some e)) p q)
same_sent one head _ _ _ other p q = grind arith

-- an input has one view
pub same_view_of_input : (config : Config) (input : Input) (v w : ShownView) → IsViewOfInput config input v
    → IsViewOfInput config input w → v ≡ w
same_view_of_input config input v w p q =
    let t = tuned_to config input in same_view_of t.dwell t.first (counted t input.heard) v w p q

-- a display shows one view
same_displayed : (n : ℕ) (config : Config) (input : Input) (v w : ShownView) → IsDisplayed n config input v
    → IsDisplayed n config input w → v ≡ w
same_displayed n config input v w p q =
    p.shows ∙ ap (displayed n) (same_showings (tuned_to config input) input.heard p.showings q.showings p.are q.are)
    ∙ sym q.shows

sent_is_known : (d : ℕ) (e : Event) (before : List Event) → sent_at d e before ≢ Some Other
sent_is_known d e before = grind arith

same_views : (keep : ℕ) (config : Config) (e : Event) (before : List Event) (o other : Outcome)
    → IsOutcome keep config e before o → IsOutcome keep config e before other → o.views ≡ other.views
same_views keep config e before o other p q = same_lists o.views other.views (omega arith) (λ n d within.
    let one = p.views n within in
    let two = q.views n (omega arith) in
    let same = same_displayed keep config (input_of (distance config) n (e ∷ before)) _ _ one two in
    grind (arith, common_steps))

same_outcome : OneGroup → (keep : ℕ) (config : Config) (e : Event) (before : List Event) (o other : Outcome)
    → IsOutcome keep config e before o → IsOutcome keep config e before other → o ≡ other
same_outcome one keep config e before o other p q =
    let views = same_views keep config e before o other p q in
    let sent = same_sent one config.head (sent_at (distance config) e before) o.sent other.sent
    (sent_is_known (distance config) e before) p.sent q.sent in
    let command : o.command ≡ other.command = p.command ∙ sym q.command in
    let reply : o.reply ≡ other.reply = p.reply ∙ sym q.reply in
    λ i. record { command = command i; reply = reply i; sent = sent i; views = views i }

same_outcomes : OneGroup → (keep : ℕ) (config : Config) (events : List Event) (outcomes other : List Outcome)
    → AreOutcomes keep config events outcomes → AreOutcomes keep config events other → outcomes ≡ other
same_outcomes one keep config [] [] [] p q = refl
same_outcomes one keep config (e ∷ before) (o ∷ outcomes) (o' ∷ other) p q =
    ap₂ (λ (x : Outcome) (l : List Outcome). x ∷ l) (same_outcome one keep config e before o o' p.0 q.0)
    (same_outcomes one keep config before outcomes other p.1 q.1)
same_outcomes one keep config _ _ _ p q = grind arith

-- rows write one output
pub same_written : TextIsReadOneWay → OneGroup → (how : Playing) (records : List Record) (written other : List ℕ)
    → RowsWrite how records written → RowsWrite how records other → written ≡ other
same_written text one how records written other p q = grind (arith, same_events, same_outcomes)

-- ---- the bytes of a script have one list of records, and write one output

-- no record, and a record
-- these records are all, by what is read after them
same_reached : (s a b : State) (xs ys zs : List ℕ) (rows other : List Record) → Reached default_config s xs rows a ys
    → next_record default_config a [] [] ys ≡ None
    → Reached default_config s xs other b zs → next_record default_config b [] [] zs ≡ None → rows ≡ other
unfolding Reached
same_reached s a b xs ys zs [] [] p end q end' = refl
same_reached s a b xs ys zs (r ∷ rows) (r' ∷ other) (read, is, row, p) end (read', is', row', q) end' =
    grind (arith, same_reached read.1 a b read.2 ys zs rows other p end)
same_reached s a b xs ys zs _ _ p end q end' = grind arith

same_records : (script : List ℕ) (records other : List Record)
    → AreRecords default_config StartRecord (strip_bom script) (reverse records)
    → AreRecords default_config StartRecord (strip_bom script) (reverse other) → records ≡ other
same_records script records other (a, ys, p, end) (b, zs, q, end') =
    let turned = same_reached StartRecord a b (strip_bom script) ys zs (reverse records) (reverse other) p end q end' in
    cc (reverse-reverse records, reverse-reverse other)

-- the bytes of a script write one output
pub same_script : TextIsReadOneWay → OneGroup → (how : Playing) (script written other : List ℕ)
    → ScriptWrites how script written → ScriptWrites how script other → written ≡ other
same_script text one how script written other p q =
    let records = same_records script p.records q.records p.are q.are in
    same_written text one how q.records written other (rw records at p.write) q.write

-- a script that was played to its end: the output of its bytes was written
pub plays_bytes : (how : Playing) (most : ℕ) (script : List ℕ) (w : Traffic) → PlaysAll how most (Some script) w
    → (written : List ℕ) × ScriptWrites how script written × Appends w.before w.after written
plays_bytes how most script w p =
    let (state, rest, upto, end) = p.all script refl in (
      p.wrote.written,
      record { records = p.records; are = (state, rest, upto.reached, end); write = p.wrote.write },
      p.wrote.wrote,
    )

-- two calls over the same bytes
pub alike : TextIsReadOneWay → OneGroup → (how : Playing) (most others : ℕ) (script : List ℕ) (w v : Traffic)
    → PlaysAll how most (Some script) w → PlaysAll how others (Some script) v
    → WriteAlike w v
alike text one how most others script w v p q =
    let (written, writes, put) = plays_bytes how most script w p in
    let (other, writes', put') = plays_bytes how others script v q in
    let same : written ≡ other = same_script text one how script written other writes writes' in
    record { written = other; one = rw same at put; other = put' }

-- ---- the changes of several receivers, one after the other

-- below the next number, or at it
pub at_last : (i n : ℕ) → i < n + 1 → (i < n) ⊎ (i ≡ n)
at_last i n below = grind arith

-- no receiver has changed yet
pub no_changes : (slot : ℕ) (whys : ℕ → Option Whys) (start : List ℕ) (before now : List ShownView)
    → start ≡ start ++ receiver_changes slot 0 whys before now
unfolding receiver_changes
no_changes slot whys start before now = sym (append-nil start)

-- the changes are those of the views below
pub changes_same : (slot n : ℕ) (whys : ℕ → Option Whys) (before older now other : List ShownView)
    → ((i : ℕ) → i < n → view_at before i ≡ view_at older i) → ((i : ℕ) → i < n → view_at now i ≡ view_at other i)
    → receiver_changes slot n whys before now ≡ receiver_changes slot n whys older other
unfolding receiver_changes
changes_same slot zero whys before older now other p q = refl
changes_same slot (suc i) whys before older now other p q =
    grind (arith, changes_same slot i whys before older now other)

-- the views that are kept, where one is kept anew
pub at_set : (shown : List Shown) (i : ℕ) (new : Shown) → i < length shown
    → view_at (map view_shown (set shown i new)) i ≡ view_shown new
at_set shown i new within = search (map-set, get_or-set_at, length-map)

-- the view of one receiver changes no other one
pub other_set : (shown : List Shown) (i k : ℕ) (new : Shown) → k ≢ i
    → view_at (map view_shown (set shown i new)) k ≡ view_at (map view_shown shown) k
other_set shown i k new other = search (map-set, get_or-set_other)

one_changes : (slot i : ℕ) (whys : ℕ → Option Whys) (before now : List ShownView)
    → receiver_changes slot i whys before now ++ change (receiver_prefix slot i) (whys i) (view_at before i)
    (view_at now i) ≡ receiver_changes slot (i + 1) whys before now
unfolding receiver_changes
one_changes slot i whys before now = sym (ap (λ (n : ℕ). receiver_changes slot n whys before now) (add-one i))

-- one receiver more
pub next_changes : (slot i : ℕ) (whys : ℕ → Option Whys) (said : Option Whys) (initial shown : List Shown)
    (d new : Shown) (start lines after : List ℕ)
    → i < length shown → ((k : ℕ) → i ≤ k → view_at (map view_shown shown) k ≡ view_at (map view_shown initial) k)
    → lines ≡ start ++ receiver_changes slot i whys (map view_shown initial) (map view_shown shown)
    → after ≡ lines ++ change (receiver_prefix slot i) said (view_shown (get_or shown i d)) (view_shown new)
    → said ≡ whys i
    → after ≡ start ++ receiver_changes slot (i + 1) whys (map view_shown initial) (map view_shown (set shown i new))
next_changes slot i whys said initial shown d new start lines after within later had gave is =
    let before = map view_shown initial in
    let now = map view_shown (set shown i new) in
    let first = changes_same slot i whys before before (map view_shown shown) now (λ k l. refl)
    (λ k l. sym (other_set shown i k new (λ e. omega arith))) in
    grind (arith, append_assoc, get_or-map, at_set, one_changes slot i whys before now, later i)

-- a receiver that shows what it showed
pub stay_changes : (slot i : ℕ) (whys : ℕ → Option Whys) (before now : List ShownView) (start lines : List ℕ)
    → view_at now i ≡ view_at before i → lines ≡ start ++ receiver_changes slot i whys before now
    → lines ≡ start ++ receiver_changes slot (i + 1) whys before now
stay_changes slot i whys before now start lines same had =
    grind (arith, append-nil, no_change, one_changes slot i whys before now)

-- no receiver shows anything else
pub none_changes : (slot n : ℕ) (whys : ℕ → Option Whys) (views : List ShownView) (start : List ℕ)
    → start ≡ start ++ receiver_changes slot n whys views views
none_changes slot zero whys views start = no_changes slot whys start views views
none_changes slot (suc n) whys views start = rw add-one at (stay_changes slot n whys views views start start refl
    (none_changes slot n whys views start))

-- ---- the lines that say what the parts of views are, receiver by receiver

-- the lines depend on the parts of these receivers alone
pub airings_alike : (slot n : ℕ) (f g h k : ℕ → Airings) → ((i : ℕ) → i < n → f i ≡ g i) → ((i : ℕ) → i < n → h i ≡ k i)
    → airings_changes slot n f h ≡ airings_changes slot n g k
unfolding airings_changes
airings_alike slot zero f g h k p q = refl
airings_alike slot (suc n) f g h k p q = grind (arith, airings_alike slot n f g h k)

-- before the first receiver there are no lines
pub no_airings : (slot : ℕ) (start : List ℕ) (f g : ℕ → Airings) → start ≡ start ++ airings_changes slot 0 f g
unfolding airings_changes
no_airings slot start f g = sym (append-nil start)

one_airings : (slot n : ℕ) (f h : ℕ → Airings)
    → airings_changes slot n f h ++ airings_change (receiver_prefix slot n) (f n) (h n) ≡ airings_changes slot (n + 1) f
    h
unfolding airings_changes
one_airings slot n f h = sym (ap (λ (m : ℕ). airings_changes slot m f h) (add-one n))

-- the lines of one receiver more
pub next_airings : (slot n : ℕ) (start lines after : List ℕ) (f g h : ℕ → Airings) → ((i : ℕ) → i < n → g i ≡ h i)
    → lines ≡ start ++ airings_changes slot n f g
    → after ≡ lines ++ airings_change (receiver_prefix slot n) (f n) (h n)
    → after ≡ start ++ airings_changes slot (n + 1) f h
next_airings slot n start lines after f g h same had gave =
    let alike = airings_alike slot n f f g h (λ i l. refl) same in
    grind (arith, append_assoc, one_airings)

-- the lines that compare with what is on air, by the views before
pub compared_alike : (config : Config) (slot other n : ℕ) (e : Event) (before : List Event)
    (kept older shown : List ShownView) → slot ≡ other → AreKept kept older
    → compared_lines config slot n e before kept shown ≡ compared_lines config other n e before older shown
compared_alike config slot other n e before kept older shown at same = grind arith

-- what the parts of a view were before, if that is not known, and if the view stays
pub none_before : (config : Config) (events : List Event) (view : ShownView) → WereBefore config events view None
none_before config events view = cc

-- what a receiver shows still is what it was before
pub still_before : (config : Config) (n i : ℕ) (events : List Event) (shown : List ShownView) (kept : List Airings)
    → ShowsStill config i events → WereKept config n events kept shown → i < n
    → WereBefore config events (view_at shown i) (Some (airings_at kept i))
still_before config n i events shown kept still were within = grind (arith, same_view_of_input)
