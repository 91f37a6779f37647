-- What a script has on air by its rows is what the plan of its moves has on air. Lists have the newest first.
use Rattle.std.proofs.Common.{◌≡◌, ◌<◌, ◌≤◌, ◌+◌, ◌-◌, ◌*◌, ◌&&◌, ◌∷◌, [], ◌∙◌, ℕ, Bool, true, false, List, Option}
use Rattle.std.proofs.Common.{None, Some, ap, arith, codes, length, refl, inl, inr, subst, sym, nat_le}
use Rattle.std.proofs.lemmas.Bool.Decides.{nat_tests}
use Rattle.std.specs.Prelude.{if◌then◌else◌, option_map, is_ok}
use Rattle.std.specs.Option.{option_map_or}
use Rattle.rds_charset.specs.ReadAs.{IsReadAs}
use Rattle.rds_encoder.specs.Entries.{Entry, Move, Begin, Set, End, Tick, name_moves, restart_before, slot_of}
use Rattle.rds_encoder.specs.Entries.{text_moves}
use Rattle.rds_encoder.specs.Plan.{Broadcast, Covers, HasNumber, plan_of, OnAir, on_air}
use Rattle.rds_encoder.specs.Reply.{last_accepted, reply_in, reply_to}
use Rattle.rds_script.specs.Rows.{AreRows, SaysCommand, AreNumbers, numbers_of_pair}
use Rattle.rds_world.specs.Event.{Event}
use Rattle.rds_world.specs.Slots.{commanded, entries}
use Rattle.rds_world.specs.declared.event.Command.{Command}
use Rattle.rds_world.specs.declared.event.Command.TheVariants.{Quiet, Restart, SetText, SetName, SetTags}
use Rattle.rds_world.specs.declared.world.Config.{Config}
use Rattle.rds_wire.specs.Headline.{Air, Row, after_row, air, argument_of, filled, has_word, may_set, EndsIn}
use Rattle.rds_wire.specs.Received.{first_entries}
use Rattle.rds_wire.proofs.Receiving.{first_all, first_more}
use Rattle.std.proofs.lemmas.Option.{same_Some}
use Rattle.rds_charset.proofs.Symbols.{IsReadAs-same}
use Rattle.rds_encoder.specs.Tags.{pair_on_air, tags_reply}
use Rattle.rds_fields.specs.Tag.{PairFields, TagFields, ends_in}
use Rattle.rds_safety.specs.Late.{HasEntry}

-- ---- what a row does to a service, texts or names

pub data Act : Type 0 where
  Begins : (free : Bool) → Act
  Keeps : (free : Bool) → Act
  Gives : (free : Bool) → (bytes : List ℕ) → Act

-- the moves of a service with these acts
abbrev pub moves_of : List Act → List Move
moves_of [] = []
moves_of (Begins free ∷ before) = End free ∷ Begin ∷ moves_of before
moves_of (Keeps free ∷ before) = End free ∷ moves_of before
moves_of (Gives free x ∷ before) = End free ∷ Set x ∷ moves_of before

-- the argument of the row gives these bytes
pub record Sets (word : List ℕ) (row : Row) (x : List ℕ) : Type 0 where
  pub given : List ℕ
  pub read : IsReadAs (argument_of row) given
  pub is : x ≡ filled word given

-- the row does this to the service of the word
abbrev pub Does : List ℕ → Row → Act → Type 0
Does word row (Begins free) = has_word (codes "restart") row ≡ true
Does word row (Keeps free) = (has_word (codes "restart") row ≡ false) × (has_word word row ≡ false)
Does word row (Gives free x) =
    (has_word (codes "restart") row ≡ false) × (has_word word row ≡ true) × Sets word row x

abbrev pub Do : List ℕ → List Row → List Act → Type 0
Do word [] [] = Unit {0}
Do word [] (act ∷ older) = ⊥
Do word (row ∷ before) [] = ⊥
Do word (row ∷ before) (act ∷ older) = Does word row act × Do word before older

-- the word of a service, the moves of its entries, and what a command does to it: of texts, or of names
abbrev pub word_of : Bool → List ℕ
word_of names = if names then codes "name" else codes "text"

abbrev pub its_moves : Bool → List Entry → List Move
its_moves false before = text_moves before
its_moves true before = name_moves before

abbrev act_of : Bool → Bool → Command → Act
act_of names free Quiet = Keeps free
act_of names free Restart = Begins free
act_of names free (SetText x) = if names then Keeps free else Gives free x
act_of names free (SetName x) = if names then Gives free x else Keeps free
act_of names free (SetTags pair) = Keeps free

abbrev pub acts : Bool → List Event → List Act
acts names [] = []
acts names (e ∷ before) = act_of names e.free e.command ∷ acts names before

moves_after : (names free : Bool) (c : Command) (before : List Entry) (older : List Act)
    → its_moves names before ≡ moves_of older
    → its_moves names (Tick free ∷ commanded c before) ≡ moves_of (act_of names free c ∷ older)
moves_after names free c before older same = grind arith

-- the moves of the events are those of their acts
pub same_moves : (names : Bool) (events : List Event) → its_moves names (entries events) ≡ moves_of (acts names events)
same_moves false [] = refl
same_moves true [] = refl
same_moves names (e ∷ before) =
    moves_after names e.free e.command (entries before) (acts names before) (same_moves names before)

pub does : (names : Bool) (word argument : List ℕ) (rest : Row) (free : Bool) (c : Command) → SaysCommand word argument c
    → Does (word_of names) (word ∷ argument ∷ rest) (act_of names free c)
does names word argument rest free c says = grind arith

-- the rows do the acts of their events
pub rows_do : (names : Bool) (config : Config) (n : ℕ) (rows : List Row) (events : List Event)
    → AreRows config n rows events → Do (word_of names) rows (acts names events)
rows_do names config n [] [] are = tt
rows_do names config n (row ∷ before) (e ∷ older) are = (
  subst (λ r. Does (word_of names) r (act_of names e.free e.command)) (sym are.0.fields)
      (does names are.0.word are.0.argument _ e.free e.command are.0.command),
  rows_do names config n before older are.2,
)
rows_do names config n _ _ are = absurd are

-- ---- after one row

restarted : (word : List ℕ) (d slot : ℕ) (row : Row) (a : Air) → has_word (codes "restart") row ≡ true
    → after_row word d slot row a ≡ record { number = a.number; started = slot; set = None }
restarted word d slot row a restarts = rw restarts refl

pub kept : (word : List ℕ) (d slot : ℕ) (row : Row) (a : Air) → has_word (codes "restart") row ≡ false
    → has_word word row ≡ false → after_row word d slot row a ≡ a
kept word d slot row a goes other = rw (goes, other) refl

pub refused : (word : List ℕ) (d slot : ℕ) (row : Row) (a : Air) → has_word (codes "restart") row ≡ false
    → may_set d slot a ≡ false → after_row word d slot row a ≡ a
refused word d slot row a goes held = grind (arith, nat_tests)

pub accepted : (word : List ℕ) (d slot : ℕ) (row : Row) (a : Air) → has_word (codes "restart") row ≡ false
    → has_word word row ≡ true → may_set d slot a ≡ true → after_row word d slot row a
    ≡ record { number = a.number + 1; started = a.started; set = Some (slot, argument_of row) }
accepted word d slot row a goes is may = rw (goes, is, may) refl

-- the rule of the station is the reply of the encoder
same_rule : (d slot start : ℕ) (set : Option (ℕ × List ℕ))
    → (nat_le (start + d) slot && option_map_or (λ (s : ℕ × List ℕ). nat_le (s.0 + 2 * d) slot) set true)
    ≡ is_ok (reply_in d slot start (option_map (λ (s : ℕ × List ℕ). s.0) set))
same_rule d slot start None = grind (arith, nat_tests)
same_rule d slot start (Some s) = grind (arith, nat_tests)

-- what is on air after the rows is what their moves leave
pub record Tracks (d slot : ℕ) (a : Air) (moves : List Move) : Type 0 where
  pub slot_is : slot_of moves ≡ slot
  pub started : a.started ≡ restart_before moves
  pub last : option_map (λ (s : ℕ × List ℕ). s.0) a.set ≡ last_accepted d moves
  pub number : (end : ℕ) → length (plan_of d end moves) ≡ a.number

-- so the next text or name is accepted by the rule exactly if it is by the encoder
pub replies : (d slot : ℕ) (a : Air) (moves : List Move) → Tracks d slot a moves
    → may_set d slot a ≡ is_ok (reply_to d moves)
replies d slot a moves t = grind (arith, nat_tests, same_rule)

begun : (word : List ℕ) (d slot : ℕ) (row : Row) (free : Bool) (a : Air) (moves : List Move) → Tracks d slot a moves
    → has_word (codes "restart") row ≡ true
    → Tracks d (slot + 1) (after_row word d slot row a) (End free ∷ Begin ∷ moves)
begun word d slot row free a moves t restarts = grind (arith, nat_tests, restarted)

stayed : (word : List ℕ) (d slot : ℕ) (row : Row) (free : Bool) (a : Air) (moves : List Move) → Tracks d slot a moves
    → after_row word d slot row a ≡ a → Tracks d (slot + 1) (after_row word d slot row a) (End free ∷ moves)
stayed word d slot row free a moves t same = grind (arith, nat_tests)

-- a text or a name, and whether it is accepted
given : (word : List ℕ) (d slot : ℕ) (row : Row) (free : Bool) (x : List ℕ) (a : Air) (moves : List Move)
    → Tracks d slot a moves → has_word (codes "restart") row ≡ false → has_word word row ≡ true
    → Tracks d (slot + 1) (after_row word d slot row a) (End free ∷ Set x ∷ moves)
given word d slot row free x a moves t goes is = grind (arith, nat_tests, accepted, replies, refused)

pub tracks : (word : List ℕ) (d : ℕ) (rows : List Row) (acts : List Act) → Do word rows acts
    → Tracks d (length rows) (air word d rows) (moves_of acts)
tracks word d [] [] do_so = record { slot_is = refl; started = refl; last = refl; number = λ end. refl }
tracks word d (row ∷ before) (Begins free ∷ older) do_so =
    grind (arith, nat_tests, tracks word d before older do_so.1, begun)
tracks word d (row ∷ before) (Keeps free ∷ older) do_so =
    grind (arith, nat_tests, tracks word d before older do_so.1, stayed, kept)
tracks word d (row ∷ before) (Gives free x ∷ older) do_so =
    grind (arith, nat_tests, tracks word d before older do_so.1, given)
tracks word d [] (act ∷ older) do_so = absurd do_so
tracks word d (row ∷ before) [] do_so = absurd do_so

-- ---- the slots of a broadcast

-- up to a slot that the broadcast covers, the rows have it on air
pub record OnAirIn (word : List ℕ) (d : ℕ) (rows : List Row) (end slot : ℕ) (b : Broadcast) (k : ℕ) : Type 0 where
  pub start : ℕ
  pub begins : start ≡ b.start
  pub argument : List ℕ
  pub set : (air word d (first_entries (slot + 1) rows)).set ≡ Some (start, argument)
  pub number : (air word d (first_entries (slot + 1) rows)).number ≡ k + 1
  pub given : List ℕ
  pub read : IsReadAs argument given
  pub is : b.bytes ≡ filled word given
  pub upto : slot ≤ end
  pub some : 0 < length rows

same_air : (word : List ℕ) (d : ℕ) (rows others : List Row) (end other slot : ℕ) (b : Broadcast) (k : ℕ)
    → air word d (first_entries (slot + 1) rows) ≡ air word d (first_entries (slot + 1) others) → slot ≤ other
    → 0 < length others → OnAirIn word d rows end slot b k → OnAirIn word d others other slot b k
same_air word d rows others end other slot b k same below some o = grind (arith, nat_tests, given)

-- a row after the broadcast
after : (word : List ℕ) (d : ℕ) (row : Row) (before : List Row) (end slot : ℕ) (b : Broadcast) (k : ℕ)
    → length (row ∷ before) ≤ end + 1 → OnAirIn word d before (length before - 1) slot b k
    → OnAirIn word d (row ∷ before) end slot b k
after word d row before end slot b k few o = grind (arith, nat_tests, same_air, first_more)

-- a row that changes nothing
during : (word : List ℕ) (d : ℕ) (row : Row) (before : List Row) (end slot : ℕ) (b : Broadcast) (k : ℕ)
    → after_row word d (length before) row (air word d before) ≡ air word d before
    → OnAirIn word d before end slot b k → OnAirIn word d (row ∷ before) end slot b k
during word d row before end slot b k same o = grind (arith, nat_tests, same_air, first_all, first_more)

-- a row of a text or a name, accepted or refused
at_set : (word : List ℕ) (d : ℕ) (row : Row) (before : List Row) (free : Bool) (x : List ℕ) (older : List Act)
    → Does word row (Gives free x) → Tracks d (length before) (air word d before) (moves_of older)
    → (end k slot : ℕ) (b : Broadcast) → length (row ∷ before) ≤ end + 1
    → ((other : ℕ) → length before ≤ other + 1 → HasNumber (plan_of d other (moves_of older)) k b
    → OnAirIn word d before other slot b k) → HasNumber (plan_of d end (moves_of (Gives free x ∷ older))) k b
    → Covers b slot → (ok : Bool) → is_ok (reply_to d (moves_of older)) ≡ ok
    → OnAirIn word d (row ∷ before) end slot b k
at_set word d row before free x older does t end k slot b few earlier has covers true ok = elim (rw ok at has) [
  | inr there ↦
      after word d row before end slot b k few
      (earlier (length before - 1) (omega arith)
      (subst (λ n. HasNumber (plan_of d (n - 1) (moves_of older)) k b) t.slot_is there))
  | inl here ↦
      let from : length before ≤ slot =
      omega (arith, t.slot_is, ap (λ (c : Broadcast). c.start) here.1, covers.from) in
      let upto : b.end ≡ end = ap (λ (c : Broadcast). c.end) here.1 in
      let now = ap (air word d) (first_all (slot + 1) (row ∷ before) (omega (arith, from)))
      ∙ accepted word d (length before) row (air word d before) does.0 does.1
      (replies d (length before) (air word d before) (moves_of older) t ∙ ok) in
      record {
        start = length before;
        begins = omega (arith, t.slot_is, ap (λ (c : Broadcast). c.start) here.1);
        argument = argument_of row;
        set = ap (λ (a : Air). a.set) now;
        number = ap (λ (a : Air). a.number) now
            ∙ omega (arith, here.0, t.number (slot_of (moves_of older) - 1));
        given = does.2.given;
        read = does.2.read;
        is = ap (λ (c : Broadcast). c.bytes) here.1 ∙ does.2.is;
        upto = omega (arith, covers.to, upto);
        some = omega arith;
      }
]
at_set word d row before free x older does t end k slot b few earlier has covers false held =
    grind (arith, nat_tests, during, refused, replies)

-- a broadcast of the plan is on air by the rows in each slot that it covers
pub on_air_by_rows : (word : List ℕ) (d : ℕ) (rows : List Row) (acts : List Act) → Do word rows acts
    → (end k slot : ℕ) (b : Broadcast) → length rows ≤ end + 1 → HasNumber (plan_of d end (moves_of acts)) k b
    → Covers b slot → OnAirIn word d rows end slot b k
on_air_by_rows word d [] [] do_so end k slot b few has covers = absurd has
on_air_by_rows word d (row ∷ before) (Begins free ∷ older) do_so end k slot b few has covers =
    let t = tracks word d before older do_so.1 in
    after word d row before end slot b k few
    (on_air_by_rows word d before older do_so.1 (length before - 1) k slot b (omega arith)
    (subst (λ n. HasNumber (plan_of d (n - 1) (moves_of older)) k b) t.slot_is has) covers)
on_air_by_rows word d (row ∷ before) (Keeps free ∷ older) do_so end k slot b few has covers =
    grind (arith, nat_tests, on_air_by_rows word d before older do_so.1 end k slot b (omega (arith, few)) has covers, during, kept)
on_air_by_rows word d (row ∷ before) (Gives free x ∷ older) do_so end k slot b few has covers =
    at_set word d row before free x older do_so.0 (tracks word d before older do_so.1) end k slot b few
    (λ other short it. on_air_by_rows word d before older do_so.1 other k slot b short it covers) has covers
    (is_ok (reply_to d (moves_of older))) refl
on_air_by_rows word d [] (act ∷ older) do_so end k slot b few has covers = absurd do_so
on_air_by_rows word d (row ∷ before) [] do_so end k slot b few has covers = absurd do_so

-- ---- the pair of tags on air is that of a row, which was accepted for the text on air. Lists have the newest first

-- the text on air is what its row gives
record Reads (d : ℕ) (rows : List Row) (o : OnAir) : Type 0 where
  start : ℕ
  argument : List ℕ
  set : (air (codes "text") d rows).set ≡ Some (start, argument)
  read : IsReadAs argument o.bytes

still : (d : ℕ) (row : Row) (before : List Row) (o : OnAir)
    → after_row (codes "text") d (length before) row (air (codes "text") d before) ≡ air (codes "text") d before
    → Reads d before o → Reads d (row ∷ before) o
still d row before o same r = grind (arith, nat_tests)

on_air_reads : (d : ℕ) (rows : List Row) (acts : List Act) → Do (codes "text") rows acts → (o : OnAir)
    → on_air d (moves_of acts) ≡ Some o → Reads d rows o
on_air_reads d [] [] do_so o is = absurd (cc)
on_air_reads d (row ∷ before) (Begins free ∷ older) do_so o is = absurd (cc)
on_air_reads d (row ∷ before) (Keeps free ∷ older) do_so o is =
    grind (arith, nat_tests, on_air_reads d before older do_so.1 o is, kept, still)
on_air_reads d (row ∷ before) (Gives free x ∷ older) do_so o is =
    grind (arith, nat_tests, on_air_reads d before older do_so.1 o, moves_of, replies, tracks, accepted, same_Some, still, refused)
on_air_reads d [] (act ∷ older) do_so o is = absurd do_so
on_air_reads d (row ∷ before) [] do_so o is = absurd do_so

-- a row of these tags stands in a slot up to the end of the rows, and was accepted for the text that is still on air
pub record HasPair (d : ℕ) (rows : List Row) (pair : PairFields) : Type 0 where
  pub slot : ℕ
  pub past : slot < length rows
  pub row : Row
  pub is_row : HasEntry 0 rows slot row
  pub is_tags : has_word (codes "tags") row ≡ true
  pub numbers : AreNumbers (argument_of row) (numbers_of_pair pair)
  pub same : air (codes "text") d (first_entries (slot + 1) rows) ≡ air (codes "text") d rows
  pub fits : (start : ℕ) (argument given : List ℕ) → (air (codes "text") d rows).set ≡ Some (start, argument)
      → IsReadAs argument given → EndsIn given pair.one × EndsIn given pair.two

-- a row that leaves the text on air
later : (d : ℕ) (row : Row) (before : List Row) (pair : PairFields)
    → after_row (codes "text") d (length before) row (air (codes "text") d before) ≡ air (codes "text") d before
    → HasPair d before pair → HasPair d (row ∷ before) pair
later d row before pair same h = grind (arith, nat_tests, first_more)

ends : (given : List ℕ) (tag : TagFields) → ends_in (length given) tag ≡ true → EndsIn given tag
ends given tag is = grind (arith, nat_tests)

-- a pair is accepted for a text on air in which both tags end
fitting : (d : ℕ) (older : List Event) (pair : PairFields) → is_ok (tags_reply d pair (entries older)) ≡ true
    → (o : OnAir) × (on_air d (text_moves (entries older)) ≡ Some o) × (ends_in (length o.bytes) pair.one ≡ true)
    × (ends_in (length o.bytes) pair.two ≡ true)
fitting d older pair ok = grind (arith, nat_tests)

-- a row of tags
here : (d : ℕ) (row : Row) (before : List Row) (older : List Event) (pair : PairFields)
    → Do (codes "text") before (acts false older) → has_word (codes "restart") row ≡ false
    → has_word (codes "text") row ≡ false → has_word (codes "tags") row ≡ true
    → AreNumbers (argument_of row) (numbers_of_pair pair) → is_ok (tags_reply d pair (entries older)) ≡ true
    → HasPair d (row ∷ before) pair
here d row before older pair do_so goes other tags numbers ok =
    let o = fitting d older pair ok in
    let r = on_air_reads d before (acts false older) do_so o.0 (ap (on_air d) (sym (same_moves false older)) ∙ o.1) in
    let same = kept (codes "text") d (length before) row (air (codes "text") d before) goes other in
    record {
      slot = length before;
      past = omega arith;
      row = row;
      is_row = inl (omega arith, refl);
      is_tags = tags;
      numbers = numbers;
      same = ap (air (codes "text") d) (first_all (length before + 1) (row ∷ before) (omega arith));
      fits = λ start argument given set read.
          let its : argument ≡ r.argument = (let was = r.set in let now = ap (λ a. a.set) (sym same) ∙ set in grind arith) in
          let bytes : given ≡ o.0.bytes = IsReadAs-same argument given o.0.bytes read (rw its r.read) in
          (ends given pair.one (rw bytes o.2), ends given pair.two (rw bytes o.3));
    }

same_pair : (one other : PairFields) → Some one ≡ Some other → one ≡ other
same_pair one other e = grind arith

-- after one more row, of this command
module _ (d : ℕ) (before : List Row) (older : List Event) (free : Bool) (do_so : Do (codes "text") before (acts false older))
    (earlier : (pair : PairFields) → pair_on_air d (entries older) ≡ Some pair → HasPair d before pair)
    (word argument : List ℕ) (rest : Row) (pair : PairFields) where
  abbrev its_row : Row
  its_row = word ∷ argument ∷ rest

  stays : (c : Command) → Does (codes "text") its_row (Keeps free) → pair_on_air d (entries older) ≡ Some pair
      → HasPair d (its_row ∷ before) pair
  stays c keeps is =
      later d its_row before pair
      (kept (codes "text") d (length before) its_row (air (codes "text") d before) keeps.0 keeps.1) (earlier pair is)

  refuses : (x : List ℕ) → Does (codes "text") its_row (Gives free x)
      → is_ok (reply_to d (text_moves (entries older))) ≡ false → pair_on_air d (entries older) ≡ Some pair
      → HasPair d (its_row ∷ before) pair
  refuses x gives held is =
      let t = tracks (codes "text") d before (acts false older) do_so in
      let may = replies d (length before) (air (codes "text") d before) (moves_of (acts false older)) t
      ∙ ap (λ m. is_ok (reply_to d m)) (sym (same_moves false older)) ∙ held in
      later d its_row before pair
      (refused (codes "text") d (length before) its_row (air (codes "text") d before) gives.0 may) (earlier pair is)

  step : (c : Command) → SaysCommand word argument c → pair_on_air d (Tick free ∷ commanded c (entries older)) ≡ Some pair
      → HasPair d (its_row ∷ before) pair
  step Quiet says is = stays Quiet (does false word argument rest free Quiet says) is
  step Restart says is = absurd (cc)
  step (SetName x) says is = stays (SetName x) (does false word argument rest free (SetName x) says) is
  step (SetText x) says is = by (is_ok (reply_to d (text_moves (entries older)))) refl
    where
      by : (ok : Bool) → is_ok (reply_to d (text_moves (entries older))) ≡ ok → HasPair d (its_row ∷ before) pair
      by true ok = absurd (let none = rw ok at is in cc)
      by false held = refuses x (does false word argument rest free (SetText x) says) held (rw held at is)
  step (SetTags tags) says is = by (is_ok (tags_reply d tags (entries older))) refl
    where
      by : (ok : Bool) → is_ok (tags_reply d tags (entries older)) ≡ ok → HasPair d (its_row ∷ before) pair
      by true ok =
          let same = same_pair tags pair (rw ok at is) in
          let keeps = does false word argument rest free (SetTags tags) says in
          rw (← same) (here d its_row before older tags do_so keeps.0 keeps.1 (rw says.0 refl) says.1 ok)
      by false held = stays (SetTags tags) (does false word argument rest free (SetTags tags) says) (rw held at is)

-- the pair on air is that of a row
pub pair_row : (d : ℕ) (config : Config) (n : ℕ) (rows : List Row) (events : List Event) → AreRows config n rows events
    → (pair : PairFields) → pair_on_air d (entries events) ≡ Some pair → HasPair d rows pair
pair_row d config n [] [] are pair is = absurd (cc)
pair_row d config n (row ∷ before) (e ∷ older) are pair is =
    subst (λ r. HasPair d (r ∷ before) pair) (sym are.0.fields)
    (step d before older e.free (rows_do false config n before older are.2)
    (λ p on. pair_row d config n before older are.2 p on) are.0.word are.0.argument _ pair e.command are.0.command is)
pair_row d config n _ _ are pair is = absurd are
