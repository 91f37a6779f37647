-- Lemmas: a text on air is sent whole in twice as many free slots as it has segments, and a name in eight.
use Rattle.std.proofs.Common.{◌≡◌, ℕ, ◌+◌, ◌%◌, ◌<◌, ◌≤◌, List, [], ◌∷◌, Bool, true, Option, Some, refl, arith, length}
use Rattle.std.proofs.Common.{length-append, is_ok, ◌*◌, ◌/◌, ◌++◌, ap, ◌∙◌, inl, inr, ◌==◌}
use Rattle.std.proofs.lemmas.List.{length-replicate}
use Rattle.std.proofs.Math.Nat.{mod-lt, add-mod_right}
use Rattle.rds_fields.specs.declared.message.Message.{Message}
use Rattle.rds_fields.specs.declared.message.Message.TheVariants.{Text, Name, Tags}
use Rattle.rds_fields.specs.Tag.{BothEndIn, PairFields}
use Rattle.rds_assembly.specs.Body.{name_body, segment_count, text_body, segment_of}
use Rattle.rds_encoder.specs.Entries.{Entry, SetTags, Move, name_moves, slot_of, text_moves, Tick, restart_before}
use Rattle.rds_encoder.specs.Laws.{IsSegmentOf}
use Rattle.rds_encoder.specs.Plan.{OnAir, on_air}
use Rattle.rds_encoder.specs.Reply.{Reply, unless_silent}
use Rattle.rds_encoder.specs.Round.{IsTurn, turn_in}
use Rattle.rds_encoder.specs.Sent.{name_segment, sent_at_turn, sent_in, text_segment, turn_of, count_from, is_text_turn}
use Rattle.rds_encoder.specs.Sent.{is_turn, one_if}
use Rattle.rds_encoder.specs.Tags.{fitting_reply, pair_on_air}
use Rattle.std.proofs.lemmas.Bool.Decides.{nat_tests}
use Rattle.std.proofs.lemmas.Bool.{cases_lt, le-leb}
use Rattle.std.proofs.lemmas.Nat.{div-add-mod', mod-mul-add}
use Rattle.rds_encoder.specs.declared.round.Turn.{Turn}
use Rattle.rds_encoder.specs.declared.round.Turn.TheVariants as turn
use Rattle.rds_encoder.specs.Delivery.{IsOnThroughout, IsSentAmong, free_in}
use Rattle.rds_encoder.proofs.OnAir.{air_since}
use Rattle.rds_encoder.proofs.Turns.{same_restart, same_slot, even_is_text}

-- ---- all that is sent is of the text or name on air

-- the message of a slot with a turn
at_turn : (m : ℕ) (free : Bool) (before : List Entry) (message : Message) → sent_in m free before ≡ Some message
    → sent_at_turn m (turn_in (turn_of m (text_moves before) % 8)) before ≡ Some message
at_turn m free before message = grind (arith)

-- a text has at least one segment
some_segment : (x : List ℕ) → 0 < segment_count (text_body x)
some_segment x = grind (arith, length-append {A = ℕ}, length-replicate {A = ℕ})

two_segments : (x : List ℕ) → 2 ≤ segment_count (name_body x)
two_segments x = omega (arith, length-append {A = ℕ}, length-replicate {A = ℕ})

-- each turn of the round is valid
is_turn_in : (place : ℕ) → IsTurn (turn_in place)
is_turn_in place = grind (arith)

-- a segment of a text
text_of_air : (m : ℕ) (moves : List Move) (f : Bool) (a : ℕ) (x : List ℕ) (o : Option OnAir) → on_air m moves ≡ o
    → text_segment m moves o ≡ Some (Text f a x)
    → (air : OnAir) × (on_air m moves ≡ Some air) × IsSegmentOf text_body f a x air
text_of_air m moves f a x o on e = grind (arith, mod-lt, some_segment)

-- a segment of a text that is sent is of the text on air
pub text_sent : (m : ℕ) (free : Bool) (before : List Entry) (f : Bool) (a : ℕ) (x : List ℕ)
    → sent_in m free before ≡ Some (Text f a x)
    → (air : OnAir) × (on_air m (text_moves before) ≡ Some air) × IsSegmentOf text_body f a x air
text_sent m free before f a x e = grind (arith, at_turn, text_of_air)

-- a segment of a name
name_of_air : (moves : List Move) (m n : ℕ) (f : Bool) (a : ℕ) (x : List ℕ) (o : Option OnAir) → n < 2
    → on_air m moves ≡ o → name_segment n o ≡ Some (Name f a x)
    → (air : OnAir) × (on_air m moves ≡ Some air) × IsSegmentOf name_body f a x air
name_of_air moves m n f a x o few on e = grind (arith, two_segments)

-- a segment of a name that is sent is of the name on air
pub name_sent : (m : ℕ) (free : Bool) (before : List Entry) (f : Bool) (a : ℕ) (x : List ℕ)
    → sent_in m free before ≡ Some (Name f a x)
    → (air : OnAir) × (on_air m (name_moves before) ≡ Some air) × IsSegmentOf name_body f a x air
name_sent m free before f a x e = search (arith, is_turn_in, at_turn, name_of_air)

-- tags are of the text on air
abbrev AreSentOf : ℕ → List Entry → PairFields → Type 0
AreSentOf m before pair = (air : OnAir) × (on_air m (text_moves before) ≡ Some air) × (pair_on_air m before ≡ Some pair)
    × (air.start + m ≤ slot_of (text_moves before))

-- tags that are sent are those on air
pub tags_sent : (m : ℕ) (free : Bool) (before : List Entry) (pair : PairFields)
    → sent_in m free before ≡ Some (Tags pair) → AreSentOf m before pair
tags_sent m free before pair e = grind (arith)

-- the pair on air ends in the text on air
abbrev EndsInText : ℕ → List Entry → PairFields → Type 0
EndsInText m entries pair = (air : OnAir) × (on_air m (text_moves entries) ≡ Some air) × BothEndIn (length air.bytes)
    pair

fits_reply : (m : ℕ) (entries : List Entry) (pair : PairFields) (o : Option OnAir) → on_air m (text_moves entries) ≡ o
    → is_ok (fitting_reply pair o) ≡ true → EndsInText m entries pair
fits_reply m entries pair o on ok = grind (arith)

loud : (m now start : ℕ) (reply : Reply) → is_ok (unless_silent m now start reply) ≡ true → is_ok reply ≡ true
loud m now start reply = grind (arith)

-- tags on air end in the text on air
pub pair_fits : (m : ℕ) (entries : List Entry) (pair : PairFields) → pair_on_air m entries ≡ Some pair
    → EndsInText m entries pair
pair_fits m [] pair on = absurd (cc)
pair_fits m (SetTags new ∷ before) pair on =
    let rest = pair_fits m before pair in
    let fits = fits_reply m before new (on_air m (text_moves before)) refl in
    grind (arith, loud)
pair_fits m (x ∷ before) pair on = grind (arith, pair_fits m before pair)

-- ---- a text on air is sent whole in twice as many free slots as it has segments, and a name in eight

-- one of n numbers in a row has the remainder a
one_of_rest : (n first a : ℕ) → a < n → (j : ℕ) × (first ≤ j) × (j < first + n) × (j % n ≡ a)
one_of_rest n first a h =
    let whole = div-add-mod' first n in
    let short : first % n < n = mod-lt first (omega arith) in
    elim (cases_lt a (first % n)) [
      | inl less ↦ (
        first / n * n + a + n,
        omega arith,
        omega arith,
        add-mod_right (first / n * n + a) n ∙ mod-mul-add (first / n) n a h,
      )
      | inr more ↦ (first / n * n + a, omega arith, omega arith, mod-mul-add (first / n) n a h)
    ]

-- a value that is on air throughout is on air at the end
is_on : (moves : List Entry → List Move) (m : ℕ) (air : OnAir) (later earlier : List Entry)
    → IsOnThroughout moves m air later earlier → on_air m (moves (later ++ earlier)) ≡ Some air
is_on moves m air [] earlier t = t
is_on moves m air (entry ∷ later) earlier t = t.0

-- the silence is over, so each free slot has a turn
abbrev IsLoud : ℕ → List Entry → Type 0
IsLoud m entries = restart_before (text_moves entries) + m ≤ slot_of (text_moves entries)

text_loud : (m : ℕ) (entries : List Entry) (air : OnAir) → on_air m (text_moves entries) ≡ Some air → IsLoud m entries
text_loud m entries air on = grind (arith, air_since)

name_loud : (m : ℕ) (entries : List Entry) (air : OnAir) → on_air m (name_moves entries) ≡ Some air → IsLoud m entries
name_loud m entries air on = grind (arith, air_since, same_slot, same_restart)

has_turn : (m : ℕ) (entries : List Entry) → IsLoud m entries → is_turn m true (text_moves entries) ≡ true
has_turn m entries loud = le-leb (restart_before (text_moves entries) + m) (slot_of (text_moves entries)) loud

one_turn : (m : ℕ) (entries : List Entry) → IsLoud m entries
    → turn_of m (text_moves (Tick true ∷ entries)) ≡ 1 + turn_of m (text_moves entries)
one_turn m entries loud = ap (λ (b : Bool). one_if b + turn_of m (text_moves entries)) (has_turn m entries loud)

-- the message of a slot with a turn
sends : (m : ℕ) (entries : List Entry) (t : Turn) → IsLoud m entries → turn_in (turn_of m (text_moves entries) % 8) ≡ t
    → sent_in m true entries ≡ sent_at_turn m t entries
sends m entries t loud is = rw (has_turn m entries loud, is) refl

-- the text turns before a turn: half of them, rounded up
halves : (q : ℕ) → (1 + q + 1) / 2 ≡ one_if (q % 2 == 0) + (q + 1) / 2
halves q = grind (arith)

abbrev text_turns : ℕ → OnAir → List Entry → ℕ
text_turns m air entries = count_from (is_text_turn m) air.start (text_moves entries)

one_text_turn : (m : ℕ) (air : OnAir) (entries : List Entry) → air.start ≤ slot_of (text_moves entries)
    → text_turns m air (Tick true ∷ entries) ≡ one_if (turn_of m (text_moves entries) % 2 == 0)
    + text_turns m air entries
one_text_turn m air entries since = grind (arith)

-- turns and text turns count the free slots
record Counts (m : ℕ) (air : OnAir) (later earlier : List Entry) : Type 0 where
  turns : turn_of m (text_moves (later ++ earlier)) ≡ free_in later + turn_of m (text_moves earlier)
  texts : text_turns m air (later ++ earlier) + (turn_of m (text_moves earlier) + 1) / 2 ≡ text_turns m air earlier
      + (turn_of m (text_moves (later ++ earlier)) + 1) / 2

counts : (m : ℕ) (air : OnAir) (later earlier : List Entry) → IsOnThroughout text_moves m air later earlier
    → Counts m air later earlier
counts m air [] earlier t = omega arith
counts m air (x ∷ later) earlier t =
    let rest = counts m air later earlier t.1 in
    grind (arith, is_on, one_turn, text_loud, one_text_turn, air_since, halves)

-- the text turn with this number, from the start of the text on, is one of the later slots
abbrev TextSent : ℕ → OnAir → List Entry → List Entry → ℕ → Type 0
TextSent m air later earlier j =
    IsSentAmong m later earlier (Text air.flag (j % segment_count (text_body air.bytes))
    (segment_of (text_body air.bytes) (j % segment_count (text_body air.bytes))))

text_sent_here : (m : ℕ) (air : OnAir) (entries : List Entry) → on_air m (text_moves entries) ≡ Some air
    → turn_of m (text_moves entries) % 2 ≡ 0
    → sent_in m true entries ≡ text_segment m (text_moves entries) (Some air)
text_sent_here m air entries on even = grind (arith, sends, text_loud, even_is_text)

text_turn_sent : (m : ℕ) (air : OnAir) (j : ℕ) (later earlier : List Entry)
    → IsOnThroughout text_moves m air later earlier → text_turns m air earlier ≤ j
    → j < text_turns m air (later ++ earlier)
    → TextSent m air later earlier j
text_turn_sent m air j [] earlier t from to = absurd (omega arith)
text_turn_sent m air j (x ∷ later) earlier t from to =
    let sent = text_turn_sent m air j later earlier t.1 from in
    grind (arith, nat_tests, is_on, one_text_turn, air_since, text_sent_here)

-- a text on air is sent whole in twice as many free slots as it has segments
pub text_sent_whole : (m : ℕ) (later earlier : List Entry) (air : OnAir) → IsOnThroughout text_moves m air later earlier
    → 2 * segment_count (text_body air.bytes) ≤ free_in later
    → (a : ℕ) → a < segment_count (text_body air.bytes)
    → IsSentAmong m later earlier (Text air.flag a (segment_of (text_body air.bytes) a))
text_sent_whole m later earlier air t long a h =
    let c = counts m air later earlier t in
    let j = one_of_rest (segment_count (text_body air.bytes)) (text_turns m air earlier) a h in
    grind (arith, text_turn_sent m air j.0 later earlier t)

-- names
name_turns : (m : ℕ) (air : OnAir) (later earlier : List Entry) → IsOnThroughout name_moves m air later earlier
    → turn_of m (text_moves (later ++ earlier)) ≡ free_in later + turn_of m (text_moves earlier)
name_turns m air [] earlier t = omega arith
name_turns m air (x ∷ later) earlier t =
    grind (arith, name_turns m air later earlier t.1, one_turn, name_loud, is_on)

name_turn_sent : (m : ℕ) (air : OnAir) (a q : ℕ) (later earlier : List Entry) → turn_in (q % 8) ≡ turn.Name a
    → IsOnThroughout name_moves m air later earlier
    → turn_of m (text_moves earlier) ≤ q → q < turn_of m (text_moves (later ++ earlier))
    → IsSentAmong m later earlier (Name air.flag a (segment_of (name_body air.bytes) a))
name_turn_sent m air a q [] earlier is t from to = absurd (omega (arith, from, to))
name_turn_sent m air a q (x ∷ later) earlier is t from to =
    grind (arith, name_turn_sent m air a q later earlier is t.1 from)

turn_of_half : (a : ℕ) → a < 2 → turn_in (2 * a + 1) ≡ turn.Name a
turn_of_half a h = grind (arith)

-- a name on air is sent whole in eight free slots
pub name_sent_whole : (m : ℕ) (later earlier : List Entry) (air : OnAir) → IsOnThroughout name_moves m air later earlier
    → 8 ≤ free_in later → (a : ℕ) → a < 2
    → IsSentAmong m later earlier (Name air.flag a (segment_of (name_body air.bytes) a))
name_sent_whole m later earlier air t long a h =
    let q = one_of_rest 8 (turn_of m (text_moves earlier)) (2 * a + 1) (omega arith) in
    let turns = name_turns m air later earlier t in
    grind (arith, turn_of_half, name_turn_sent m air a q.0 later earlier)
