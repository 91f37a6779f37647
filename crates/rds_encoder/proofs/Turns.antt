-- Lemmas about one more slot that ended: the state of the encoder follows from the longer list.
use Rattle.std.proofs.Common.{◌≡◌, ◌≢◌, ℕ, ◌+◌, ◌-◌, ◌%◌, ◌<◌, ◌≤◌, List, [], ◌∷◌, Bool, true, false, nat_le, Option}
use Rattle.std.proofs.Common.{Some, refl, arith, option_map, ◌⊎◌, None, Ok, Err, sym, ◌&&◌, ◌↔◌, IfSome, IsNone}
use Rattle.std.proofs.Common.{IsErrAnd}
use Rattle.std.proofs.Math.Nat.{suc-mod, zero-mod}
use Rattle.rds_encoder.proofs.OnAir.{air_since, not_held_in_silence}
use Rattle.rds_fields.specs.declared.head.Head.{Head}
use Rattle.rds_fields.specs.Stored.{pair_stored, IsStoredPair, is_set}
use Rattle.rds_assembly.specs.Body.{segment_count, text_body}
use Rattle.rds_encoder.specs.declared.round.Turn.TheVariants.{Text}
use Rattle.rds_encoder.specs.Entries.{Entry, Tick, Move, End, name_moves, slot_of, text_moves, SetText, SetName, Set}
use Rattle.rds_encoder.specs.Entries.{restart_before}
use Rattle.rds_encoder.specs.Plan.{OnAir, bytes_of, on_air}
use Rattle.rds_encoder.specs.Round.{turn_in}
use Rattle.rds_encoder.specs.Sent.{count_from, is_text_turn, is_turn, next_address, turn_of, tags_due, IsSent}
use Rattle.rds_encoder.specs.declared.encoder.Encoder.{Encoder}
use Rattle.rds_encoder.specs.declared.hold.Hold.{Hold}
use Rattle.rds_encoder.specs.declared.on_air.TextOnAir.{TextOnAir}
use Rattle.rds_encoder.specs.EncoderAt.{HoldsBack, EncoderAt, silence_left, with_next, hold_left}
use Rattle.rds_encoder.specs.Numbers.{IsValidEncoder, IsValidText, head_in, name_in, text_in, IsValidName}
use Rattle.rds_encoder.specs.State.{TextState, advanced}
use Rattle.rds_encoder.specs.Tags.{pair_on_air}
use Rattle.rds_fields.specs.declared.stored.StoredPair.{StoredPair}
use Rattle.rds_encoder.specs.Reply.{reply_to, Reply, held_for, held_reply, last_accepted, unless_silent}
use Rattle.rds_encoder.specs.declared.on_air.NameOnAir.{NameOnAir}
use Rattle.rds_encoder.specs.declared.reply.Refusal.{Refusal}
use Rattle.rds_fields.specs.declared.message.Message.TheVariants.{Tags, Other}
use Rattle.rds_fields.specs.Tag.{PairFields}
use Rattle.std.specs.Int.{from_bool}
use Rattle.rds_block.specs.declared.group.Group.{Group}
use Rattle.rds_fields.specs.Canonical.{IsWritten}
use Rattle.rds_fields.specs.declared.message.Message.{Message}

-- no slot so far is as late as slot a
pub none_yet : (test : Bool → List Move → Bool) (a : ℕ) (moves : List Move) → slot_of moves ≤ a
    → count_from test a moves ≡ 0
none_yet test a [] h = refl
none_yet test a (End free ∷ before) h = grind (arith, none_yet test a before (omega arith))
none_yet test a (x ∷ before) h = none_yet test a before h

-- whether the current slot has a turn of the text that began in slot a
abbrev is_of_text : ℕ → Bool → List Move → ℕ → Bool
is_of_text m free moves a = is_text_turn m free moves && nat_le a (slot_of moves)

address_next : (m : ℕ) (free : Bool) (moves : List Move) (air : OnAir) → is_of_text m free moves air.start ≡ true
    → next_address m (End free ∷ moves) air ≡ (next_address m moves air + 1) % segment_count (text_body air.bytes)
address_next m free moves air taken =
    let j = count_from (is_text_turn m) air.start moves in
    grind (arith, suc-mod j (segment_count (text_body air.bytes)))

-- the text keeps its next segment, or moves to the one after it
text_kept : (m : ℕ) (free : Bool) (moves : List Move) (o : Option OnAir)
    → ((air : OnAir) → o ≡ Some air → is_of_text m free moves air.start ≡ false)
    → option_map (with_next m moves) o ≡ option_map (with_next m (End free ∷ moves)) o
text_kept m free moves o absent = grind (arith)

text_next : (m : ℕ) (free : Bool) (moves : List Move) (o : Option OnAir)
    → ((air : OnAir) → o ≡ Some air → is_of_text m free moves air.start ≡ true)
    → option_map advanced (option_map (with_next m moves) o) ≡ option_map (with_next m (End free ∷ moves)) o
text_next m free moves o taken = grind (arith, address_next)

-- in a slot without a turn, free or not, the text keeps its next segment
pub text_waits : (m : ℕ) (free : Bool) (moves : List Move) (text : Option TextState)
    → text ≡ option_map (with_next m moves) (on_air m moves) → is_turn m free moves ≡ false
    → text ≡ option_map (with_next m (End free ∷ moves)) (on_air m moves)
text_waits m free moves text at absent = grind (arith, text_kept, air_since)

-- in an even turn the text moves to its next segment, in an odd turn it does not
pub text_goes_on : (m : ℕ) (moves : List Move) (text : Option TextState)
    → text ≡ option_map (with_next m moves) (on_air m moves) → turn_of m moves % 2 ≡ 0
    → option_map advanced text ≡ option_map (with_next m (End true ∷ moves)) (on_air m moves)
text_goes_on m moves text at even = search (arith, text_next, air_since)

pub text_stays : (m : ℕ) (moves : List Move) (text : Option TextState)
    → text ≡ option_map (with_next m moves) (on_air m moves) → turn_of m moves % 2 ≡ 1
    → text ≡ option_map (with_next m (End true ∷ moves)) (on_air m moves)
text_stays m moves text at odd = grind (arith)

-- the next turn, after a slot without a turn and after one with a turn
pub round_waits : (m : ℕ) (free : Bool) (moves : List Move) (place : ℕ) → place ≡ turn_of m moves % 8
    → is_turn m free moves ≡ false → place ≡ turn_of m (End free ∷ moves) % 8
round_waits m free moves place at absent = grind (arith)

pub round_goes_on : (m : ℕ) (free : Bool) (moves : List Move) (place : ℕ) → place ≡ turn_of m moves % 8
    → is_turn m free moves ≡ true → (place + 1) % 8 ≡ turn_of m (End free ∷ moves) % 8
round_goes_on m free moves place at taken = rw taken (omega (arith, at))

-- the turns with an even number are the text's
pub text_or_other : (place : ℕ) → place < 8
    → ((place % 2 ≡ 0) × (turn_in place ≡ Text)) ⊎ ((place % 2 ≡ 1) × (turn_in place ≢ Text))
text_or_other place h = grind (arith)

-- each second turn is one of texts
pub even_is_text : (number : ℕ) → (number % 2 ≡ 0) ↔ (turn_in (number % 8) ≡ Text)
even_is_text number = grind (arith)

-- the encoder between the end of the turn and the end of the slot
pub record AfterTurn (station : Head) (m : ℕ) (free : Bool) (entries : List Entry) (e : Encoder) : Type 0 where
  pub good : IsValidEncoder e
  pub head : head_in e ≡ station
  pub distance : e.distance ≡ m
  pub silence : e.silence ≡ silence_left m (text_moves entries)
  pub round : e.round ≡ turn_of m (End free ∷ text_moves entries) % 8
  pub text_hold : HoldsBack m e.text_hold (text_moves entries)
  pub name_hold : HoldsBack m e.name_hold (name_moves entries)
  pub text : text_in e.text ≡ option_map (with_next m (End free ∷ text_moves entries)) (on_air m (text_moves entries))
  pub name : name_in e.name ≡ option_map bytes_of (on_air m (name_moves entries))
  pub pair : pair_stored e.pair ≡ pair_on_air m entries

-- a slot without a turn ends like a slot after its turn, with nothing changed
pub no_turn : (station : Head) (m : ℕ) (e : Encoder) (free : Bool) (entries : List Entry)
    → EncoderAt station m e entries → is_turn m free (text_moves entries) ≡ false → AfterTurn station m free entries e
no_turn station m e free entries st absent = grind (arith, round_waits, text_waits)

-- after a turn the next segment or tags are due
pub turn_over : (station : Head) (m : ℕ) (e : Encoder) (text : TextOnAir) (free : Bool) (entries : List Entry)
    → EncoderAt station m e entries → is_turn m free (text_moves entries) ≡ true
    → (turn_in e.round ≡ Text → text_in text ≡ option_map advanced (text_in e.text))
    → (turn_in e.round ≢ Text → text ≡ e.text) → IsValidText text
    → AfterTurn station m free entries record e { round = (e.round + 1) % 8; text = text }
turn_over station m e text false entries st taken next other good = absurd (cc)
turn_over station m e text true entries st taken next other good =
    grind (arith, text_or_other e.round, round_goes_on, text_goes_on, text_stays)

-- the slot ended
pub slot_over : (station : Head) (m : ℕ) (e : Encoder) (silence : ℕ) (text_hold name_hold : Hold) (free : Bool)
    (entries : List Entry) → AfterTurn station m free entries e → silence ≡ e.silence - 1
    → HoldsBack m text_hold (End free ∷ text_moves entries) → HoldsBack m name_hold (End free ∷ name_moves entries)
    → EncoderAt station m record e { silence = silence; text_hold = text_hold; name_hold = name_hold }
    (Tick free ∷ entries)
slot_over station m e silence text_hold name_hold free entries at less text name = grind (arith)

-- ---- one more set: the numbers of the encoder follow from the longer list

-- a text that is accepted begins with its first segment
pub text_accepted : (station : Head) (m : ℕ) (e : Encoder) (hold : Hold) (text : TextOnAir) (pair : StoredPair)
    (entries : List Entry) (x : List ℕ) → EncoderAt station m e entries → reply_to m (text_moves entries) ≡ Ok tt
    → HoldsBack m hold (Set x ∷ text_moves entries) → text_in text ≡ Some record { bytes = x; next = 0 }
    → IsValidText text → pair_stored pair ≡ None → IsStoredPair pair
    → EncoderAt station m record e { text_hold = hold; text = text; pair = pair } (SetText x ∷ entries)
text_accepted station m e hold text pair entries x st ok back on good none good_pair =
    grind (arith, none_yet, zero-mod)

-- a name that is accepted
pub name_accepted : (station : Head) (m : ℕ) (e : Encoder) (hold : Hold) (name : NameOnAir) (entries : List Entry)
    (x : List ℕ) → EncoderAt station m e entries → reply_to m (name_moves entries) ≡ Ok tt
    → HoldsBack m hold (Set x ∷ name_moves entries) → name_in name ≡ Some x → IsValidName name
    → EncoderAt station m record e { name_hold = hold; name = name } (SetName x ∷ entries)
name_accepted station m e hold name entries x st ok back on good = grind (arith)

-- ---- replies, part by part

-- after the silence, the reply is the rest of it
pub silence_over : (m now start : ℕ) (reply : Reply) → unless_silent m now start (Ok tt) ≡ Ok tt
    → unless_silent m now start reply ≡ reply
silence_over m now start reply e = grind (arith)

-- texts and names have the same slots and restarts
pub same_slot : (entries : List Entry) → slot_of (name_moves entries) ≡ slot_of (text_moves entries)
same_slot [] = refl
same_slot (x ∷ before) = grind (arith, same_slot before)

-- texts and names restart in the same slot
pub same_restart : (entries : List Entry) → restart_before (name_moves entries) ≡ restart_before (text_moves entries)
same_restart [] = refl
same_restart (x ∷ before) = grind (arith, same_restart before, same_slot)

-- the slots left of a hold are those of the reply
pub left_of_hold : (m : ℕ) (moves : List Move)
    → held_for (reply_to m moves) ≡ hold_left m (slot_of moves) (last_accepted m moves)
left_of_hold m moves = grind (arith, not_held_in_silence)

-- the reply to a name in the silence, and after it
pub names_in_silence : (m : ℕ) (entries : List Entry) (r : Refusal)
    → Err r ≡ unless_silent m (slot_of (text_moves entries)) (restart_before (text_moves entries)) (Ok tt)
    → reply_to m (name_moves entries) ≡ Err r
names_in_silence m entries r e = grind (arith, same_slot, same_restart)

-- after the silence the reply to a name depends on the one before alone
pub names_after_silence : (m : ℕ) (entries : List Entry)
    → Ok tt ≡ unless_silent m (slot_of (text_moves entries)) (restart_before (text_moves entries)) (Ok tt)
    → reply_to m (name_moves entries) ≡ held_reply m (slot_of (name_moves entries))
    (last_accepted m (name_moves entries))
names_after_silence m entries e = grind (arith, same_slot, same_restart)

-- an error that is passed on is that error
pub passed_on : (reply : Reply) (r : Refusal) → IsErrAnd reply (λ e. e ≡ r) → reply ≡ Err r
passed_on reply r h = grind (arith)

-- ---- a pair is on air only with a text

-- without a text on air there is no pair
pub no_pair : (m : ℕ) (entries : List Entry) → on_air m (text_moves entries) ≡ None → pair_on_air m entries ≡ None
no_pair m [] h = refl
no_pair m (x ∷ before) h = grind (arith, no_pair m before)

-- a pair that is due
pub with_pair : (m : ℕ) (entries : List Entry) (pair : PairFields) → pair_on_air m entries ≡ Some pair
    → (air : OnAir) × (on_air m (text_moves entries) ≡ Some air)
with_pair m entries pair h = grind (arith, no_pair)

-- tags are due if the text has been on air for m slots
pub due : (m now : ℕ) (on_air : Option OnAir) (told : Option PairFields) (air : OnAir) (pair : PairFields)
    (lasted : Bool) → on_air ≡ Some air → told ≡ Some pair
    → lasted ≡ nat_le (air.start + m) now → lasted ≡ true → Some (Tags pair) ≡ tags_due m now on_air told
due m now on_air told air pair lasted on has test done = rw (on, has, sym test, done) refl

-- ---- the message that is due, and its group

-- the group of a message is sent
pub group_sent : (station head : Head) (message : Message) (group : Option Group) → head ≡ station
    → IfSome group (IsWritten message head)
    → (IsNone group ↔ (message ≡ Other)) → message ≢ Other → IsSent station (Some message) group
group_sent station head message group same written none said = grind (arith)

-- a head by its numbers
bit_back : (b : Bool) (n : ℕ) → n ≡ from_bool b → is_set n ≡ b
bit_back b n e = grind (arith)

-- the head of a group is read back
pub head_back : (h : Head) (tp pty : ℕ) → tp ≡ from_bool h.tp → pty ≡ h.pty
    → record { pi = h.pi; tp = is_set tp; pty = pty } ≡ h
head_back h tp pty e f = λ i. record { pi = h.pi; tp = bit_back h.tp tp e i; pty = f i }
