-- The output of `encode` is a log, and its slots are the groups that were sent.
use Rattle.std.specs.Char.{encode_utf8}
use Rattle.std.proofs.Common.{◌≡◌, ◌≢◌, ◌<◌, ◌-◌, ◌/◌, ◌%◌, ◌==◌, ◌++◌, ◌∷◌, [], ℕ, zero, suc, decimal, Bool, true}
use Rattle.std.proofs.Common.{false, not, cond, List, None, Some, arith, codes, length, refl, subst, get_or, ◌+◌, ◌∙◌}
use Rattle.std.proofs.Common.{Option, append_assoc, append-nil, ap, inl, inr, sym, slice_index, slice_get}
use Rattle.std.proofs.Common.{All, nat_le}
use Rattle.std.specs.Fmt.{digits, digits_onto, digit_glyph}
use Rattle.std.specs.List.{list_all, AllByRecursion}
use Rattle.std.proofs.lemmas.Bool.Decides.{nat_tests}
use Rattle.std.proofs.lemmas.List.Elements.{All-append, All-cons, All-nil}
use Rattle.std.proofs.lemmas.List.Folds.{list_all_at}
use Rattle.std.proofs.lemmas.Option.{get_or_from_slice_get, slice_get_within}
use Rattle.rds_charset.specs.Printed.{escaped, printed, printed_byte}
use Rattle.rds_charset.specs.Table.{CodeRange, character_at, character_in, character_of, table}
use Rattle.rds_io.specs.Digits.{upper_digit, HasWord, word_digits}
use Rattle.rds_view_lines.specs.Output.{slot_prefix, line_of}
use Rattle.rds_assembly.specs.Whole.{carriage_return}
use Rattle.rds_block.specs.declared.group.Group.{Group}
use Rattle.rds_block.specs.SecondWord.{from_bool-lt}
use Rattle.rds_block.specs.Words.{second_word_of}
use Rattle.rds_fields.specs.declared.head.Head.{Head}
use Rattle.rds_fields.specs.declared.message.Message.{Message}
use Rattle.rds_fields.specs.declared.message.Message.TheVariants.{Text, Name, Announce, Tags, Other}
use Rattle.rds_encoder.specs.Entries.{Entry}
use Rattle.rds_encoder.specs.Sent.{IsSent, sent_in}
use Rattle.rds_encoder.specs.declared.reply.Refusal.{Refusal}
use Rattle.rds_lines.specs.LogSlots.{IsLogOf, AreSlots}
use Rattle.rds_lines.specs.LineSays.{IsLaidOut, IsSkipped, SaysSlot}
use Rattle.rds_lines.specs.OneLog.{says_group}
use Rattle.rds_lines.specs.LogLines.{IsLine, Line, content_length, text_of}
use Rattle.rds_fields.specs.TagGroup.{MayCarryTags, exchanged, exchanged_in}
use Rattle.rds_fields.proofs.Exchange.{exchanged_in_twice}
use Rattle.rds_log.proofs.Filled.{more_text}
use Rattle.rds_receiver.specs.Shown.{ShownView}
use Rattle.rds_receiver.specs.declared.why.Whys.{Whys}
use Rattle.rds_script.specs.Outcomes.{AreOutcomes, Outcome, block_digits, lines_of, log_line, receiver_changes}
use Rattle.rds_script.specs.Outcomes.{refusal_content, reply_line, spaced_digits, thing_set}
use Rattle.rds_script.specs.declared.form.Form.TheVariants.{Log}
use Rattle.rds_world.specs.Event.{Event}
use Rattle.rds_world.specs.declared.event.Command.{Command}
use Rattle.rds_world.specs.declared.reply.Reply.{Reply}
use Rattle.rds_world.specs.declared.reply.Reply.TheVariants.{Restarted, Done, Refused}
use Rattle.rds_world.specs.declared.reply.Reply.TheVariants as reply
use Rattle.rds_wire.specs.Wire.{IsHead, station_of}
use Rattle.rds_charset.proofs.PrintedText.{upper_digit-value}

-- ---- the printed form of a text has no line feed, and neither has a decimal number

-- no line feed is in the bytes
abbrev pub IsFeedless : List ℕ → Type 0
IsFeedless bytes = All (λ (b : ℕ). b ≢ 10) bytes

-- no bytes have no line feed
pub empty_line : IsFeedless []
empty_line = All-nil (λ (x : ℕ). x ≢ 10)

-- a byte that is no line feed before others
pub more_line : (b : ℕ) (rest : List ℕ) → b ≢ 10 → IsFeedless rest → IsFeedless (b ∷ rest)
more_line b rest p q = All-cons (λ (x : ℕ). x ≢ 10) b rest p q

-- bytes without a line feed after others
pub join_lines : (one other : List ℕ) → IsFeedless one → IsFeedless other → IsFeedless (one ++ other)
join_lines one other p q = All-append (λ (x : ℕ). x ≢ 10) one other p q

-- bytes that a test finds without a line feed
pub feedless : (bytes : List ℕ) → list_all (λ b. not (b == 10)) bytes ≡ true → IsFeedless bytes
feedless [] e = All-nil (λ (x : ℕ). x ≢ 10)
feedless (b ∷ rest) e = grind (arith, feedless rest)

-- whether the bytes of a character have no line feed
abbrev clean : ℕ → Bool
clean character = list_all (λ b. not (b == 10)) (encode_utf8 character)

all_clean : list_all (λ (s : CodeRange). list_all clean s.1) table ≡ true
unfolding encode_utf8
all_clean = refl

of_all : (xs : List ℕ) (i : ℕ) → i < length xs → list_all clean xs ≡ true → clean (get_or xs i 0) ≡ true
of_all xs i within all = grind (arith, list_all_at)

clean_at : (s : CodeRange) (byte c : ℕ) → list_all clean s.1 ≡ true → character_at s byte ≡ Some c → clean c ≡ true
clean_at s byte c all is = by (nat_le s.0 byte) is
  where
    by : (b : Bool) → cond b (slice_get s.1 (byte - s.0)) None ≡ Some c → clean c ≡ true
    by true e = subst (λ (x : ℕ). clean x ≡ true) (get_or_from_slice_get s.1 (byte - s.0) c 0 e)
        (of_all s.1 (byte - s.0) (slice_get_within s.1 (byte - s.0) c e) all)
    by false e = absurd (cc)

clean_in : (all : List CodeRange) (byte c : ℕ) → list_all (λ (s : CodeRange). list_all clean s.1) all ≡ true
    → character_in all byte ≡ Some c → clean c ≡ true
clean_in [] byte c all is = absurd (cc)
clean_in (s ∷ more) byte c all is = grind (arith, clean_in more byte c, clean_at)

clean_of : (byte c : ℕ) → character_of byte ≡ Some c → clean c ≡ true
unfolding character_of
clean_of byte c is = clean_in table byte c all_clean is

digit : (n : ℕ) → upper_digit n ≢ 10
digit n = grind (arith, nat_tests)

escaped_line : (byte : ℕ) → IsFeedless (escaped byte)
escaped_line byte = grind arith

byte_line : (byte : ℕ) → IsFeedless (printed_byte byte)
unfolding printed_byte
byte_line byte = grind (arith, clean_of, escaped_line, feedless)

-- the printed form of any bytes has no line feed
pub printed_line : (bytes : List ℕ) → IsFeedless (printed bytes)
printed_line [] = empty_line
printed_line (byte ∷ rest) = join_lines (printed_byte byte) (printed rest) (byte_line byte) (printed_line rest)

-- ---- decimal numbers

-- bytes without this byte
abbrev pub Lacks : ℕ → List ℕ → Type 0
Lacks b bytes = All (λ (x : ℕ). x ≢ b) bytes

-- a byte that is no digit
abbrev pub IsNoDigit : ℕ → Type 0
IsNoDigit b = (n : ℕ) → n < 10 → digit_glyph false n ≢ b

digits_lack : (b : ℕ) → IsNoDigit b → (k n : ℕ) (acc : List ℕ) → Lacks b acc
    → Lacks b (digits_onto k 10 false n acc)
digits_lack b none zero n acc is = is
digits_lack b none (suc k) n acc is = grind (arith, digits_lack b none k (n / 10) (digit_glyph false (n % 10) ∷ acc))

-- a number has no byte that is no digit
pub decimal_lacks : (b : ℕ) → IsNoDigit b → (n : ℕ) → Lacks b (decimal n)
unfolding digits
decimal_lacks b none n = digits_lack b none 64 n [] (All-nil (λ (x : ℕ). x ≢ b))

no_feed : IsNoDigit 10
no_feed n h = grind (arith, nat_tests)

-- a number has no line feed
pub decimal_line : (n : ℕ) → IsFeedless (decimal n)
decimal_line n = decimal_lacks 10 no_feed n

-- nor has the prefix of a slot
pub prefixes : (slot : ℕ) → IsFeedless (slot_prefix slot)
prefixes slot = join_lines (decimal slot) (codes " ") (decimal_line slot) (feedless (codes " ") refl)

-- ---- bytes without a line feed

join : (one other : List ℕ) → IsLine one → IsLine other → IsLine (one ++ other)
join one other p q = join_lines one other p q

-- ---- lines more

-- the text has these lines, and ends between lines
pub record HasCut (n : ℕ) (text : List ℕ) (slots : List (Option Group)) : Type 0 where
  pub cut : List Line
  pub text_is : text ≡ text_of cut []
  pub lines : All IsLine cut
  pub say : AreSlots n cut slots

-- such a text is a log
pub is_log_of : (n : ℕ) (text : List ℕ) (slots : List (Option Group)) → HasCut n text slots → IsLogOf n text slots
is_log_of n text slots had = grind arith

with_slot : (n : ℕ) (text line : List ℕ) (slot : Option Group) (slots : List (Option Group)) → HasCut n text slots
    → IsLine line
    → IsLaidOut line × SaysSlot line slot
    → HasCut n (text ++ (line ++ codes "\n")) (exchanged_in n slot ∷ slots)
with_slot n text line slot slots had is says = record {
  cut = line ∷ had.cut;
  text_is = more_text text line had.cut had.text_is;
  lines = All-cons IsLine line had.cut is had.lines;
  say = inr (slot, slots, says, refl, had.say);
}

-- a comment changes no slot
pub with_comment : (n : ℕ) (text line : List ℕ) (slots : List (Option Group)) → HasCut n text slots → IsLine line
    → IsSkipped line
    → HasCut n (text ++ (line ++ codes "\n")) slots
with_comment n text line slots had is says = record {
  cut = line ∷ had.cut;
  text_is = more_text text line had.cut had.text_is;
  lines = All-cons IsLine line had.cut is had.lines;
  say = inl (says, had.say);
}

same_text : (n : ℕ) (text other : List ℕ) (slots : List (Option Group)) → text ≡ other → HasCut n text slots
    → HasCut n other slots
same_text n text other slots same had = subst (λ (l : List ℕ). HasCut n l slots) same had

-- ---- replies

things : (c : Command) → IsLine (thing_set c)
things c = grind arith

refusals : (r : Refusal) → IsLine (refusal_content r)
refusals r = grind (arith, join, feedless, decimal_line)

with_mark : (n : ℕ) (text prefix thing content : List ℕ) (slots : List (Option Group)) → IsLine prefix → IsLine thing
    → IsLine content → HasCut n text slots
    → HasCut n (text ++ (codes "# " ++ line_of prefix thing content)) slots
with_mark n text prefix thing content slots s t c had =
    same_text n _ _ slots (ap (λ (l : List ℕ). text ++ (codes "# " ++ l)) ends)
    (with_comment n text (codes "# " ++ (prefix ++ (thing ++ content))) slots had
    (join (codes "# ") (prefix ++ (thing ++ content)) (feedless (codes "# ") refl)
    (join prefix (thing ++ content) s (join thing content t c)))
    (inr (inr (inl refl))))
  where
    ends : (prefix ++ (thing ++ content)) ++ codes "\n" ≡ line_of prefix thing content
    ends = ap (λ (l : List ℕ). l ++ codes "\n") (sym (append_assoc prefix thing content))

with_reply : (n : ℕ) (text : List ℕ) (slot : ℕ) (c : Command) (r : Reply) (slots : List (Option Group))
    → HasCut n text slots → HasCut n (text ++ reply_line (codes "# ") slot c r) slots
with_reply n text slot c reply.Quiet slots had = same_text n text (text ++ []) slots (sym (append-nil text)) had
with_reply n text slot c Restarted slots had = grind (arith, with_mark, prefixes, feedless)
with_reply n text slot c Done slots had = grind (arith, with_mark, prefixes, things, feedless)
with_reply n text slot c (Refused refusal) slots had = grind (arith, with_mark, prefixes, things, refusals)

-- ---- groups

no_return : (n : ℕ) → n < 16 → (upper_digit n == carriage_return) ≡ false
no_return n h = grind (arith, nat_tests)

word_at : (line : List ℕ) (at w : ℕ) → w < 65536 → slice_index line at ≡ upper_digit (w / 4096)
    → slice_index line (at + 1) ≡ upper_digit (w / 256 % 16)
    → slice_index line (at + 2) ≡ upper_digit (w / 16 % 16) → slice_index line (at + 3) ≡ upper_digit (w % 16)
    → HasWord line at w
word_at line at w fits a b c d = grind (arith, upper_digit-value)

-- the words and the fields of a group fit into their bits
pub record Fits (g : Group) : Type 0 where
  pub pi : g.pi < 65536
  pub number : g.number < 16
  pub pty : g.pty < 32
  pub low : g.low < 32
  pub c : g.c < 65536
  pub d : g.d < 65536

second_fits : (g : Group) → Fits g → second_word_of g < 65536
second_fits g f = omega (arith, f.number, f.pty, f.low, from_bool-lt g.version, from_bool-lt g.tp)

word_line : (w : ℕ) → w < 65536 → IsLine (word_digits w)
word_line w fits = grind (arith, more_line, digit, empty_line)

spaced_line : (w : ℕ) → w < 65536 → IsLine (spaced_digits w)
spaced_line w fits = join (codes " ") (word_digits w) (feedless (codes " ") refl) (word_line w fits)

-- a group has no line feed
pub group_line : (g : Group) → Fits g → IsLine (block_digits g)
group_line g f = search (arith, join, word_line, spaced_line, second_fits)

-- the digits of a group say its slot
pub group_says : (g : Group) → Fits g → IsLaidOut (block_digits g) × SaysSlot (block_digits g) (Some g)
group_says g f = (
  record {
    at_least = omega (arith, long);
    spaces = record { first = refl; second = refl; third = refl };
    ends = inl long;
  },
  says_group (block_digits g) g.pi (second_word_of g) g.c g.d g
      (word_at (block_digits g) 0 g.pi f.pi refl refl refl refl)
      (word_at (block_digits g) 5 (second_word_of g) (second_fits g f) refl refl refl refl)
      (word_at (block_digits g) 10 g.c f.c refl refl refl refl)
      (word_at (block_digits g) 15 g.d f.d refl refl refl refl)
      (record { blocks = refl; number = f.number; pty = f.pty; low = f.low }),
)
  where
    long : content_length (block_digits g) ≡ 19
    long = rw (no_return (g.d % 16) (omega arith)) refl

-- dashes say a lost slot
pub dashes : IsLaidOut (codes "---- ---- ---- ----") × SaysSlot (codes "---- ---- ---- ----") None
dashes = grind arith

-- ---- what an encoder sends fits

-- a message that an encoder sends
abbrev IsSendable : Message → Type 0
IsSendable (Text f a b) = Unit {0}
IsSendable (Name f a b) = Unit {0}
IsSendable (Announce code bits aid) = (bits < 65536) × (aid < 65536)
IsSendable (Tags pair) = Unit {0}
IsSendable Other = ⊥

abbrev AreSendable : Option Message → Type 0
AreSendable None = Unit {0}
AreSendable (Some message) = IsSendable message

-- an encoder sends only such messages
pub sent_is_sendable : (d : ℕ) (free : Bool) (before : List Entry) → AreSendable (sent_in d free before)
sent_is_sendable d free before = grind arith

-- a group with exchanged types still fits
exchanged_fits : (n : ℕ) (g : Group) → MayCarryTags n → Fits g → Fits (exchanged n g)
exchanged_fits n g may f = grind arith

sent_fits : (h : Head) (message : Option Message) (g : Group) → IsHead h → AreSendable message
    → IsSent h message (Some g) → Fits g
sent_fits h message g head is sent = grind arith

-- ---- the whole output

-- the groups that were sent
abbrev pub groups_sent : List Outcome → List (Option Group)
groups_sent [] = []
groups_sent (o ∷ older) = o.sent ∷ groups_sent older

with_log_line : (n : ℕ) (h : Head) (text : List ℕ) (message : Option Message) (sent : Option Group)
    (slots : List (Option Group)) → MayCarryTags n → IsHead h → AreSendable message → IsSent h message sent
    → HasCut n text slots
    → HasCut n (text ++ log_line (exchanged_in n sent)) (sent ∷ slots)
with_log_line n h text message None slots may head is of had =
    with_slot n text (codes "---- ---- ---- ----") None slots had (feedless (codes "---- ---- ---- ----") refl) dashes
with_log_line n h text message (Some g) slots may head is of had =
    let fits = exchanged_fits n g may (sent_fits h message g head is of) in
    let line = block_digits (exchanged n g) in
    subst (λ (slot : Option Group). HasCut n (text ++ (line ++ codes "\n")) (slot ∷ slots))
    (exchanged_in_twice n (Some g) may)
    (with_slot n text line (Some (exchanged n g)) slots had (group_line (exchanged n g) fits)
    (group_says (exchanged n g) fits))

-- without receivers there is no change
no_changes : (n slot : ℕ) (whys : ℕ → Option Whys) (before now : List ShownView) → n ≡ 0
    → receiver_changes slot n whys before now ≡ []
unfolding receiver_changes
no_changes n slot whys before now none = grind arith

-- no event has a receiver
abbrev pub HasNoReceivers : List Event → Type 0
HasNoReceivers events = AllByRecursion (λ (e : Event). length e.receptions ≡ 0) events

joined : (text reply line changes : List ℕ) → changes ≡ []
    → (text ++ reply) ++ line ≡ text ++ (((reply ++ line) ++ changes) ++ [])
joined text reply line changes none =
    append_assoc text reply line
    ∙ ap (λ (l : List ℕ). text ++ l)
    (sym (append-nil (reply ++ line)) ∙ ap (λ (l : List ℕ). (reply ++ line) ++ l) (sym none)
    ∙ sym (append-nil ((reply ++ line) ++ changes)))

cut_of : (n : ℕ) (h : Head) (m k : ℕ) (events : List Event) (outcomes : List Outcome) → MayCarryTags n → IsHead h
    → HasNoReceivers events → AreOutcomes 0 (station_of h m k) events outcomes
    → HasCut n (lines_of (Log n) (station_of h m k) events outcomes) (groups_sent outcomes)
cut_of n h m k [] [] may head none are = record { cut = []; text_is = refl; lines = All-nil IsLine; say = refl }
cut_of n h m k (e ∷ before) (o ∷ older) may head none are =
    let rest = cut_of n h m k before older may head none.1 are.1 in
    grind (arith, with_reply, with_log_line, sent_is_sendable, no_changes, same_text, joined)
cut_of n h m k _ _ may head none are = absurd are

-- the output of `encode` is a log, and its slots are the groups that were sent
pub encoded_cut : (n : ℕ) (h : Head) (m k : ℕ) (events : List Event) (outcomes : List Outcome) (log : List ℕ)
    → MayCarryTags n → IsHead h
    → HasNoReceivers events → AreOutcomes 0 (station_of h m k) events outcomes
    → log ≡ lines_of (Log n) (station_of h m k) events outcomes → HasCut n log (groups_sent outcomes)
encoded_cut n h m k events outcomes log may head none are is = grind (arith, same_text, cut_of)
