-- Worked rows: how a log is received, and what is safe to show. Those that end in ⊥ say no: so a wider definition would
-- be seen. Tests of the program play what is safe.
use Rattle.std.specs.Char.{encode_utf8}
use Rattle.std.proofs.Common.{◌≡◌, ◌≢◌, ◌⊎◌, ◌<◌, ◌+◌, ◌∷◌, ◌∙◌, [], ℕ, false, true, List, None, Option, Some, ap}
use Rattle.std.proofs.Common.{arith, codes, get_or, inl, inr, map, refl, subst, sym}
use Rattle.std.proofs.lemmas.List.Elements.{All-cons, All-nil}
use Rattle.rds_block.specs.declared.group.Group.{Group}
use Rattle.rds_fields.specs.Meaning.{message_in}
use Rattle.rds_fields.specs.Tag.{PairFields}
use Rattle.rds_fields.specs.declared.message.Message.{Message}
use Rattle.rds_encoder.specs.Plan.{Broadcast, HasNumber}
use Rattle.rds_charset.specs.Printed.{printed_byte}
use Rattle.rds_charset.specs.Table.{character_of}
use Rattle.rds_audit.specs.Forms.{text_kind}
use Rattle.rds_log.specs.Audit.{complete, judged, spacing}
use Rattle.rds_log.specs.declared.audit_log.Auditing.{Auditing}
use Rattle.rds_lines.specs.LogLines.{IsLine}
use Rattle.rds_lines.specs.LogSlots.{IsLogOf}
use Rattle.rds_lines.specs.OneLog.{same_log}
use Rattle.rds_receiver.specs.Receipts.{heard_in, heard_of}
use Rattle.rds_receiver.specs.Shown.{view_with}
use Rattle.rds_safety.specs.Confirmed.{IsHeardWithWrong, WasSent, lateness_of_two}
use Rattle.rds_safety.specs.Late.{HasEntry, IsHeardInOrder}
use Rattle.rds_safety.specs.Plans.{AreLawful, AreLawfulAs, Plans}
use Rattle.rds_view_lines.specs.Output.{quoted}
use Rattle.rds_view_lines.specs.ViewParts.{IsNothing, Item, Name, Part, Tag1, Tag2, Text, part_content}
use Rattle.rds_wire.specs.Printed.{Prints, Shows}
use Rattle.rds_wire.specs.Received.{Came, IsReceived, LosesSlots, first_entries, own_group}
use Rattle.rds_wire.specs.Safe.{AreSafe, StationPlans, WasOnAir, WentWith}
use Rattle.rds_wire.specs.Twice.{HasMessages, HasPlansForTwo, IsReceivedWithWrong, IsSafeIfHeardTwice}
use Rattle.rds_wire.specs.Wire.{HasSafePlans, IsSafeOnTheWire, aired, messages_of_plans, planned}
use Rattle.rds_safety.proofs.Entries.{before_end}
use Rattle.rds_wire.proofs.Logs.{dashes, group_says, empty_line, feedless}
use Rattle.rds_wire.proofs.Wired.{entry_at}

abbrev hi : Group
hi = record { pi = 0xC201; number = 2; version = false; tp = false; pty = 10; low = 0; c = 0x4849; d = 0x0D20 }

-- to a receiver of another programme the group is nothing
hi_is_of_another : own_group 0xC202 (Some hi) ≡ None
hi_is_of_another = refl

-- ---- a log of three slots: HI in slot 0, and two that are lost

abbrev three : List ℕ
three = codes "C201 2140 4849 0D20\n---- ---- ---- ----\n---- ---- ---- ----\n"

abbrev lost : List ℕ
lost = codes "---- ---- ---- ----"

abbrev hi_alone : List (Option Group)
hi_alone = None ∷ None ∷ Some hi ∷ []

has_three : IsLogOf 11 three hi_alone
has_three = record {
  lines = lost ∷ lost ∷ codes "C201 2140 4849 0D20" ∷ [];
  are = (
    lost ∷ lost ∷ codes "C201 2140 4849 0D20" ∷ [],
    [],
    refl,
    search (arith, All-cons, All-nil, feedless),
    empty_line,
    inl (refl, refl),
  );
  say = inr (
    None,
    None ∷ Some hi ∷ [],
    dashes,
    refl,
    inr (None, Some hi ∷ [], dashes, refl, inr (Some hi, [], group_says hi (grind arith), refl, refl)),
  );
}

-- each slot may be lost
all_lost : LosesSlots 11 three (None ∷ None ∷ None ∷ [])
all_lost = record
    { sent = hi_alone; log_has = has_three; lost = (inl refl, (inl refl, (inl refl, tt))); few = omega arith }

-- with K = 1 the group may come one slot late
one_late : IsReceived (complete 0xC201 1 1) three (Some hi ∷ None ∷ []) 1 1
one_late = record {
  sent = hi_alone;
  log_has = has_three;
  reached = omega arith;
  few = omega arith;
  origins = Some 0 ∷ None ∷ [];
  came = inl (
    record {
      order = record { beside = refl; each = λ t o x p q. grind arith; rising = λ t u r s p q less. grind arith };
      past = λ t s p. grind arith;
      late = λ t s p. grind arith;
    },
    refl,
  );
}

-- a group of another programme in the slot before is as nothing
abbrev of_another : Group
of_another = record hi { pi = 0xC202 }

after_another : IsReceived (complete 0xC201 1 1) three (Some hi ∷ Some of_another ∷ []) 1 1
after_another = search (arith, one_late.log_has, one_late.came)

-- and the clock of a receiver may lose one slot within M: the receiver is in its slot 0, and the station in slot 1
one_slow : IsReceived (complete 0xC201 1 1) three (Some hi ∷ []) 0 1
one_slow = record {
  sent = hi_alone;
  log_has = has_three;
  reached = omega arith;
  few = omega arith;
  origins = Some 0 ∷ [];
  came = inr record {
    order = record { beside = refl; each = λ t o x p q. grind arith; rising = λ t u r s p q less. grind arith };
    between = λ t u r s p q near. grind arith;
    since = λ t s p near. grind arith;
    past = λ t s p. grind arith;
  };
}

-- so when the station is in slot 1, the first receiver is in its slot 1 and the second one in its slot 0
two_clocks : (air : StationPlans) (received printed other_received other_printed : List ℕ)
    → IsSafeOnTheWire (complete 0xC201 1 1) three air
    → (one : Prints 11 0xC201 1 None received printed) (other : Prints 11 0xC201 1 None other_received other_printed)
    → one.write.slots ≡ Some hi ∷ None ∷ [] → other.write.slots ≡ Some hi ∷ []
    → AreSafe 2 1 air (Shows printed 1) (Shows other_printed 0)
two_clocks air received printed other_received other_printed safe one other p q =
    safe received printed other_received other_printed 1 0 1 one other
    (subst (λ (slots : List (Option Group)). IsReceived (complete 0xC201 1 1) three slots 1 1) (sym p) one_late)
    (subst (λ (slots : List (Option Group)). IsReceived (complete 0xC201 1 1) three slots 0 1) (sym q) one_slow)

-- ---- a wrong group, and then HI, one slot late

abbrev wrong : Group
wrong = record hi { c = 0x4F4F }

-- the first one has no origin
one_wrong : (right other : Option Message) → IsHeardWithWrong 1 (None ∷ None ∷ right ∷ [])
    record { first = 0; heard = right ∷ other ∷ []; origins = Some 0 ∷ None ∷ [] }
one_wrong right other = record {
  beside = refl;
  each = λ t s entry p q. grind arith;
  rising = λ t u r s p q less. grind arith;
  past = λ t s p. grind arith;
  late = λ t s p. grind arith;
}

second_was_sent : (t u : ℕ) (message : Message) → t < u
    → HasEntry 0 (heard_of 0xC201 (Some hi ∷ Some wrong ∷ [])) u (Some message)
    → WasSent record {
      first = 0;
      heard = heard_of 0xC201 (Some hi ∷ Some wrong ∷ []);
      origins = Some 0 ∷ None ∷ [];
    } u
second_was_sent t u message before at =
    let below : u < 2 = before_end 0 (heard_of 0xC201 (Some hi ∷ Some wrong ∷ [])) u (Some message) at in
    record { slot = 0; from = grind arith }

wrong_once : IsReceivedWithWrong 11 0xC201 8 1 three (Some hi ∷ Some wrong ∷ []) 1
wrong_once = record {
  sent = heard_of 0xC201 hi_alone;
  log_has = record { slots = hi_alone; has = has_three; heard = refl };
  reached = omega arith;
  few = omega arith;
  origins = Some 0 ∷ None ∷ [];
  late = one_wrong (heard_in 0xC201 (Some hi)) (heard_in 0xC201 (Some wrong));
  once = λ t u message two before near p q. inr (second_was_sent t u message before q);
}

-- a message that the log has, in its only slot with a group
sent_once : (sent : List (Option Message)) (s : ℕ) (message : Message) → HasMessages 11 0xC201 three sent
    → HasEntry 0 sent s (Some message) → Some message ≡ heard_in 0xC201 (Some hi)
sent_once sent s message has at =
    let same = has.heard ∙ ap (heard_of 0xC201) (same_log 11 three has.slots hi_alone has.has has_three) in
    let there : HasEntry 0 (None ∷ None ∷ heard_in 0xC201 (Some hi) ∷ []) s (Some message) = rw same at at in
    grind arith

-- the log has no such message
never_sent : heard_in 0xC201 (Some wrong) ≡ heard_in 0xC201 (Some hi) → ⊥
never_sent same = grind arith

-- and not the same wrong group twice
not_sent : (r : IsReceivedWithWrong 11 0xC201 8 1 three (Some wrong ∷ Some wrong ∷ []) 1) (t : ℕ)
    → HasEntry 0 (heard_of 0xC201 (Some wrong ∷ Some wrong ∷ [])) t (Some (message_in wrong))
    → WasSent record {
      first = 0;
      heard = heard_of 0xC201 (Some wrong ∷ Some wrong ∷ []);
      origins = r.origins;
    } t → ⊥
not_sent r t at was = never_sent
    (sent_once r.sent was.slot (message_in wrong) r.log_has (r.late.each t was.slot _ was.from at))

wrong_twice : IsReceivedWithWrong 11 0xC201 8 1 three (Some wrong ∷ Some wrong ∷ []) 1 → ⊥
wrong_twice r =
    grind (arith, not_sent r 0, not_sent r 1, r.once 0 1 (message_in wrong) refl (omega arith) (omega arith))

-- ---- a log is received in order, and in time

-- however HI came, it was sent in slot 0
from_zero : (heard : List (Option Group)) (origins : List (Option ℕ)) (t : ℕ)
    → IsHeardInOrder hi_alone record { first = 0; heard = heard; origins = origins } → HasEntry 0 heard t (Some hi)
    → HasEntry 0 origins t (Some 0)
from_zero heard origins t order at =
    let beside = order.beside in
    let it = entry_at origins t (omega (arith, beside, before_end 0 heard t (Some hi) at)) in
    grind (arith, order.each t it.0 (Some hi) it.1 at)

-- what came is of the slots of the log
came_so : (m k t now : ℕ) (got : List (Option Group)) (r : IsReceived (complete 0xC201 m k) three got t now)
    → Came (complete 0xC201 m k) t now hi_alone record {
      first = 0;
      heard = map (own_group 0xC201) (first_entries (t + 1) got);
      origins = r.origins;
    }
came_so m k t now got r = (let same = same_log 11 three r.sent hi_alone r.log_has has_three in rw same at r.came)

-- but not two slots late
two_late : IsReceived (complete 0xC201 1 1) three (Some hi ∷ None ∷ None ∷ []) 2 2 → ⊥
two_late r = (let came = came_so 1 1 2 2 (Some hi ∷ None ∷ None ∷ []) r in
    grind (arith, from_zero (Some hi ∷ None ∷ None ∷ []) r.origins 2))

-- nor may the clock lose two slots
two_slow : IsReceived (complete 0xC201 1 1) three (Some hi ∷ []) 0 2 → ⊥
two_slow r = (let came = came_so 1 1 0 2 (Some hi ∷ []) r in grind (arith, from_zero (Some hi ∷ []) r.origins 0))

-- and no group comes twice
comes_twice : IsReceived (complete 0xC201 8 1) three (Some hi ∷ Some hi ∷ []) 1 1 → ⊥
comes_twice r =
    let came = came_so 8 1 1 1 (Some hi ∷ Some hi ∷ []) r in
    let zero_at = from_zero (Some hi ∷ Some hi ∷ []) r.origins in
    grind (arith, zero_at 0, zero_at 1)

-- ---- at d = 8, a text that ended in slot 20 may no longer be shown in slot 28

abbrev greeting : Broadcast
greeting = record { start = 8; end = 20; flag = false; bytes = 0x48 ∷ 0x49 ∷ [] }

not_for_28 : WasOnAir 8 28 (greeting ∷ []) (codes " \"HI\"") 0 → ⊥
not_for_28 was = grind arith

-- ---- of the texts A, B and C two receivers do not show A and C; the same for names

abbrev letters : List Broadcast
letters =
    record { start = 30; end = 40; flag = false; bytes = 0x43 ∷ [] }
    ∷ record { start = 20; end = 29; flag = true; bytes = 0x42 ∷ [] }
    ∷ record { start = 10; end = 19; flag = false; bytes = 0x41 ∷ [] } ∷ []

abbrev lettered : StationPlans
lettered = record { plans = record { text = letters; name = letters }; HasTags = λ slot pair. ⊥ }

-- a receiver that shows these contents
abbrev showing : (Part → List ℕ) → Part → List ℕ → Type 0
showing contents part content = content ≡ contents part

-- a text and a name without tags
abbrev alone : List ℕ → List ℕ → Part → List ℕ
alone text name Text = text
alone text name Name = name
alone text name Item = codes " none"
alone text name Tag1 = codes " none"
alone text name Tag2 = codes " none"

-- the first letter of broadcast number k
letter : (k : ℕ) (b : Broadcast) → HasNumber letters k b → get_or (quoted b.bytes) 2 0 ≡ 65 + k
unfolding printed_byte character_of encode_utf8
letter k b is = grind arith

-- what begins otherwise is not nothing
not_nothing : (content : List ℕ) → get_or content 1 0 ≢ 110 → IsNothing content → ⊥
not_nothing content other is = grind arith

number_of : (k : ℕ) (content : List ℕ) → get_or content 1 0 ≢ 110
    → IsNothing content ⊎ WasOnAir 30 40 letters content k → get_or content 2 0 ≡ 65 + k
number_of k content other shown = grind (arith, not_nothing content, letter k)

two_letters_on : AreSafe 30 40 lettered (showing (alone (codes " \"A\"") (codes " none")))
    (showing (alone (codes " \"C\"") (codes " none"))) → ⊥
two_letters_on safe = grind (arith, number_of safe.texts.k (codes " \"A\""), number_of safe.texts.l (codes " \"C\""))

two_names_on : AreSafe 30 40 lettered (showing (alone (codes " none") (codes " \"C\"")))
    (showing (alone (codes " none") (codes " \"A\""))) → ⊥
two_names_on safe = grind (arith, number_of safe.names.k (codes " \"C\""), number_of safe.names.l (codes " \"A\""))

-- ---- HI is on air from slot 8 to 20 and YO from slot 21 to 60: at d = 8 YO has tags from slot 29 on

abbrev yo : Broadcast
yo = record { start = 21; end = 60; flag = true; bytes = 0x59 ∷ 0x4F ∷ [] }

abbrev title : PairFields
title = record {
  toggle = false;
  running = true;
  one = record { class = 1; start = 0; extra = 1 };
  two = record { class = 0; start = 0; extra = 0 };
}

-- a station that sends the tags in this slot alone
abbrev tagged_in : ℕ → StationPlans
tagged_in slot = record {
  plans = record { text = yo ∷ greeting ∷ []; name = [] };
  HasTags = λ now pair. (now ≡ slot) × (pair ≡ title);
}

-- a text, and tags with this title
abbrev titled : List ℕ → List ℕ → Part → List ℕ
titled text tag Text = text
titled text tag Name = codes " none"
titled text tag Item = codes " 0 1"
titled text tag Tag1 = tag
titled text tag Tag2 = codes " none"

abbrev hi_titled : Part → List ℕ
hi_titled = titled (codes " \"HI\"") (codes " ITEM.TITLE \"HI\"")

abbrev yo_titled : Part → List ℕ
yo_titled = titled (codes " \"YO\"") (codes " ITEM.TITLE \"YO\"")

-- tags of a safe display went with its text
went_with : (d now : ℕ) (air : StationPlans) (text tag : List ℕ)
    (safe : AreSafe d now air (showing (titled text tag)) (showing (titled text tag)))
    → WentWith d now air text (titled text tag) safe.texts.k
went_with d now air text tag safe = elim (safe.texts.first.tags text (titled text tag) refl (λ part of. refl)) [
  | inl none ↦ absurd (let bad : 48 ≡ 110 = ap (λ (l : List ℕ). get_or l 1 0) (none Item tt) in omega (arith, bad))
  | inr with_it ↦ with_it
]

is_hi : (k : ℕ) (b : Broadcast) → HasNumber (yo ∷ greeting ∷ []) k b → codes " \"HI\"" ≡ quoted b.bytes → b ≡ greeting
unfolding printed_byte character_of encode_utf8
is_hi k b is says = grind arith

is_yo : (k : ℕ) (b : Broadcast) → HasNumber (yo ∷ greeting ∷ []) k b → codes " \"YO\"" ≡ quoted b.bytes → b ≡ yo
unfolding printed_byte character_of encode_utf8
is_yo k b is says = grind arith

-- a text that comes on air only in the next slot
text_not_yet : (k : ℕ) → WasOnAir 8 20 (yo ∷ greeting ∷ []) (codes " \"YO\"") k → ⊥
text_not_yet k was = grind (arith, is_yo k)

-- at d = 8 a display of slot 29 has tags of that slot alone
in_29 : (slot : ℕ) → AreSafe 8 29 (tagged_in slot) (showing yo_titled) (showing yo_titled) → slot ≡ 29
in_29 slot safe =
    let it = went_with 8 29 (tagged_in slot) (codes " \"YO\"") (codes " ITEM.TITLE \"YO\"") safe in
    grind (arith, is_yo safe.texts.k)

-- one slot too early
tags_too_early : AreSafe 8 29 (tagged_in 28) (showing yo_titled) (showing yo_titled) → ⊥
tags_too_early safe = omega (arith, in_29 28 safe)

-- tags that went with the text before
tags_of_the_text_before : AreSafe 8 29 (tagged_in 20) (showing yo_titled) (showing yo_titled) → ⊥
tags_of_the_text_before safe = omega (arith, in_29 20 safe)

-- tags that came after the end of the text
tags_of_the_next_text : AreSafe 8 27 (tagged_in 25) (showing hi_titled) (showing hi_titled) → ⊥
tags_of_the_next_text safe =
    let it = went_with 8 27 (tagged_in 25) (codes " \"HI\"") (codes " ITEM.TITLE \"HI\"") safe in
    grind (arith, is_hi safe.texts.k)

-- tags that were not sent yet
tags_not_yet : AreSafe 8 29 (tagged_in 30) (showing yo_titled) (showing yo_titled) → ⊥
tags_not_yet safe = omega (arith, in_29 30 safe)

-- tags of a text that ended long ago
not_stale : (k : ℕ) → WentWith 8 1000 (tagged_in 20) (codes " \"HI\"") hi_titled k → ⊥
not_stale k w = grind (arith, is_hi k)

-- a title that the tags do not mark
title_of : (b : Broadcast) (pair : PairFields) → b ≡ yo → pair ≡ title
    → part_content Tag1 None (view_with (Some b.bytes) None (Some pair)) ≡ codes " ITEM.TITLE \"YO\""
unfolding printed_byte character_of encode_utf8
title_of b pair is same = grind arith

another_title : AreSafe 8 29 (tagged_in 29) (showing (titled (codes " \"YO\"") (codes " ITEM.TITLE \"HI\"")))
    (showing (titled (codes " \"YO\"") (codes " ITEM.TITLE \"HI\""))) → ⊥
another_title safe =
    let it = went_with 8 29 (tagged_in 29) (codes " \"YO\"") (codes " ITEM.TITLE \"HI\"") safe in
    grind (arith, not_nothing (codes " ITEM.TITLE \"HI\""), is_yo safe.texts.k, title_of, it.cut Tag1 tt)

-- ---- what is planned, and an output without a line

-- nothing is on air before the first slot, and no tags without a text
no_tags_on_air : (pair : PairFields) → (aired 8 []).HasTags 0 pair → ⊥
no_tags_on_air pair is = cc

no_tags_planned : (plans : Plans) (pair : PairFields) → (planned plans []).HasTags 0 pair → ⊥
no_tags_planned plans pair is = is

-- an output without a line shows nothing, and one with a line of the text does not lack it
nothing_yet : Shows [] 0 Text (codes " none")
nothing_yet = inr (
  record {
    lines = [];
    are = ([], [], refl, All-nil IsLine, empty_line, inl (refl, refl));
    none = λ u content upto has. omega (arith, has.1);
  },
  refl,
)

-- the plans of a log that passes are lawful for what is judged of it, and by them it is safe
safe_plans_are_lawful : (a : Auditing) (log : List ℕ) (has : HasSafePlans a log)
    → AreLawfulAs (text_kind a.form) (spacing a) has.plans (judged a has.slots)
    × IsSafeOnTheWire a log (planned has.plans (messages_of_plans a.start (spacing a) (heard_of a.pi has.slots)))
safe_plans_are_lawful a log has = (has.lawful, has.safe)

plans_for_two_are_lawful : (n pi m w k : ℕ) (log : List ℕ) (has : HasPlansForTwo n pi m w k log)
    → AreLawful (m + lateness_of_two w k) has.plans has.messages
    × IsSafeIfHeardTwice n pi m w k log (planned has.plans has.messages)
plans_for_two_are_lawful n pi m w k log has = (has.lawful, has.safe)
