-- Receivers that may get wrong groups and show only what they heard twice (this project's own rule). The window has w
-- slots. A segment is confirmed if the last segment heard at its address was the same, and came less than w slots
-- before. A pair of tags is confirmed if the last pair heard was the same, came less than w slots before, and came
-- later than the first segment of the run of confirmed text segments. Announcements need no confirmation. Lists have
-- the newest first.
use Rattle.std.specs.Prelude.{◌+◌, ◌==◌, ◌&&◌, [], ◌∷◌}
use Rattle.std.specs.Prelude.{ℕ, Bool, true, false, List, Option, Some, None, bytes_eq, length, nat_lt, if◌then◌else◌}
use Rattle.rds_fields.specs.declared.message.Message.{Message}
use Rattle.rds_fields.specs.declared.message.Message.TheVariants.{Text, Name, Announce, Tags, Other}
use Rattle.rds_fields.specs.Tag.{PairFields, TagFields}
use Rattle.rds_receiver.specs.Receipts.{Segment, Tuning, name_fragment, segments, text_fragment}
use Rattle.rds_receiver.specs.Run.{begins_in, is_same, run}

-- the message needs confirmation: it is a segment or a pair of tags
abbrev pub needs_two : Message → Bool
needs_two (Text f a b) = true
needs_two (Name f a b) = true
needs_two (Tags pair) = true
needs_two (Announce code bits aid) = false
needs_two Other = false

abbrev pub same_tag : TagFields → TagFields → Bool
same_tag x y = x.class == y.class && (x.start == y.start && x.extra == y.extra)

abbrev pub same_pair : PairFields → PairFields → Bool
same_pair p q =
    (is_same p.toggle q.toggle && is_same p.running q.running) && (same_tag p.one q.one && same_tag p.two q.two)

-- the last segment at this address
abbrev pub last_at : ℕ → List Segment → Option Segment
last_at a [] = None
last_at a (g ∷ older) = if g.fragment.address == a then Some g else last_at a older

-- the last pair of tags, with its slot
abbrev pub last_pair : ℕ → List (Option Message) → Option (ℕ × PairFields)
last_pair first [] = None
last_pair first (None ∷ before) = last_pair first before
last_pair first (Some (Tags pair) ∷ before) = Some (first + length before, pair)
last_pair first (Some (Text f a b) ∷ before) = last_pair first before
last_pair first (Some (Name f a b) ∷ before) = last_pair first before
last_pair first (Some (Announce code bits aid) ∷ before) = last_pair first before
last_pair first (Some Other ∷ before) = last_pair first before

-- the slot of the segment that confirms one with this flag and these bytes in slot n, given the last one at its address
abbrev pub segment_again : ℕ → ℕ → Bool → List ℕ → Option Segment → Option ℕ
segment_again w n f b None = None
segment_again w n f b (Some g) =
    if (is_same f g.fragment.flag && bytes_eq b g.fragment.bytes) && nat_lt n (g.slot + w) then Some g.slot else None

-- the slot of the pair that confirms this one in slot n, given the first slot of the run of texts and the last pair
abbrev pub pair_again : ℕ → ℕ → PairFields → Option ℕ → Option (ℕ × PairFields) → Option ℕ
pair_again w n pair None last = None
pair_again w n pair (Some since) None = None
pair_again w n pair (Some since) (Some (u, before)) =
    if same_pair pair before && (nat_lt since u && nat_lt n (u + w)) then Some u else None

-- the slot of the receipt that confirms what was heard in the next slot, given what was heard before and which of it
-- was confirmed; a message that needs no confirmation has its own slot
abbrev pub receipt_before : ℕ → ℕ → ℕ → List (Option Message) → List (Option Message) → Option Message → Option ℕ
receipt_before w m first before confirmed None = None
receipt_before w m first before confirmed (Some (Text f a b)) =
    segment_again w (first + length before) f b (last_at a (segments text_fragment first before))
receipt_before w m first before confirmed (Some (Name f a b)) =
    segment_again w (first + length before) f b (last_at a (segments name_fragment first before))
receipt_before w m first before confirmed (Some (Tags pair)) =
    pair_again w (first + length before) pair
    (begins_in (run m (first + length before) (segments text_fragment first confirmed))) (last_pair first before)
receipt_before w m first before confirmed (Some (Announce code bits aid)) = Some (first + length before)
receipt_before w m first before confirmed (Some Other) = Some (first + length before)

-- the entry, if it is confirmed
abbrev pub if_confirmed : Option ℕ → Option Message → Option Message
if_confirmed None entry = None
if_confirmed (Some slot) entry = entry

-- what was heard, without the entries that are not confirmed, for a window of w slots and a dwell of m
abbrev pub confirmed : ℕ → ℕ → ℕ → List (Option Message) → List (Option Message)
confirmed w m first [] = []
confirmed w m first (heard ∷ before) =
    if_confirmed (receipt_before w m first before (confirmed w m first before) heard) heard
    ∷ confirmed w m first before

-- what counts of what was heard: without a window all of it, with a window the confirmed part
abbrev pub counted_in : Option ℕ → ℕ → ℕ → List (Option Message) → List (Option Message)
counted_in None m first heard = heard
counted_in (Some w) m first heard = confirmed w m first heard

-- what counts for a receiver of this tuning
abbrev pub counted : Tuning → List (Option Message) → List (Option Message)
counted t heard = counted_in t.window t.dwell t.first heard
