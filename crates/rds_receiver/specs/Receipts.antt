-- What a receiver heard: the messages of the groups that it got and that have its PI. Among them are the segments of
-- texts and of names, each with the slot in which it came. Each list has the newest first. The slot of an entry is
-- `first` plus the number of entries before it.
use Rattle.std.specs.Prelude.{◌≡◌, ◌==◌, ◌+◌, ℕ, List, [], ◌∷◌, Option, Some, None, if◌then◌else◌, length, map}
use Rattle.rds_block.specs.declared.group.Group.{Group}
use Rattle.rds_fields.specs.declared.message.Message.{Message}
use Rattle.rds_fields.specs.declared.message.Message.TheVariants.{Text, Name, Announce, Tags, Other}
use Rattle.rds_fields.specs.Meaning.{message_in}
use Rattle.rds_receiver.specs.declared.fragment.Fragment.{Fragment}

-- the tuning of a receiver: its programme (PI), its dwell in slots, its window in slots if it shows only what it heard
-- twice, and the slot in which its input begins
pub record Tuning : Type 0 where
  pub programme : ℕ
  pub dwell : ℕ
  pub window : Option ℕ
  pub first : ℕ

-- the tuning of a receiver of this programme and this dwell without a window, whose input begins in slot 0
abbrev pub tuned : ℕ → ℕ → Tuning
tuned pi m = record { programme = pi; dwell = m; window = None; first = 0 }

-- what a receiver with this PI hears in a slot: the message of a group with this PI; without a group, or with another
-- PI, nothing
abbrev pub heard_in : ℕ → Option Group → Option Message
heard_in pi None = None
heard_in pi (Some g) = if g.pi == pi then Some (message_in g) else None

-- what a receiver with this PI hears in each slot of its input
abbrev pub heard_of : ℕ → List (Option Group) → List (Option Message)
heard_of pi input = map (heard_in pi) input

-- this is what it hears in a slot, and in each slot of its input
abbrev pub Hears : ℕ → Option Group → Option Message → Type 0
Hears pi slot message = message ≡ heard_in pi slot

abbrev pub AreHeard : ℕ → List (Option Group) → List (Option Message) → Type 0
AreHeard pi input messages = messages ≡ heard_of pi input

-- the fragment of a text in a message, if it has one
abbrev pub text_fragment : Message → Option Fragment
text_fragment (Text f a b) = Some record { flag = f; address = a; bytes = b }
text_fragment (Name f a b) = None
text_fragment (Announce code bits aid) = None
text_fragment (Tags pair) = None
text_fragment Other = None

-- the message with this fragment of a text
abbrev pub text_of : Fragment → Message
text_of p = Text p.flag p.address p.bytes

-- the fragment of a name in a message, if it has one
abbrev pub name_fragment : Message → Option Fragment
name_fragment (Text f a b) = None
name_fragment (Name f a b) = Some record { flag = f; address = a; bytes = b }
name_fragment (Announce code bits aid) = None
name_fragment (Tags pair) = None
name_fragment Other = None

-- the message with this fragment of a name
abbrev pub name_of : Fragment → Message
name_of p = Name p.flag p.address p.bytes

-- a received segment: a fragment and the slot in which it came
pub record Segment : Type 0 where
  pub slot : ℕ
  pub fragment : Fragment

-- the fragment picked from what was heard in a slot, if there is one
abbrev pub picked : (Message → Option Fragment) → Option Message → Option Fragment
picked pick None = None
picked pick (Some m) = pick m

abbrev pub with_segment : ℕ → Option Fragment → List Segment → List Segment
with_segment slot None older = older
with_segment slot (Some p) older = record { slot = slot; fragment = p } ∷ older

-- the segments among what was heard
abbrev pub segments : (Message → Option Fragment) → ℕ → List (Option Message) → List Segment
segments pick first [] = []
segments pick first (heard ∷ before) =
    with_segment (first + length before) (picked pick heard) (segments pick first before)
