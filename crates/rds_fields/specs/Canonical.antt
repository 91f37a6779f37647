-- The group that is written for a message. Of all groups with this head that spell the message, it is the one in which
-- each bit that may hold anything is 0 (this project's own rule).
use Rattle.std.specs.Prelude.{◌≡◌, ◌/◌, ◌%◌}
use Rattle.rds_block.specs.declared.group.Group.{Group}
use Rattle.rds_fields.specs.declared.head.Head.{Head}
use Rattle.rds_fields.specs.declared.message.Message.{Message}
use Rattle.rds_fields.specs.Bits.{Sent, FitsBits, field_bits}
use Rattle.rds_fields.specs.Spells.{IsOf, bits_in, Spells}

-- in a tag of class 0, the start and the length marker are 0
pub record IsPlain (s : Sent) : Type 0 where
  pub start_one : s.class_one ≡ 0 → s.start_one ≡ 0
  pub extra_one : s.class_one ≡ 0 → s.extra_one ≡ 0
  pub start_two : s.class_two ≡ 0 → s.start_two ≡ 0
  pub extra_two : s.class_two ≡ 0 → s.extra_two ≡ 0

-- in a group 10A, bits 3 to 1 are 0; in a group 11A, the start and the length marker of a tag of class 0 are 0
pub record IsCanonical (g : Group) : Type 0 where
  pub name : IsOf g 10 → g.low / 2 % 8 ≡ 0
  pub tags : IsOf g 11 → (s : Sent) → FitsBits s → bits_in g ≡ field_bits s → IsPlain s

-- the group has the station's PI, TP and programme type
pub record HasHead (h : Head) (g : Group) : Type 0 where
  pub pi : g.pi ≡ h.pi
  pub tp : g.tp ≡ h.tp
  pub pty : g.pty ≡ h.pty

-- the group is written for the message: it spells the message, is canonical and has this head
pub record IsWritten (m : Message) (h : Head) (g : Group) : Type 0 where
  pub spelled : Spells m g
  pub canonical : IsCanonical g
  pub head : HasHead h g
