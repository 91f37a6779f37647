-- The message in a group, as a function of the group. `Spells` adds the fields of a message up; here each is a quotient
-- or a remainder of the group's words. A group that spells a message has this one (`is_message_in`, OneMessage).
use Rattle.std.specs.Prelude.{◌==◌, ◌/◌, ◌%◌, ◌^◌, ◌∷◌, [], ℕ, Bool, List, if◌then◌else◌}
use Rattle.rds_block.specs.declared.group.Group.{Group}
use Rattle.rds_fields.specs.declared.message.Message.{Message}
use Rattle.rds_fields.specs.declared.message.Message.TheVariants.{Text, Name, Announce, Tags, Other}
use Rattle.rds_fields.specs.Bits.{Sent}
use Rattle.rds_fields.specs.Spells.{bits_in}
use Rattle.rds_fields.specs.Tag.{PairFields, TagFields}

-- the bytes of two words, high byte first
abbrev pub bytes_in : ℕ → ℕ → List ℕ
bytes_in c d = c / 256 % 256 ∷ c % 256 ∷ d / 256 % 256 ∷ d % 256 ∷ []

-- the flag: the highest of the five low bits
abbrev pub flag_in : Group → Bool
flag_in g = g.low / 16 == 1

-- the eight fields of a group of tags
abbrev pub sent_in : ℕ → Sent
sent_in n = record {
  toggle = n / 2 ^ 36 % 2;
  running = n / 2 ^ 35 % 2;
  class_one = n / 2 ^ 29 % 64;
  start_one = n / 2 ^ 23 % 64;
  extra_one = n / 2 ^ 17 % 64;
  class_two = n / 2 ^ 11 % 64;
  start_two = n / 2 ^ 5 % 64;
  extra_two = n % 32;
}

-- class k, start s and length marker e are read as this tag
abbrev pub tag_read : ℕ → ℕ → ℕ → TagFields
tag_read k s e =
    if k == 0 then record { class = 0; start = 0; extra = 0 } else record { class = k; start = s; extra = e }

abbrev pub pair_read : Sent → PairFields
pair_read s = record {
  toggle = s.toggle == 1;
  running = s.running == 1;
  one = tag_read s.class_one s.start_one s.extra_one;
  two = tag_read s.class_two s.start_two s.extra_two;
}

abbrev pub message_in : Group → Message
message_in g =
    if g.version then Other
    else if g.number == 2 then Text (flag_in g) (g.low % 16) (bytes_in g.c g.d)
    else if g.number == 10 then Name (flag_in g) (g.low % 2) (bytes_in g.c g.d)
    else if g.number == 3 then Announce g.low g.c g.d
    else if g.number == 11 then Tags (pair_read (sent_in (bits_in g)))
    else Other
