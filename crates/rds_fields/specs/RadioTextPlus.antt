-- The announcement of RadioText Plus: the code of group type 11A, which carries its tags (IEC 62106, group 3A), and its
-- application identification (IEC 62106-6).
use Rattle.std.specs.Prelude.{ℕ}
use Rattle.rds_fields.specs.declared.message.Message.{Message}
use Rattle.rds_fields.specs.declared.message.Message.TheVariants.{Announce}

abbrev pub rtplus_code : ℕ
rtplus_code = 22

abbrev pub rtplus_aid : ℕ
rtplus_aid = 0x4BD7

-- the announcement that RadioText Plus uses groups 11A; its own bits are 0 (this project's own rule)
abbrev pub announcement : Message
announcement = Announce rtplus_code 0 rtplus_aid
