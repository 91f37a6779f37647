use Rattle.std.proofs.Common.{arith, rules, subst}
use Rattle.rds_view_lines.specs.Part.{IsShortPart}
use Rattle.rds_view_lines.proofs.change.Part.push.Goals as goal

pub push_quoted-requires-in-Tag-Some : goal.push_quoted-requires-in-Tag-Some
push_quoted-requires-in-Tag-Some g c = (
  search rules,
  (
    (subst IsShortPart c.in-Tag-Some.is c.requires.short) (c.in-Tag-Some.class, c.in-Tag-Some.piece)
        (rw c.in-Tag-Some.is at c.in-Tag-Some.field-0-is),
    omega (arith, c.push_class.ensures.room, c.requires.room),
  ),
)
