use Rattle.rds_audit.proofs.LengthSets.{text_those}
use Rattle.rds_audit.proofs.audited.TextsAudited.lengths_with.Goals as goal

pub returns : goal.returns
returns c = rw (
  c.if_so-text.ensures,
  c.if_so-end.ensures,
  c.if_so-rest.ensures,
  c.is_text_byte.ensures,
  c.from.ensures,
  c.from-2.ensures,
  c.from-3.ensures,
  c.below.ensures,
  c.below-2.ensures,
)
    (text_those c.args.place c.args.byte)
