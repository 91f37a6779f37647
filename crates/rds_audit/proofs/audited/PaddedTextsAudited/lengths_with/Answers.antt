use Rattle.rds_audit.proofs.LengthSets.{padded_those}
use Rattle.rds_audit.proofs.audited.PaddedTextsAudited.lengths_with.Goals as goal

pub returns : goal.returns
returns c = rw (
  c.if_so-text.ensures,
  c.if_so-end.ensures,
  c.is_text_byte.ensures,
  c.from.ensures,
  c.from-2.ensures,
  c.below.ensures,
  c.below-2.ensures,
)
    (padded_those c.args.place c.args.byte)
