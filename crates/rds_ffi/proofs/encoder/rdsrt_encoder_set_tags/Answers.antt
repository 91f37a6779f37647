use Rattle.std.proofs.Common.{◌∷◌, ◌∙◌, ap, subst}
use Rattle.rds_fields.specs.Tag.{PairFields}
use Rattle.rds_encoder.specs.EncoderAt.{EncoderAt}
use Rattle.rds_encoder.specs.Entries.{SetTags}
use Rattle.rds_encoder.specs.Tags.{tags_reply}
use Rattle.rds_ffi.specs.Codes.{reply_of}
use Rattle.rds_ffi.proofs.encoder.rdsrt_encoder_set_tags.Goals as goal

pub returns-clause-reply : goal.returns-clause-reply
returns-clause-reply c given station m entries st =
    c.plain_reply.ensures ∙ ap reply_of (c.set_tags.ensures.reply station m entries st
    ∙ ap (λ (p : PairFields). tags_reply m p entries) c.in-Some.ensures.value)

pub returns-clause-stands : goal.returns-clause-stands
returns-clause-stands c given station m entries st =
    subst (λ (p : PairFields). EncoderAt station m c.set_tags.new.self (SetTags p ∷ entries)) c.in-Some.ensures.value
    (c.set_tags.ensures.stands station m entries st)
