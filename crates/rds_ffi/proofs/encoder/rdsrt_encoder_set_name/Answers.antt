use Rattle.std.proofs.Common.{◌∷◌, ◌∙◌, ap, subst, ℕ, List}
use Rattle.rds_encoder.specs.EncoderAt.{EncoderAt}
use Rattle.rds_encoder.specs.Entries.{SetName}
use Rattle.rds_ffi.specs.Codes.{reply_of}
use Rattle.rds_ffi.proofs.encoder.rdsrt_encoder_set_name.Goals as goal

pub returns-clause-reply : goal.returns-clause-reply
returns-clause-reply c given station m entries st =
    c.plain_reply.ensures ∙ ap reply_of (c.set_name.ensures.reply station m entries st)

pub returns-clause-stands : goal.returns-clause-stands
returns-clause-stands c given station m entries st =
    subst (λ (x : List ℕ). EncoderAt station m c.set_name.new.self (SetName x ∷ entries)) c.in-Ok.ensures.value
    (c.set_name.ensures.stands station m entries st)
