use Rattle.std.proofs.Common.{◌∙◌}
use Rattle.rds_ffi.proofs.encoder.rdsrt_encoder_on_air.Goals as goal

pub returns-clause-text : goal.returns-clause-text
returns-clause-text c station m entries s = c.plain_text.ensures.same ∙ c.text.ensures.on_air station m entries s

pub returns-clause-name : goal.returns-clause-name
returns-clause-name c station m entries s = c.plain_name.ensures.same ∙ c.name.ensures.on_air station m entries s
