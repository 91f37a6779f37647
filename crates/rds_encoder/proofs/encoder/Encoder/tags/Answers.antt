use Rattle.std.proofs.Common.{◌∙◌}
use Rattle.rds_encoder.proofs.encoder.Encoder.tags.Goals as goal

pub returns : goal.returns
returns c station m entries st = c.pair.ensures.value st.good.pair ∙ st.pair
