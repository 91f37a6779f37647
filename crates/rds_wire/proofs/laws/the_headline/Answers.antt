use Rattle.rds_wire.proofs.Headline.{headline}
use Rattle.rds_wire.proofs.laws.the_headline.Goals as goal

pub returns : goal.returns
returns c = headline c.what_is_encoded_is_safe_on_the_wire.ensures
