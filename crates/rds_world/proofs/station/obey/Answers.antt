use Rattle.std.proofs.Common.{arith}
use Rattle.rds_world.proofs.station.obey.Goals as goal

pub returns-in-SetText-clause-stands : goal.returns-in-SetText-clause-stands
returns-in-SetText-clause-stands c entries st =
    let took = c.set_text.ensures.stands _ _ entries st in
    search arith

pub returns-in-SetName-clause-stands : goal.returns-in-SetName-clause-stands
returns-in-SetName-clause-stands c entries st =
    let took = c.set_name.ensures.stands _ _ entries st in
    search arith

pub returns-in-SetTags-clause-stands : goal.returns-in-SetTags-clause-stands
returns-in-SetTags-clause-stands c entries st =
    let took = c.set_tags.ensures.stands _ _ entries st in
    search arith
