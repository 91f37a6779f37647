use Rattle.std.proofs.Common.{arith}
use Rattle.rds_world.proofs.FlagStation.{names_are_new, names_are_safe, tags_are_safe, texts_are_new, texts_are_safe}
use Rattle.rds_world.proofs.station_laws.a_station_is_safe_by_the_flag.Goals as goal

pub returns-clause-texts : goal.returns-clause-texts
returns-clause-texts c = search (arith, texts_are_safe)

pub returns-clause-names : goal.returns-clause-names
returns-clause-names c = search (arith, names_are_safe)

pub returns-clause-tags : goal.returns-clause-tags
returns-clause-tags c = search (arith, tags_are_safe)

pub returns-clause-new_texts : goal.returns-clause-new_texts
returns-clause-new_texts c = search (arith, texts_are_new)

pub returns-clause-new_names : goal.returns-clause-new_names
returns-clause-new_names c = search (arith, names_are_new)
