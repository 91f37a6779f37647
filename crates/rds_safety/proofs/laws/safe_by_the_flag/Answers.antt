use Rattle.rds_safety.proofs.FlagSafety.{held_by_flag, names_by_flag, names_new, names_with_a_dwell, near_sources}
use Rattle.rds_safety.proofs.FlagSafety.{tags_of_text, texts_by_flag, texts_new, texts_with_a_dwell}
use Rattle.rds_safety.proofs.laws.safe_by_the_flag.Goals as goal

pub returns-clause-texts : goal.returns-clause-texts
returns-clause-texts c = texts_by_flag c.plan_laws.ensures c.numbers_name_broadcasts.ensures.each

pub returns-clause-names : goal.returns-clause-names
returns-clause-names c = names_by_flag c.plan_laws.ensures c.numbers_name_broadcasts.ensures.each

pub returns-clause-held : goal.returns-clause-held
returns-clause-held c = held_by_flag c.plan_laws.ensures c.numbers_name_broadcasts.ensures.each

pub returns-clause-tags : goal.returns-clause-tags
returns-clause-tags c = tags_of_text c.plan_laws.ensures c.numbers_name_broadcasts.ensures.each

pub returns-clause-new_texts : goal.returns-clause-new_texts
returns-clause-new_texts c = texts_new c.plan_laws.ensures c.numbers_name_broadcasts.ensures.each

pub returns-clause-new_names : goal.returns-clause-new_names
returns-clause-new_names c = names_new c.plan_laws.ensures c.numbers_name_broadcasts.ensures.each

pub returns-clause-neighbours : goal.returns-clause-neighbours
returns-clause-neighbours c = near_sources

pub returns-clause-texts_with_a_dwell : goal.returns-clause-texts_with_a_dwell
returns-clause-texts_with_a_dwell c = texts_with_a_dwell c.plan_laws.ensures c.numbers_name_broadcasts.ensures.each

pub returns-clause-names_with_a_dwell : goal.returns-clause-names_with_a_dwell
returns-clause-names_with_a_dwell c = names_with_a_dwell c.plan_laws.ensures c.numbers_name_broadcasts.ensures.each
