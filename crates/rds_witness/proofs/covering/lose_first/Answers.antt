use Rattle.rds_witness.proofs.covering.lose_first.Goals as goal

pub returns-clause-stands : goal.returns-clause-stands
returns-clause-stands c t input st = c.slot_blocks.ensures.stands t input st
