use Rattle.rds_program.proofs.status.write_no_memory.Goals as goal

pub returns : goal.returns
returns g c = (c.put.result, c.put.ensures)
