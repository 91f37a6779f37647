use Rattle.rds_program.proofs.program.write_line.Goals as goal

pub returns : goal.returns
returns g c = (c.put.result, c.put.ensures)
