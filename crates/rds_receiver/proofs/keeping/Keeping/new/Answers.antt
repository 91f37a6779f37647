use Rattle.rds_receiver.proofs.keeping.Keeping.new.Goals as goal

pub returns-clause-starts : goal.returns-clause-starts
returns-clause-starts c = record { text = c.new.ensures c.args.keep; name = c.new-2.ensures c.args.keep }
