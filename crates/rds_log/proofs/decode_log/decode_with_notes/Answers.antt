use Rattle.rds_log.proofs.Decodes.{decoded}
use Rattle.rds_log.proofs.decode_log.decode_with_notes.Goals as goal

pub returns-clause-decodes : goal.returns-clause-decodes
returns-clause-decodes g c =
    decoded c.args.decoding c.run-result.new.taker.views _ c.args.reads _ _ c.run-result.result
    (c.run-result.ensures.runs c.args.decoding c.new-decoder.ensures.decoded)
