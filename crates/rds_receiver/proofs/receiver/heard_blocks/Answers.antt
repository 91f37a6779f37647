use Rattle.std.proofs.Common.{◌∙◌, sym}
use Rattle.rds_receiver.specs.OneView.{hears_spelled}
use Rattle.rds_receiver.proofs.receiver.heard_blocks.Goals as goal

pub returns-in-Some : goal.returns-in-Some
returns-in-Some c = rw c.in-Some.is (hears_spelled c.args.pi c.in-Some.group c.of_blocks.result
    (sym c.pi.ensures ∙ c.if-pi.true) c.of_blocks.ensures.spelled)
