use Rattle.rds_receiver.specs.OneView.{hears_spelled}
use Rattle.rds_world.proofs.receivers.blocks_of.Goals as goal

pub returns-in-Some : goal.returns-in-Some
returns-in-Some c =
    let written = c.in-Some.ensures.written in
    rw c.blocks-in-Some.ensures (hears_spelled c.args.head.pi c.in-Some.group c.args.message written.head.pi
    written.spelled)
