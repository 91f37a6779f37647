use Rattle.std.proofs.Common.{subst}
use Rattle.rds_world.specs.WorldAt.{AllHaveHeard, all_received}
use Rattle.rds_world.proofs.Received.{front_is}
use Rattle.rds_world.proofs.receivers.hand_out_first.Goals as goal

pub returns-clause-heard : goal.returns-clause-heard
returns-clause-heard c slot sent inputs last kept due all =
    subst (AllHaveHeard c.args.config.now (all_received c.args.receptions.now slot sent inputs))
    (front_is c.hand_out.new.receivers c.args.receivers.now c.args.count c.hand_out.ensures.count c.requires.few
    c.requires.eight)
    (c.hand_out.ensures.heard slot sent inputs last kept due all)
