use Rattle.std.proofs.Common.{arith, ◌≡◌, ◌∙◌, refl}
use Rattle.rds_world.specs.WorldAt.{HeardNothing}
use Rattle.rds_world.proofs.Received.{at_first, heard_nothing, one_of_first}
use Rattle.rds_world.proofs.world.World.new.Goals as goal

pub returns-clause-stands : goal.returns-clause-stands
returns-clause-stands c =
    let config = c.args.config in
    let made = c.eight_receivers.result in
    let one = c.new-2.ensures in
    record {
      is_set = refl;
      lasts = c.eight_receivers.ensures.some;
      values = tt;
      due = tt;
      fit = tt;
      pasts = search arith;
      encoder = c.new_encoder.ensures.first;
      receivers = record {
        each = λ i r e. heard_nothing config 0 r
            (one_of_first (HeardNothing config) c.args.receivers made i r c.eight_receivers.ensures.new e);
      };
      reaches = record {
        each = λ i reach e. one_of_first (λ n. n ≡ 1) c.args.receivers _ i reach
            (one, (one, (one, (one, (one, (one, (one, (one, tt)))))))) e ∙ at_first config.late;
      };
      sent = search arith;
      same = λ i is. tt;
    }
