use Rattle.std.proofs.Common.{[]}
use Rattle.rds_lines.proofs.Runs.{keeps_none}
use Rattle.rds_lines.proofs.gather_log.gather.Goals as goal

pub loop-told-init : goal.loop-told-init
loop-told-init g c =
    record {
      stands = (
        [],
        c.new-source.ensures.stands _,
        keeps_none c.args.rtplus c.new-slots.result.items
            c.new-slots.ensures.items,
      );
    }
