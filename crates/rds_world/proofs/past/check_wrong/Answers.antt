use Rattle.std.proofs.Common.{arith}
use Rattle.std.proofs.lemmas.Option.{slice_get_read}
use Rattle.rds_world.proofs.Received.{same_reception, breaks_by, fit_past}
use Rattle.rds_world.proofs.past.check_wrong.Goals as goal

pub loop-i-init : goal.loop-i-init
loop-i-init c before have k less = absurd (omega (arith, less))

pub returns-then-not-is_fit : goal.returns-then-not-is_fit
returns-then-not-is_fit c = search (arith, slice_get_read, same_reception, breaks_by)

pub loop-i-preserved : goal.loop-i-preserved
loop-i-preserved c before have k less = grind (arith, slice_get_read, same_reception, c.loop-i.invariant before have k)

pub returns : goal.returns
returns c = record {
  fit = λ before have i.
      grind (arith, fit_past c.args.window c.args.event.now before i, c.loop-i.invariant before have i);
  kind = tt;
}
