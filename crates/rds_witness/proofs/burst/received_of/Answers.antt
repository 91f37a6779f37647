use Rattle.std.proofs.Common.{◌≡◌, arith, length}
use Rattle.std.proofs.Math.Seq.{take-length}
use Rattle.std.proofs.lemmas.List.{with_items_is}
use Rattle.rds_witness.proofs.Rulings.{burst_more}
use Rattle.rds_witness.proofs.burst.received_of.Goals as goal

pub loop-place-init : goal.loop-place-init
loop-place-init c = grind (arith)

pub loop-place-preserved : goal.loop-place-preserved
loop-place-preserved c = grind (arith, with_items_is, burst_more)

pub returns : goal.returns
returns c =
    let lost = c.args.lost.now in
    let all : c.loop-place.place ≡ length lost = grind arith in
    rw (all, take-length lost) at c.loop-place.invariant
