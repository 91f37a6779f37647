use Rattle.std.proofs.Common.{◌≡◌, arith}
use Rattle.rds_receiver.specs.Borrowed.{view_of}
use Rattle.rds_witness.proofs.Mixes.{after_kinds, before_kinds}
use Rattle.rds_witness.proofs.firsts.Firsts.note.Goals as goal

pub loop-kind-init : goal.loop-kind-init
loop-kind-init c t log is all thing = before_kinds t log c.args.slot (view_of c.args.view) is thing _ (all thing)

pub loop-kind-preserved : goal.loop-kind-preserved
loop-kind-preserved c t log is all = c.in_ok-note_kind.ensures t log is (c.loop-kind.invariant t log is all)

pub returns : goal.returns
returns c t log is all =
    let four : c.loop-kind.kind ≡ 4 = omega (arith, c.loop-kind.auto.kind-end, c.loop-kind-test.false) in
    after_kinds t log c.args.slot (view_of c.args.view) is c.loop-kind.self
    (rw four at (c.loop-kind.invariant t log is all))
