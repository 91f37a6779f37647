use Rattle.std.proofs.Common.{◌≡◌, Some, ap, arith, option_map}
use Rattle.rds_receiver.specs.Borrowed.{view_of}
use Rattle.rds_witness.specs.Borrowed.{thing_of}
use Rattle.rds_witness.specs.Mix.{Thing}
use Rattle.rds_witness.specs.Search.{IsSeenBefore}
use Rattle.rds_witness.specs.SomeLines.{thing_in}
use Rattle.rds_witness.proofs.Mixes.{kinds_below, more_kinds}
use Rattle.rds_witness.proofs.seen.AllSeen.has_all.Goals as goal
use Rattle.rds_witness.proofs.seen.AllSeen.has_all.Goals.{in-Some+else-not-has, in_default}

pub loop-kind-preserved : goal.loop-kind-preserved
loop-kind-preserved c t log all = more_kinds (IsSeenBefore t log c.args.slots)
    (view_of c.view-view.result) c.loop-kind.kind
    (c.loop-kind.invariant t log all) next
  where
    next : (thing : Thing) → thing_in (view_of c.view-view.result) c.loop-kind.kind ≡ Some thing
        → IsSeenBefore t log c.args.slots thing
    next thing is = elim c.match-of_kind.branch [
      | in-Some+else-not-has w ↦ (
          let given = ap (option_map thing_of) w.in-Some.is in
          let same : thing_of w.in-Some.thing ≡ thing = cc c.of_kind.ensures.is in
          rw same at (w.has.ensures w.if-not-has.false t log all))
      | in_default w ↦ (let given = ap (option_map thing_of) w.in_default.is in absurd (cc c.of_kind.ensures.is))
    ]

pub returns : goal.returns
returns c holds t log all checked input stands = record {
  view = view_of c.view-view.result;
  is = c.view-view.ensures t input stands;
  seen = λ thing has. c.loop-kind.invariant t log all thing (omega (arith, kinds_below thing)) has;
}
