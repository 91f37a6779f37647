use Rattle.std.proofs.Common.{◌∙◌, ap, arith, sym, option_map}
use Rattle.rds_receiver.specs.Receipts.{tuned}
use Rattle.rds_receiver.specs.Borrowed.{view_of}
use Rattle.rds_witness.specs.Borrowed.{thing_of}
use Rattle.rds_witness.proofs.Mixes.{adds_nothing}
use Rattle.rds_witness.proofs.mix_lines.push_mixes_of.Goals as goal
use Rattle.rds_witness.proofs.mix_lines.push_mixes_of.Goals.{in-Some, in_default}

pub loop-kind-init : goal.loop-kind-init
loop-kind-init c = grind (arith)

pub loop-kind-preserved : goal.loop-kind-preserved
loop-kind-preserved c = elim c.match-of_kind.branch [
  | in-Some w ↦ record {
    mixes = rw (w.lines-is, ← w.in-Some.ensures.kind) (w.push_if_mix.ensures.mixes
        (rw (← w.in-Some.ensures.kind) at c.loop-kind.invariant.mixes));
    room = rw w.lines-is (omega (arith, w.push_if_mix.ensures.room, c.loop-kind.invariant.room));
  }
  | in_default w ↦
      let candidate = c.args.candidate.now in
      record {
        mixes = rw w.lines-is
            (adds_nothing (tuned candidate.pi candidate.dwell) candidate.ahead candidate.log.now candidate.lost.now
            candidate.words.now candidate.slot (view_of c.args.before) (view_of c.args.after) c.requires.around
            c.loop-kind.kind c.loop-kind.lines (sym c.of_kind.ensures.is ∙ ap (option_map thing_of) w.in_default.is)
            c.loop-kind.invariant.mixes);
        room = rw w.lines-is (omega (arith, c.loop-kind.invariant.room));
      }
]

pub returns : goal.returns
returns c = grind (arith)
