use Rattle.rds_receiver.specs.Receipts.{tuned}
use Rattle.rds_receiver.specs.Borrowed.{view_of}
use Rattle.rds_witness.specs.Borrowed.{thing_of}
use Rattle.rds_witness.proofs.Mixes.{adds_mix, adds_no_mix}
use Rattle.rds_witness.proofs.mix_lines.push_if_mix.Goals as goal

pub returns-then-is_mix-clause-mixes : goal.returns-then-is_mix-clause-mixes
returns-then-is_mix-clause-mixes c =
    let candidate = c.args.candidate.now in
    let around = c.requires.around in
    adds_mix (tuned candidate.pi candidate.dwell) candidate.ahead candidate.log.now candidate.lost.now
    candidate.words.now candidate.slot (view_of c.args.before) (view_of c.args.after) around (thing_of c.args.thing)
    c.args.lines.now c.push.new.self c.push_shown.new.lines c.push.ensures c.push_shown.ensures.shown c.requires.has
    record {
      inside = around.inside;
      new = record {
        before = view_of c.args.before;
        after = view_of c.args.after;
        was = around.was;
        is = around.is;
        not_shown = c.is_mix.ensures.new c.if-is_mix.true;
        has = c.requires.has;
      };
      never = c.is_mix.ensures.never c.if-is_mix.true;
    }

pub returns-else-is_mix-clause-mixes : goal.returns-else-is_mix-clause-mixes
returns-else-is_mix-clause-mixes c =
    let candidate = c.args.candidate.now in
    adds_no_mix (tuned candidate.pi candidate.dwell) candidate.ahead candidate.log.now candidate.lost.now
    candidate.words.now candidate.slot (view_of c.args.before) (view_of c.args.after) c.requires.around
    (thing_of c.args.thing)
    c.args.lines.now c.requires.has (c.is_mix.ensures.no c.if-is_mix.false)
