use Rattle.std.proofs.Common.{◌+◌, ◌∙◌, Option, Some, ap, arith, length, sym, option_and_then, option_map}
use Rattle.rds_witness.specs.Spans.{SpanReading, span_ended, read-none}
use Rattle.rds_witness.proofs.SpanSteps.{none_on, read_bad, read_good}
use Rattle.rds_witness.proofs.spans.bursts_of.Goals as goal

pub loop-place-init : goal.loop-place-init
loop-place-init c = read-none c.args.text.now ∙ ap Some (sym c.new-reader.ensures)

pub loop-place-preserved : goal.loop-place-preserved
loop-place-preserved c = search (arith, read_good, c.loop-place.invariant, c.in_ok-byte.ensures, c.if-not-branch.false)

pub returns-then-not-branch : goal.returns-then-not-branch
returns-then-not-branch c =
    let n = c.loop-place.place in
    let text = c.args.text.now in
    let test = c.loop-place-test.true in
    sym (ap (λ (o : Option SpanReading). option_map (λ (r : SpanReading). r.spans) (option_and_then span_ended o))
    (none_on text (n + 1) (length text) (omega (arith, test)) (read_bad text n _ c.byte.new.self c.in_ok-byte.field-0
    c.loop-place.invariant c.in_ok-byte.ensures c.if-not-branch.true)))
