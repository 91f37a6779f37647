use Rattle.std.proofs.Common.{◌∙◌, ◌++◌, rules}
use Rattle.std.specs.Slice.Iter.{chunks_rest}
use Rattle.rds_charset.proofs.PrintedText.{Appends-printed, AppendsPrefix-printed, append-chunk, pushed-printed}
use Rattle.rds_io.specs.Puts.{Puts-failed}
use Rattle.rds_charset.proofs.printing.write_text.Goals as goal

pub loop-chunk-preserved : goal.loop-chunk-preserved
loop-chunk-preserved g c =
    let before = c.loop-chunk.invariant.appended in
    let line = pushed-printed c.push_text.new.line c.new-line.result c.in-Some.chunk.now c.push_text.ensures.printed
    c.new-line.ensures in
    let left = append-chunk c.args.bytes.now before.0 (chunks_rest c.loop-chunk.chunk-iterator) c.in-Some.chunk.now
    (chunks_rest c.next.new.self) before.1 c.in-Some.ensures.steps.1.0 in
    record {
      size = c.in-Some.ensures.steps.0 ∙ c.loop-chunk.invariant.size;
      appended = (
        before.0 ++ c.in-Some.chunk.now,
        left,
        Appends-printed _ _ _ before.0 c.in-Some.chunk.now
            c.push_text.new.line line before.2 c.in_ok-write.ensures.puts.0,
      );
      unfailed = c.in_ok-write.ensures.puts.1 ∙ c.loop-chunk.invariant.unfailed;
    }

pub returns-in_err-write : goal.returns-in_err-write
returns-in_err-write g c =
    let before = c.loop-chunk.invariant.appended in
    let line = pushed-printed c.push_text.new.line c.new-line.result c.in-Some.chunk.now c.push_text.ensures.printed
    c.new-line.ensures in
    let left = append-chunk c.args.bytes.now before.0 (chunks_rest c.loop-chunk.chunk-iterator) c.in-Some.chunk.now
    (chunks_rest c.next.new.self) before.1 c.in-Some.ensures.steps.1.0 in
    let part = AppendsPrefix-printed _ _ _ c.args.bytes.now before.0 c.in-Some.chunk.now (chunks_rest c.next.new.self)
    c.push_text.new.line left line before.2 c.in_err-write.ensures.puts.0 in
    Puts-failed _ _ _ (search rules) part (rw c.loop-chunk.invariant.unfailed at c.in_err-write.ensures.puts.1)
