use Rattle.std.proofs.Common.{arith, sym}
use Rattle.rds_wasm.proofs.rdsrt_run.Goals as goal

pub returns : goal.returns
returns c =
    let did = c.answer-status.ensures in
    record {
      printed = c.answer-status.new.writer.inner.items;
      begun = rw c.bytes_of.ensures at c.copy_front.ensures;
      prints = λ text. rw (c.empty-printed.ensures.empty, c.empty-printed.ensures.unfailed, sym c.failures.ensures)
          at (did.text text);
      no_text = λ none. rw (c.empty-printed.ensures.empty, c.empty-printed.ensures.unfailed, sym c.failures.ensures)
          at (did.no_text none);
      lines = c.answer-status.new.screen.inner.items;
      notes_begun = rw c.bytes_of-2.ensures at c.copy_front-2.ensures;
      unnoted = λ none. grind (arith, c.empty-screen.ensures.empty, (did.unnoted none).bytes);
    }
