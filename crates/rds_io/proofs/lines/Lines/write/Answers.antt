use Rattle.std.proofs.Common.{arith, rules}
use Rattle.std.proofs.lemmas.Result.{err_from_is_err_and}
use Rattle.rds_io.specs.Told.{AppendsPrefix, HasFailed, traffic}
use Rattle.rds_io.proofs.Waiting.{loses, writes}
use Rattle.rds_io.proofs.lines.Lines.write.Goals as goal

pub returns-in_err-put-clause-waits : goal.returns-in_err-put-clause-waits
returns-in_err-put-clause-waits g c start total has =
    let p = err_from_is_err_and c.from_residual.result c.from_residual.ensures.1 in
    let t = traffic g.W.Write.contents g.W.TellingWrite.failures c.args.writer.now c.put.new.writer in
    let part : AppendsPrefix t.before t.after c.args.self.now = search rules in
    let failed : HasFailed t = search rules in
    rw p.1 (loses c.args.self.now total (g.W.Write.contents start) t.before t.after (g.W.TellingWrite.failures start)
    t.failures_before t.failures_after has part failed)

pub returns-clause-waits : goal.returns-clause-waits
returns-clause-waits g c start total has = grind (arith, writes)
