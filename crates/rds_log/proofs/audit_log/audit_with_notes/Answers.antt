use Rattle.std.proofs.Common.{arith, Ok, false, true}
use Rattle.std.proofs.lemmas.Result.{err_from_is_err_and}
use Rattle.rds_io.specs.Told.{traffic}
use Rattle.rds_log.proofs.Audited.{before_yes, finds, loses_yes, says_yes, stops}
use Rattle.rds_log.proofs.Decodes.{meaning}
use Rattle.rds_log.proofs.audit_log.audit_with_notes.Goals as goal

pub returns-in_err-ended-clause-audits : goal.returns-in_err-ended-clause-audits
returns-in_err-ended-clause-audits g c =
    let p = err_from_is_err_and c.from_residual.result c.from_residual.ensures.1 in
    rw (p.1, p.2) (stops c.args.auditing c.args.reads _ _ _
    (c.in_err-ended.ensures.runs c.args.auditing c.new-auditor.ensures.audited))

pub returns-then-not-passed-clause-audits : goal.returns-then-not-passed-clause-audits
returns-then-not-passed-clause-audits g c =
    finds c.args.auditing c.run-ended.new.taker _ _
    (λ none. (let passed = c.passed.ensures.1 none in let failed = c.if-not-passed.true in cc))
    (c.in_ok-ended.ensures.runs c.args.auditing c.new-auditor.ensures.audited)

pub returns-then-not-passed-clause-means : goal.returns-then-not-passed-clause-means
returns-then-not-passed-clause-means g c =
    let a = c.args.auditing in
    meaning a c.args.reads _
    (traffic g.W.Write.contents g.W.TellingWrite.failures c.args.writer.now c.run-ended.new.writer) (Ok false)
    (λ slots pass. c.what_an_answer_means.ensures.safe a slots (omega arith) pass)
    (λ t fault slots fail. c.what_an_answer_means.ensures.no_plans a t fault slots (omega arith) fail)
    (finds a c.run-ended.new.taker _ _
    (λ none. (let passed = c.passed.ensures.1 none in let failed = c.if-not-passed.true in cc))
    (c.in_ok-ended.ensures.runs a c.new-auditor.ensures.audited))

pub returns-in_err-write_yes-clause-audits : goal.returns-in_err-write_yes-clause-audits
returns-in_err-write_yes-clause-audits g c =
    let a = c.args.auditing in
    let l = c.run-ended.new.taker in
    let none = c.passed.ensures.0 c.if-not-passed.false in
    let ended = c.in_ok-ended.ensures.runs a c.new-auditor.ensures.audited in
    let p = err_from_is_err_and c.from_residual-in_err-write_yes.result c.from_residual-in_err-write_yes.ensures.1 in
    rw (p.1, p.2) (loses_yes a c.args.reads l _
    (traffic g.W.Write.contents g.W.TellingWrite.failures c.args.writer.now c.run-ended.new.writer) _ none ended
    (c.in_err-write_yes.ensures c.args.writer.now (before_yes a l _ _ none ended)))

pub returns-clause-audits : goal.returns-clause-audits
returns-clause-audits g c =
    let a = c.args.auditing in
    let l = c.run-ended.new.taker in
    let none = c.passed.ensures.0 c.if-not-passed.false in
    let ended = c.in_ok-ended.ensures.runs a c.new-auditor.ensures.audited in
    says_yes a l _ (traffic g.W.Write.contents g.W.TellingWrite.failures c.args.writer.now c.run-ended.new.writer) _
    none
    ended (c.in_ok-write_yes.ensures c.args.writer.now (before_yes a l _ _ none ended))

pub returns-clause-means : goal.returns-clause-means
returns-clause-means g c =
    let a = c.args.auditing in
    let l = c.run-ended.new.taker in
    let none = c.passed.ensures.0 c.if-not-passed.false in
    let ended = c.in_ok-ended.ensures.runs a c.new-auditor.ensures.audited in
    meaning a c.args.reads _
    (traffic g.W.Write.contents g.W.TellingWrite.failures c.args.writer.now c.write_yes.new.writer) (Ok true)
    (λ slots pass. c.what_an_answer_means.ensures.safe a slots (omega arith) pass)
    (λ t fault slots fail. c.what_an_answer_means.ensures.no_plans a t fault slots (omega arith) fail)
    (says_yes a l _ (traffic g.W.Write.contents g.W.TellingWrite.failures c.args.writer.now c.run-ended.new.writer) _
    none ended (c.in_ok-write_yes.ensures c.args.writer.now (before_yes a l _ _ none ended)))
